-- How a step of the decoder advances a reader in its stream.
use Rattle.std.proofs.Common.{◌≡◌, ℕ, ◌+◌, ◌-◌, ◌<◌, ◌≤◌, List, [], ◌∷◌, ◌++◌, length, take, drop, refl, sym, ap, ◌∙◌, subst, arith, length-append, length-take, inl, inr}
use Rattle.std.proofs.Math.Seq.{take-append-add, take-append_seam}
use Rattle.std.proofs.lemmas.Bool.{cases_lt}
use Rattle.std.proofs.Math.ListN.{drop_of_length-le}
use Rattle.std.proofs.lemmas.List.{append-nil, take-append-le}
use Rattle.arrow_types.specs.Limits.{LimitNumbers}
use Rattle.arrow_stream_reader.specs.declared.kind.Rejection.{Rejection}
use Rattle.arrow_stream_reader.specs.declared.item.Item.{Item}
use Rattle.arrow_stream_reader.specs.declared.item.Item.TheVariants.{End}
use Rattle.arrow_stream_reader.specs.declared.reader.Verdict.{Verdict}
use Rattle.arrow_stream_reader.specs.declared.reader.Verdict.TheVariants.{Open, Done, Bad}
use Rattle.arrow_stream_reader.specs.declared.decoder.Decoder.{Decoder}
use Rattle.arrow_stream_reader.specs.declared.decoder.Phase.TheVariants as phases
use Rattle.arrow_stream_reader.specs.State.{StreamState, ended, nothing_yet}
use Rattle.arrow_stream_reader.specs.Frame.{Outcome, First, whole, marker, refused, waits, short_prefix}
use Rattle.arrow_stream_reader.specs.Front.{Entry, Snapshot, FrontOf, rests, fails, closes, goes_on}
use Rattle.arrow_stream_reader.specs.Views.{plain, given}
use Rattle.arrow_stream_reader.specs.Decoder.{Waited, Gave, Marked, FirstAt, verdict_of}
use Rattle.arrow_stream_reader.specs.Stream.{ReaderView, IsReaderAt, fresh}
use Rattle.arrow_stream_reader.proofs.Firsts.{First-take, marker-take, First-within, marker-within, one_first}
use Rattle.arrow_stream_reader.proofs.Decoding.{is_open}
use Rattle.arrow_stream_reader.proofs.Fronts.{front_then, front_ended, front_place, at_bytes}

-- the view of a reader with this decoder and this verdict
abbrev pub shown_by : Decoder → Verdict → ReaderView
shown_by w o = record { limits = w.limits; at = record { state = plain w.state; place = w.place; rest = w.held.items; verdict = o } }

abbrev pub snapshot : StreamState → ℕ → List ℕ → Verdict → Snapshot
snapshot s p r o = record { state = s; place = p; rest = r; verdict = o }

-- the same `Front` with equal limits, state, offset and verdict
moved : {l : LimitNumbers} {b : List ℕ} {es : List Entry} {s : StreamState} {p : ℕ} {r : List ℕ} {o : Verdict} (l' : LimitNumbers) (s' : StreamState) (p' : ℕ) (o' : Verdict) → l' ≡ l → s' ≡ s → p' ≡ p → o' ≡ o → FrontOf l b es (snapshot s p r o) → FrontOf l' b es (snapshot s' p' r o')
moved {l} {b} {es} {s} {p} {r} {o} l' s' p' o' a c d e x =
    subst (λ y. FrontOf y b es (snapshot s' p' r o')) (sym a)
    (subst (λ y. FrontOf l b es (snapshot y p' r o')) (sym c)
    (subst (λ y. FrontOf l b es (snapshot s y r o')) (sym d)
    (subst (λ y. FrontOf l b es (snapshot s p r y)) (sym e) x)))

-- the same outcome if the decoder's limits, state and offset did not change
pub first_moved : {o : Outcome} (w v : Decoder) (b c : List ℕ) → v.limits ≡ w.limits → plain v.state ≡ plain w.state →
    v.place ≡ w.place → c ≡ b → FirstAt w b o → FirstAt v c o
first_moved {o} w v b c l s p e x =
    subst (λ y. First y (plain v.state) v.place c o) (sym l)
    (subst (λ y. First w.limits y v.place c o) (sym s)
    (subst (λ y. First w.limits (plain w.state) y c o) (sym p)
    (subst (λ y. First w.limits (plain w.state) w.place y o) (sym e) x)))

-- if no bytes are held, they are less than a message
pub waits_at_nothing : (w : Decoder) → w.held.items ≡ [] → FirstAt w w.held.items waits
waits_at_nothing w e = short_prefix (let n = ap length e in omega arith)

module _ (w : Decoder) (waiting : FirstAt w w.held.items waits) (piece : List ℕ) where
  -- the bytes of a message of this size: those held and the first of the piece
  own_bytes : (size : ℕ) → length w.held.items ≤ size →
      take size (w.held.items ++ piece) ≡ w.held.items ++ take (size - length w.held.items) piece
  own_bytes size h =
      let e : size ≡ length w.held.items + (size - length w.held.items) = omega arith in
      ap (λ k. take k (w.held.items ++ piece)) e ∙ take-append-add w.held.items piece (size - length w.held.items)

  own_length : (size : ℕ) → length w.held.items ≤ size → size ≤ length (w.held.items ++ piece) →
      length (w.held.items ++ take (size - length w.held.items) piece) ≡ size
  own_length size h k = let n = length-append w.held.items piece in simp (length-append, length-take) (omega arith)

  -- a message that is not complete in the held bytes takes at least one byte of the piece
  takes_some : {A : Outcome} (size : ℕ) → (A ≡ waits → ⊥) →
      FirstAt w (w.held.items ++ take (size - length w.held.items) piece) A → 0 < size - length w.held.items
  takes_some {A} size n x =
      elim (cases_lt 0 (size - length w.held.items)) [
        | inl h ↦ h
        | inr h ↦
            let none : take (size - length w.held.items) piece ≡ [] = ap (λ k. take k piece) (let z : size - length w.held.items ≡ 0 = omega arith in z) in
            let same : w.held.items ++ take (size - length w.held.items) piece ≡ w.held.items = ap (λ y. w.held.items ++ y) none ∙ append-nil w.held.items in
            absurd (n (one_first (subst (λ y. FirstAt w y A) same x) waiting))
      ]

  -- a complete message is the first outcome of only its own bytes
  whole_first : (item : Item) (v : Decoder) (x : Gave w (w.held.items ++ piece) item v) →
      FirstAt w (w.held.items ++ take (x.size - length w.held.items) piece) (whole x.size (plain v.state) (given item))
  whole_first item v x =
      subst (λ y. FirstAt w y (whole x.size (plain v.state) (given item))) (own_bytes x.size x.covers)
      (First-take x.size (omega arith) (First-within x.first) x.first)

  -- a complete message takes at least one byte of the piece
  pub whole_some : (item : Item) (v : Decoder) (x : Gave w (w.held.items ++ piece) item v) →
      0 < x.size - length w.held.items
  whole_some item v x = takes_some x.size (λ q. cc) (whole_first item v x)

  marker_first : (m : Decoder) → Marked w (w.held.items ++ piece) m →
      FirstAt w (w.held.items ++ take (8 - length w.held.items) piece) marker
  marker_first m x =
      subst (λ y. FirstAt w y marker) (own_bytes 8 x.covers)
      (marker-take 8 (omega arith) (marker-within x.first) x.first)

  -- so does an end marker
  pub marker_some : (m : Decoder) → Marked w (w.held.items ++ piece) m → 0 < 8 - length w.held.items
  marker_some m x = takes_some 8 (λ q. cc) (marker_first m x)

  -- no more bytes are taken than the piece has
  pub taken_within : (size : ℕ) → size ≤ length (w.held.items ++ piece) → size - length w.held.items ≤ length piece
  taken_within size k = omega (arith, length-append w.held.items piece)

  module _ (o : Verdict) (open_now : o ≡ Open) (t : List ℕ) (es : List Entry) (at : IsReaderAt (shown_by w o) t es) where
    -- the `Front` at which the reader is, whose remaining bytes are held
    open_front : FrontOf w.limits t es (snapshot (plain w.state) w.place w.held.items Open)
    open_front =
        subst (λ r. FrontOf w.limits t es (snapshot (plain w.state) w.place r Open)) (at.held open_now)
        (subst (λ y. FrontOf w.limits t es (snapshot (plain w.state) w.place at.rest y)) open_now at.front)

    place_at : w.place + length w.held.items ≡ length t
    place_at = front_place open_front ∙ omega arith

    -- with less than a message the reader is after the piece
    pub short_position : (v : Decoder) → Waited w (w.held.items ++ piece) v → IsReaderAt (shown_by v (verdict_of v.phase)) (t ++ piece) es
    short_position v x = record {
      rest = w.held.items ++ piece;
      front =
          let f = front_then piece open_front refl (rests x.first) in
          let g = subst (λ y. FrontOf w.limits (t ++ piece) y (snapshot (plain w.state) w.place (w.held.items ++ piece) Open)) (append-nil es) f in
          moved v.limits (plain v.state) v.place (verdict_of v.phase) x.same.limits x.same.state x.same.place (is_open v x.at) g;
      held = λ _. sym x.held;
    }

    -- with a complete message it is after the message's last byte, and the message is the newest entry
    pub whole_position : (item : Item) (v : Decoder) (x : Gave w (w.held.items ++ piece) item v) →
        IsReaderAt (shown_by v (verdict_of v.phase)) (t ++ take (x.size - length w.held.items) piece) (es ++ record { given = given item; end = length t + (x.size - length w.held.items) } ∷ [])
    whole_position item v x =
        let n = x.size - length w.held.items in
        let b = w.held.items ++ take n piece in
        let first = whole_first item v x in
        let len : length b ≡ x.size = own_length x.size x.covers (First-within x.first) in
        let none : drop x.size b ≡ [] = drop_of_length-le b (omega (arith, len)) in
        let f = front_then (take n piece) open_front refl (goes_on first (at_bytes (sym none) (rests (short_prefix (omega arith))))) in
        let end : w.place + x.size ≡ length t + n = omega (arith, place_at, x.covers) in
        record {
          rest = [];
          front =
              let g = subst (λ y. FrontOf w.limits (t ++ take n piece) (es ++ record { given = given item; end = y } ∷ []) (snapshot (plain v.state) (w.place + x.size) [] Open)) end f in
              moved v.limits (plain v.state) v.place (verdict_of v.phase) x.limits refl x.place (is_open v x.at) g;
          held = λ _. sym x.held;
        }

    -- the same for the end marker
    pub marker_position : (m v : Decoder) → Marked w (w.held.items ++ piece) m → v.limits ≡ m.limits →
        plain v.state ≡ plain m.state → v.place ≡ m.place + 8 → v.phase ≡ phases.Ended →
        IsReaderAt (shown_by v (verdict_of v.phase)) (t ++ take (8 - length w.held.items) piece) (es ++ record { given = given End; end = length t + (8 - length w.held.items) } ∷ [])
    marker_position m v x limits state place phase =
        let n = 8 - length w.held.items in
        let b = w.held.items ++ take n piece in
        let f = front_then (take n piece) open_front refl (closes (marker_first m x)) in
        let end : w.place + 8 ≡ length t + n = omega (arith, place_at, x.covers) in
        record {
          rest = drop 8 b;
          front =
              let g = subst (λ y. FrontOf w.limits (t ++ take n piece) (es ++ record { given = ended; end = y } ∷ []) (snapshot (plain w.state) (w.place + 8) (drop 8 b) Done)) end f in
              moved v.limits (plain v.state) v.place (verdict_of v.phase) (limits ∙ x.same.limits) (state ∙ x.same.state) (place ∙ ap (λ y. y + 8) x.same.place) (ap verdict_of phase) g;
          held = λ q. absurd (let e : Open ≡ Done = sym q ∙ ap verdict_of phase in cc);
        }

    -- after a rejected message it is after the piece
    pub refusal_position : (k : Rejection) (v : Decoder) → FirstAt w (w.held.items ++ piece) (refused k) →
        v.limits ≡ w.limits → plain v.state ≡ plain w.state → v.place ≡ w.place → v.phase ≡ phases.Failed k →
        IsReaderAt (shown_by v (verdict_of v.phase)) (t ++ piece) es
    refusal_position k v x limits state place phase =
        let f = front_then piece open_front refl (fails x) in
        let g = subst (λ y. FrontOf w.limits (t ++ piece) y (snapshot (plain w.state) w.place (w.held.items ++ piece) (Bad k))) (append-nil es) f in
        record {
          rest = w.held.items ++ piece;
          front = moved v.limits (plain v.state) v.place (verdict_of v.phase) limits state place (ap verdict_of phase) g;
          held = λ q. absurd (let e : Open ≡ Bad k = sym q ∙ ap verdict_of phase in cc);
        }

-- if a reader has ended, it is also at its bytes with more bytes after them
pub ended_position : (r : ReaderView) (t : List ℕ) (es : List Entry) (c : List ℕ) → (r.at.verdict ≡ Open → ⊥) →
    IsReaderAt r t es → IsReaderAt r (t ++ c) es
ended_position r t es c n at = record { rest = at.rest ++ c; front = front_ended c n at.front; held = λ q. absurd (n q) }

-- a reader that has received nothing is at the empty list of bytes
pub fresh_position : (l : LimitNumbers) → IsReaderAt (fresh l) [] []
fresh_position l = record { rest = []; front = rests (short_prefix (omega arith)); held = λ _. refl }

-- the view of a reader is determined by its parts
pub same_shows : (w : Decoder) (o : Verdict) (l : LimitNumbers) (s : StreamState) (p : ℕ) (h : List ℕ) (q : Verdict) →
    w.limits ≡ l → plain w.state ≡ s → w.place ≡ p → w.held.items ≡ h → o ≡ q →
    shown_by w o ≡ record { limits = l; at = snapshot s p h q }
same_shows w o l s p h q a b c d e =
    ap (λ y. record { limits = y; at = snapshot (plain w.state) w.place w.held.items o }) a
    ∙ ap (λ y. record { limits = l; at = snapshot y w.place w.held.items o }) b
    ∙ ap (λ y. record { limits = l; at = snapshot s y w.held.items o }) c
    ∙ ap (λ y. record { limits = l; at = snapshot s p y o }) d
    ∙ ap (λ y. record { limits = l; at = snapshot s p h y }) e

-- so is a reader with the same parts
pub anew_position : (l : LimitNumbers) (s : StreamState) (p : ℕ) (h : List ℕ) (o : Verdict) → s ≡ nothing_yet → p ≡ 0 → h ≡ [] → o ≡ Open →
    IsReaderAt (record { limits = l; at = snapshot s p h o }) [] []
anew_position l s p h o a b c d =
    subst (λ y. IsReaderAt (record { limits = l; at = snapshot y p h o }) [] []) (sym a)
    (subst (λ y. IsReaderAt (record { limits = l; at = snapshot nothing_yet y h o }) [] []) (sym b)
    (subst (λ y. IsReaderAt (record { limits = l; at = snapshot nothing_yet 0 y o }) [] []) (sym c)
    (subst (λ y. IsReaderAt (record { limits = l; at = snapshot nothing_yet 0 [] y }) [] []) (sym d) (fresh_position l))))

-- of two beginnings of the same bytes, the first is a beginning of the second if it is not longer
pub beginning : (a p m r : List ℕ) (k : ℕ) → k ≡ length a → a ++ p ≡ m ++ r → length a ≤ length m → take k m ≡ a
beginning a p m r k e q h =
    ap (λ i. take i m) e ∙ sym (take-append-le (length a) m r h) ∙ ap (take (length a)) (sym q) ∙ take-append_seam a p
