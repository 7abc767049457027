-- A chain of frames, and its prefixes.
use Rattle.std.proofs.Common.{zero, suc, ◌≡◌, ℕ, ◌+◌, ◌-◌, ◌<◌, ◌≤◌, List, [], ◌∷◌, ◌++◌, length, map, take, drop, refl, sym, ap, ◌∙◌, subst, arith, inl, inr, length-append, append_assoc, add-zero}
use Rattle.std.proofs.lemmas.List.{take-append-le}
use Rattle.std.proofs.Math.Seq.{take-append-add, drop-append-add, drop-append_seam}
use Rattle.std.proofs.lemmas.Bool.{cases_lt, le-ltb, lt-ltb}
use Rattle.arrow_types.specs.Limits.{LimitNumbers}
use Rattle.arrow_stream_reader.specs.declared.reader.Verdict.TheVariants.{Open}
use Rattle.arrow_stream_reader.specs.State.{StreamState}
use Rattle.arrow_stream_reader.specs.Frame.{waits, whole, First, short_prefix}
use Rattle.arrow_stream_reader.specs.Tables.{table_in}
use Rattle.arrow_stream_laws.specs.Rows.{Rows, rows_of}
use Rattle.arrow_stream_reader.specs.Front.{Entry, Snapshot, Front, rests, goes_on}
use Rattle.arrow_stream_reader.proofs.Firsts.{First-append, First-short}
use Rattle.arrow_stream_reader.proofs.Fronts.{at_bytes}
use Rattle.arrow_stream_laws.specs.Frames.{Frame, frames_bytes, left_by, lying}

-- the rows of the batches that they give
abbrev pub rows_in : List Frame → List Rows
rows_in [] = []
rows_in (f ∷ fs) = map rows_of (table_in f.gives) ++ rows_in fs

-- what a reader reports of the frames, if they begin at this offset: what each gives, and where it ends
abbrev pub entries_from : ℕ → List Frame → List Entry
entries_from p [] = []
entries_from p (f ∷ fs) = record { given = f.gives; end = p + length f.bytes } ∷ entries_from (p + length f.bytes) fs

-- from this state and offset on, each frame is one complete message to a reader
abbrev pub Chain : LimitNumbers → StreamState → ℕ → List Frame → Type 0
Chain limits s p [] = Unit {0}
Chain limits s p (f ∷ fs) = First limits s p f.bytes (whole (length f.bytes) f.leaves f.gives) × Chain limits f.leaves (p + length f.bytes) fs

pub frames_bytes-append : (xs ys : List Frame) → frames_bytes (xs ++ ys) ≡ frames_bytes xs ++ frames_bytes ys
frames_bytes-append [] ys = refl
frames_bytes-append (x ∷ xs) ys = ap (λ r. x.bytes ++ r) (frames_bytes-append xs ys) ∙ sym (append_assoc x.bytes (frames_bytes xs) (frames_bytes ys))

pub left_by-append : (s : StreamState) (xs ys : List Frame) → left_by s (xs ++ ys) ≡ left_by (left_by s xs) ys
left_by-append s [] ys = refl
left_by-append s (x ∷ xs) ys = left_by-append x.leaves xs ys

pub Chain-append : (l : LimitNumbers) (s : StreamState) (p : ℕ) (xs ys : List Frame) → Chain l s p xs → Chain l (left_by s xs) (p + length (frames_bytes xs)) ys → Chain l s p (xs ++ ys)
Chain-append l s p [] ys c d = subst (λ n. Chain l s n ys) (add-zero p) d
Chain-append l s p (x ∷ xs) ys c d =
    let q : p + length (x.bytes ++ frames_bytes xs) ≡ p + length x.bytes + length (frames_bytes xs) = omega (arith, length-append x.bytes (frames_bytes xs)) in
    (c.0, Chain-append l x.leaves (p + length x.bytes) xs ys c.1 (subst (λ n. Chain l (left_by x.leaves xs) n ys) q d))

-- the complete messages of a chain are followed by those of the bytes after it
pub chain_then : (l : LimitNumbers) (s : StreamState) (p : ℕ) (fs : List Frame) (c : List ℕ) {es : List Entry} {e : Snapshot} → Chain l s p fs → Front l (left_by s fs) (p + length (frames_bytes fs)) c es e → Front l s p (frames_bytes fs ++ c) (entries_from p fs ++ es) e
chain_then l s p [] c {es} {e} x y = subst (λ n. Front l s n c es e) (add-zero p) y
chain_then l s p (f ∷ fs) c {es} {e} x y =
    let q : p + length (f.bytes ++ frames_bytes fs) ≡ p + length f.bytes + length (frames_bytes fs) = omega (arith, length-append f.bytes (frames_bytes fs)) in
    let i = chain_then l f.leaves (p + length f.bytes) fs c x.1 (subst (λ n. Front l (left_by f.leaves fs) n c es e) q y) in
    at_bytes (sym (append_assoc f.bytes (frames_bytes fs) c))
    (goes_on (First-append (frames_bytes fs ++ c) (λ w. cc) x.0) (at_bytes (sym (drop-append_seam f.bytes (frames_bytes fs ++ c))) i))

abbrev none : List ℕ
none = []

take_nil : (n : ℕ) → take n none ≡ none
take_nil zero = refl
take_nil (suc n) = refl

-- the frames that lie in a prefix
pub lying-step : (n : ℕ) (f : Frame) (fs : List Frame) → length f.bytes ≤ n → lying n (f ∷ fs) ≡ f ∷ lying (n - length f.bytes) fs
lying-step n f fs h = rw (le-ltb n (length f.bytes) h)

pub lying-stop : (n : ℕ) (f : Frame) (fs : List Frame) → n < length f.bytes → lying n (f ∷ fs) ≡ []
lying-stop n f fs h = rw (lt-ltb n (length f.bytes) h)

pub take_seam : (n : ℕ) (a b : List ℕ) → length a ≤ n → take n (a ++ b) ≡ a ++ take (n - length a) b
take_seam n a b h =
    let e : n ≡ length a + (n - length a) = omega arith in
    ap (λ k. take k (a ++ b)) e ∙ take-append-add a b (n - length a)

-- what is read of the first n bytes, if these frames lie in them
abbrev pub ReadAs : LimitNumbers → StreamState → ℕ → List Frame → ℕ → List Frame → Type 0
ReadAs l s p fs n xs = Front l s p (take n (frames_bytes fs)) (entries_from p xs) (record { state = left_by s xs; place = p + length (frames_bytes xs); rest = drop (length (frames_bytes xs)) (take n (frames_bytes fs)); verdict = Open })

-- a prefix of a chain's bytes is read as the frames that lie in it
pub chain_begins : (l : LimitNumbers) (s : StreamState) (p : ℕ) (fs : List Frame) (n : ℕ) → Chain l s p fs → ReadAs l s p fs n (lying n fs)
chain_begins l s p [] n c =
    let e : take n [] ≡ [] = take_nil n in
    let f : First l s p (take n []) waits = short_prefix (omega (arith, ap length e)) in
    subst (λ q. Front l s p (take n []) [] (record { state = s; place = q; rest = take n []; verdict = Open })) (sym (add-zero p)) (rests f)
chain_begins l s p (f ∷ fs) n c =
    elim (cases_lt n (length f.bytes)) [
      | inl h ↦
          let e : take n (f.bytes ++ frames_bytes fs) ≡ take n f.bytes = take-append-le n f.bytes (frames_bytes fs) (omega arith) in
          let w : First l s p (take n (f.bytes ++ frames_bytes fs)) waits = subst (λ b. First l s p b waits) (sym e) (First-short n h c.0) in
          subst (λ xs. ReadAs l s p (f ∷ fs) n xs) (sym (lying-stop n f fs h))
          (subst (λ q. Front l s p (take n (f.bytes ++ frames_bytes fs)) [] (record { state = s; place = q; rest = take n (f.bytes ++ frames_bytes fs); verdict = Open })) (sym (add-zero p)) (rests w))
      | inr h ↦
          let m = n - length f.bytes in
          let xs = lying m fs in
          let b = take m (frames_bytes fs) in
          let i = chain_begins l f.leaves (p + length f.bytes) fs m c.1 in
          let o = goes_on (First-append b (λ w. cc) c.0) (at_bytes (sym (drop-append_seam f.bytes b)) i) in
          let len : length (f.bytes ++ frames_bytes xs) ≡ length f.bytes + length (frames_bytes xs) = length-append f.bytes (frames_bytes xs) in
          let place : p + length f.bytes + length (frames_bytes xs) ≡ p + length (f.bytes ++ frames_bytes xs) = omega arith in
          let rest : drop (length (frames_bytes xs)) b ≡ drop (length (f.bytes ++ frames_bytes xs)) (f.bytes ++ b) = sym (drop-append-add f.bytes b (length (frames_bytes xs))) ∙ ap (λ k. drop k (f.bytes ++ b)) (sym len) in
          let es = record { given = f.gives; end = p + length f.bytes } ∷ entries_from (p + length f.bytes) xs in
          let o1 = subst (λ q. Front l s p (f.bytes ++ b) es (record { state = left_by f.leaves xs; place = q; rest = drop (length (frames_bytes xs)) b; verdict = Open })) place o in
          let o2 = subst (λ r. Front l s p (f.bytes ++ b) es (record { state = left_by f.leaves xs; place = p + length (f.bytes ++ frames_bytes xs); rest = r; verdict = Open })) rest o1 in
          subst (λ ys. ReadAs l s p (f ∷ fs) n ys) (sym (lying-step n f fs h))
          (subst (λ c. Front l s p c es (record { state = left_by f.leaves xs; place = p + length (f.bytes ++ frames_bytes xs); rest = drop (length (f.bytes ++ frames_bytes xs)) c; verdict = Open })) (sym (take_seam n f.bytes (frames_bytes fs) h)) o2)
    ]
