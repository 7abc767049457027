-- The messages of a prefix of a stream are the first messages of the stream.
use Rattle.std.proofs.Common.{◌≡◌, ℕ, ◌+◌, ◌-◌, ◌<◌, ◌≤◌, List, [], ◌∷◌, length, take, drop, refl, sym, ap, ◌∙◌, subst, arith, inl, inr, length-take, length-drop}
use Rattle.std.proofs.lemmas.List.{drop-take}
use Rattle.std.proofs.lemmas.Bool.{cases_lt, le-ltb, lt-ltb}
use Rattle.arrow_types.specs.Limits.{LimitNumbers}
use Rattle.arrow_stream_reader.specs.declared.kind.Rejection.{Rejection}
use Rattle.arrow_stream_reader.specs.declared.reader.Verdict.TheVariants.{Open, Done, Bad}
use Rattle.arrow_stream_reader.specs.Frame.{First, waits, short_prefix}
use Rattle.arrow_stream_reader.specs.Front.{Entry, Snapshot, Front, FrontOf, rests, fails, closes, goes_on}
use Rattle.arrow_stream_reader.specs.State.{StreamState, ended}
use Rattle.arrow_stream_reader.proofs.Firsts.{First-short, First-take, First-within, marker-take, marker-within}
use Rattle.arrow_stream_reader.proofs.Fronts.{at_bytes, front_place}
use Rattle.arrow_stream_laws.specs.Frames.{ending_by, last_end}
use Rattle.arrow_stream_laws.specs.Laws.{BeginsBy}

-- what the first n bytes are, from this state and offset on
pub record Begins (l : LimitNumbers) (s : StreamState) (p : ℕ) (b : List ℕ) (es : List Entry) (n : ℕ) : Type 0 where
  pub snapshot : Snapshot
  pub front : Front l s p (take n b) (ending_by (p + n) es) snapshot
  pub never_bad : (k : Rejection) → snapshot.verdict ≡ Bad k → ⊥
  pub place : snapshot.place ≡ last_end p (ending_by (p + n) es)

ending-step : (n : ℕ) (e : Entry) (es : List Entry) → e.end ≤ n → ending_by n (e ∷ es) ≡ e ∷ ending_by n es
ending-step n e es h = rw (le-ltb n e.end h)

ending-stop : (n : ℕ) (e : Entry) (es : List Entry) → n < e.end → ending_by n (e ∷ es) ≡ []
ending-stop n e es h = rw (lt-ltb n e.end h)

-- bytes that wait for more, if no entry ends in them
waiting : (l : LimitNumbers) (s : StreamState) (p : ℕ) (b : List ℕ) (es : List Entry) (n : ℕ) → First l s p (take n b) waits → ending_by (p + n) es ≡ [] → Begins l s p b es n
waiting l s p b es n w e =
    let st : Snapshot = record { state = s; place = p; rest = take n b; verdict = Open } in
    record {
      snapshot = st;
      front = subst (λ xs. Front l s p (take n b) xs st) (sym e) (rests w);
      never_bad = λ k q. absurd (cc);
      place = ap (last_end p) (sym e);
    }

few : (l : LimitNumbers) (s : StreamState) (p : ℕ) (b : List ℕ) (n : ℕ) → n < 8 → First l s p (take n b) waits
few l s p b n h = let len : length (take n b) ≤ n = simp length-take (omega arith) in short_prefix (omega arith)

pub front_begins : {l : LimitNumbers} {s : StreamState} {p : ℕ} {b : List ℕ} {es : List Entry} {e : Snapshot} (n : ℕ) → Front l s p b es e → p + n ≤ e.place → Begins l s p b es n
front_begins {l} {s} {p} {b} n (rests x) h = waiting l s p b [] n (few l s p b n (omega arith)) refl
front_begins {l} {s} {p} {b} n (fails x) h = waiting l s p b [] n (few l s p b n (omega arith)) refl
front_begins {l} {s} {p} {b} n (closes x) h =
    let one : Entry = record { given = ended; end = p + 8 } in
    elim (cases_lt n 8) [
      | inl k ↦ waiting l s p b (one ∷ []) n (few l s p b n k) (ending-stop (p + n) one [] (omega arith))
      | inr k ↦
          let all = marker-within x in
          let len : length (take n b) ≤ n = simp length-take (omega arith) in
          let m = marker-take n k (omega arith) x in
          let st : Snapshot = record { state = s; place = p + 8; rest = drop 8 (take n b); verdict = Done } in
          let e = ending-step (p + n) one [] (omega arith) in
          record {
            snapshot = st;
            front = subst (λ xs. Front l s p (take n b) xs st) (sym e) (closes m);
            never_bad = λ k q. absurd (cc);
            place = ap (last_end p) (sym e);
          }
    ]
front_begins {l} {s} {p} {b} n (goes_on {n = m} {s' = s'} {g = g} {es = es} x xs) h =
    let one : Entry = record { given = g; end = p + m } in
    elim (cases_lt n m) [
      | inl k ↦ waiting l s p b (one ∷ es) n (First-short n k x) (ending-stop (p + n) one es (omega arith))
      | inr k ↦
          let i = n - m in
          let whole_place = front_place xs in
          let within = First-within x in
          let len : length (drop m b) + m ≡ length b = simp length-drop (omega arith) in
          let r = front_begins i xs (omega arith) in
          let f = First-take n k (omega arith) x in
          let rest : take i (drop m b) ≡ drop m (take n b) = sym (drop-take m i b) ∙ ap (λ j. drop m (take j b)) (let q : m + i ≡ n = omega arith in q) in
          let same : p + m + i ≡ p + n = omega arith in
          let e = ap (λ ys. one ∷ ys) (ap (λ j. ending_by j es) same) ∙ sym (ending-step (p + n) one es (omega arith)) in
          record {
            snapshot = r.snapshot;
            front = subst (λ ys. Front l s p (take n b) ys r.snapshot) e (goes_on f (at_bytes rest r.front));
            never_bad = r.never_bad;
            place = r.place ∙ ap (last_end p) e;
          }
    ]

-- from the beginning of a stream
pub stream_begins : {l : LimitNumbers} {b : List ℕ} {es : List Entry} {e : Snapshot} (n : ℕ) → FrontOf l b es e → n ≤ e.place → BeginsBy l b es n
stream_begins {l} {b} {es} n f h =
    let x = front_begins n f (omega arith) in
    let none : 0 + n ≡ n = omega arith in
    record {
      snapshot = x.snapshot;
      front = subst (λ j. FrontOf l (take n b) (ending_by j es) x.snapshot) none x.front;
      never_bad = x.never_bad;
      place = x.place ∙ ap (λ j. last_end 0 (ending_by j es)) none;
    }
