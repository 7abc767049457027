-- What the complete messages at the start of a stream say of its first message.
use Rattle.std.proofs.Common.{◌≡◌, ℕ, ◌+◌, ◌^◌, ◌==◌, nat_lt, not, Bool, true, false, cond, List, [], ◌∷◌, Some, refl, sym, ap, subst, ◌∙◌, is_some, take, ◌⊎◌, inl, inr}
use Rattle.arrow_types.specs.Limits.{LimitNumbers}
use Rattle.arrow_types.specs.Notes.{SchemaShape}
use Rattle.arrow_stream_reader.specs.declared.kind.Rejection.{Rejection}
use Rattle.arrow_stream_reader.specs.declared.reader.Verdict.TheVariants.{Open, Done, Bad}
use Rattle.arrow_stream_reader.specs.Frame.{number_at, has_continuation, prefix_says, Outcome, First, whole, marker, refused, waits, short_prefix, short_metadata, short_body, bad_prefix, bad_metadata, bad_body, end_marker, message_comes}
use Rattle.arrow_stream_reader.specs.Front.{Entry, Snapshot, Front, rests, fails, closes, goes_on}
use Rattle.arrow_stream_reader.specs.State.{StreamState, nothing_yet, schema_given}
use Rattle.arrow_stream_reader.proofs.Beginnings.{whole_gives}

-- an open stream without entries waits for its first message
pub open_waits : {l : LimitNumbers} {s : StreamState} {p : ℕ} {b : List ℕ} {es : List Entry} {e : Snapshot} → Front l s p b es e → es ≡ [] → e.verdict ≡ Open → First l s p b waits × (e.state ≡ s) × (e.place ≡ p)
open_waits (rests x) n o = (x, refl, refl)
open_waits (fails x) n o = absurd (cc)
open_waits (closes x) n o = absurd (cc)
open_waits (goes_on x xs) n o = absurd (cc)

-- a rejected stream without entries is rejected at its first message
pub bad_refused : {l : LimitNumbers} {s : StreamState} {p : ℕ} {b : List ℕ} {es : List Entry} {e : Snapshot} → Front l s p b es e → es ≡ [] → (k : Rejection) → e.verdict ≡ Bad k → First l s p b (refused k) × (e.place ≡ p)
bad_refused (rests x) n k v = absurd (cc)
bad_refused {l} {s} {p} {b} (fails {k = j} x) n k v = (let same : j ≡ k = cc in subst (λ i. First l s p b (refused i)) same x, refl)
bad_refused (closes x) n k v = absurd (cc)
bad_refused (goes_on x xs) n k v = absurd (cc)

-- a stream with an end marker has given something
pub done_given : {l : LimitNumbers} {s : StreamState} {p : ℕ} {b : List ℕ} {es : List Entry} {e : Snapshot} → Front l s p b es e → e.verdict ≡ Done → es ≡ [] → ⊥
done_given (rests x) d n = absurd (cc)
done_given (fails x) d n = absurd (cc)
done_given (closes x) d n = absurd (cc)
done_given (goes_on x xs) d n = absurd (cc)

-- a stream without entries leaves the state as it was
pub state_stays : {l : LimitNumbers} {s : StreamState} {p : ℕ} {b : List ℕ} {es : List Entry} {e : Snapshot} → Front l s p b es e → es ≡ [] → e.state ≡ s
state_stays (rests x) n = refl
state_stays (fails x) n = refl
state_stays (closes x) n = absurd (cc)
state_stays (goes_on x xs) n = absurd (cc)

-- one of the values that a chain of tests may give
one_of : {T : Type 0} (w x y z : Bool) (a b c d e : T) → cond w a (cond x b (cond y b (cond z c d))) ≡ e → (a ≡ e) ⊎ (b ≡ e) ⊎ (c ≡ e) ⊎ (d ≡ e)
one_of true x y z a b c d e q = inl q
one_of false true y z a b c d e q = inr (inl q)
one_of false false true z a b c d e q = inr (inl q)
one_of false false false true a b c d e q = inr (inr (inl q))
one_of false false false false a b c d e q = inr (inr (inr q))

-- no end marker comes before a schema
pub not_marker : {l : LimitNumbers} {s : StreamState} {p : ℕ} {b : List ℕ} {o : Outcome} → First l s p b o → s ≡ nothing_yet → o ≡ marker → ⊥
not_marker (short_prefix h) n e = absurd (cc)
not_marker (short_metadata h i) n e = absurd (cc)
not_marker (short_body h i) n e = absurd (cc)
not_marker (bad_prefix h) n e = absurd (cc)
not_marker (bad_metadata h) n e = absurd (cc)
not_marker (bad_body h) n e = absurd (cc)
not_marker {l} {s} {p} {b} (end_marker h) n e =
    let bytes = take 8 b in
    let says = sym (ap (λ t. prefix_says l (is_some t.schema) p bytes) n) ∙ h.says in
    elim (one_of (not (has_continuation bytes)) (nat_lt l.max_metadata (number_at bytes 4)) (nat_lt (2 ^ 62) (p + 8 + number_at bytes 4)) (not (number_at bytes 4 == 0)) _ _ _ _ _ says) [
      | inl q ↦ absurd (cc)
      | inr r ↦ elim r [
        | inl q ↦ absurd (cc)
        | inr t ↦ elim t [ inl q ↦ absurd (cc) | inr q ↦ absurd (cc) ]
      ]
    ]
not_marker (message_comes h) n e = absurd (cc)

-- the first message is a complete schema message
pub record Opens (l : LimitNumbers) (s : StreamState) (p : ℕ) (b : List ℕ) (e : Snapshot) : Type 0 where
  pub shape : SchemaShape
  pub size : ℕ
  pub comes : First l s p b (whole size (record { schema = Some shape; dictionaries = [] }) schema_given)
  pub shown : e.state.schema ≡ Some shape

-- if the messages are one entry, before which there was none, the entry is a complete schema message
pub one_entry : {l : LimitNumbers} {s : StreamState} {p : ℕ} {b : List ℕ} {es : List Entry} {e : Snapshot} → Front l s p b es e → s ≡ nothing_yet → (x : Entry) → es ≡ x ∷ [] → Opens l s p b e
one_entry (rests f) n x q = absurd (cc)
one_entry (fails f) n x q = absurd (cc)
one_entry (closes f) n x q = absurd (not_marker f n refl)
one_entry {l} {s} {p} {b} {e = e} (goes_on {n = m} {s' = s'} {g = g} {es = fs} f xs) n x q =
    let w = whole_gives f n m s' g refl in
    let none : fs ≡ [] = cc in
    record {
      shape = w.shape;
      size = m;
      comes = subst (λ t. First l s p b (whole m t schema_given)) w.state (subst (λ t. First l s p b (whole m s' t)) w.given f);
      shown = ap (λ t. t.schema) (state_stays xs none ∙ w.state);
    }
