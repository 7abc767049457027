-- What is proved of a call over an input with bounds, from what is proved of one without.
use Rattle.std.proofs.Common.{◌≡◌, ℕ, ◌≤◌, List, [], ◌++◌, Option, None, Some, Result, Ok, Err, inl, inr, refl, sym, ap, ◌∙◌, subst, arith, append-nil}
use Rattle.std.specs.Prelude.{IfSome, OnOk}
use Rattle.arrow_types.specs.Limits.{LimitNumbers}
use Rattle.arrow_stream_reader.specs.declared.reader.Verdict.{Verdict}
use Rattle.arrow_stream_reader.specs.declared.reader.Verdict.TheVariants.{Open, Done, Bad}
use Rattle.arrow_stream_reader.specs.Front.{Entry, Snapshot, Front, FrontOf, rests, fails, closes, goes_on}
use Rattle.arrow_stream_reader.specs.State.{StreamState}
use Rattle.arrow_stream_reader.specs.Stream.{ReaderView, IsReaderAt}
use Rattle.arrow_stream_reader.proofs.Firsts.{whole_says}
use Rattle.arrow_stream_reader.proofs.Fronts.{more_bytes}
use Rattle.arrowflow_input.specs.Bounds.{AreWithin}
use Rattle.arrowflow_input.specs.Consumer.{OfInput, OfMessages}
use Rattle.arrowflow_input.specs.Counted.{IsReaderWithin}
use Rattle.arrowflow_input.specs.Driver.{Driven}
use Rattle.arrowflow_input.specs.Session.{IsReaderAfter}
use Rattle.arrowflow_input.specs.Through.{IsThrough}
use Rattle.arrowflow_input.specs.Within.{DrivenWithin, IsWithin, KeepsTo, OfCall, Within}
use Rattle.arrowflow_input.specs.declared.bounds.Excess.{Excess}
use Rattle.arrowflow_input.specs.declared.bounds.WholeLimits.{WholeLimits}
use Rattle.arrowflow_input.specs.declared.tool_fault.ToolFault.{ToolFault}
use Rattle.arrowflow_input.specs.declared.tool_fault.ToolFault.TheVariants.{Input, Output, Stream, Refused, Memory}
use Rattle.arrowflow_input.proofs.Driving.{read_while_so, snapshot_of}
use Rattle.arrowflow_input.proofs.Schemas.{front_after}

-- ---- a reader is at one number of messages

-- a stream only advances
forward : {l : LimitNumbers} {s : StreamState} {p : ℕ} {b : List ℕ} {es : List Entry} {e : Snapshot} → Front l s p b es e → p ≤ e.place
forward (rests x) = omega arith
forward (fails x) = omega arith
forward (closes x) = omega arith
forward {p = p} (goes_on {n = n} x xs) = omega (arith, forward xs)

-- if its offset is unchanged, no message came
none_here : {l : LimitNumbers} {s : StreamState} {p : ℕ} {b : List ℕ} {es : List Entry} {e : Snapshot} → Front l s p b es e → e.place ≡ p → es ≡ []
none_here (rests x) same = refl
none_here (fails x) same = refl
none_here (closes x) same = absurd (omega (arith, same))
none_here {p = p} (goes_on {n = n} {s' = s'} {g = g} x xs) same =
    let size = (whole_says x n s' g refl).ends in
    absurd (omega (arith, same, forward xs, size))

-- the messages of a prefix of bytes are all messages, if the reader is at both
module _ (r : ReaderView) (t rest : List ℕ) (es fs : List Entry) (at : IsReaderAt r t es) (all : IsReaderAt r (t ++ rest) fs) where
  pub all_taken : fs ≡ es
  all_taken = by r.at.verdict refl
    where
      ended : (r.at.verdict ≡ Open → ⊥) → fs ≡ es
      ended never = ((more_bytes rest at.front all.front).1 never).0

      by : (v : Verdict) → r.at.verdict ≡ v → fs ≡ es
      by Open o =
          let w = front_after rest at.front o all.front in
          w.joined ∙ ap (λ more. es ++ more) (none_here w.after refl) ∙ append-nil es
      by Done o = ended (λ q. let x : Done ≡ Open = sym o ∙ q in absurd (cc))
      by (Bad k) o = ended (λ q. let x : Bad k ≡ Open = sym o ∙ q in absurd (cc))

-- so all messages keep the bounds that the inspected ones keep
all_within : (whole : WholeLimits) (r : ReaderView) (limits : LimitNumbers) (bytes : List ℕ) → r.limits ≡ limits → IsReaderWithin whole r bytes → IsReaderAfter bytes r → IsWithin whole limits bytes
all_within whole r limits bytes same inside at =
    let all = subst (λ b. IsReaderAt r b at.0) (sym inside.joined) at.1 in
    let messages = all_taken r inside.taken inside.rest inside.entries at.0 inside.position all in (
      at.0,
      snapshot_of r at.1.rest,
      subst (λ l. FrontOf l bytes at.0 (snapshot_of r at.1.rest)) same at.1.front,
      subst (AreWithin whole) (sym messages) inside.within,
    )

-- and an answer that covers all bytes says so
pub keeps_to : (whole : WholeLimits) (enough : Type 0) (r : ReaderView) (limits : LimitNumbers) (bytes : List ℕ) → r.limits ≡ limits → IsReaderWithin whole r bytes → (answer : Result (Unit {0}) ToolFault) → IsThrough enough answer r bytes → KeepsTo whole limits enough bytes answer
keeps_to whole enough r limits bytes same inside (Ok done) (inl at) = inl (all_within whole r limits bytes same inside at)
keeps_to whole enough r limits bytes same inside (Ok done) (inr there) = inr there
keeps_to whole enough r limits bytes same inside (Err (Stream fault)) at = all_within whole r limits bytes same inside at
keeps_to whole enough r limits bytes same inside (Err (Input number)) at = all_within whole r limits bytes same inside at
keeps_to whole enough r limits bytes same inside (Err Output) at = tt
keeps_to whole enough r limits bytes same inside (Err Memory) at = tt
keeps_to whole enough r limits bytes same inside (Err (Refused what kind)) at = tt

-- ---- a call

module _ (keeps : OfMessages) (answers : OfInput) (calls more : List ℕ → Type 0) (so : (bytes : List ℕ) → calls bytes → more bytes) (says : OfCall) (enough : List ℕ → Type 0) (whole : WholeLimits) (limits : LimitNumbers) (had left : Option (List ℕ))
    (mine : (bytes : List ℕ) (r : ReaderView) → r.limits ≡ limits → (answer : Result (Unit {0}) ToolFault) → Driven keeps answers bytes left r answer → says bytes left answer × IsThrough (enough bytes) answer r bytes) where
  -- what its consumer says of bytes holds for the call
  pub call_within : (r : ReaderView) → r.limits ≡ limits → (answer : Result (Unit {0}) ToolFault) (excess : Option Excess) → DrivenWithin keeps answers calls whole limits had left excess answer r → Within more says enough whole limits had left excess answer
  call_within r same answer None driven =
      let said = mine driven.0 r same answer driven.3 in
      (driven.0, driven.1, read_while_so so driven.2, said.0, keeps_to whole (enough driven.0) r limits driven.0 same driven.4 answer said.1)
  call_within r same answer (Some x) driven =
      let cut = driven.4 in
      let said = mine driven.0 cut.reader cut.limits_are (Err (Input 0)) (inr (inr (inl cut.fails))) in
      (driven.0, driven.1, driven.2, read_while_so so driven.3, said.0, cut.excess)

-- ---- what a consumer returns, and for which bytes

module _ (keeps : OfMessages) (answers : OfInput) where
  -- the predicate on a consumer's answers may be weakened
  pub driven_so : (other : OfInput) (bytes : List ℕ) (left : Option (List ℕ)) (r : ReaderView) → ((answer : Result (Unit {0}) ToolFault) → answers answer r bytes left → other answer r bytes left) → (answer : Result (Unit {0}) ToolFault) → Driven keeps answers bytes left r answer
      → Driven keeps other bytes left r answer
  driven_so other bytes left r so (Ok done) driven = so (Ok done) driven
  driven_so other bytes left r so (Err fault) (inl answered) = inl (so (Err fault) answered)
  driven_so other bytes left r so (Err fault) (inr ended) = inr ended

  -- if its answers cover all bytes, those of the call do
  pub driven_through : (enough : Type 0) (bytes : List ℕ) (left : Option (List ℕ)) (r : ReaderView) → ((answer : Result (Unit {0}) ToolFault) → answers answer r bytes left → IsThrough enough answer r bytes) → (answer : Result (Unit {0}) ToolFault) → Driven keeps answers bytes left r answer
      → IsThrough enough answer r bytes
  driven_through enough bytes left r so (Ok done) driven = so (Ok done) driven
  driven_through enough bytes left r so (Err fault) (inl answered) = so (Err fault) answered
  driven_through enough bytes left r so (Err fault) (inr (inl ending)) = subst (λ f. IsThrough enough (Err f) r bytes) (sym ending.reported) (ending.given.entries, ending.given.position)
  driven_through enough bytes left r so (Err fault) (inr (inr (inl failing))) = subst (λ f. IsThrough enough (Err f) r bytes) (sym failing.reported) (failing.given.entries, failing.given.position)
  driven_through enough bytes left r so (Err fault) (inr (inr (inr wants))) = subst (λ f. IsThrough enough (Err f) r bytes) (sym wants.is_memory) tt

  -- what holds after a good end
  pub passed_within : (calls : List ℕ → Type 0) (whole : WholeLimits) (limits : LimitNumbers) (had left : Option (List ℕ)) (r : ReaderView) (P : Type 0) (answer : Result (Unit {0}) ToolFault) → ((bytes : List ℕ) → Driven keeps answers bytes left r answer → OnOk answer P)
      → (excess : Option Excess) → DrivenWithin keeps answers calls whole limits had left excess answer r → IfSome excess (λ x. answer ≡ Err (Input 0)) → OnOk answer P
  passed_within calls whole limits had left r P answer so None driven stops = so driven.0 driven.3
  passed_within calls whole limits had left r P answer so (Some x) driven stops = subst (λ a. OnOk a P) (sym stops) tt
