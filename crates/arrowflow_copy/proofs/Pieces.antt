-- The state of a copier after a piece, after an end, and after bytes are taken.
use Rattle.std.proofs.Common.{◌≡◌, ℕ, List, [], ◌++◌, take, drop, Option, Some, Err, refl, sym, ap, ◌∙◌, subst, append_assoc, take-append-drop}
use Rattle.arrow_stream_reader.specs.declared.reader.Verdict.TheVariants.{Open}
use Rattle.std.specs.Prelude.{OnOk, ⊤}
use Rattle.arrow_types.specs.Limits.{LimitNumbers}
use Rattle.arrow_stream_laws.specs.Sizes.{Options}
use Rattle.arrowflow_input.specs.Driver.{AreGiven, Driven}
use Rattle.arrowflow_input.specs.declared.tool_fault.ToolFault.{ToolFault}
use Rattle.arrowflow_input.proofs.Driving.{snapshot_of}
use Rattle.arrowflow_copy.specs.Copy.{Copies, IsCopied}
use Rattle.arrowflow_copy.specs.Copying.{At, HasAnswered, IsCopying, failures_at, held_at, waiting, writing}
use Rattle.arrowflow_copy.specs.Pieces.{Answer, CopierView, GoesOnAt, HasEndedAt, anew}
use Rattle.arrowflow_copy.specs.Taken.{holding, with_taken}
use Rattle.arrowflow_copy.specs.CopierShown.{copier_view}
use Rattle.arrowflow_copy.specs.Outbox.{contents_of, failed_of}
use Rattle.arrowflow_copy.specs.Parted.{PartBegan}
use Rattle.arrowflow_copy.specs.declared.stream_copier.StreamCopier.{StreamCopier}
use Rattle.arrowflow_copy.proofs.Copied.{call_copied, copied_at, held_is}
use Rattle.arrowflow_copy.proofs.Taken.{taken_failures, taken_held, taken_more}

-- the start of a copy whose output these bytes were taken from
abbrev pub begun : LimitNumbers → Options → List ℕ → PartBegan
begun limits o taken = record { began = anew limits o; taken = taken }

-- a copier that holds the waiting bytes
module _ (limits : LimitNumbers) (o : Options) (v : CopierView) (holds : held_at v.at ≡ Some v.waiting) (t taken : List ℕ) where
  -- it goes on
  pub goes_on_at : AreGiven (IsCopying (anew limits o) v.limits v.options (with_taken taken v.at) v.number) t v.reader → v.reader.at.verdict ≡ Open → GoesOnAt limits o v t taken
  goes_on_at g is_open = record {
    given = g;
    is_open = is_open;
    copied = (
      snapshot_of v.reader g.position.rest,
      is_open,
      subst (λ h. IsCopied limits o t (snapshot_of v.reader g.position.rest) (Some []) h) (taken_held taken v.at v.waiting holds)
          (copied_at (anew limits o) (with_taken taken v.at) v.number v.reader t g.entries g.position g.kept.2),
    );
  }

  -- or ended with this result
  pub ended_at : (answer : Answer) (left : Option (List ℕ)) → HasAnswered (anew limits o) (with_taken taken v.at) answer t left → HasEndedAt limits o v t taken left answer
  ended_at answer left a =
      subst (λ k. Copies limits o t left (Some []) 0 answer (Some (taken ++ v.waiting)) k) (taken_failures taken v.at)
      (subst (λ h. Copies limits o t left (Some []) 0 answer h (failures_at (with_taken taken v.at))) (taken_held taken v.at v.waiting holds) a)

  -- or ended without a result of the copy
  pub ended_by : (f : ToolFault) (left : Option (List ℕ))
      → Driven (IsCopying (anew limits o) v.limits v.options (with_taken taken v.at) v.number) (λ answer r bytes rest. HasAnswered (anew limits o) (with_taken taken v.at) answer bytes rest × OnOk answer ⊤) t left v.reader (Err f)
      → HasEndedAt limits o v t taken left (Err f)
  ended_by f left d = ended_at (Err f) left (call_copied (anew limits o) v.limits v.options (with_taken taken v.at) v.number ⊤ t left v.reader (Err f) d).0

-- a copier from which the first n of the waiting bytes were taken
module _ (limits : LimitNumbers) (o : Options) (v : CopierView) (holds : held_at v.at ≡ Some v.waiting) (n : ℕ) where
  abbrev pub later : CopierView
  later = record v { at = holding (Some (drop n v.waiting)) v.at; waiting = drop n v.waiting }

  whole : (taken : List ℕ) → (taken ++ take n v.waiting) ++ drop n v.waiting ≡ taken ++ v.waiting
  whole taken = append_assoc taken (take n v.waiting) (drop n v.waiting) ∙ ap (λ l. taken ++ l) (take-append-drop n v.waiting)

  holding_failures : (h : Option (List ℕ)) (at : At) → failures_at (holding h at) ≡ failures_at at
  holding_failures h (waiting b f) = refl
  holding_failures h (writing w) = refl

  -- it goes on if it did before
  pub goes_on_later : (t taken : List ℕ) → GoesOnAt limits o v t taken → GoesOnAt limits o later t (taken ++ take n v.waiting)
  goes_on_later t taken g = record {
    given = subst (λ a. AreGiven (IsCopying (anew limits o) v.limits v.options a v.number) t v.reader) (sym (taken_more taken n v.at v.waiting holds)) g.given;
    is_open = g.is_open;
    copied = (g.copied.0, g.copied.1, subst (λ b. IsCopied limits o t g.copied.0 (Some []) (Some b)) (sym (whole taken)) g.copied.2);
  }

  -- or has ended as it had before
  pub ended_later : (t taken : List ℕ) (left : Option (List ℕ)) (answer : Answer) → HasEndedAt limits o v t taken left answer → HasEndedAt limits o later t (taken ++ take n v.waiting) left answer
  ended_later t taken left answer x =
      subst (λ k. Copies limits o t left (Some []) 0 answer (Some ((taken ++ take n v.waiting) ++ drop n v.waiting)) k) (sym (holding_failures (Some (drop n v.waiting)) v.at))
      (subst (λ b. Copies limits o t left (Some []) 0 answer (Some b) (failures_at v.at)) (sym (whole taken)) x)

-- a copier holds exactly the waiting bytes
pub holds_waiting : (c : StreamCopier) → held_at (copier_view c).at ≡ Some (copier_view c).waiting
holds_waiting c = held_is contents_of failed_of c.copier.copier.target
