-- The effect of a piece and of an end on a copier's fields.
use Rattle.std.proofs.Common.{◌≡◌, ℕ, List, [], refl, sym, subst, Option, None, Some, Ok, Err, inl, inr}
use Rattle.std.specs.Prelude.{OnOk, ⊤, Bool, true, false, is_some}
use Rattle.arrow_types.specs.Limits.{LimitNumbers}
use Rattle.arrow_stream_laws.specs.Sizes.{Options}
use Rattle.arrow_stream_reader.specs.Stream.{ReaderView, ended_so}
use Rattle.arrow_stream_reader.specs.declared.fault.Fault.{Fault}
use Rattle.arrow_stream_reader.specs.declared.reader.Verdict.TheVariants.{Open}
use Rattle.arrow_stream_writer.specs.Shown.{options_view}
use Rattle.arrowflow_input.specs.Consumer.{Ends, OfInput, OfMessages}
use Rattle.arrowflow_input.specs.Driver.{AreGiven, Driven, PieceTaken}
use Rattle.arrowflow_input.specs.Faults.{reported}
use Rattle.arrowflow_input.specs.declared.driver.Progress.TheVariants.{Marker}
use Rattle.arrowflow_input.specs.declared.tool_fault.ToolFault.{ToolFault}
use Rattle.arrowflow_input.proofs.Driving.{ended_early, ended_here, marked_here, piece_ended}
use Rattle.arrowflow_copy.specs.Copying.{HasAnswered, IsCopying}
use Rattle.arrowflow_copy.specs.CopierShown.{copier_view, parts_view}
use Rattle.arrowflow_copy.specs.Outbox.{contents_of, failed_of}
use Rattle.arrowflow_copy.specs.Parted.{PartBegan}
use Rattle.arrowflow_copy.specs.Pieces.{Answer, GoesOnAt, HasEndedAt}
use Rattle.arrowflow_copy.specs.Taken.{with_taken}
use Rattle.arrowflow_copy.specs.WriterState.{at_of}
use Rattle.arrowflow_copy.specs.declared.part_copier.PartCopier.{PartCopier}
use Rattle.arrowflow_copy.specs.declared.stream_copier.StreamCopier.{StreamCopier}
use Rattle.arrowflow_copy.proofs.Copied.{held_is}
use Rattle.arrowflow_copy.proofs.Pieces.{begun, ended_at, ended_by, goes_on_at, holds_waiting}

-- the invariant of a copy over the messages that it was given, depending on how it began
abbrev pub Keeps : PartBegan → PartCopier → OfMessages
Keeps s k = IsCopying s.began k.copier.terms.limits (options_view k.copier.terms.options) (with_taken s.taken (at_of contents_of failed_of k.copier.target)) k.copier.number

-- and the properties of its result
abbrev pub Says : PartBegan → PartCopier → OfInput
Says s k answer r bytes left = HasAnswered s.began (with_taken s.taken (at_of contents_of failed_of k.copier.target)) answer bytes left

-- a copier that goes on was given its messages, also while its fields are lent
pub lent : (limits : LimitNumbers) (o : Options) (c : StreamCopier) (t taken : List ℕ) (k : PartCopier) (r : ReaderView) → k ≡ c.copier → r ≡ c.reader → GoesOnAt limits o (copier_view c) t taken
    → AreGiven (Keeps (begun limits o taken) k) t r
lent limits o c t taken k r copier reader g =
    subst (λ x. AreGiven (Keeps (begun limits o taken) x) t r) (sym copier) (subst (λ x. AreGiven (Keeps (begun limits o taken) c.copier) t x) (sym reader) g.given)

-- a copier that has not ended did not end with a result
pub not_ended : (ended : Option Answer) (is : Bool) → is ≡ is_some ended → is ≡ false → (answer : Answer) → ended ≡ Some answer → ⊥
not_ended None is e f answer q = absurd (cc)
not_ended (Some a) is e f answer q = absurd (cc)

-- it goes on with these fields
pub goes_on_parts : (limits : LimitNumbers) (o : Options) (k : PartCopier) (r : ReaderView) (ended : Option Answer) (u taken : List ℕ) → AreGiven (Keeps (begun limits o taken) k) u r → r.at.verdict ≡ Open
    → GoesOnAt limits o (parts_view k r ended) u taken
goes_on_parts limits o k r ended u taken g is_open = goes_on_at limits o (parts_view k r ended) (held_is contents_of failed_of k.copier.target) u taken g is_open

-- a copier that has these fields afterwards
module _ (limits : LimitNumbers) (o : Options) (new : StreamCopier) (u taken : List ℕ) (k : PartCopier) (r : ReaderView) (copier : new.copier ≡ k) (reader : new.reader ≡ r) where
  abbrev s : PartBegan
  s = begun limits o taken

  -- it ended with the copy's result
  pub ended_with : (answer : Answer) (left : Option (List ℕ)) → Says s k answer r u left → HasEndedAt limits o (copier_view new) u taken left answer
  ended_with answer left a = ended_at limits o (copier_view new) (holds_waiting new) u taken answer left (subst (λ x. Says s x answer r u left) (sym copier) a)

  -- with its result for the end marker
  pub ended_marked : (before : PartCopier) (answer : Answer) → Ends Keeps Says before true r answer k → PieceTaken (Keeps s before) (Says s before) u r (Ok Marker) → (left : Option (List ℕ)) → HasEndedAt limits o (copier_view new) u taken left answer
  ended_marked before answer ends p left = ended_with answer left (ends s u left p.0.entries (marked_here (Keeps s before) (Says s before) u left r p.0 p.1) p.0.kept)

  -- or without one
  pub ended_without : (f : ToolFault) (left : Option (List ℕ)) → Driven (Keeps s k) (λ answer q bytes rest. Says s k answer q bytes rest × OnOk answer ⊤) u left r (Err f) → HasEndedAt limits o (copier_view new) u taken left (Err f)
  ended_without f left d =
      ended_by limits o (copier_view new) (holds_waiting new) u taken f left
      (subst (λ x. Driven (Keeps s x) (λ answer q bytes rest. Says s x answer q bytes rest × OnOk answer ⊤) u left new.reader (Err f)) (sym copier)
      (subst (λ x. Driven (Keeps s k) (λ answer q bytes rest. Says s k answer q bytes rest × OnOk answer ⊤) u left x (Err f)) (sym reader) d))

  -- with a fault of a piece
  pub ended_piece : (f : ToolFault) → PieceTaken (Keeps s k) (Says s k) u r (Err f) → (left : Option (List ℕ)) → HasEndedAt limits o (copier_view new) u taken left (Err f)
  ended_piece f p left = ended_without f left (piece_ended (Keeps s k) (λ answer q bytes rest. Says s k answer q bytes rest × OnOk answer ⊤) u left r f (with_nothing p))
    where
      with_nothing : PieceTaken (Keeps s k) (Says s k) u r (Err f) → PieceTaken (Keeps s k) (λ answer q bytes rest. Says s k answer q bytes rest × OnOk answer ⊤) u r (Err f)
      with_nothing (inl a) = inl (λ rest. (a rest, tt))
      with_nothing (inr x) = inr x

  -- with its result for the end of the stream
  pub ended_input : (before : PartCopier) (answer : Answer) → Ends Keeps Says before false r answer k → AreGiven (Keeps s before) u r → ended_so r.at ≡ Ok tt → r.at.verdict ≡ Open → HasEndedAt limits o (copier_view new) u taken (Some []) answer
  ended_input before answer ends g well is_open = ended_with answer (Some []) (ends s u (Some []) g.entries (ended_here (Keeps s before) (Says s before) u (Some []) r g well is_open refl) g.kept)

  -- or at a point where no stream ends
  pub ended_too_early : AreGiven (Keeps s k) u r → (fault : Fault) → ended_so r.at ≡ Err fault → HasEndedAt limits o (copier_view new) u taken (Some []) (Err (reported fault))
  ended_too_early g fault bad = ended_without (reported fault) (Some []) (ended_early (Keeps s k) (λ answer q bytes rest. Says s k answer q bytes rest × OnOk answer ⊤) u (Some []) r g refl fault bad)
