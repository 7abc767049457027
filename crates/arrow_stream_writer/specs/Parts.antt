-- The messages of one batch, built: the frames of its dictionaries and of its record batch, one after another.
use Rattle.std.specs.Prelude.{◌≡◌, ℕ, ℤ, true, false, List, length, Some, Result, Ok, Err}
use Rattle.std.specs.List.{list_all}
use Rattle.arrow_data.specs.Batch.{Table}
use Rattle.arrow_data.specs.Column.{ValueList}
use Rattle.arrow_dict.specs.Tracking.{Tracked}
use Rattle.arrow_stream_laws.specs.Admission.{admission, part_size, sending_fits}
use Rattle.arrow_stream_laws.specs.Frames.{Frame, frames_bytes}
use Rattle.arrow_stream_laws.specs.Plan.{lists_after, plan}
use Rattle.arrow_stream_laws.specs.Rows.{IsKnown, has_one_list}
use Rattle.arrow_stream_laws.specs.Sizes.{Options}
use Rattle.arrow_stream_laws.specs.Text.{IsPart}
use Rattle.arrow_sink.specs.declared.write_fault.WriteFault.{WriteFault}
use Rattle.arrow_sink.specs.declared.write_fault.WriteFault.TheVariants.{SchemaDiffers, TooLarge, DictionariesDiffer, Memory}
use Rattle.arrow_stream_writer.specs.Terms.{Terms}
use Rattle.arrow_stream_writer.specs.Updating.{IsWorkOf, Work}

-- how a writer with these terms sends
abbrev pub options_of : Terms → Options
options_of terms = record { updates = terms.updates; align = terms.align }

-- The work is that of all dictionary batches that are sent before the batch, which has one list for each id.
pub record HasUpdates (terms : Terms) (t : Table) (sent : List (ℤ × ValueList)) (work : Work) : Type 0 where
  pub known : IsKnown t
  pub one : has_one_list t ≡ true
  pub is_work : IsWorkOf terms sent (plan terms.updates terms.shape.fields sent t) work

-- Why it is not, although the batch has one list for each id.
pub record UpdatesRefused (terms : Terms) (t : Table) (sent : List (ℤ × ValueList)) : Type 0 where
  pub one : has_one_list t ≡ true
  pub large : list_all (sending_fits terms.limits terms.align terms.shape.fields) (plan terms.updates terms.shape.fields sent t) ≡ false

-- why a batch's dictionary batches were not built
abbrev pub IsNotUpdated : Terms → Table → List (ℤ × ValueList) → WriteFault → Type 0
IsNotUpdated terms t sent DictionariesDiffer = has_one_list t ≡ false
IsNotUpdated terms t sent TooLarge = UpdatesRefused terms t sent
IsNotUpdated terms t sent fault = fault ≡ Memory

-- A result for a batch's dictionaries: the frames of what is to be sent of them were built, or two of one id differ,
-- or one of the dictionary batches does not keep to the limits, or an allocation failed. The dictionaries that were
-- sent are unchanged.
abbrev pub PutsUpdates : Terms → Table → Work → Result (Unit {0}) WriteFault → Work → Type 0
PutsUpdates terms t old (Ok done) new = HasUpdates terms t old.tracked.sent new
PutsUpdates terms t old (Err fault) new = IsNotUpdated terms t old.tracked.sent fault × (new.tracked.sent ≡ old.tracked.sent)

-- The bytes are the messages of a batch that is accepted at this offset, given the dictionaries that were sent
-- before; the dictionaries in them are staged.
pub record IsPartBuilt (terms : Terms) (place : ℕ) (t : Table) (sent : List (ℤ × ValueList)) (bytes : List ℕ) (now : Tracked) : Type 0 where
  pub frames : List Frame
  pub is_part : IsPart terms.limits (options_of terms) terms.shape sent place t frames
  pub same : frames_bytes frames ≡ bytes
  pub sized : length bytes ≡ part_size (options_of terms) terms.shape.fields sent t
  pub kept : now.sent ≡ sent
  pub staged : now.next ≡ lists_after terms.updates terms.shape.fields sent t

-- the batch is rejected with this fault
abbrev pub IsRefusedWith : Terms → ℕ → Table → List (ℤ × ValueList) → WriteFault → Type 0
IsRefusedWith terms place t sent TooLarge = admission terms.limits (options_of terms) terms.shape sent place t ≡ Some TooLarge
IsRefusedWith terms place t sent SchemaDiffers = admission terms.limits (options_of terms) terms.shape sent place t ≡ Some SchemaDiffers
IsRefusedWith terms place t sent DictionariesDiffer = admission terms.limits (options_of terms) terms.shape sent place t ≡ Some DictionariesDiffer
IsRefusedWith terms place t sent fault = fault ≡ Memory

-- A result for a batch: its messages were built, or it is rejected, or an allocation failed. The dictionaries that
-- were sent are unchanged.
abbrev pub BuildsPart : Terms → ℕ → Table → List (ℤ × ValueList) → Result (Unit {0}) WriteFault → List ℕ → Tracked → Type 0
BuildsPart terms place t sent (Ok done) bytes now = IsPartBuilt terms place t sent bytes now
BuildsPart terms place t sent (Err fault) bytes now = IsRefusedWith terms place t sent fault × (now.sent ≡ sent)

-- The same, and after a fault nothing is staged.
abbrev pub BuildsOrDrops : Terms → ℕ → Table → List (ℤ × ValueList) → Result (Unit {0}) WriteFault → List ℕ → Tracked → Type 0
BuildsOrDrops terms place t sent (Ok done) bytes now = IsPartBuilt terms place t sent bytes now
BuildsOrDrops terms place t sent (Err fault) bytes now = IsRefusedWith terms place t sent fault × (now.sent ≡ sent) × (now.next ≡ sent)
