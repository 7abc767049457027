-- What is built for a batch's dictionaries (Columnar Format, "Dictionary Messages").
use Rattle.std.specs.Prelude.{◌≡◌, ℕ, ℤ, true, false, List, ◌++◌, drop, Option, Some, Result, Ok, Err}
use Rattle.std.specs.List.{list_all}
use Rattle.arrow_types.specs.Field.{FieldTree, TypeShape}
use Rattle.arrow_types.specs.Schema.{dictionary_fields}
use Rattle.arrow_data.specs.Batch.{Table}
use Rattle.arrow_data.specs.Column.{ValueList}
use Rattle.arrow_dict.specs.Tracking.{Tracked}
use Rattle.arrow_dict.specs.ValueTypes.{value_type_of}
use Rattle.arrow_stream_laws.specs.Admission.{sending_fits}
use Rattle.arrow_stream_laws.specs.Plan.{Sending, plan, sending_for, with_lists}
use Rattle.arrow_stream_laws.specs.Text.{AreBuilt, IsUpdate}
use Rattle.arrow_sink.specs.declared.write_fault.WriteFault.{WriteFault}
use Rattle.arrow_sink.specs.declared.write_fault.WriteFault.TheVariants.{TooLarge, Memory}
use Rattle.arrow_stream_writer.specs.Lists.{AreListsOf}
use Rattle.arrow_stream_writer.specs.declared.frames.DictionaryBatch.{DictionaryBatch}
use Rattle.arrow_stream_writer.specs.Terms.{Terms}

-- Bytes that were built, the dictionaries that were sent, and those that will have been sent.
pub record Work : Type 0 where
  pub bytes : List ℕ
  pub tracked : Tracked

abbrev pub work_of : List ℕ → Tracked → Work
work_of bytes tracked = record { bytes = bytes; tracked = tracked }

-- what a dictionary batch carries
abbrev pub sending_of : DictionaryBatch → Sending
sending_of b = record { id = b.id; is_delta = b.is_delta; carried = drop b.from b.dictionary.now.values; whole = b.dictionary.now.values }

-- The frame of a dictionary batch that keeps to the limits was appended.
pub record PutsFrame (terms : Terms) (w : Sending) (old new : List ℕ) : Type 0 where
  pub frame : List ℕ
  pub fits_in : sending_fits terms.limits terms.align terms.shape.fields w ≡ true
  pub is_update : IsUpdate terms.limits terms.align terms.shape.fields w frame
  pub appended : new ≡ old ++ frame

-- a result for a dictionary batch: its frame was appended, or it does not keep to the limits, or an allocation failed
abbrev pub PutsUpdate : Terms → Sending → List ℕ → Result (Unit {0}) WriteFault → List ℕ → Type 0
PutsUpdate terms w old (Ok done) new = PutsFrame terms w old new
PutsUpdate terms w old (Err TooLarge) new = sending_fits terms.limits terms.align terms.shape.fields w ≡ false
PutsUpdate terms w old (Err fault) new = fault ≡ Memory

-- The bytes are the frames of these dictionary batches, which all keep to the limits, and the staged dictionaries are
-- what they leave of these dictionaries, which were sent before.
pub record IsWorkOf (terms : Terms) (ds : List (ℤ × ValueList)) (ws : List Sending) (work : Work) : Type 0 where
  pub built : AreBuilt terms.limits terms.align terms.shape ds ws work.bytes
  pub fit : list_all (sending_fits terms.limits terms.align terms.shape.fields) ws ≡ true
  pub sent : work.tracked.sent ≡ ds
  pub next : work.tracked.next ≡ with_lists terms.shape.fields ws ds

-- one of the dictionary batches does not keep to the limits, or an allocation failed
abbrev pub RefusesUpdates : Terms → List Sending → WriteFault → Type 0
RefusesUpdates terms ws TooLarge = list_all (sending_fits terms.limits terms.align terms.shape.fields) ws ≡ false
RefusesUpdates terms ws fault = fault ≡ Memory

-- A result for further dictionary batches, given all those before: the work is that of both, or they are rejected.
-- The dictionaries that were sent are unchanged.
abbrev pub AddsOne : Terms → List Sending → Work → Result (Unit {0}) WriteFault → Work → Type 0
AddsOne terms ws old (Ok done) new =
    (vs : List Sending) → IsWorkOf terms old.tracked.sent vs old → IsWorkOf terms old.tracked.sent (vs ++ ws) new
AddsOne terms ws old (Err fault) new = RefusesUpdates terms ws fault × (new.tracked.sent ≡ old.tracked.sent)

-- the schema names this type for the values of the id
abbrev pub IsNamed : FieldTree → ℤ → TypeShape → Type 0
IsNamed fields id t = value_type_of (dictionary_fields fields) id ≡ Some t

-- a result for an id for which a dictionary of the schema's type was found: what is to be sent of its values is added
abbrev pub AddsId : Terms → (ℤ → Option ValueList) → ℤ → Work → Result (Unit {0}) WriteFault → Work → Type 0
AddsId terms find id old answer new = (d : ValueList) → find id ≡ Some d → IsNamed terms.shape.fields id d.data_type
    → AddsOne terms (sending_for terms.updates old.tracked.sent id d.values) old answer new

-- a result for all dictionary batches of a plan, with none before
abbrev pub AddsAll : Terms → List Sending → Work → Result (Unit {0}) WriteFault → Work → Type 0
AddsAll terms ws old (Ok done) new = IsWorkOf terms old.tracked.sent ws new
AddsAll terms ws old (Err fault) new = RefusesUpdates terms ws fault × (new.tracked.sent ≡ old.tracked.sent)

-- a result for every batch of the schema whose dictionaries were found
abbrev pub AddsPlan : Terms → (ℤ → Option ValueList) → Work → Result (Unit {0}) WriteFault → Work → Type 0
AddsPlan terms find old answer new = (t : Table) → t.schema ≡ terms.shape → AreListsOf t find
    → AddsAll terms (plan terms.updates terms.shape.fields old.tracked.sent t) old answer new
