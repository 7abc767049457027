-- The output of a copy that ended early, by the complete messages at the start of all bytes that were read.
use Rattle.std.specs.Prelude.{◌≡◌, ℕ, false, List, [], ◌∷◌, ◌++◌, length, Option, Some}
use Rattle.std.specs.Io.KnownBytes.{Appends}
use Rattle.arrow_types.specs.Limits.{LimitNumbers}
use Rattle.arrow_types.specs.Notes.{SchemaShape}
use Rattle.arrow_data.specs.Batch.{Table}
use Rattle.arrow_sink.specs.declared.write_fault.WriteFault.{WriteFault}
use Rattle.arrow_stream_reader.specs.Front.{Entry, Snapshot, FrontOf}
use Rattle.arrow_stream_reader.specs.State.{nothing_yet, schema_given}
use Rattle.arrow_stream_reader.specs.Tables.{tables_of}
use Rattle.arrow_stream_laws.specs.Admission.{admission, schema_admission}
use Rattle.arrow_stream_laws.specs.Frames.{left_by}
use Rattle.arrow_stream_laws.specs.Sizes.{Options}
use Rattle.arrow_stream_laws.specs.Text.{joined}
use Rattle.arrowflow_copy.specs.Copy.{IsBegun, IsSent, IsSentInPartOf, RefusesBatch, RefusesSchema}

-- The first of these messages, the schema, is rejected, and nothing was written.
pub record RefusesSchemaOf (limits : LimitNumbers) (o : Options) (entries : List Entry) (e : Snapshot) (kind : WriteFault) (before after : Option (List ℕ)) : Type 0 where
  pub first : Entry
  pub later : List Entry
  pub all : entries ≡ first ∷ later
  pub is_schema : first.given ≡ schema_given
  pub shape : SchemaShape
  pub schema : e.state.schema ≡ Some shape
  pub refusal : schema_admission limits o shape ≡ Some kind
  pub wrote : Appends before after []

-- The batch of this number among those of these messages is rejected, after the text of those before it, which was
-- written.
pub record RefusesBatchOf (limits : LimitNumbers) (o : Options) (entries : List Entry) (e : Snapshot) (number : ℕ) (kind : WriteFault) (before after : Option (List ℕ)) : Type 0 where
  pub first : List Table
  pub table : Table
  pub later : List Table
  pub all : tables_of entries ≡ first ++ table ∷ later
  pub numbered : number ≡ length first
  pub shape : SchemaShape
  pub schema : e.state.schema ≡ Some shape
  pub sent : IsSent limits o shape false first before after
  pub refusal : admission limits o shape (left_by nothing_yet sent.frames).dictionaries (length (joined sent.parts)) table ≡ Some kind

-- A law: a copy begun with a prefix of bytes is one begun with the batches at the start of all of them.
abbrev pub PartOfFront : Type 0
PartOfFront =
    (limits : LimitNumbers) (o : Options) (bytes : List ℕ) (before after : Option (List ℕ)) (entries : List Entry) (e : Snapshot) →
    FrontOf limits bytes entries e → IsBegun limits o bytes before after → IsSentInPartOf limits o e.state.schema (tables_of entries) before after

-- A law: a schema that is rejected is the first message at the start of all bytes.
abbrev pub SchemaOfFront : Type 0
SchemaOfFront =
    (limits : LimitNumbers) (o : Options) (bytes : List ℕ) (kind : WriteFault) (before after : Option (List ℕ)) (entries : List Entry) (e : Snapshot) →
    FrontOf limits bytes entries e → RefusesSchema limits o bytes kind before after → RefusesSchemaOf limits o entries e kind before after

-- A law: a batch that is rejected has its number among the batches at the start of all bytes.
abbrev pub BatchOfFront : Type 0
BatchOfFront =
    (limits : LimitNumbers) (o : Options) (bytes : List ℕ) (number : ℕ) (kind : WriteFault) (before after : Option (List ℕ)) (entries : List Entry) (e : Snapshot) →
    FrontOf limits bytes entries e → RefusesBatch limits o bytes number kind before after → RefusesBatchOf limits o entries e number kind before after
