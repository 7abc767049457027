-- The output of a copied stream, and how the copy ends (Columnar Format, "IPC Streaming Format").
use Rattle.std.specs.Prelude.{◌≡◌, ◌⊎◌, ℕ, ◌+◌, false, true, Bool, List, [], ◌∷◌, ◌++◌, length, Option, None, Some, Result, Ok, Err}
use Rattle.std.specs.Io.KnownBytes.{Appends, Consumes}
use Rattle.arrow_types.specs.Limits.{LimitNumbers}
use Rattle.arrow_types.specs.Notes.{SchemaShape}
use Rattle.arrow_data.specs.Batch.{Table}
use Rattle.arrow_sink.specs.Sinks.{AcceptsBeginning}
use Rattle.arrow_stream_reader.specs.declared.reader.Verdict.TheVariants.{Open}
use Rattle.arrow_stream_reader.specs.Front.{Entry, Snapshot, FrontOf}
use Rattle.arrow_stream_reader.specs.State.{batch_given, nothing_yet, schema_given}
use Rattle.arrow_stream_reader.specs.Tables.{tables_of}
use Rattle.arrow_sink.specs.declared.write_fault.WriteFault.{WriteFault}
use Rattle.arrow_sink.specs.declared.write_fault.WriteFault.TheVariants.{TooLarge}
use Rattle.arrow_stream_laws.specs.Admission.{admission, marker_fits, schema_admission}
use Rattle.arrow_stream_laws.specs.Frames.{Frame, left_by}
use Rattle.arrow_stream_laws.specs.Sizes.{Options}
use Rattle.arrow_stream_laws.specs.Text.{Written, joined}
use Rattle.arrowflow_input.specs.Reads.{IsReadWhile}
use Rattle.arrowflow_input.specs.Endings.{EndsBadly, EndsWell, IsOpenAt}
use Rattle.arrowflow_input.specs.declared.what.RefusedItem.{RefusedItem}
use Rattle.arrowflow_input.specs.declared.what.RefusedItem.TheVariants as parts
use Rattle.arrowflow_input.specs.declared.tool_fault.ToolFault.{ToolFault}
use Rattle.arrowflow_input.specs.declared.tool_fault.ToolFault.TheVariants.{Input, Output, Stream, Refused, Memory}

-- The text of a connection with these batches, closed by the end marker or not, was written, its parts one after
-- another.
pub record IsSent (limits : LimitNumbers) (o : Options) (shape : SchemaShape) (closed : Bool) (batches : List Table) (before after : Option (List ℕ)) : Type 0 where
  pub parts : List (List ℕ)
  pub frames : List Frame
  pub text : Written limits o shape closed parts batches frames
  pub wrote : Appends before after (joined parts)

-- The same without end marker, for a stream that has this schema: nothing if it has none yet.
abbrev pub IsSentOf : LimitNumbers → Options → Option SchemaShape → List Table → Option (List ℕ) → Option (List ℕ) → Type 0
IsSentOf limits o None batches before after = Appends before after []
IsSentOf limits o (Some shape) batches before after = IsSent limits o shape false batches before after

-- the batches of the complete messages at the start of these bytes were written, without end marker
pub record IsCopied (limits : LimitNumbers) (o : Options) (bytes : List ℕ) (e : Snapshot) (before after : Option (List ℕ)) : Type 0 where
  pub entries : List Entry
  pub front : FrontOf limits bytes entries e
  pub sent : IsSentOf limits o e.state.schema (tables_of entries) before after

-- the same with the end marker
pub record IsClosed (limits : LimitNumbers) (o : Options) (bytes : List ℕ) (e : Snapshot) (before after : Option (List ℕ)) : Type 0 where
  pub entries : List Entry
  pub front : FrontOf limits bytes entries e
  pub shape : SchemaShape
  pub schema : e.state.schema ≡ Some shape
  pub sent : IsSent limits o shape true (tables_of entries) before after

-- The first message of these bytes, the schema, is rejected, and nothing was written.
pub record RefusesSchema (limits : LimitNumbers) (o : Options) (bytes : List ℕ) (kind : WriteFault) (before after : Option (List ℕ)) : Type 0 where
  pub taken : List ℕ
  pub rest : List ℕ
  pub whole : taken ++ rest ≡ bytes
  pub entry : Entry
  pub snapshot : Snapshot
  pub front : FrontOf limits taken (entry ∷ []) snapshot
  pub is_schema : entry.given ≡ schema_given
  pub shape : SchemaShape
  pub schema : snapshot.state.schema ≡ Some shape
  pub refusal : schema_admission limits o shape ≡ Some kind
  pub wrote : Appends before after []

-- The batch of this number among these bytes is rejected, after the text of those before it, which was written.
pub record RefusesBatch (limits : LimitNumbers) (o : Options) (bytes : List ℕ) (number : ℕ) (kind : WriteFault) (before after : Option (List ℕ)) : Type 0 where
  pub taken : List ℕ
  pub rest : List ℕ
  pub whole : taken ++ rest ≡ bytes
  pub entries : List Entry
  pub entry : Entry
  pub snapshot : Snapshot
  pub front : FrontOf limits taken (entries ++ entry ∷ []) snapshot
  pub table : Table
  pub is_batch : entry.given ≡ batch_given table
  pub numbered : number ≡ length (tables_of entries)
  pub shape : SchemaShape
  pub schema : snapshot.state.schema ≡ Some shape
  pub sent : IsSent limits o shape false (tables_of entries) before after
  pub refusal : admission limits o shape (left_by nothing_yet sent.frames).dictionaries (length (joined sent.parts)) table ≡ Some kind

-- The end marker is rejected, after the text of all batches, which was written.
pub record RefusesEnd (limits : LimitNumbers) (o : Options) (bytes : List ℕ) (e : Snapshot) (kind : WriteFault) (before after : Option (List ℕ)) : Type 0 where
  pub entries : List Entry
  pub front : FrontOf limits bytes entries e
  pub shape : SchemaShape
  pub schema : e.state.schema ≡ Some shape
  pub sent : IsSent limits o shape false (tables_of entries) before after
  pub refusal : marker_fits (length (joined sent.parts)) ≡ false
  pub is_large : kind ≡ TooLarge

-- the item that is rejected of a stream with these bytes, whose input has these bytes left
abbrev pub IsRefusedFor : LimitNumbers → Options → List ℕ → Option (List ℕ) → RefusedItem → WriteFault → Option (List ℕ) → Option (List ℕ) → Type 0
IsRefusedFor limits o bytes left parts.Start kind before after = RefusesSchema limits o bytes kind before after
IsRefusedFor limits o bytes left (parts.Batch number) kind before after = RefusesBatch limits o bytes number kind before after
IsRefusedFor limits o bytes left parts.Finish kind before after = (e : Snapshot) × RefusesEnd limits o bytes e kind before after × EndsWell left e

-- a prefix of the text of a connection with the first of these batches was written, without end marker
pub record IsSentInPart (limits : LimitNumbers) (o : Options) (shape : SchemaShape) (batches : List Table) (before after : Option (List ℕ)) : Type 0 where
  pub first : List Table
  pub later : List Table
  pub all : first ++ later ≡ batches
  pub parts : List (List ℕ)
  pub frames : List Frame
  pub text : Written limits o shape false parts first frames
  pub wrote : AcceptsBeginning before after (joined parts)

-- nothing was written, or such a prefix for a stream that has this schema
abbrev pub IsSentInPartOf : LimitNumbers → Options → Option SchemaShape → List Table → Option (List ℕ) → Option (List ℕ) → Type 0
IsSentInPartOf limits o None batches before after = Appends before after []
IsSentInPartOf limits o (Some shape) batches before after = Appends before after [] ⊎ IsSentInPart limits o shape batches before after

-- a prefix, without end marker, of the copy of the complete messages at the start of a prefix of these bytes was
-- written
pub record IsBegun (limits : LimitNumbers) (o : Options) (bytes : List ℕ) (before after : Option (List ℕ)) : Type 0 where
  pub taken : List ℕ
  pub rest : List ℕ
  pub whole : taken ++ rest ≡ bytes
  pub snapshot : Snapshot
  pub entries : List Entry
  pub front : FrontOf limits taken entries snapshot
  pub sent : IsSentInPartOf limits o snapshot.state.schema (tables_of entries) before after

-- The stream ended well, and a prefix of the text of all its batches with the end marker was written.
pub record IsClosedInPart (limits : LimitNumbers) (o : Options) (bytes : List ℕ) (left before after : Option (List ℕ)) : Type 0 where
  pub snapshot : Snapshot
  pub entries : List Entry
  pub front : FrontOf limits bytes entries snapshot
  pub well : EndsWell left snapshot
  pub shape : SchemaShape
  pub schema : snapshot.state.schema ≡ Some shape
  pub parts : List (List ℕ)
  pub frames : List Frame
  pub text : Written limits o shape true parts (tables_of entries) frames
  pub wrote : AcceptsBeginning before after (joined parts)

-- The bytes written, and why the call ended, when these bytes were read from an input that has these left. `Output`
-- is returned exactly if the output failed, and then it failed once.
abbrev pub Copies : LimitNumbers → Options → List ℕ → Option (List ℕ) → Option (List ℕ) → ℕ → Result (Unit {0}) ToolFault → Option (List ℕ) → ℕ → Type 0
Copies limits o bytes left before failed (Ok done) after failed' =
    ((e : Snapshot) × IsClosed limits o bytes e before after × EndsWell left e) × (failed' ≡ failed)
Copies limits o bytes left before failed (Err (Stream fault)) after failed' =
    ((e : Snapshot) × IsCopied limits o bytes e before after × EndsBadly left e fault) × (failed' ≡ failed)
Copies limits o bytes left before failed (Err (Input number)) after failed' =
    (number ≡ 0) × ((e : Snapshot) × (e.verdict ≡ Open) × IsCopied limits o bytes e before after) × (failed' ≡ failed)
Copies limits o bytes left before failed (Err (Refused what kind)) after failed' =
    IsRefusedFor limits o bytes left what kind before after × (failed' ≡ failed)
Copies limits o bytes left before failed (Err Output) after failed' =
    (IsBegun limits o bytes before after ⊎ IsClosedInPart limits o bytes left before after) × (failed' ≡ failed + 1)
Copies limits o bytes left before failed (Err Memory) after failed' = IsBegun limits o bytes before after × (failed' ≡ failed)

-- The same for an input that had these bytes before the call and has these left after it. No piece was read after the
-- one in which the stream is rejected or ends with its marker.
abbrev pub CopiesInput : LimitNumbers → Options → Option (List ℕ) → Option (List ℕ) → Option (List ℕ) → ℕ → Result (Unit {0}) ToolFault → Option (List ℕ) → ℕ → Type 0
CopiesInput limits o had left before failed answer after failed' =
    (bytes : List ℕ) × Consumes had left bytes × IsReadWhile (IsOpenAt limits) bytes
    × Copies limits o bytes left before failed answer after failed'
