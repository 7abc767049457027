-- An input that ends inside a message (Columnar Format, "Encapsulated message format").
use Rattle.std.specs.Prelude.{◌≡◌, ◌≤◌, ◌<◌, ◌+◌, ℕ, List, length, Bool, true, false, not, is_some, Option, Some}
use Rattle.arrow_flatbuf.specs.Place.{◌>>=◌}
use Rattle.arrow_meta_tree.specs.Slots as slots
use Rattle.arrow_stream_reader.specs.Frame.{number_at}
use Rattle.arrow_stream_reader.specs.declared.kind.Kind.{Kind}
use Rattle.arrow_stream_reader.specs.declared.kind.Kind.TheVariants as kinds
use Rattle.arrowflow_diagnosis.specs.Rejection.{Situation}
use Rattle.arrowflow_diagnosis.specs.Places.{field_number, message_table}
use Rattle.arrowflow_diagnosis.specs.declared.cut.Cut.{Cut}
use Rattle.arrowflow_diagnosis.specs.declared.cut.CutPart.{CutPart}
use Rattle.arrowflow_diagnosis.specs.declared.cut.CutPart.TheVariants.{Prefix, Metadata, Body}

-- the kind of an end inside a message, before a schema or after it
abbrev pub cut_kind : Bool → Kind
cut_kind true = kinds.NoSchema
cut_kind false = kinds.Truncated

-- the length of the body that the metadata announce, 0 if they give none
abbrev pub body_length : List ℕ → Option ℕ
body_length message = do
  table ← message_table message
  field_number 8 0 table slots.message_body_length

-- The number of bytes that the message has up to the end of the part in which the input ends.
abbrev pub IsWanted : CutPart → List ℕ → ℕ → Type 0
IsWanted Prefix message wanted = wanted ≡ 8
IsWanted Metadata message wanted = (8 ≤ length message) × (wanted ≡ 8 + number_at message 4)
IsWanted Body message wanted = (n : ℕ) × (body_length message ≡ Some n) × (8 + number_at message 4 ≤ length message) × (wanted ≡ 8 + number_at message 4 + n)

-- The input ends inside this part of a message: it holds this many bytes of the message, fewer than the message's
-- parts up to and including this one have.
pub record IsCut (cut : Cut) (s : Situation) : Type 0 where
  pub held : cut.held ≡ length s.bytes
  pub wanted : IsWanted cut.part s.bytes cut.wanted
  pub short : cut.held < cut.wanted
  pub before : cut.before_schema ≡ not (is_some s.state.schema)
