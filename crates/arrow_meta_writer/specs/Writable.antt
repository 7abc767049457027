-- Properties of every message of the program, by the types that hold it, and the limits that it keeps to.
use Rattle.std.specs.Prelude.{◌≡◌, ◌≤◌, ◌<◌, ◌^◌, ℤ, pos, negsuc, Bool, true, false, List, [], ◌∷◌, Option, Some}
use Rattle.std.specs.Prelude.{None}
use Rattle.std.specs.Str.{is_utf8}
use Rattle.arrow_types.specs.DataType as tags
use Rattle.arrow_types.specs.DataType.{TypeId}
use Rattle.arrow_types.specs.Field as columns
use Rattle.arrow_types.specs.Field.{FieldHeader, FieldTree, width}
use Rattle.arrow_types.specs.Limits.{LimitNumbers}
use Rattle.arrow_types.specs.Notes.{Notes, unnoted, noted}
use Rattle.arrow_types.specs.Schema.{IsNoted}
use Rattle.arrow_types.specs.TypeSet.{leaves_some_out}
use Rattle.arrow_types.specs.declared.type_set.TypeSet.{TypeSet}
use Rattle.arrow_types.specs.declared.field.Encoding.{Encoding}
use Rattle.arrow_types.specs.declared.node.FieldNode.{FieldNode}
use Rattle.arrow_types.specs.declared.node.Buffer.{Buffer}
use Rattle.arrow_meta_tree.specs.Types.{type_code}
use Rattle.arrow_meta_schema.specs.Conditions.{children_fit}
use Rattle.arrow_meta_writer.specs.Layouts.{tag_code}
use Rattle.arrow_meta_reader.specs.Means.{PlainBatch, PlainHeader, schema, dictionary, batch, PlainMessage}
use Rattle.arrow_meta_tree.specs.Within.{text_bytes}
use Rattle.arrow_meta_writer.specs.Written.{message_tree}

-- a number that fits into 64 bits with a sign
abbrev pub IsLong : ℤ → Type 0
IsLong (pos n) = n < 2 ^ 63
IsLong (negsuc n) = n < 2 ^ 63

-- the name of a type's time zone is a text
abbrev pub HasTextZone : TypeId → Type 0
HasTextZone (tags.timestamp unit (Some zone)) = is_utf8 zone ≡ true
HasTextZone _ = Unit {0}

-- an encoding's id is a number of 64 bits
abbrev pub HasLongId : Option Encoding → Type 0
HasLongId None = Unit {0}
HasLongId (Some e) = IsLong e.id

-- a type with as many children as it can have
abbrev pub HasItsChildren : FieldHeader → FieldTree → Type 0
HasItsChildren head children = children_fit (type_code (tag_code head.tag)) (width children) ≡ true

-- a field: its name is a text, and its type has as many children as it can have
pub record IsField (head : FieldHeader) (children : FieldTree) : Type 0 where
  pub name : is_utf8 head.name ≡ true
  pub zone : HasTextZone head.tag
  pub id : HasLongId head.encoding
  pub fits : HasItsChildren head children

-- the same for fields on all levels
abbrev pub AreFields : FieldTree → Type 0
AreFields columns.none = Unit {0}
AreFields (columns.more head children rest) = IsField head children × AreFields children × AreFields rest

-- The custom metadata has the shape of the fields: an entry for each of them, on each level.
abbrev pub AreNotesOf : FieldTree → Notes → Type 0
AreNotesOf columns.none unnoted = Unit {0}
AreNotesOf columns.none (noted ps below later) = ⊥
AreNotesOf (columns.more head children rest) unnoted = ⊥
AreNotesOf (columns.more head children rest) (noted ps below later) = AreNotesOf children below × AreNotesOf rest later

-- fields with their custom metadata
pub record AreNotedFields (fields : FieldTree) (n : Notes) : Type 0 where
  pub fields_are : AreFields fields
  pub notes_are : AreNotesOf fields n

-- field nodes of 64-bit numbers
abbrev pub AreNodes : List FieldNode → Type 0
AreNodes [] = Unit {0}
AreNodes (n ∷ ns) = IsLong n.length × IsLong n.null_count × AreNodes ns

-- buffers of 64-bit numbers
abbrev pub AreBuffers : List Buffer → Type 0
AreBuffers [] = Unit {0}
AreBuffers (b ∷ bs) = IsLong b.offset × IsLong b.length × AreBuffers bs

-- a record batch of 64-bit numbers
pub record IsBatch (b : PlainBatch) : Type 0 where
  pub length : IsLong b.length
  pub nodes : AreNodes b.nodes
  pub buffers : AreBuffers b.buffers

-- a header that the program can hold
abbrev pub IsHeader : PlainHeader → Type 0
IsHeader (schema s) = IsNoted s × AreNotedFields s.fields s.notes
IsHeader (dictionary id delta b) = IsLong id × IsBatch b
IsHeader (batch b) = IsBatch b

-- whether a set leaves out the type of a field of a schema, on any level; other messages have no fields
abbrev pub leaves_header_out : TypeSet → PlainHeader → Bool
leaves_header_out types (schema s) = leaves_some_out types s.fields
leaves_header_out types (dictionary id delta b) = false
leaves_header_out types (batch b) = false

-- The limits that a message has to keep to, so that a reader with them accepts it.
pub record Allows (limits : LimitNumbers) (m : PlainMessage) : Type 0 where
  pub text : text_bytes (message_tree limits.types m) ≤ limits.max_metadata
  pub body : m.body_len ≤ limits.max_body
  pub types : leaves_header_out limits.types m.header ≡ false
