-- A schema and its fields as a caller gets them (Arrow C data interface, "The ArrowSchema structure").
use Rattle.std.specs.Prelude.{◌≡◌, ℕ, zero, suc, pos, ◌+◌, Bool, true, false, if◌then◌else◌, List, [], ◌∷◌, ◌++◌, length, flat_map, Option, Some, None, MatchOption}
use Rattle.arrow_bits.specs.Numbers.{number_bytes}
use Rattle.arrow_types.specs.DataType.{TypeId, int, map, struct}
use Rattle.arrow_types.specs.Field.{FieldHeader, FieldTree, none, more, FieldShape, width}
use Rattle.arrow_types.specs.Notes.{KeyValue, Notes, unnoted, noted, FieldNotes, SchemaShape}
use Rattle.arrow_types.specs.View.{field_notes, field_view}
use Rattle.arrow_types.specs.declared.field.Encoding.{Encoding}
use Rattle.arrow_types.specs.declared.field.Field.{Field}
use Rattle.arrowflow_calls.specs.declared.fields.FieldC.{FieldC}
use Rattle.arrowflow_calls.specs.declared.places.Place.{Place}
use Rattle.arrowflow_calls.specs.declared.places.Place.TheVariants as places
use Rattle.arrowflow_calls.specs.declared.reading.Reading.{Reading}
use Rattle.arrowflow_calls.specs.Survey.{reported}
use Rattle.arrowflow_calls.specs.Texts.{filled}
use Rattle.arrowflow_text.specs.TypeWords.{format_of}

-- a field with its metadata and the fields below it
pub record NotedField : Type 0 where
  pub shape : FieldShape
  pub notes : FieldNotes

-- The schema as a field whose children are its columns ("an ArrowSchema of struct type").
abbrev pub schema_field : SchemaShape → NotedField
schema_field s = record {
  shape = record { head = record { name = []; nullable = false; tag = struct; encoding = None }; children = s.fields };
  notes = record { pairs = s.pairs; below = s.notes };
}

-- the field of a dictionary's values: without a name or metadata, and nullable
abbrev pub values_field : NotedField → NotedField
values_field f = record {
  shape = record { head = record { name = []; nullable = true; tag = f.shape.head.tag; encoding = None }; children = f.shape.children };
  notes = record { pairs = []; below = f.notes.below };
}

-- field n of some sibling fields
abbrev pub nth_field : FieldTree → Notes → ℕ → Option NotedField
nth_field none notes n = None
nth_field (more head children rest) unnoted n = None
nth_field (more head children rest) (noted pairs below notes) zero =
    Some (record { shape = record { head = head; children = children }; notes = record { pairs = pairs; below = below } })
nth_field (more head children rest) (noted pairs below notes) (suc n) = nth_field rest notes n

-- The field below a field by its number: a child; below one of indices, under 0, that of the dictionary's values.
abbrev pub below_by : Option Encoding → NotedField → ℕ → Option NotedField
below_by None f n = nth_field f.shape.children f.notes.below n
below_by (Some encoding) f zero = Some (values_field f)
below_by (Some encoding) f (suc n) = None

-- the field that a path leads to, if there is one
abbrev pub field_below : NotedField → List ℕ → Option NotedField
field_below f [] = Some f
field_below f (n ∷ path) = elim (below_by f.shape.head.encoding f n) [ None ↦ None | Some g ↦ field_below g path ]

-- a field of the program
abbrev pub noted_field : Field → NotedField
noted_field f = record { shape = field_view f; notes = field_notes f }

-- the field that a `Place` of the program refers to: the schema, a field, or the field of a field's dictionary
abbrev pub field_in : Place → NotedField
field_in (places.Schema s) = schema_field s.now
field_in (places.Field f) = noted_field f.now
field_in (places.Values f) = values_field (noted_field f.now)

-- a flag's number if the flag is set, else 0 ("ArrowSchema.flags")
abbrev pub flag : Bool → ℕ → ℕ
flag set n = if set then n else 0

-- whether the order of a dictionary's values is meaningful
abbrev pub is_ordered : Option Encoding → Bool
is_ordered None = false
is_ordered (Some e) = e.ordered

-- whether a type is that of maps with sorted keys
abbrev pub is_sorted_map : TypeId → Bool
is_sorted_map (map sorted) = sorted
is_sorted_map _ = false

-- whether slots are maps with sorted keys, and not indices
abbrev pub has_sorted_keys : Option Encoding → TypeId → Bool
has_sorted_keys None tag = is_sorted_map tag
has_sorted_keys (Some e) tag = false

-- ARROW_FLAG_DICTIONARY_ORDERED 1, ARROW_FLAG_NULLABLE 2, ARROW_FLAG_MAP_KEYS_SORTED 4
abbrev pub flags_of : FieldHeader → ℕ
flags_of h = flag (is_ordered h.encoding) 1 + flag h.nullable 2 + flag (has_sorted_keys h.encoding h.tag) 4

-- the format string of a field; for a field that holds indices, that of the index type
abbrev pub field_format : FieldHeader → List ℕ
field_format h = elim (h.encoding) [ None ↦ format_of h.tag | Some e ↦ format_of (int e.index.bits e.index.signed) ]

-- bytes after their count ("ArrowSchema.metadata": 32-bit lengths; here the lowest 32 bits of a larger number)
abbrev pub counted : List ℕ → List ℕ
counted bytes = number_bytes 4 (length bytes) ++ bytes

-- a pair: its key and its value
abbrev pub pair_bytes : KeyValue → List ℕ
pair_bytes p = counted p.key ++ counted p.value

-- metadata: the number of pairs, and each pair; no bytes if there are no pairs ("ArrowSchema.metadata")
abbrev pub metadata_bytes : List KeyValue → List ℕ
metadata_bytes [] = []
metadata_bytes (p ∷ ps) = number_bytes 4 (length (p ∷ ps)) ++ flat_map pair_bytes (p ∷ ps)

-- the texts of a field, one after another
abbrev pub texts_of : NotedField → List ℕ
texts_of f = f.shape.head.name ++ field_format f.shape.head ++ metadata_bytes f.notes.pairs

-- no field
abbrev pub no_field : FieldC
no_field = record { found = 0; flags = 0; is_encoded = false; id = pos 0; children = 0; name_len = 0; format_len = 0; metadata_len = 0 }

-- with the id of an encoding
abbrev pub with_encoding : Option Encoding → FieldC → FieldC
with_encoding None c = c
with_encoding (Some e) c = record c { is_encoded = true; id = e.id; children = 0 }

-- The struct of a field: a field that holds indices has no children; those are below its dictionary's values.
abbrev pub field_reported : ℕ → NotedField → FieldC
field_reported found f = with_encoding f.shape.head.encoding (record {
  found = found;
  flags = flags_of f.shape.head;
  is_encoded = false;
  id = pos 0;
  children = width f.shape.children;
  name_len = reported (length f.shape.head.name);
  format_len = reported (length (field_format f.shape.head));
  metadata_len = reported (length (metadata_bytes f.notes.pairs));
})

-- 1 the schema, 2 a field
abbrev pub found_by : List ℕ → ℕ
found_by [] = 1
found_by (n ∷ path) = 2

-- A field was returned, and its texts were put into the output buffer, as much of their beginning as fits.
pub record ReportsField (found : ℕ) (f : NotedField) (old : List ℕ) (c : FieldC) (new : List ℕ) : Type 0 where
  pub stated : c ≡ field_reported found f
  pub room : new ≡ filled old (texts_of f)

-- no field was returned
abbrev pub ReportsNone : List ℕ → FieldC → List ℕ → Type 0
ReportsNone old c new = (c ≡ no_field) × (new ≡ old)

-- the field of a schema that a path leads to was returned, if there are such a schema and field
abbrev pub FieldAt : Option SchemaShape → List ℕ → List ℕ → FieldC → List ℕ → Type 0
FieldAt None path old c new = ReportsNone old c new
FieldAt (Some s) path old c new = MatchOption (field_below (schema_field s) path) (ReportsNone old c new) (λ f. ReportsField (found_by path) f old c new)

-- the same for the schema of a reader, if there is a reader, which is unchanged
abbrev pub FieldIf : Option Reading → List ℕ → List ℕ → FieldC → List ℕ → Option Reading → Type 0
FieldIf None path old c new after = ReportsNone old c new × (after ≡ None)
FieldIf (Some r) path old c new after = FieldAt r.reader.at.state.schema path old c new × (after ≡ Some r)
