-- The JSON of a schema's columns, a line each (Schema.fbs, tables "Field", "DictionaryEncoding" and "KeyValue").
use Rattle.std.specs.Prelude.{ℕ, if◌then◌else◌, List, [], ◌∷◌, ◌++◌, Option, None, Some, codes, map, option_map}
use Rattle.std.specs.Borrow.{Bor}
use Rattle.std.specs.Fmt.{signed_decimal}
use Rattle.std.specs.List.{flat_map}
use Rattle.std.specs.Str.{is_utf8}
use Rattle.hex.specs.Hex.{encode_lower}
use Rattle.json.specs.Json.{Json, null, boolean, number, string, array, object}
use Rattle.json.specs.Value.{items_of}
use Rattle.arrow_types.specs.DataType.{int}
use Rattle.arrow_types.specs.Field.{FieldHeader, FieldTree, none, more}
use Rattle.arrow_types.specs.Notes.{KeyValue, Notes, unnoted, noted, SchemaShape}
use Rattle.arrow_types.specs.declared.field.Encoding.{Encoding}
use Rattle.arrow_json.specs.Lines.{line_of}
use Rattle.arrow_json.specs.Values.{members_of}
use Rattle.arrowflow_text.specs.TypeWords.{format_of, type_name, words_of}

-- the name of a file, if there is one
abbrev pub name_by : Option (Bor (List ℕ)) → Option (List ℕ)
name_by name = option_map (λ (n : Bor (List ℕ)). n.now) name

-- the first member of an object whose file has a name
abbrev pub in_file : Option (List ℕ) → List (List ℕ × Json)
in_file None = []
in_file (Some name) = (codes "file", string name) ∷ []

-- bytes as a string, or if they are not a text as an object with their hexadecimal digits
abbrev pub text_json : List ℕ → Json
text_json bytes = if is_utf8 bytes then string bytes else object (members_of ((codes "hex", string (encode_lower bytes)) ∷ []))

-- a pair of custom metadata
abbrev pub pair_json : KeyValue → Json
pair_json pair = object (members_of ((codes "key", text_json pair.key) ∷ (codes "value", text_json pair.value) ∷ []))

-- the dictionary of a column: its id, the name of the index type, and whether the order of its values is meaningful
abbrev pub dictionary_json : Option Encoding → Json
dictionary_json None = null
dictionary_json (Some e) = object (members_of (
    (codes "id", number (signed_decimal e.id))
    ∷ (codes "index", string (words_of (int e.index.bits e.index.signed)).name)
    ∷ (codes "ordered", boolean e.ordered) ∷ []))

-- The members of a field, from its head, its pairs and its children. The type, its format string and the children are
-- those of the values; for an encoded column, those of its dictionary.
abbrev pub field_members : FieldHeader → List KeyValue → List Json → List (List ℕ × Json)
field_members head pairs children =
    (codes "name", string head.name)
    ∷ (codes "type", string (type_name head.tag))
    ∷ (codes "format", string (format_of head.tag))
    ∷ (codes "nullable", boolean head.nullable)
    ∷ (codes "dictionary", dictionary_json head.encoding)
    ∷ (codes "metadata", array (items_of (map pair_json pairs)))
    ∷ (codes "children", array (items_of children)) ∷ []

-- a field, whose file may have a name
abbrev pub field_json : Option (List ℕ) → FieldHeader → List KeyValue → List Json → Json
field_json file head pairs children = object (members_of (in_file file ++ field_members head pairs children))

-- sibling fields, whose file may have a name
abbrev pub fields_json : Option (List ℕ) → FieldTree → Notes → List Json
fields_json file none notes = []
fields_json file (more head children rest) unnoted =
    field_json file head [] (fields_json None children unnoted) ∷ fields_json file rest unnoted
fields_json file (more head children rest) (noted pairs below others) =
    field_json file head pairs (fields_json None children below) ∷ fields_json file rest others

-- the lines of a schema's columns
abbrev pub schema_lines : Option (List ℕ) → SchemaShape → List ℕ
schema_lines file shape = flat_map line_of (fields_json file shape.fields shape.notes)
