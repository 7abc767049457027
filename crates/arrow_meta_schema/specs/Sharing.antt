-- The dictionaries of the fields of a schema, as they are in the tree.
use Rattle.std.specs.Prelude.{◌≡◌, List, map}
use Rattle.std.specs.Option.{unwrap_or}
use Rattle.arrow_types.specs.DataType.{TypeId}
use Rattle.arrow_types.specs.Field.{FieldTree, more, TypeShape}
use Rattle.arrow_types.specs.Schema.{DictionaryField}
use Rattle.arrow_meta_tree.specs.declared.codes.TypeCode.{TypeCode}
use Rattle.arrow_meta_tree.specs.declared.codes.TypeCode.TheVariants as codes
use Rattle.arrow_meta_schema.specs.declared.dictionary_types.EncodedField.{EncodedField}
use Rattle.arrow_meta_tree.specs.Types.{type_code}
use Rattle.arrow_meta_tree.specs.Parts.{nth, parts, number_at, flag_at, text_in}
use Rattle.arrow_meta_schema.specs.SchemaMeaning.{encoding_in, fields_at, fields_from, head_of, tag_by}
use Rattle.arrow_meta_tree.specs.Trees.{Trees}
use Rattle.arrow_meta_tree.specs.Views.{plain_all}
use Rattle.arrow_meta_tree.specs.Slots as slots

-- The fields begin with that of a Field table, which these tables follow.
abbrev pub BeginsWith : FieldTree → Trees → Trees → Type 0
BeginsWith fields xs rest = fields ≡ more (head_of xs) (fields_at slots.field_children xs) (fields_from rest)

-- Two Field tables with these fields have the same name, nullability and encoding.
abbrev pub AreLabelledAlike : Trees → Trees → Type 0
AreLabelledAlike xs ys =
    (text_in (nth slots.field_name xs) ≡ text_in (nth slots.field_name ys)) ×
    (flag_at slots.field_nullable xs ≡ flag_at slots.field_nullable ys) ×
    (encoding_in (nth slots.field_dictionary xs) ≡ encoding_in (nth slots.field_dictionary ys))

-- The type that a Field table with these fields names. One outside the profile is read as Null.
abbrev pub code_in : Trees → TypeCode
code_in xs = unwrap_or (type_code (number_at slots.field_type_type 0 xs)) codes.Null

-- the tag of its type: the type without its children
abbrev pub tag_of : Trees → TypeId
tag_of xs = tag_by (type_code (number_at slots.field_type_type 0 xs)) (parts (nth slots.field_type xs))

-- its type, with all levels below it
abbrev pub type_of : Trees → TypeShape
type_of xs = record { tag = tag_of xs; children = fields_at slots.field_children xs }

-- the dictionary of a dictionary-encoded field that the program found
abbrev pub encoded_view : EncodedField → DictionaryField
encoded_view e = record { id = e.id; value_type = type_of (plain_all e.parts.now) }

-- the dictionaries of a list of such fields
abbrev pub encoded_views : List EncodedField → List DictionaryField
encoded_views es = map encoded_view es
