-- The plain values of the program's types, fields and lists of fields, level by level.
use Rattle.std.specs.Prelude.{List, [], ◌∷◌, map, string_bytes, option_map}
use Rattle.arrow_types.specs.DataType.{TypeId}
use Rattle.arrow_types.specs.DataType as tags
use Rattle.arrow_types.specs.Field.{FieldTree, none, TypeShape, FieldShape, fields_of}
use Rattle.arrow_types.specs.Notes.{Notes, unnoted, FieldNotes, SchemaShape, KeyValue, notes_of, pairs_view}
use Rattle.arrow_types.specs.declared.field.DataType.{DataType, fold-DataType}
use Rattle.arrow_types.specs.declared.field.DataType.TheOpen.{DataType-F, Field-F}
use Rattle.arrow_types.specs.declared.field.Field.{Field, fold-Field}

-- a type that has no children
abbrev pub leaf : TypeId → TypeShape
leaf tag = record { tag = tag; children = none }

-- one level of a type, whose children are plain already
abbrev pub type_step : DataType-F TypeShape FieldShape → TypeShape
type_step DataType-F.Null = leaf tags.null
type_step DataType-F.Bool = leaf tags.boolean
type_step (DataType-F.Int bits signed) = leaf (tags.int bits signed)
type_step (DataType-F.FloatingPoint precision) = leaf (tags.floating_point precision)
type_step (DataType-F.Decimal width precision scale) = leaf (tags.decimal width precision scale)
type_step DataType-F.Binary = leaf tags.binary
type_step DataType-F.LargeBinary = leaf tags.large_binary
type_step (DataType-F.FixedSizeBinary width) = leaf (tags.fixed_size_binary width)
type_step DataType-F.Utf8 = leaf tags.utf8
type_step DataType-F.LargeUtf8 = leaf tags.large_utf8
type_step (DataType-F.Date unit) = leaf (tags.date unit)
type_step (DataType-F.Time unit) = leaf (tags.time unit)
type_step (DataType-F.Timestamp unit zone) = leaf (tags.timestamp unit (option_map string_bytes zone))
type_step (DataType-F.Duration unit) = leaf (tags.duration unit)
type_step (DataType-F.Interval unit) = leaf (tags.interval unit)
type_step (DataType-F.List item) = record { tag = tags.list; children = fields_of (item.value ∷ []) }
type_step (DataType-F.LargeList item) = record { tag = tags.large_list; children = fields_of (item.value ∷ []) }
type_step (DataType-F.FixedSizeList item size) = record { tag = tags.fixed_size_list size; children = fields_of (item.value ∷ []) }
type_step (DataType-F.Struct fields) = record { tag = tags.struct; children = fields_of fields.items }
type_step (DataType-F.Map entries sorted) = record { tag = tags.map sorted; children = fields_of (entries.value ∷ []) }

-- a field, whose type is plain already
abbrev pub field_step : Field-F TypeShape FieldShape → FieldShape
field_step f = record {
  head = record { name = string_bytes f.name; nullable = f.nullable; tag = f.data_type.tag; encoding = f.dictionary };
  children = f.data_type.children;
}

-- the plain value of a type, with all levels below it
abbrev pub type_view : DataType → TypeShape
type_view = fold-DataType TypeShape FieldShape type_step field_step

-- the plain value of one field, with all levels below it
abbrev pub field_view : Field → FieldShape
field_view = fold-Field TypeShape FieldShape type_step field_step

-- the plain values of some fields, as siblings
abbrev pub fields_view : List Field → FieldTree
fields_view fs = fields_of (map field_view fs)

-- the custom metadata below one level of a type, where those of the children are plain already
abbrev pub type_notes_step : DataType-F Notes FieldNotes → Notes
type_notes_step (DataType-F.List item) = notes_of (item.value ∷ [])
type_notes_step (DataType-F.LargeList item) = notes_of (item.value ∷ [])
type_notes_step (DataType-F.FixedSizeList item _) = notes_of (item.value ∷ [])
type_notes_step (DataType-F.Struct fields) = notes_of fields.items
type_notes_step (DataType-F.Map entries _) = notes_of (entries.value ∷ [])
type_notes_step _ = unnoted

-- the custom metadata of a field, and those below its type
abbrev pub field_notes_step : Field-F Notes FieldNotes → FieldNotes
field_notes_step f = record { pairs = pairs_view f.metadata.items; below = f.data_type }

-- the custom metadata of the fields below a type, on all levels
abbrev pub type_notes : DataType → Notes
type_notes = fold-DataType Notes FieldNotes type_notes_step field_notes_step

-- the custom metadata of one field, and of those below it
abbrev pub field_notes : Field → FieldNotes
field_notes = fold-Field Notes FieldNotes type_notes_step field_notes_step

-- the custom metadata of some fields, as siblings
abbrev pub notes_view : List Field → Notes
notes_view fs = notes_of (map field_notes fs)

-- a schema of these fields and pairs
abbrev pub schema_view : List Field → List KeyValue → SchemaShape
schema_view fs pairs = record { fields = fields_view fs; pairs = pairs; notes = notes_view fs }

-- everything that a type holds, including the custom metadata below it
abbrev pub whole_type : DataType → TypeShape × Notes
whole_type t = (type_view t, type_notes t)

-- everything that a field holds, including its custom metadata
abbrev pub whole_field : Field → FieldShape × FieldNotes
whole_field f = (field_view f, field_notes f)
