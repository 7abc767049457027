-- The origin of the raw values of a column.
use Rattle.std.specs.Prelude.{◌<◌, ℕ, drop, map, ⊤}
use Rattle.std.specs.List.{flat_map}
use Rattle.arrow_types.specs.Field.{width}
use Rattle.arrow_data.specs.Column.{Column, IsList, IsStruct, ValueList, plain_column, type_of_field}
use Rattle.arrow_layout.specs.PlainValue.{field_value}
use Rattle.arrow_body_laws.specs.Raws.{items_in_value}
use Rattle.arrow_body_writer.specs.Sent.{column_by}
use Rattle.arrow_body_writer.specs.declared.source.ColumnSource.{ColumnSource, Slots, Rest, Items', Field'}

-- the column without an encoding whose slots hold the values of a dictionary from an index on (Message.fbs, table
-- "DictionaryBatch")
abbrev pub rest_of : ValueList → ℕ → Column
rest_of d from = plain_column d.data_type (drop from d.values)

-- the column of a source: the items of lists, with n nulls under a null, or one of the fields of structs (Columnar
-- Format, "Variable-size List Layout", "Fixed-Size List Layout", "Struct Layout")
abbrev pub column_in : ColumnSource → Column
column_in (Slots array) = array.now
column_in (Rest dictionary from) = rest_of dictionary.now from
column_in (Items' n p lists) = column_by (type_of_field (column_in lists).data_type.children 0) (flat_map (items_in_value n) (column_in lists).raw)
column_in (Field' p structs k) = column_by (type_of_field (column_in structs).data_type.children k) (map (field_value k) (column_in structs).raw)

-- above items there are lists, above a field there are structs that have it
abbrev pub IsSource : ColumnSource → Type 0
IsSource (Slots array) = ⊤
IsSource (Rest dictionary from) = ⊤
IsSource (Items' n p lists) = IsSource lists × IsList (column_in lists) × (0 < width (column_in lists).data_type.children)
IsSource (Field' p structs k) = IsSource structs × IsStruct (column_in structs) × (k < width (column_in structs).data_type.children)
