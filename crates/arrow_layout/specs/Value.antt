-- The plain value of a `Value`, level by level.
use Rattle.std.specs.Prelude.{List, map, string_bytes}
use Rattle.arrow_layout.specs.PlainValue.{PlainValue, null_value, bool_value, int_value, binary_value, utf8_value, list_value, struct_value, values_of}
use Rattle.arrow_layout.specs.declared.value.Value.{Value, fold-Value}
use Rattle.arrow_layout.specs.declared.value.Value.TheOpen.{Value-F}

-- one level of a value whose items are plain already
abbrev pub value_step : Value-F PlainValue → PlainValue
value_step Value-F.Null = null_value
value_step (Value-F.Bool b) = bool_value b
value_step (Value-F.Int z) = int_value z
value_step (Value-F.Bytes bytes) = binary_value bytes.items
value_step (Value-F.Text text) = utf8_value (string_bytes text)
value_step (Value-F.List values) = list_value (values_of values.items)
value_step (Value-F.Struct values) = struct_value (values_of values.items)

-- the plain value of a value
abbrev pub value_view : Value → PlainValue
value_view = fold-Value PlainValue value_step

-- the plain value of each of them, in their order
abbrev pub values_view : List Value → List PlainValue
values_view values = map value_view values
