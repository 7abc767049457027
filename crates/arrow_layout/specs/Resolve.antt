-- What raw values are once indices are looked up (Columnar Format, "Dictionary-encoded Layout").
use Rattle.std.specs.Prelude.{ℤ, pos, negsuc, List, Option, Some, None, option_map, slice_get}
use Rattle.arrow_types.specs.Field.{FieldTree, none, more}
use Rattle.arrow_types.specs.declared.field.Encoding.{Encoding}
use Rattle.arrow_layout.specs.PlainValue.{PlainValue, PlainValues, null_value, bool_value, int_value, binary_value, utf8_value, list_value, struct_value, no_values, more_values}

-- the value that an index refers to, if there is one
abbrev pub entry_of : List PlainValue → ℤ → Option PlainValue
entry_of values (pos n) = slice_get values n
entry_of values (negsuc n) = None

-- a value before others, if all are there
abbrev pub before : Option PlainValue → Option PlainValues → Option PlainValues
before None values = None
before (Some value) None = None
before (Some value) (Some values) = Some (more_values value values)

abbrev mutual
  -- The value that a raw value of a field with this encoding and these children resolves to, by the dictionaries of
  -- all ids. At a dictionary-encoded field an index resolves to its entry; lists and structs resolve to what their
  -- values resolve to; any other value resolves to itself. None if an index has no entry.
  pub resolve : Option Encoding → FieldTree → (ℤ → List PlainValue) → PlainValue → Option PlainValue
  resolve e children dictionaries null_value = Some null_value
  resolve e children dictionaries (bool_value b) = Some (bool_value b)
  resolve None children dictionaries (int_value z) = Some (int_value z)
  resolve (Some e) children dictionaries (int_value z) = entry_of (dictionaries e.id) z
  resolve e children dictionaries (binary_value bytes) = Some (binary_value bytes)
  resolve e children dictionaries (utf8_value bytes) = Some (utf8_value bytes)
  resolve e children dictionaries (list_value items) = option_map list_value (resolve_items children dictionaries items)
  resolve e children dictionaries (struct_value parts) = option_map struct_value (resolve_parts children dictionaries parts)

  -- the items of a list, by its one child field
  pub resolve_items : FieldTree → (ℤ → List PlainValue) → PlainValues → Option PlainValues
  resolve_items children dictionaries no_values = Some no_values
  resolve_items none dictionaries (more_values value others) = None
  resolve_items (more head children rest) dictionaries (more_values value others) =
      before (resolve head.encoding children dictionaries value) (resolve_items (more head children rest) dictionaries others)

  -- the values of a struct, each by its field
  pub resolve_parts : FieldTree → (ℤ → List PlainValue) → PlainValues → Option PlainValues
  resolve_parts fields dictionaries no_values = Some no_values
  resolve_parts none dictionaries (more_values value others) = None
  resolve_parts (more head children rest) dictionaries (more_values value others) =
      before (resolve head.encoding children dictionaries value) (resolve_parts rest dictionaries others)
