-- When a raw value may be in a slot of a field (Columnar Format, "Physical Memory Layout"; Schema.fbs, union "Type").
use Rattle.std.specs.Prelude.{◌≡◌, ℕ, ℤ, List, length, ⊤, Option, None, IsUtf8}
use Rattle.std.specs.List.{AllByRecursion}
use Rattle.arrow_bits.specs.Numbers.{FitsInt}
use Rattle.arrow_types.specs.Field.{FieldTree, FieldHeader, none, more, TypeShape}
use Rattle.arrow_types.specs.declared.field.Encoding.{Encoding}
use Rattle.arrow_layout.specs.Form.{HoldsList, node_form, number_width, has_sign}
use Rattle.arrow_layout.specs.PlainValue.{PlainValue, PlainValues, null_value, bool_value, int_value, binary_value, utf8_value, list_of_values, list_value, struct_value, no_values, more_values}
use Rattle.arrow_layout.specs.declared.form.Form.{Form}
use Rattle.arrow_layout.specs.declared.form.Form.TheVariants as forms

-- the number lies in the range of the form's width and sign
abbrev pub HoldsInt : Form → ℤ → Type 0
HoldsInt forms.Nulls z = ⊥
HoldsInt forms.Bits z = ⊥
HoldsInt (forms.Numbers number) z = FitsInt (number_width number) (has_sign number) z
HoldsInt (forms.Bytes width) z = ⊥
HoldsInt (forms.Texts width) z = ⊥
HoldsInt (forms.FixedBytes width) z = ⊥
HoldsInt (forms.Lists list) z = ⊥
HoldsInt forms.Structs z = ⊥

-- the byte string has any length, or the length that the form requires
abbrev pub HoldsBinary : Form → List ℕ → Type 0
HoldsBinary forms.Nulls bytes = ⊥
HoldsBinary forms.Bits bytes = ⊥
HoldsBinary (forms.Numbers number) bytes = ⊥
HoldsBinary (forms.Bytes width) bytes = ⊤
HoldsBinary (forms.Texts width) bytes = ⊥
HoldsBinary (forms.FixedBytes width) bytes = length bytes ≡ width
HoldsBinary (forms.Lists list) bytes = ⊥
HoldsBinary forms.Structs bytes = ⊥

-- the bytes are a text
abbrev pub HoldsUtf8 : Form → List ℕ → Type 0
HoldsUtf8 forms.Nulls bytes = ⊥
HoldsUtf8 forms.Bits bytes = ⊥
HoldsUtf8 (forms.Numbers number) bytes = ⊥
HoldsUtf8 (forms.Bytes width) bytes = ⊥
HoldsUtf8 (forms.Texts width) bytes = IsUtf8 bytes
HoldsUtf8 (forms.FixedBytes width) bytes = ⊥
HoldsUtf8 (forms.Lists list) bytes = ⊥
HoldsUtf8 forms.Structs bytes = ⊥

abbrev mutual
  -- A raw value fits a node of this form with these fields below it, on every level: null fits every node, an index
  -- fits one of the index's width and sign.
  pub Fits : Form → FieldTree → PlainValue → Type 0
  Fits form children null_value = ⊤
  Fits form children (bool_value b) = form ≡ forms.Bits
  Fits form children (int_value z) = HoldsInt form z
  Fits form children (binary_value bytes) = HoldsBinary form bytes
  Fits form children (utf8_value bytes) = HoldsUtf8 form bytes
  Fits form children (list_value items) = HoldsList form (length (list_of_values items)) × ItemsFit children items
  Fits form children (struct_value parts) = (form ≡ forms.Structs) × PartsFit children parts

  -- the items of a list, by its one child field
  pub ItemsFit : FieldTree → PlainValues → Type 0
  ItemsFit children no_values = ⊤
  ItemsFit none (more_values value others) = ⊥
  ItemsFit (more head children rest) (more_values value others) = Fits (node_form head.tag head.encoding) children value × ItemsFit (more head children rest) others

  -- the values of a struct, one for each of its fields
  pub PartsFit : FieldTree → PlainValues → Type 0
  PartsFit none no_values = ⊤
  PartsFit none (more_values value others) = ⊥
  PartsFit (more head children rest) no_values = ⊥
  PartsFit (more head children rest) (more_values value others) = Fits (node_form head.tag head.encoding) children value × PartsFit rest others

-- a raw value of a column of this type and this encoding
abbrev pub FitsType : TypeShape → Option Encoding → PlainValue → Type 0
FitsType t e value = Fits (node_form t.tag e) t.children value

-- each of the raw values is one of a column of this type and this encoding
abbrev pub AllFit : TypeShape → Option Encoding → List PlainValue → Type 0
AllFit t e values = AllByRecursion (FitsType t e) values

-- a field whose values are not dictionary-encoded, otherwise as this one
abbrev pub plain_head : FieldHeader → FieldHeader
plain_head head = record { name = head.name; nullable = head.nullable; tag = head.tag; encoding = None }

-- the fields with no encoding on any level
abbrev pub plain_fields : FieldTree → FieldTree
plain_fields none = none
plain_fields (more head children rest) = more (plain_head head) (plain_fields children) (plain_fields rest)

-- the type of the values once each index is looked up (Columnar Format, "Dictionary-encoded Layout")
abbrev pub plain_type : TypeShape → TypeShape
plain_type t = record { tag = t.tag; children = plain_fields t.children }
