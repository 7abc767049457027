-- Fields as plain values, without their layout in memory (Schema.fbs, table "Field").
use Rattle.std.specs.Prelude.{ℕ, ◌+◌, max, Bool, List, [], ◌∷◌, Option, Some}
use Rattle.arrow_types.specs.DataType.{TypeId}
use Rattle.arrow_types.specs.declared.field.Encoding.{Encoding}

-- A field without its children. Its name is given as bytes.
pub record FieldHeader : Type 0 where
  pub name : List ℕ
  pub nullable : Bool
  pub tag : TypeId
  pub encoding : Option Encoding

-- Sibling fields: the first one's head and children, and the fields after it.
pub data FieldTree : Type 0 where
  none : FieldTree
  more : FieldHeader → FieldTree → FieldTree → FieldTree

-- a type: its tag, and the child fields
pub record TypeShape : Type 0 where
  pub tag : TypeId
  pub children : FieldTree

-- one field: its head, and the child fields
pub record FieldShape : Type 0 where
  pub head : FieldHeader
  pub children : FieldTree

-- the field with this name, nullability, encoding if it holds indices, and type
abbrev pub field_by : List ℕ → Bool → Option Encoding → TypeShape → FieldShape
field_by name nullable encoding type = record {
  head = record { name = name; nullable = nullable; tag = type.tag; encoding = encoding };
  children = type.children;
}

-- a field with this encoding and otherwise unchanged
abbrev pub encoded_by : Encoding → FieldShape → FieldShape
encoded_by encoding f = record {
  head = record { name = f.head.name; nullable = f.head.nullable; tag = f.head.tag; encoding = Some encoding };
  children = f.children;
}

-- the fields of a list, as siblings
abbrev pub fields_of : List FieldShape → FieldTree
fields_of [] = none
fields_of (f ∷ fs) = more f.head f.children (fields_of fs)

-- the number of sibling fields
abbrev pub width : FieldTree → ℕ
width none = 0
width (more head children rest) = width rest + 1

-- the number of levels, where a sibling field itself is level 1
abbrev pub levels : FieldTree → ℕ
levels none = 0
levels (more head children rest) = max (levels children + 1) (levels rest)

-- the number of levels of one field, including its own
abbrev pub field_levels : FieldShape → ℕ
field_levels f = levels f.children + 1

-- the number of fields on all levels
abbrev pub count : FieldTree → ℕ
count none = 0
count (more head children rest) = count children + 1 + count rest

-- the number of fields of one field and all below it
abbrev pub field_count : FieldShape → ℕ
field_count f = count f.children + 1
