-- A column that is being built, as contracts see it.
use Rattle.std.specs.Prelude.{◌≡◌, ◌≤◌, ◌+◌, ℕ, false, List, [], ◌∷◌, ◌++◌, length, map, replicate, take, Option, None, Some, refl}
use Rattle.std.specs.Coded.{Coded, code_by, coded×, coded_list}
use Rattle.std.specs.List.{AllByRecursion}
use Rattle.arrow_types.specs.Field.{FieldTree, FieldShape, fields_of, levels}
use Rattle.arrow_types.specs.Schema.{has_encoding}
use Rattle.arrow_types.specs.Stored.{field_code}
use Rattle.arrow_types.specs.declared.field.Encoding.{Encoding}
use Rattle.arrow_layout.specs.PlainValue.{PlainValue, PlainValues, null_value, bool_value, int_value, binary_value, utf8_value, list_of_values, list_value, struct_value, no_values, field_value}
use Rattle.arrow_layout.specs.Stored.{value_code}
use Rattle.arrow_layout.specs.declared.form.ListForm.{ListForm}
use Rattle.arrow_layout.specs.declared.form.ListForm.TheVariants as lists

-- the field, and the raw values so far
pub record Built : Type 0 where
  pub field : FieldShape
  pub raw : List PlainValue

-- how the logic stores these
abbrev pub built_code : Coded Built
built_code = code_by (FieldShape × List PlainValue) (coded× field_code (coded_list value_code))
    (λ b. (b.field, b.raw)) (λ p. record { field = p.0; raw = p.1 }) (λ _. refl)

-- a column is larger than those of its children
abbrev pub built_size : Built → ℕ
built_size b = levels b.field.children

-- no values yet
abbrev pub no_values_of : FieldShape → Built
no_values_of field = record { field = field; raw = [] }

-- one more value
abbrev pub with_value : Built → PlainValue → Built
with_value b value = record { field = b.field; raw = b.raw ++ value ∷ [] }

-- some more values
abbrev pub with_values : Built → List PlainValue → Built
with_values b values = record { field = b.field; raw = b.raw ++ values }

-- only the first values
abbrev pub cut_to : ℕ → Built → Built
cut_to at b = record { field = b.field; raw = take at b.raw }

-- each column has its part of the value after its first `at` values; the first column is that of field k
abbrev pub with_parts : ℕ → ℕ → List Built → PlainValue → List Built
with_parts k at [] value = []
with_parts k at (b ∷ bs) value = with_value (cut_to at b) (field_value k value) ∷ with_parts (k + 1) at bs value

-- the fields of the columns, side by side
abbrev pub fields_in : List Built → FieldTree
fields_in bs = fields_of (map (λ (b : Built). b.field) bs)

-- the raw values of each column
abbrev pub raws_in : List Built → List (List PlainValue)
raws_in bs = map (λ (b : Built). b.raw) bs

-- how many values each column has
abbrev pub counts_in : List Built → List ℕ
counts_in bs = map (λ (b : Built). length b.raw) bs

-- the columns are those of the child fields; a dictionary-encoded field has none, and no encoding below it
abbrev pub AreBelow : Option Encoding → FieldTree → List Built → Type 0
AreBelow None fields bs = fields_in bs ≡ fields
AreBelow (Some e) fields bs = (has_encoding fields ≡ false) × (bs ≡ [])

-- each column has the first `at` slots
abbrev pub HaveSlots : ℕ → List Built → Type 0
HaveSlots at bs = AllByRecursion (λ (b : Built). at ≤ length b.raw) bs

-- the items of a list, none of any other value
abbrev pub items_of : PlainValue → PlainValues
items_of null_value = no_values
items_of (bool_value b) = no_values
items_of (int_value z) = no_values
items_of (binary_value bytes) = no_values
items_of (utf8_value bytes) = no_values
items_of (list_value items) = items
items_of (struct_value parts) = no_values

-- The items of a fixed-size list, and as many nulls for a null: the child has slots for it too (Columnar Format,
-- "Fixed-Size List Layout"). As many nulls also for any other value, which does not belong to such a column.
abbrev pub sized_items : ℕ → PlainValue → List PlainValue
sized_items size null_value = replicate size null_value
sized_items size (bool_value b) = replicate size null_value
sized_items size (int_value z) = replicate size null_value
sized_items size (binary_value bytes) = replicate size null_value
sized_items size (utf8_value bytes) = replicate size null_value
sized_items size (list_value items) = list_of_values items
sized_items size (struct_value parts) = replicate size null_value

-- what a value of a node of lists contributes to the child: its items; for a null none if offsets are stored
abbrev pub given_items : ListForm → PlainValue → List PlainValue
given_items (lists.Offsets width) value = list_of_values (items_of value)
given_items (lists.Fixed size) value = sized_items size value
