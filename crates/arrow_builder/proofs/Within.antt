-- Columns that exceed no limit.
use Rattle.std.proofs.Common.{◌≡◌, ℕ, zero, suc, ◌+◌, ◌*◌, ◌≤◌, List, [], ◌∷◌, ◌++◌, length, replicate, subst, arith, length-append}
use Rattle.std.proofs.lemmas.List.{length-replicate}
use Rattle.arrow_types.specs.Field.{FieldTree, FieldShape, none, more}
use Rattle.arrow_layout.specs.Form.{node_form}
use Rattle.arrow_layout.specs.PlainValue.{PlainValue, null_value}
use Rattle.arrow_layout.specs.declared.form.Form.{Form}
use Rattle.arrow_layout.specs.declared.form.Form.TheVariants as forms
use Rattle.arrow_layout.specs.declared.form.OffsetWidth.TheVariants.{Small, Large}
use Rattle.arrow_builder.specs.Columns.{AllBelow, AllNodes, child_column}
use Rattle.arrow_builder.specs.Fields.{field_form}
use Rattle.arrow_builder.specs.Tally.{IsTotal}
use Rattle.arrow_builder.specs.Within.{IsShort, IsShortNode, data_bytes, most_bytes, slot_bytes}
use Rattle.arrow_builder.specs.declared.tally.Total.{Total}
use Rattle.arrow_builder.proofs.Held.{column_append}

-- the data of more values
pub data_append : (form : Form) (xs ys : List PlainValue) → data_bytes form (xs ++ ys) ≡ data_bytes form xs + data_bytes form ys
data_append form [] ys = omega arith
data_append form (x ∷ xs) ys = omega (arith, data_append form xs ys)

-- the first values exceed no limit if all of them exceed none
short_front : (form : Form) (xs ys : List PlainValue) → IsShort form (xs ++ ys) → IsShort form xs
short_front form xs ys h = record {
  few = omega (arith, h.few, length-append xs ys);
  near = omega (arith, h.near, data_append form xs ys);
}

-- nor do they in the columns below
below_front : (form : Form) (fields : FieldTree) (k : ℕ) (xs ys : List PlainValue) → AllBelow IsShortNode form fields k (xs ++ ys) → AllBelow IsShortNode form fields k xs
below_front form none k xs ys h = tt
below_front form (more head children rest) k xs ys h =
    let is = column_append form k xs ys in
    let own = node_form head.tag head.encoding in (
      short_front own (child_column form k xs) (child_column form k ys) (subst (IsShort own) is h.0),
      below_front own children 0 (child_column form k xs) (child_column form k ys) (subst (AllBelow IsShortNode own children 0) is h.1),
      below_front form rest (k + 1) xs ys h.2,
    )

-- nor do they in the column or any below it
pub nodes_front : (field : FieldShape) (xs ys : List PlainValue) → AllNodes IsShortNode field (xs ++ ys) → AllNodes IsShortNode field xs
nodes_front field xs ys h = (short_front (field_form field) xs ys h.0, below_front (field_form field) field.children 0 xs ys h.1)

-- no values exceed no limit
pub short_none : (form : Form) → IsShort form []
short_none form = record { few = omega arith; near = omega arith }

-- the total with one more value
pub total_more : (form : Form) (raw : List PlainValue) (value : PlainValue) (total : Total) (bytes : ℕ) → IsTotal form raw total
    → bytes ≡ total.bytes + slot_bytes form value → (total.slots + 1 ≤ 2147483647) × (bytes ≤ most_bytes form)
    → (total.slots + 1 ≡ length (raw ++ value ∷ [])) × (bytes ≡ data_bytes form (raw ++ value ∷ [])) × IsShort form (raw ++ value ∷ [])
total_more form raw value total bytes h is short =
    let slots : total.slots + 1 ≡ length (raw ++ value ∷ []) = omega (arith, h.slots, length-append raw (value ∷ [])) in
    let heavy : bytes ≡ data_bytes form (raw ++ value ∷ []) = omega (arith, h.bytes, is, data_append form raw (value ∷ [])) in
    (slots, heavy, record { few = omega (arith, slots, short.0); near = omega (arith, heavy, short.1) })

-- if these are too many slots or bytes, a limit is exceeded
pub total_past : (form : Form) (raw : List PlainValue) (value : PlainValue) (total : Total) → IsTotal form raw total
    → ((total.slots + 1 ≤ 2147483647) × (total.bytes + slot_bytes form value ≤ most_bytes form) → ⊥) → IsShort form (raw ++ value ∷ []) → ⊥
total_past form raw value total h long short = long (
  omega (arith, h.slots, short.few, length-append raw (value ∷ [])),
  omega (arith, h.bytes, short.near, data_append form raw (value ∷ [])),
)

-- no column has more bytes of data than this
pub most_low : (form : Form) → most_bytes form ≤ 1099511627776
most_low forms.Nulls = omega arith
most_low forms.Bits = omega arith
most_low (forms.Numbers number) = omega arith
most_low (forms.Bytes Small) = omega arith
most_low (forms.Bytes Large) = omega arith
most_low (forms.Texts Small) = omega arith
most_low (forms.Texts Large) = omega arith
most_low (forms.FixedBytes width) = omega arith
most_low (forms.Lists list) = omega arith
most_low forms.Structs = omega arith

-- the data of nulls
data_of_nulls : (form : Form) (count : ℕ) → data_bytes form (replicate count null_value) ≡ slot_bytes form null_value * count
data_of_nulls form zero = omega arith
data_of_nulls form (suc count) =
    let steps : slot_bytes form null_value * suc count ≡ slot_bytes form null_value + slot_bytes form null_value * count = grind arith in
    omega (arith, steps, data_of_nulls form count)

-- the total with nulls
pub total_nulls : (form : Form) (raw : List PlainValue) (count : ℕ) (total : Total) → IsTotal form raw total
    → (total.slots + count ≡ length (raw ++ replicate count null_value)) × (total.bytes + slot_bytes form null_value * count ≡ data_bytes form (raw ++ replicate count null_value))
total_nulls form raw count total h = (
  omega (arith, h.slots, length-append raw (replicate count null_value), length-replicate count null_value),
  omega (arith, h.bytes, data_append form raw (replicate count null_value), data_of_nulls form count),
)
