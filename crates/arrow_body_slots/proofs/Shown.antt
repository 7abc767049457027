-- The accessors of a slot return what is stored of its value.
use Rattle.std.proofs.Common.{◌≡◌, ◌-◌, ℕ, List, [], length, false, refl, ap, ◌∙◌}
use Rattle.std.specs.Prelude.{pos, unwrap_or, None, Some}
use Rattle.arrow_data.specs.Column.{Column, HasItems, values_from}
use Rattle.arrow_layout.specs.PlainValue.{PlainValue, null_value, bool_value, int_value, binary_value, utf8_value, list_value, struct_value, value_at, bool_in, int_in, binary_in, utf8_in, items_in}
use Rattle.arrow_data.proofs.Sameness.{length-values_from}
use Rattle.arrow_data.proofs.Lists.{list_again}
use Rattle.arrow_body_laws.specs.Raws.{bytes_in_value, items_in_value, number_in, truth_in}

-- the truth value of a slot, false if it has none
pub truth_or : (v : PlainValue) → unwrap_or (bool_in v) false ≡ truth_in v
truth_or null_value = refl
truth_or (bool_value b) = refl
truth_or (int_value z) = refl
truth_or (binary_value b) = refl
truth_or (utf8_value b) = refl
truth_or (list_value b) = refl
truth_or (struct_value b) = refl

-- the number of a slot, 0 if it has none
pub number_or : (v : PlainValue) → unwrap_or (int_in v) (pos 0) ≡ number_in v
number_or null_value = refl
number_or (bool_value b) = refl
number_or (int_value z) = refl
number_or (binary_value b) = refl
number_or (utf8_value b) = refl
number_or (list_value b) = refl
number_or (struct_value b) = refl

-- a byte string is its bytes
pub of_binary : (v : PlainValue) (bytes : List ℕ) → binary_in v ≡ Some bytes → bytes_in_value v ≡ bytes
of_binary null_value bytes e = cc
of_binary (bool_value b) bytes e = cc
of_binary (int_value z) bytes e = cc
of_binary (binary_value b) bytes e = cc
of_binary (utf8_value b) bytes e = cc
of_binary (list_value b) bytes e = cc
of_binary (struct_value b) bytes e = cc

-- so is a text
pub of_text : (v : PlainValue) (bytes : List ℕ) → utf8_in v ≡ Some bytes → bytes_in_value v ≡ bytes
of_text null_value bytes e = cc
of_text (bool_value b) bytes e = cc
of_text (int_value z) bytes e = cc
of_text (binary_value b) bytes e = cc
of_text (utf8_value b) bytes e = cc
of_text (list_value b) bytes e = cc
of_text (struct_value b) bytes e = cc

-- any other value has no bytes
pub of_neither : (v : PlainValue) → binary_in v ≡ None → utf8_in v ≡ None → bytes_in_value v ≡ []
of_neither null_value e f = refl
of_neither (bool_value b) e f = refl
of_neither (int_value z) e f = refl
of_neither (binary_value b) e f = cc
of_neither (utf8_value b) e f = cc
of_neither (list_value b) e f = refl
of_neither (struct_value b) e f = refl

-- the items of a slot are the child's slots from the first up to the end
pub items_are : (n : ℕ) (c : Column) (i start end : ℕ) (child : Column) → HasItems c i start end child → items_in_value n (value_at c.raw i) ≡ values_from child.raw start end
items_are n c i start end child h = ap (items_in_value n) h.same ∙ list_again (values_from child.raw start end)

-- the number of items is the number of those slots
pub span_is : (c : Column) (i start end : ℕ) (child : Column) → HasItems c i start end child → length (items_in_value 0 (value_at c.raw i)) ≡ end - start
span_is c i start end child h = ap length (items_are 0 c i start end child h) ∙ length-values_from child.raw start end h.inside

-- a value that is not a list has no items
pub no_items : (v : PlainValue) → items_in v ≡ None → items_in_value 0 v ≡ []
no_items null_value e = refl
no_items (bool_value b) e = refl
no_items (int_value z) e = refl
no_items (binary_value b) e = refl
no_items (utf8_value b) e = refl
no_items (list_value b) e = cc
no_items (struct_value b) e = refl

pub ruleset shown = (truth_or, number_or, of_binary, of_text, of_neither)
