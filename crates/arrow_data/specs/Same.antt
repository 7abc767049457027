-- How two slots are compared, and the measures by which the comparison ends.
use Rattle.std.specs.Prelude.{◌≡◌, ◌+◌, ◌*◌, ◌≤◌, ℕ, Bool, List, length, take}
use Rattle.std.specs.List.{AllByRecursion}
use denote.Param.Weighed.{most}
use Rattle.std.specs.Cmp.{IsPartialEquivalence, on_per, partial_equiv_from_equiv}
use Rattle.std.specs.Coded.{coded_list}
use Rattle.std.specs.Ordering.{on}
use Rattle.arrow_types.specs.Equality.{is_equal, is_equal_equivalence}
use Rattle.arrow_data.specs.Column.{Column, ValueList, column_size}
use Rattle.arrow_layout.specs.PlainValue.{PlainValue}
use Rattle.arrow_layout.specs.Stored.{value_code}

-- whether two dictionaries have the same values
abbrev pub same_values : ValueList → ValueList → Bool
same_values = on (λ (d : ValueList). d.values) (is_equal (coded_list value_code))

-- it is a partial equivalence, as equality by `==` requires
pub same_values_laws : IsPartialEquivalence same_values
same_values_laws = on_per (λ (d : ValueList). d.values) (partial_equiv_from_equiv (is_equal_equivalence (coded_list value_code)))

-- the first list begins the second
abbrev pub Begins : List PlainValue → List PlainValue → Type 0
Begins old new = take (length old) new ≡ old

-- each column has slot i
abbrev pub HaveSlot : ℕ → List Column → Type 0
HaveSlot i cs = AllByRecursion (λ (c : Column). i + 1 ≤ length c.raw) cs

-- a measure that decreases from a slot to its items or fields' values, and from these to one of their slots
abbrev pub slot_measure : Column → ℕ
slot_measure c = 2 * column_size c + 1

-- the same for the items in an array
abbrev pub items_measure : Column → ℕ
items_measure c = 2 * column_size c + 2

-- the same for one slot of several arrays
abbrev pub parts_measure : List Column → ℕ
parts_measure cs = 2 * most (λ c. column_size c + 1) cs
