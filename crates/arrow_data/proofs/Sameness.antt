-- When two slots are the same.
use Rattle.std.proofs.Common.{◌≡◌, ◌↔◌, ℕ, ◌+◌, ◌-◌, ◌<◌, ◌≤◌, List, [], ◌∷◌, length, drop, get_or, sym, ap, ◌∙◌, arith, length-drop, Bool, IsTrue}
use Rattle.std.proofs.lemmas.List.{ext_get_or, get_or-take, get_or-drop, get_or-map, length-map, length-take}
use Rattle.std.specs.List.{AllByRecursion}
use Rattle.arrow_layout.specs.PlainValue.{PlainValue, value_at, null_value, list_value, struct_value, values_of}
use Rattle.arrow_data.specs.Column.{Column, AreOf, HasItems, HasParts, values_from, row_of}
use Rattle.arrow_layout.proofs.Values.{values_same}
use Rattle.arrow_data.specs.Falls.{most_le-levels}
use Rattle.arrow_data.specs.Same.{HaveSlot, slot_measure, items_measure, parts_measure}

-- comparing the items of a slot is less than comparing the slot
pub child_smaller : (c child : Column) → AreOf c.data_type.children (child ∷ []) → items_measure child < slot_measure c
child_smaller c child h = omega (arith, most_le-levels c.data_type.children (child ∷ []) h)

-- and so is comparing its fields' values
pub parts_smaller : (c : Column) (cs : List Column) → AreOf c.data_type.children cs → parts_measure cs < slot_measure c
parts_smaller c cs h = omega (arith, most_le-levels c.data_type.children cs h)

-- two slots of lists are equal exactly when their items are
pub items_agree : (c d : Column) (i j start end from to : ℕ) (a b : Column) (r : Bool) → HasItems c i start end a → HasItems d j from to b
    → (IsTrue r ↔ (values_from a.raw start end ≡ values_from b.raw from to)) → IsTrue r ↔ (value_at c.raw i ≡ value_at d.raw j)
items_agree c d i j start end from to a b r h g s = (
  λ t. let e = s.0 t in h.same ∙ ap (λ vs. list_value (values_of vs)) e ∙ sym g.same,
  λ e. let inner : values_of (values_from a.raw start end) ≡ values_of (values_from b.raw from to) = cc in s.1 (values_same _ _ inner),
)

-- two slots of structs are equal exactly when their fields' values are
pub parts_agree : (c d : Column) (i j : ℕ) (cs ds : List Column) (r : Bool) → HasParts c i cs → HasParts d j ds
    → (IsTrue r ↔ (row_of cs i ≡ row_of ds j)) → IsTrue r ↔ (value_at c.raw i ≡ value_at d.raw j)
parts_agree c d i j cs ds r h g s = (
  λ t. let e = s.0 t in h.same ∙ ap (λ vs. struct_value (values_of vs)) e ∙ sym g.same,
  λ e. let inner : values_of (row_of cs i) ≡ values_of (row_of ds j) = cc in s.1 (values_same _ _ inner),
)

-- the number of values from one index up to another
pub length-values_from : (values : List PlainValue) (start end : ℕ) → end ≤ length values → length (values_from values start end) ≡ end - start
length-values_from values start end h = omega (arith, length-take (end - start) (drop start values), length-drop start values)

-- and which one is value k of them
pub at_values_from : (values : List PlainValue) (start end k : ℕ) → k < end - start → get_or (values_from values start end) k null_value ≡ value_at values (start + k)
at_values_from values start end k h = get_or-take (end - start) (drop start values) k null_value h ∙ get_or-drop start values k null_value

-- the same number of items are equal if each item is
pub items_same : (a b : Column) (start end from to : ℕ) → end ≤ length a.raw → to ≤ length b.raw → end - start ≡ to - from
    → ((k : ℕ) → k < end - start → value_at a.raw (start + k) ≡ value_at b.raw (from + k)) → values_from a.raw start end ≡ values_from b.raw from to
items_same a b start end from to p q n f =
    ext_get_or null_value (values_from a.raw start end) (values_from b.raw from to) (length-values_from a.raw start end p ∙ n ∙ sym (length-values_from b.raw from to q))
    (λ k h. let l : k < end - start = omega (arith, length-values_from a.raw start end p) in
    at_values_from a.raw start end k l ∙ f k l ∙ sym (at_values_from b.raw from to k (omega arith)))

-- a row has one value of each column
pub length-row_of : (cs : List Column) (i : ℕ) → length (row_of cs i) ≡ length cs
length-row_of cs i = length-map cs (λ (c : Column). value_at c.raw i)

-- value k of a row is that of column k
pub at_row_of : (cs : List Column) (i k : ℕ) (d : Column) → k < length cs → get_or (row_of cs i) k null_value ≡ value_at (get_or cs k d).raw i
at_row_of cs i k d h = get_or-map (λ (c : Column). value_at c.raw i) cs k d null_value h

-- if the columns have at least n slots, they have slot i below n
pub longer : (n i : ℕ) (cs : List Column) → i < n → AllByRecursion (λ (d : Column). n ≤ length d.raw) cs → HaveSlot i cs
longer n i [] l h = tt
longer n i (c ∷ cs) l h = (omega (arith, h.0), longer n i cs l h.1)

-- rows of the same number of columns are equal if each value is
pub rows_same : (cs ds : List Column) (i j : ℕ) → length cs ≡ length ds → ((k : ℕ) → k < length cs → get_or (row_of cs i) k null_value ≡ get_or (row_of ds j) k null_value) → row_of cs i ≡ row_of ds j
rows_same cs ds i j n f =
    ext_get_or null_value (row_of cs i) (row_of ds j) (length-row_of cs i ∙ n ∙ sym (length-row_of ds j)) (λ k h. f k (omega (arith, length-row_of cs i)))

-- the value in a row of a column that was read
pub read_row : (cs : List Column) (i k : ℕ) (x : Column) → k < length cs → x ≡ get_or cs k x → get_or (row_of cs i) k null_value ≡ value_at x.raw i
read_row cs i k x h e = at_row_of cs i k x h ∙ ap (λ (d : Column). value_at d.raw i) (sym e)
