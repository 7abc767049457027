-- From a condition on the values of columns to one on those of the columns below them.
use Rattle.std.proofs.Common.{◌≡◌, ℕ, ◌+◌, List, [], ◌∷◌, ◌++◌, map, sym, subst, add-one}
use Rattle.std.specs.Prelude.{zero, suc, replicate, ⊤}
use Rattle.std.specs.List.{AllByRecursion, flat_map, range_with_len}
use Rattle.arrow_types.specs.Field.{FieldTree, FieldHeader, none, more, width}
use Rattle.arrow_layout.specs.PlainValue.{PlainValue, PlainValues, null_value, struct_value, more_values, field_value}
use Rattle.arrow_body_laws.specs.Raws.{items_in_value}

-- a condition on a value of a field
abbrev pub Condition : Type 1
Condition = FieldHeader → FieldTree → PlainValue → Type 0

-- it holds for each value of these columns
abbrev pub ColumnsHold : Condition → FieldTree → List (List PlainValue) → Type 0
ColumnsHold Q none raws = ⊤
ColumnsHold Q (more h c rest) [] = ⊤
ColumnsHold Q (more h c rest) (vs ∷ raws) = AllByRecursion (Q h c) vs × ColumnsHold Q rest raws

-- for columns without values
pub none_hold : (Q : Condition) (c : FieldTree) → ColumnsHold Q c []
none_hold Q none = tt
none_hold Q (more h c rest) = tt

-- for values and those after them
all_append : (P : PlainValue → Type 0) (xs ys : List PlainValue) → AllByRecursion P xs → AllByRecursion P ys → AllByRecursion P (xs ++ ys)
all_append P [] ys one other = other
all_append P (x ∷ xs) ys one other = (one.0, all_append P xs ys one.1 other)

-- for the items of each list, so for all items
pub items_hold : (n : ℕ) (P Q : PlainValue → Type 0) → ((v : PlainValue) → P v → AllByRecursion Q (items_in_value n v)) → (vs : List PlainValue) → AllByRecursion P vs
    → AllByRecursion Q (flat_map (items_in_value n) vs)
items_hold n P Q each [] all = tt
items_hold n P Q each (v ∷ vs) all = all_append Q (items_in_value n v) (flat_map (items_in_value n) vs) (each v all.0) (items_hold n P Q each vs all.1)

-- for null, so for nulls
pub no_values_hold : (n : ℕ) (Q : PlainValue → Type 0) → Q null_value → AllByRecursion Q (replicate n null_value)
no_values_hold zero Q null_holds = tt
no_values_hold (suc n) Q null_holds = (null_holds, no_values_hold n Q null_holds)

-- it holds for value a of a struct by the first field, and for those after it by the others
abbrev pub PartsHold : Condition → FieldTree → ℕ → PlainValue → Type 0
PartsHold Q none a v = ⊤
PartsHold Q (more h c rest) a v = Q h c (field_value a v) × PartsHold Q rest (a + 1) v

-- one value further on
pub shifted : (Q : Condition) (fields : FieldTree) (a : ℕ) (v : PlainValue) (others : PlainValues) → PartsHold Q fields a (struct_value others)
    → PartsHold Q fields (a + 1) (struct_value (more_values v others))
shifted Q none a v others hold = tt
shifted Q (more h c rest) a v others hold = (
  subst (λ n. Q h c (field_value n (struct_value (more_values v others)))) (sym (add-one a)) hold.0,
  shifted Q rest (a + 1) v others hold.1,
)

-- if it holds for null, it also holds for a value without parts
pub nulls_hold : (Q : Condition) → ((h : FieldHeader) (c : FieldTree) → Q h c null_value) → (fields : FieldTree) (a : ℕ) (v : PlainValue) → ((k : ℕ) → field_value k v ≡ null_value)
    → PartsHold Q fields a v
nulls_hold Q null_holds none a v nulls = tt
nulls_hold Q null_holds (more h c rest) a v nulls = (subst (Q h c) (sym (nulls a)) (null_holds h c), nulls_hold Q null_holds rest (a + 1) v nulls)

-- for the parts by the first field, and by the others
heads_hold : (Q : Condition) (h : FieldHeader) (c rest : FieldTree) (a : ℕ) (vs : List PlainValue) → AllByRecursion (PartsHold Q (more h c rest) a) vs
    → AllByRecursion (Q h c) (map (field_value a) vs)
heads_hold Q h c rest a [] hold = tt
heads_hold Q h c rest a (v ∷ vs) hold = (hold.0.0, heads_hold Q h c rest a vs hold.1)

tails_hold : (Q : Condition) (h : FieldHeader) (c rest : FieldTree) (a : ℕ) (vs : List PlainValue) → AllByRecursion (PartsHold Q (more h c rest) a) vs
    → AllByRecursion (PartsHold Q rest (a + 1)) vs
tails_hold Q h c rest a [] hold = tt
tails_hold Q h c rest a (v ∷ vs) hold = (hold.0.1, tails_hold Q h c rest a vs hold.1)

-- for the parts of each struct, so for the columns below
pub columns_hold : (Q : Condition) (fields : FieldTree) (a : ℕ) (vs : List PlainValue) → AllByRecursion (PartsHold Q fields a) vs
    → ColumnsHold Q fields (map (λ k. map (field_value k) vs) (range_with_len a (width fields)))
columns_hold Q none a vs hold = tt
columns_hold Q (more h c rest) a vs hold =
    subst (λ n. ColumnsHold Q (more h c rest) (map (λ k. map (field_value k) vs) (range_with_len a n))) (sym (add-one (width rest)))
    (heads_hold Q h c rest a vs hold, columns_hold Q rest (a + 1) vs (tails_hold Q h c rest a vs hold))

-- one condition follows from another for each value, so for all values
pub all_change : (P Q : PlainValue → Type 0) → ((v : PlainValue) → P v → Q v) → (vs : List PlainValue) → AllByRecursion P vs → AllByRecursion Q vs
all_change P Q each [] all = tt
all_change P Q each (v ∷ vs) all = (each v all.0, all_change P Q each vs all.1)
