-- If raw values resolve, so do those below them.
use Rattle.std.proofs.Common.{◌≡◌, ℕ, ℤ, List, [], ◌∷◌, map, Option, None, Some, refl}
use Rattle.std.specs.Prelude.{option_map, replicate}
use Rattle.std.specs.List.{AllByRecursion, flat_map}
use Rattle.arrow_types.specs.Field.{FieldTree, FieldHeader, none, more}
use Rattle.arrow_layout.specs.PlainValue.{PlainValue, PlainValues, null_value, bool_value, int_value, binary_value, utf8_value, list_value, struct_value, no_values, more_values, list_of_values}
use Rattle.arrow_layout.specs.Resolve.{before, resolve, resolve_items, resolve_parts}
use Rattle.arrow_layout.specs.declared.form.Form.{Form}
use Rattle.arrow_layout.specs.declared.form.Form.TheVariants as forms
use Rattle.arrow_data.proofs.Resolving.{null_resolves}
use Rattle.arrow_body_laws.specs.Entries.{ResolveTo}
use Rattle.arrow_body_laws.specs.Raws.{AreRaws, items_in_value, nulls_under, raws_below}
use Rattle.arrow_body_laws.proofs.Below.{ColumnsHold, Condition, PartsHold, all_change, columns_hold, items_hold, no_values_hold, none_hold, nulls_hold, shifted}

-- a value resolves
abbrev pub Resolves : (PlainValue → Option PlainValue) → PlainValue → Type 0
Resolves f v = (r : PlainValue) × (f v ≡ Some r)

-- each of the values resolves
abbrev pub AllResolve : (PlainValue → Option PlainValue) → List PlainValue → Type 0
AllResolve f vs = AllByRecursion (Resolves f) vs

-- a value of a field resolves by these dictionaries
abbrev pub ResolvesBy : (ℤ → List PlainValue) → Condition
ResolvesBy d h c v = Resolves (resolve h.encoding c d) v

-- one by one
each_resolves : (f : PlainValue → Option PlainValue) (vs resolved : List PlainValue) → map f vs ≡ map Some resolved → AllResolve f vs
each_resolves f [] resolved same = tt
each_resolves f (v ∷ vs) [] same = cc
each_resolves f (v ∷ vs) (r ∷ rs) same =
    let here : f v ≡ Some r = cc in
    let there : map f vs ≡ map Some rs = cc in
    ((r, here), each_resolves f vs rs there)

pub all_resolve : (f : PlainValue → Option PlainValue) (vs : List PlainValue) → ResolveTo f vs → AllResolve f vs
all_resolve f vs resolving = each_resolves f vs resolving.0 resolving.1

-- if a value followed by others is present, both are
abbrev BothThere : Option PlainValue → Option PlainValues → Type 0
BothThere first others = ((x : PlainValue) × (first ≡ Some x)) × ((xs : PlainValues) × (others ≡ Some xs))

both_there : (first : Option PlainValue) (others : Option PlainValues) (r : PlainValues) → before first others ≡ Some r → BothThere first others
both_there (Some x) (Some xs) r same = ((x, refl), (xs, refl))
both_there (Some x) None r same = cc
both_there None (Some xs) r same = cc
both_there None None r same = cc

-- the input of a map that returned a value was present
was_there : (f : PlainValues → PlainValue) (o : Option PlainValues) (r : PlainValue) → option_map f o ≡ Some r → (xs : PlainValues) × (o ≡ Some xs)
was_there f (Some xs) r same = (xs, refl)
was_there f None r same = cc

-- the items of a list
items_resolve : (d : ℤ → List PlainValue) (h : FieldHeader) (c rest : FieldTree) (items r : PlainValues) → resolve_items (more h c rest) d items ≡ Some r
    → AllResolve (resolve h.encoding c d) (list_of_values items)
items_resolve d h c rest no_values r same = tt
items_resolve d h c rest (more_values v others) r same =
    let both = both_there (resolve h.encoding c d v) (resolve_items (more h c rest) d others) r same in
    (both.0, items_resolve d h c rest others both.1.0 both.1.1)

-- null resolves to itself
null_value_resolves : (d : ℤ → List PlainValue) (h : FieldHeader) (c : FieldTree) → ResolvesBy d h c null_value
null_value_resolves d h c = (null_value, null_resolves h.encoding c d)

-- so do the nulls in place of a list
no_items_resolve : (n : ℕ) (d : ℤ → List PlainValue) (h : FieldHeader) (c : FieldTree) → AllResolve (resolve h.encoding c d) (replicate n null_value)
no_items_resolve n d h c = no_values_hold n (Resolves (resolve h.encoding c d)) (null_value_resolves d h c)

item_resolves : (n : ℕ) (d : ℤ → List PlainValue) (h : FieldHeader) (c rest : FieldTree) (v : PlainValue) → Resolves (resolve None (more h c rest) d) v
    → AllResolve (resolve h.encoding c d) (items_in_value n v)
item_resolves n d h c rest (list_value items) resolves =
    let there = was_there list_value (resolve_items (more h c rest) d items) resolves.0 resolves.1 in
    items_resolve d h c rest items there.0 there.1
item_resolves n d h c rest null_value resolves = no_items_resolve n d h c
item_resolves n d h c rest (bool_value b) resolves = no_items_resolve n d h c
item_resolves n d h c rest (int_value b) resolves = no_items_resolve n d h c
item_resolves n d h c rest (binary_value b) resolves = no_items_resolve n d h c
item_resolves n d h c rest (utf8_value b) resolves = no_items_resolve n d h c
item_resolves n d h c rest (struct_value b) resolves = no_items_resolve n d h c

-- the values of a struct
struct_resolves : (d : ℤ → List PlainValue) (fields : FieldTree) (parts r : PlainValues) → resolve_parts fields d parts ≡ Some r → PartsHold (ResolvesBy d) fields 0 (struct_value parts)
struct_resolves d none parts r same = tt
struct_resolves d (more h c rest) no_values r same = nulls_hold (ResolvesBy d) (null_value_resolves d) (more h c rest) 0 (struct_value no_values) (λ k. refl)
struct_resolves d (more h c rest) (more_values v others) r same =
    let both = both_there (resolve h.encoding c d v) (resolve_parts rest d others) r same in
    (both.0, shifted (ResolvesBy d) rest 0 v others (struct_resolves d rest others both.1.0 both.1.1))

parts_resolve : (d : ℤ → List PlainValue) (fields : FieldTree) (v : PlainValue) → Resolves (resolve None fields d) v → PartsHold (ResolvesBy d) fields 0 v
parts_resolve d fields (struct_value parts) resolves =
    let there = was_there struct_value (resolve_parts fields d parts) resolves.0 resolves.1 in
    struct_resolves d fields parts there.0 there.1
parts_resolve d fields null_value resolves = nulls_hold (ResolvesBy d) (null_value_resolves d) fields 0 null_value (λ k. refl)
parts_resolve d fields (bool_value b) resolves = nulls_hold (ResolvesBy d) (null_value_resolves d) fields 0 (bool_value b) (λ k. refl)
parts_resolve d fields (int_value b) resolves = nulls_hold (ResolvesBy d) (null_value_resolves d) fields 0 (int_value b) (λ k. refl)
parts_resolve d fields (binary_value b) resolves = nulls_hold (ResolvesBy d) (null_value_resolves d) fields 0 (binary_value b) (λ k. refl)
parts_resolve d fields (utf8_value b) resolves = nulls_hold (ResolvesBy d) (null_value_resolves d) fields 0 (utf8_value b) (λ k. refl)
parts_resolve d fields (list_value b) resolves = nulls_hold (ResolvesBy d) (null_value_resolves d) fields 0 (list_value b) (λ k. refl)

-- of several columns only the first has values
one_resolves : (n : ℕ) (d : ℤ → List PlainValue) (c : FieldTree) (vs : List PlainValue) → AreRaws c (flat_map (items_in_value n) vs ∷ []) → AllResolve (resolve None c d) vs
    → ColumnsHold (ResolvesBy d) c (flat_map (items_in_value n) vs ∷ [])
one_resolves n d none vs raws resolving = absurd raws
one_resolves n d (more h c rest) vs raws resolving =
    (items_hold n (Resolves (resolve None (more h c rest) d)) (Resolves (resolve h.encoding c d)) (item_resolves n d h c rest) vs resolving, none_hold (ResolvesBy d) rest)

-- the values below a node of raw values that resolve do so too
pub below_resolves : (form : Form) (d : ℤ → List PlainValue) (c : FieldTree) (vs : List PlainValue) → AreRaws c (raws_below form c vs) → AllResolve (resolve None c d) vs
    → ColumnsHold (ResolvesBy d) c (raws_below form c vs)
below_resolves forms.Nulls d c vs raws resolving = none_hold (ResolvesBy d) c
below_resolves forms.Bits d c vs raws resolving = none_hold (ResolvesBy d) c
below_resolves (forms.Numbers number) d c vs raws resolving = none_hold (ResolvesBy d) c
below_resolves (forms.Bytes w) d c vs raws resolving = none_hold (ResolvesBy d) c
below_resolves (forms.Texts w) d c vs raws resolving = none_hold (ResolvesBy d) c
below_resolves (forms.FixedBytes w) d c vs raws resolving = none_hold (ResolvesBy d) c
below_resolves (forms.Lists w) d c vs raws resolving = one_resolves (nulls_under w) d c vs raws resolving
below_resolves forms.Structs d c vs raws resolving = columns_hold (ResolvesBy d) c 0 vs (all_change (Resolves (resolve None c d)) (PartsHold (ResolvesBy d) c 0) (parts_resolve d c) vs resolving)
