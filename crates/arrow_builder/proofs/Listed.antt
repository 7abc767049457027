-- Lists below a node.
use Rattle.std.proofs.Common.{◌≡◌, ℕ, zero, suc, ◌+◌, ◌-◌, ◌*◌, ◌<◌, ◌≤◌, List, [], ◌∷◌, ◌++◌, length, take, drop, get_or, refl, ap, sym, ◌∙◌, subst, arith, length-take, length-append, Option, None, Some}
use Rattle.std.specs.Prelude.{replicate, slice_range, not}
use Rattle.std.specs.List.{AllByRecursion}
use Rattle.std.proofs.lemmas.List.{append_assoc, drop-take, length-replicate, replicate-append-replicate, take-take, take_all}
use Rattle.std.proofs.Math.Seq.{drop-append_seam}
use Rattle.arrow_types.specs.Field.{FieldTree, none, more}
use Rattle.arrow_types.specs.DataType.{TypeId}
use Rattle.arrow_types.specs.declared.field.Encoding.{Encoding}
use Rattle.arrow_layout.specs.Fits.{Fits, ItemsFit}
use Rattle.arrow_layout.specs.Form.{HasFieldsOf, form_of, node_form}
use Rattle.arrow_layout.specs.PlainValue.{PlainValue, PlainValues, null_value, bool_value, int_value, binary_value, utf8_value, list_of_values, list_value, struct_value, is_null_value, more_values, no_values, values_of}
use Rattle.arrow_layout.specs.Slots.{item_place, items_at, list_slot, is_valid_at, or_null}
use Rattle.arrow_layout.specs.declared.form.Form.TheVariants as forms
use Rattle.arrow_layout.specs.declared.form.ListForm.{ListForm}
use Rattle.arrow_layout.specs.declared.form.ListForm.TheVariants as lists
use Rattle.arrow_layout.specs.declared.form.OffsetWidth.{OffsetWidth}
use Rattle.arrow_data.proofs.Lists.{list_again, values_again}
use Rattle.arrow_layout.proofs.Widths.{items_inside}
use Rattle.arrow_layout.specs.Value.{value_view, values_view}
use Rattle.arrow_layout.specs.declared.value.Value.{Value}
use Rattle.arrow_builder.specs.Built.{Built, AreBelow, fields_in, given_items, items_of, sized_items, with_value, with_values}
use Rattle.arrow_builder.specs.Fields.{FitsField}
use Rattle.arrow_builder.specs.Kept.{KeepsLists}
use Rattle.arrow_builder.specs.Puts.{PutsSlot, PutsValid, StaySlots}
use Rattle.arrow_builder.proofs.Putting.{or_null_same}
use Rattle.arrow_builder.proofs.Ranging.{place_below}
use Rattle.arrow_builder.proofs.Nested.{take_front}

-- a node of lists is not dictionary-encoded
pub plain_list : (tag : TypeId) (e : Option Encoding) (list : ListForm) → node_form tag e ≡ forms.Lists list → (e ≡ None) × (form_of tag ≡ forms.Lists list)
plain_list tag None list h = (refl, h)
plain_list tag (Some e) list h = absurd (cc)

-- nor is one of structs
pub plain_struct : (tag : TypeId) (e : Option Encoding) → node_form tag e ≡ forms.Structs → e ≡ None
plain_struct tag None h = refl
plain_struct tag (Some e) h = absurd (cc)

-- the one column of a list's child field
pub record IsOnly (bs : List Built) (fields : FieldTree) : Type 0 where
  pub child : Built
  pub only : bs ≡ child ∷ []
  pub field : fields ≡ more child.field.head child.field.children none

only_of : (bs : List Built) (fields : FieldTree) (list : ListForm) → HasFieldsOf (forms.Lists list) fields → fields_in bs ≡ fields → IsOnly bs fields
only_of [] none list one h = absurd one
only_of [] (more head children rest) list one h = absurd (cc)
only_of (b ∷ []) fields list one h = record { child = b; only = refl; field = sym h }
only_of (b ∷ c ∷ bs) fields list one h = absurd (subst (HasFieldsOf (forms.Lists list)) (sym h) one)

pub only_child : (tag : TypeId) (e : Option Encoding) (fields : FieldTree) (bs : List Built) (list : ListForm) → node_form tag e ≡ forms.Lists list
    → HasFieldsOf (form_of tag) fields → AreBelow e fields bs → IsOnly bs fields
only_child tag e fields bs list form own below =
    let plain = plain_list tag e list form in
    only_of bs fields list (subst (λ f. HasFieldsOf f fields) plain.1 own) (subst (λ e. AreBelow e fields bs) plain.0 below)

-- items that fit
items_all : (b : Built) (items : PlainValues) → ItemsFit (more b.field.head b.field.children none) items → AllByRecursion (FitsField b.field) (list_of_values items)
items_all b no_values fit = tt
items_all b (more_values v items) fit = (fit.0, items_all b items fit.1)

-- nulls fit every field
nulls_fit : (b : Built) (count : ℕ) → AllByRecursion (FitsField b.field) (replicate count null_value)
nulls_fit b zero = tt
nulls_fit b (suc count) = (tt, nulls_fit b count)

-- what a value that fits lists contributes to the child
pub given_fit : (b : Built) (fields : FieldTree) (list : ListForm) (v : PlainValue) → fields ≡ more b.field.head b.field.children none → Fits (forms.Lists list) fields v
    → AllByRecursion (FitsField b.field) (given_items list v)
given_fit b fields list v field fits = fit_of list v (subst (λ f. Fits (forms.Lists list) f v) field fits)
  where
    fit_of : (list : ListForm) (v : PlainValue) → Fits (forms.Lists list) (more b.field.head b.field.children none) v → AllByRecursion (FitsField b.field) (given_items list v)
    fit_of (lists.Offsets width) null_value h = tt
    fit_of (lists.Offsets width) (bool_value x) h = tt
    fit_of (lists.Offsets width) (int_value z) h = tt
    fit_of (lists.Offsets width) (binary_value x) h = tt
    fit_of (lists.Offsets width) (utf8_value x) h = tt
    fit_of (lists.Offsets width) (list_value vs) h = items_all b vs h.1
    fit_of (lists.Offsets width) (struct_value vs) h = tt
    fit_of (lists.Fixed size) null_value h = nulls_fit b size
    fit_of (lists.Fixed size) (bool_value x) h = nulls_fit b size
    fit_of (lists.Fixed size) (int_value z) h = nulls_fit b size
    fit_of (lists.Fixed size) (binary_value x) h = nulls_fit b size
    fit_of (lists.Fixed size) (utf8_value x) h = nulls_fit b size
    fit_of (lists.Fixed size) (list_value vs) h = items_all b vs h.1
    fit_of (lists.Fixed size) (struct_value vs) h = nulls_fit b size

-- if offsets are stored, these are the items
pub items_given : (width : OffsetWidth) (v : PlainValue) (values : List PlainValue) → values_of values ≡ items_of v → values ≡ given_items (lists.Offsets width) v
items_given width v values same = sym (list_again values) ∙ ap list_of_values same

-- the items of a value that fits lists
pub items_fit : (b : Built) (fields : FieldTree) (width : OffsetWidth) (v : PlainValue) (values : List PlainValue) → fields ≡ more b.field.head b.field.children none
    → Fits (forms.Lists (lists.Offsets width)) fields v → values_of values ≡ items_of v → AllByRecursion (FitsField b.field) values
items_fit b fields width v values field fits same = subst (AllByRecursion (FitsField b.field)) (sym (items_given width v values same)) (given_fit b fields (lists.Offsets width) v field fits)

-- a fixed-size list has `size` items, and a null has `size` nulls
pub sized_long : (size : ℕ) (fields : FieldTree) (v : PlainValue) → Fits (forms.Lists (lists.Fixed size)) fields v → length (sized_items size v) ≡ size
sized_long size fields null_value fit = length-replicate size null_value
sized_long size fields (bool_value b) fit = length-replicate size null_value
sized_long size fields (int_value z) fit = length-replicate size null_value
sized_long size fields (binary_value b) fit = length-replicate size null_value
sized_long size fields (utf8_value b) fit = length-replicate size null_value
sized_long size fields (list_value items) fit = fit.0
sized_long size fields (struct_value parts) fit = length-replicate size null_value

-- a range within the first n values
in_front : (xs : List PlainValue) (n start stop : ℕ) → start ≤ stop → stop ≤ n → take (stop - start) (drop start (take n xs)) ≡ take (stop - start) (drop start xs)
in_front xs n start stop order inside =
    let gap : start + (n - start) ≡ n = omega (arith, order, inside) in
    ap (λ m. take (stop - start) (drop start (take m xs))) (sym gap) ∙ ap (take (stop - start)) (drop-take start (n - start) xs)
    ∙ take-take (stop - start) (n - start) (drop start xs) (omega (arith, inside))

pub range_front : (new old : List PlainValue) (n start stop : ℕ) → take n new ≡ take n old → start ≤ stop → stop ≤ n → slice_range new start stop ≡ slice_range old start stop
range_front new old n start stop same order inside =
    sym (in_front new n start stop order inside) ∙ ap (λ xs. take (stop - start) (drop start xs)) same ∙ in_front old n start stop order inside

-- the values that were put after the first ones
pub range_put : (front values : List PlainValue) (start stop : ℕ) → length front ≡ start → stop ≡ start + length values → slice_range (front ++ values) start stop ≡ values
range_put front values start stop long end =
    let size : stop - start ≡ length values = omega (arith, end) in
    let after : drop start (front ++ values) ≡ values = ap (λ n. drop n (front ++ values)) (sym long) ∙ drop-append_seam front values in
    (λ i. take (size i) (after i)) ∙ take_all (length values) values (omega arith)

-- the items of the first `at` lists begin where they did
abbrev pub StayItems : ListForm → ℕ → List ℕ → List ℕ → Type 0
StayItems list at old new = (j : ℕ) → j ≤ at → item_place list new j ≡ item_place list old j

-- no list ends before it begins, and none ends after the last one
pub items_within : (list : ListForm) (at top : ℕ) (validity offsets : List ℕ) → KeepsLists list at top validity offsets → (j : ℕ) → j < at
    → (item_place list offsets j ≤ item_place list offsets (j + 1)) × (item_place list offsets (j + 1) ≤ item_place list offsets at)
items_within (lists.Offsets width) at top validity offsets kept j h = (kept.ranges.never j h, place_below width at validity offsets kept.ranges (j + 1) (omega (arith, h)))
items_within (lists.Fixed size) at top validity offsets kept j h = items_inside size j at (size * at) h (omega arith)

-- and the last one ends within the child
pub items_end : (list : ListForm) (at top : ℕ) (validity offsets : List ℕ) → KeepsLists list at top validity offsets → item_place list offsets at ≤ top
items_end (lists.Offsets width) at top validity offsets kept = kept.inside
items_end (lists.Fixed size) at top validity offsets kept = kept.inside

-- the lists of the first slots are unchanged if the child's first values are
pub lists_stay : (list : ListForm) (at top : ℕ) (validity validity' offsets offsets' : List ℕ) (child child' : List PlainValue) → KeepsLists list at top validity offsets
    → ((j : ℕ) → j < at → is_valid_at validity' j ≡ is_valid_at validity j) → StayItems list at offsets offsets'
    → take (item_place list offsets at) child' ≡ take (item_place list offsets at) child
    → StaySlots at (λ j. list_slot list validity offsets child j) (λ j. list_slot list validity' offsets' child' j)
lists_stay list at top validity validity' offsets offsets' child child' kept valid same start j h =
    let order = items_within list at top validity offsets kept j h in
    or_null_same validity validity' j (list_value (values_of (items_at list offsets child j))) (list_value (values_of (items_at list offsets' child' j))) (valid j h)
    (ap (λ vs. list_value (values_of vs))
    ((λ i. slice_range child' (same j (omega (arith, h)) i) (same (j + 1) (omega (arith, h)) i))
    ∙ range_front child' child (item_place list offsets at) (item_place list offsets j) (item_place list offsets (j + 1)) start order.0 order.1))

-- a list contributes its items
list_given : (list : ListForm) (items : PlainValues) → given_items list (list_value items) ≡ list_of_values items
list_given (lists.Offsets width) items = refl
list_given (lists.Fixed size) items = refl

-- the list of a slot
list_in_slot : (v : PlainValue) (fields : FieldTree) (list : ListForm) (validity : List ℕ) (at : ℕ) (vs : List PlainValue) → Fits (forms.Lists list) fields v
    → is_valid_at validity at ≡ not (is_null_value v) → vs ≡ given_items list v → or_null validity at (list_value (values_of vs)) ≡ v
list_in_slot null_value fields list validity at vs fit valid same = rw valid refl
list_in_slot (bool_value b) fields list validity at vs fit valid same = absurd (cc)
list_in_slot (int_value z) fields list validity at vs fit valid same = absurd fit
list_in_slot (binary_value b) fields list validity at vs fit valid same = absurd fit
list_in_slot (utf8_value b) fields list validity at vs fit valid same = absurd fit
list_in_slot (list_value items) fields list validity at vs fit valid same = rw valid (ap list_value (ap values_of (same ∙ list_given list items) ∙ values_again items))
list_in_slot (struct_value parts) fields list validity at vs fit valid same = let e = fit.0 in absurd (cc)

-- one more list
pub lists_put : (list : ListForm) (at : ℕ) (fields : FieldTree) (v : PlainValue) (validity validity' offsets offsets' : List ℕ) (child values : List PlainValue)
    → KeepsLists list at (length child) validity offsets → PutsValid at (not (is_null_value v)) validity validity' → StayItems list at offsets offsets'
    → item_place list offsets' (at + 1) ≡ length (take (item_place list offsets at) child ++ values) → Fits (forms.Lists list) fields v → values ≡ given_items list v
    → PutsSlot at v (λ j. list_slot list validity offsets child j) (λ j. list_slot list validity' offsets' (take (item_place list offsets at) child ++ values) j)
lists_put list at fields v validity validity' offsets offsets' child values kept valid same end fits items =
    let start = item_place list offsets at in
    let inside = items_end list at (length child) validity offsets kept in
    let front : length (take start child) ≡ start = grind (arith, length-take, inside) in
    let new = take start child ++ values in
    let here = same at (omega arith) in
    let stop : item_place list offsets' (at + 1) ≡ start + length values = end ∙ length-append (take start child) values ∙ ap (λ n. n + length values) front in
    let range : items_at list offsets' new at ≡ values = ap (λ n. slice_range new n (item_place list offsets' (at + 1))) here ∙ range_put (take start child) values start (item_place list offsets' (at + 1)) front stop in
    record {
      same = lists_stay list at (length child) validity validity' offsets offsets' child new kept valid.same same (take_front start child values inside);
      put = ap (λ vs. or_null validity' at (list_value (values_of vs))) range ∙ list_in_slot v fields list validity' at values fits valid.put items;
    }

-- the struct of a slot
pub struct_in_slot : (v : PlainValue) (fields : FieldTree) (validity : List ℕ) (at : ℕ) (row : PlainValues) → Fits forms.Structs fields v → is_valid_at validity at ≡ not (is_null_value v)
    → ((ws : PlainValues) → v ≡ struct_value ws → row ≡ ws) → or_null validity at (struct_value row) ≡ v
struct_in_slot null_value fields validity at row fit valid same = rw valid refl
struct_in_slot (bool_value b) fields validity at row fit valid same = absurd (cc)
struct_in_slot (int_value z) fields validity at row fit valid same = absurd fit
struct_in_slot (binary_value b) fields validity at row fit valid same = absurd fit
struct_in_slot (utf8_value b) fields validity at row fit valid same = absurd fit
struct_in_slot (list_value items) fields validity at row fit valid same = absurd fit.0
struct_in_slot (struct_value parts) fields validity at row fit valid same = rw valid (ap struct_value (same parts refl))

-- one of the items
pub item_has : (P : PlainValue → Type 0) (xs : List Value) (i : ℕ) (d : Value) → i < length xs → AllByRecursion P (values_view xs) → P (value_view (get_or xs i d))
item_has P [] i d h all = absurd (omega (arith, h))
item_has P (x ∷ xs) zero d h all = all.0
item_has P (x ∷ xs) (suc i) d h all = item_has P xs i d (omega (arith, h)) all.1

-- the values of one more item
take_view : (xs : List Value) (i : ℕ) (d : Value) → i < length xs → take i (values_view xs) ++ value_view (get_or xs i d) ∷ [] ≡ take (suc i) (values_view xs)
take_view [] i d h = absurd (omega (arith, h))
take_view (x ∷ xs) zero d h = refl
take_view (x ∷ xs) (suc i) d h = ap (λ vs. value_view x ∷ vs) (take_view xs i d (omega (arith, h)))

pub items_more : (b : Built) (xs : List Value) (i : ℕ) (d : Value) → i < length xs → with_value (with_values b (take i (values_view xs))) (value_view (get_or xs i d)) ≡ with_values b (take (i + 1) (values_view xs))
items_more b xs i d h =
    let next : suc i ≡ i + 1 = omega arith in
    ap (λ raw. record { field = b.field; raw = raw }) (append_assoc b.raw (take i (values_view xs)) (value_view (get_or xs i d) ∷ []) ∙ ap (λ vs. b.raw ++ vs) (take_view xs i d h ∙ ap (λ n. take n (values_view xs)) next))

-- one more null
pub nulls_more : (b : Built) (i : ℕ) → with_value (with_values b (replicate i null_value)) null_value ≡ with_values b (replicate (i + 1) null_value)
nulls_more b i = ap (λ raw. record { field = b.field; raw = raw }) (append_assoc b.raw (replicate i null_value) (null_value ∷ []) ∙ ap (λ vs. b.raw ++ vs) (replicate-append-replicate i 1 null_value))
