-- The raw values of columns can be stored.
use Rattle.std.proofs.Common.{◌≡◌, ℕ, ℤ, List, [], ◌∷◌, ◌++◌, length, map, Option, None, Some, refl, sym, ap, arith}
use Rattle.std.specs.List.{AllByRecursion, flat_map}
use Rattle.std.specs.Prelude.{replicate}
use Rattle.std.proofs.lemmas.List.FromFn.{length-map-range_with_len}
use Rattle.arrow_types.specs.DataType.{TypeId}
use Rattle.arrow_types.specs.Field.{FieldTree, FieldHeader, none, more, width}
use Rattle.arrow_types.specs.declared.field.Encoding.{Encoding}
use Rattle.arrow_data.specs.Column.{Agree, Column, IsColumn, ValueList, listed_of}
use Rattle.arrow_layout.specs.Fits.{Fits, ItemsFit, PartsFit}
use Rattle.arrow_layout.specs.Form.{HasFieldsOf, form_of, node_form}
use Rattle.arrow_layout.specs.PlainValue.{PlainValue, PlainValues, null_value, bool_value, int_value, binary_value, utf8_value, list_value, struct_value, no_values, more_values, field_value, list_of_values}
use Rattle.arrow_layout.specs.declared.form.Form.{Form}
use Rattle.arrow_layout.specs.declared.form.Form.TheVariants as forms
use Rattle.arrow_layout.specs.declared.form.ListForm.{ListForm}
use Rattle.arrow_body_reader.specs.Taken.{IfFlattened}
use Rattle.arrow_body_laws.specs.Entries.{HaveEntries}
use Rattle.arrow_body_laws.specs.Formed.{AreFormed}
use Rattle.arrow_body_laws.specs.Laws.{ColumnsHoldRaws, raws_of}
use Rattle.arrow_body_laws.specs.Raws.{AreRaws, IsOwn, items_in_value, nulls_under, raws_below}
use Rattle.arrow_body_laws.specs.Stored.{fields_of_columns}
use Rattle.arrow_body_laws.proofs.Below.{ColumnsHold, Condition, PartsHold, all_change, columns_hold, items_hold, no_values_hold, none_hold, nulls_hold, shifted}
use Rattle.arrow_body_laws.proofs.Walk.{head_form, inner_raws}

-- a value fits a field
abbrev FitsField : Condition
FitsField h c v = Fits (head_form h) c v

-- a struct has as many parts as fields
parts_long : (fields : FieldTree) (parts : PlainValues) → PartsFit fields parts → length (list_of_values parts) ≡ width fields
parts_long none no_values fit = refl
parts_long none (more_values v others) fit = absurd fit
parts_long (more h c rest) no_values fit = absurd fit
parts_long (more h c rest) (more_values v others) fit = omega (arith, parts_long rest others fit.1)

-- a value that fits a node may be in it
fit_is_own : (form : Form) (c : FieldTree) (v : PlainValue) → Fits form c v → IsOwn form c v
fit_is_own form c null_value fit = tt
fit_is_own form c (bool_value b) fit = fit
fit_is_own form c (int_value z) fit = fit
fit_is_own form c (binary_value bytes) fit = fit
fit_is_own form c (utf8_value bytes) fit = fit
fit_is_own form c (list_value items) fit = fit.0
fit_is_own form c (struct_value parts) fit = (fit.0, parts_long c parts fit.1)

-- the items of a list fit its field
items_fit : (h : FieldHeader) (c rest : FieldTree) (items : PlainValues) → ItemsFit (more h c rest) items → AllByRecursion (FitsField h c) (list_of_values items)
items_fit h c rest no_values fit = tt
items_fit h c rest (more_values v others) fit = (fit.0, items_fit h c rest others fit.1)

-- if the value is not a list there are nulls in place of its items, which fit too
no_items_fit : (n : ℕ) (h : FieldHeader) (c : FieldTree) → AllByRecursion (FitsField h c) (replicate n null_value)
no_items_fit n h c = no_values_hold n (FitsField h c) tt

item_fits : (n : ℕ) (form : Form) (h : FieldHeader) (c rest : FieldTree) (v : PlainValue) → Fits form (more h c rest) v → AllByRecursion (FitsField h c) (items_in_value n v)
item_fits n form h c rest null_value fit = no_items_fit n h c
item_fits n form h c rest (bool_value b) fit = no_items_fit n h c
item_fits n form h c rest (int_value z) fit = no_items_fit n h c
item_fits n form h c rest (binary_value bytes) fit = no_items_fit n h c
item_fits n form h c rest (utf8_value bytes) fit = no_items_fit n h c
item_fits n form h c rest (list_value items) fit = items_fit h c rest items fit.1
item_fits n form h c rest (struct_value parts) fit = no_items_fit n h c

-- null fits every field
null_fits : (h : FieldHeader) (c : FieldTree) → FitsField h c null_value
null_fits h c = tt

-- the values of a struct fit its fields
struct_fits : (fields : FieldTree) (parts : PlainValues) → PartsFit fields parts → PartsHold FitsField fields 0 (struct_value parts)
struct_fits none parts fit = tt
struct_fits (more h c rest) no_values fit = absurd fit
struct_fits (more h c rest) (more_values v others) fit = (fit.0, shifted FitsField rest 0 v others (struct_fits rest others fit.1))

parts_fit : (form : Form) (fields : FieldTree) (v : PlainValue) → Fits form fields v → PartsHold FitsField fields 0 v
parts_fit form fields null_value fit = nulls_hold FitsField null_fits fields 0 null_value (λ k. refl)
parts_fit form fields (bool_value b) fit = nulls_hold FitsField null_fits fields 0 (bool_value b) (λ k. refl)
parts_fit form fields (int_value z) fit = nulls_hold FitsField null_fits fields 0 (int_value z) (λ k. refl)
parts_fit form fields (binary_value bytes) fit = nulls_hold FitsField null_fits fields 0 (binary_value bytes) (λ k. refl)
parts_fit form fields (utf8_value bytes) fit = nulls_hold FitsField null_fits fields 0 (utf8_value bytes) (λ k. refl)
parts_fit form fields (list_value items) fit = nulls_hold FitsField null_fits fields 0 (list_value items) (λ k. refl)
parts_fit form fields (struct_value parts) fit = struct_fits fields parts fit.1

-- the items of all lists fit the first field
lists_fit : (n : ℕ) (form : Form) (c : FieldTree) (vs : List PlainValue) → AllByRecursion (Fits form c) vs → ColumnsHold FitsField c (flat_map (items_in_value n) vs ∷ [])
lists_fit n form none vs fit = tt
lists_fit n form (more h c rest) vs fit = (items_hold n (Fits form (more h c rest)) (FitsField h c) (item_fits n form h c rest) vs fit, none_hold FitsField rest)

-- the values below a node of values that fit it fit the fields there
below_fit : (form : Form) (c : FieldTree) (vs : List PlainValue) → AllByRecursion (Fits form c) vs → ColumnsHold FitsField c (raws_below form c vs)
below_fit forms.Nulls c vs fit = none_hold FitsField c
below_fit forms.Bits c vs fit = none_hold FitsField c
below_fit (forms.Numbers number) c vs fit = none_hold FitsField c
below_fit (forms.Bytes w) c vs fit = none_hold FitsField c
below_fit (forms.Texts w) c vs fit = none_hold FitsField c
below_fit (forms.FixedBytes w) c vs fit = none_hold FitsField c
below_fit (forms.Lists w) c vs fit = lists_fit (nulls_under w) (forms.Lists w) c vs fit
below_fit forms.Structs c vs fit = columns_hold FitsField c 0 vs (all_change (Fits forms.Structs c) (PartsHold FitsField c 0) (parts_fit forms.Structs c) vs fit)

-- and there is a column for each of them
one_below : (c : FieldTree) (vs : List PlainValue) (w : ListForm) → HasFieldsOf (forms.Lists w) c → length (raws_below (forms.Lists w) c vs) ≡ width c
one_below none vs w formed = absurd formed
one_below (more h c none) vs w formed = refl
one_below (more h c (more h' c' rest)) vs w formed = absurd formed

below_many : (form : Form) (c : FieldTree) (vs : List PlainValue) → HasFieldsOf form c → length (raws_below form c vs) ≡ width c
below_many forms.Nulls c vs formed = ap width (sym formed)
below_many forms.Bits c vs formed = ap width (sym formed)
below_many (forms.Numbers number) c vs formed = ap width (sym formed)
below_many (forms.Bytes w) c vs formed = ap width (sym formed)
below_many (forms.Texts w) c vs formed = ap width (sym formed)
below_many (forms.FixedBytes w) c vs formed = ap width (sym formed)
below_many (forms.Lists w) c vs formed = one_below c vs w formed
below_many forms.Structs c vs formed = length-map-range_with_len (λ k. map (field_value k) vs) 0 (width c)

-- below a field without an encoding
raised_inside : (tag : TypeId) (e : Option Encoding) (c : FieldTree) (vs : List PlainValue) → IfFlattened e (HasFieldsOf (form_of tag) c × AreFormed c)
    → (HasFieldsOf (node_form tag e) c → AreFormed c → AreRaws c (raws_below (node_form tag e) c vs)) → IfFlattened e (AreRaws c (raws_below (node_form tag e) c vs))
raised_inside tag None c vs formed raise = raise formed.0 formed.1
raised_inside tag (Some e) c vs formed raise = tt

-- values that fit their fields, on every level
pub raised : (fields : FieldTree) (raws : List (List PlainValue)) → length raws ≡ width fields → AreFormed fields → ColumnsHold FitsField fields raws → AreRaws fields raws
raised none [] long formed fit = tt
raised none (vs ∷ raws) long formed fit = absurd (omega (arith, long))
raised (more h c rest) [] long formed fit = absurd (omega (arith, long))
raised (more h c rest) (vs ∷ raws) long formed fit = (
  all_change (FitsField h c) (IsOwn (head_form h) c) (fit_is_own (head_form h) c) vs fit.0,
  raised_inside h.tag h.encoding c vs formed.0 (λ own inner. raised c (inner_raws h c vs) (below_many (head_form h) c vs own) inner (below_fit (head_form h) c vs fit.0)),
  raised rest raws (omega (arith, long)) formed.1 fit.1,
)

-- there are as many columns as fields of the columns, and the raw values fit them
columns_long : (cs : List Column) → length (raws_of cs) ≡ width (fields_of_columns cs)
columns_long [] = refl
columns_long (c ∷ cs) = omega (arith, columns_long cs)

columns_fit : (cs : List Column) → AllByRecursion IsColumn cs → ColumnsHold FitsField (fields_of_columns cs) (raws_of cs)
columns_fit [] known = tt
columns_fit (c ∷ cs) known = (known.0.fits, columns_fit cs known.1)

-- dictionaries that agree with two lists together agree with each
agree_left : (xs ys : List (ℤ × ValueList)) (d : ℤ → List PlainValue) → Agree (xs ++ ys) d → Agree xs d
agree_left [] ys d agree = tt
agree_left (x ∷ xs) ys d agree = (agree.0, agree_left xs ys d agree.1)

agree_right : (xs ys : List (ℤ × ValueList)) (d : ℤ → List PlainValue) → Agree (xs ++ ys) d → Agree ys d
agree_right [] ys d agree = agree
agree_right (x ∷ xs) ys d agree = agree_right xs ys d agree.1

-- each index has its entry
entries_of : (cs : List Column) (d : ℤ → List PlainValue) → AllByRecursion IsColumn cs → Agree (listed_of cs) d → HaveEntries d (fields_of_columns cs) (raws_of cs)
entries_of [] d known agree = tt
entries_of (c ∷ cs) d known agree =
    ((c.resolved, known.0.resolves d (agree_left c.dictionaries (listed_of cs) d agree)), entries_of cs d known.1 (agree_right c.dictionaries (listed_of cs) d agree))

-- the raw values of all columns can be stored
pub hold_raws : ColumnsHoldRaws
hold_raws = λ cs known. record {
  raws = λ formed. raised (fields_of_columns cs) (raws_of cs) (columns_long cs) formed (columns_fit cs known);
  entries = λ d agree. entries_of cs d known agree;
}
