-- Why the raw values of every array fit its type.
use Rattle.std.proofs.Common.{◌≡◌, ◌≤◌, ◌<◌, ◌+◌, ◌-◌, ◌*◌, ℕ, zero, suc, Bool, true, false, List, [], ◌∷◌, length, map, take, drop, get_or, Option, None, Some, refl, sym, subst, arith, if◌then◌else◌, inl, inr, length-take, length-drop}
use Rattle.std.proofs.lemmas.List.{get_or-drop}
use Rattle.std.specs.List.{AllByRecursion, range_with_len}
use Rattle.std.specs.Prelude.{slice_range, IsUtf8}
use Rattle.arrow_bits.specs.Numbers.{FitsInt, IsIntWidth, int_of}
use Rattle.arrow_bits.proofs.Ranged.{int_fits}
use Rattle.arrow_bits.proofs.Reading.{bytes_take}
use Rattle.arrow_types.specs.Field.{FieldTree, FieldHeader, none, more, TypeShape}
use Rattle.arrow_types.specs.declared.field.Encoding.{Encoding}
use Rattle.arrow_data.specs.Column.{Column, AreOf, IsColumn}
use Rattle.arrow_layout.specs.Fits.{AllFit, Fits, FitsType, HoldsBinary, HoldsInt, HoldsUtf8, ItemsFit, PartsFit}
use Rattle.arrow_layout.specs.Form.{form_of, node_form, number_width, HoldsItems, HoldsList}
use Rattle.arrow_layout.specs.ByteRanges.{AreBytes, bytes_of}
use Rattle.arrow_data.specs.Node.{AreInts, AreRanges, IsFormat, raw_slot}
use Rattle.arrow_layout.specs.PlainValue.{PlainValue, value_at, list_of_values, null_value, values_of}
use Rattle.arrow_layout.specs.Slots.{slots, is_valid_at, item_place, items_at, range_of, HasItemPlaces}
use Rattle.arrow_data.specs.declared.array.Ranges.{Ranges}
use Rattle.arrow_data.specs.declared.array.Ranges.TheVariants as ranges
use Rattle.arrow_data.specs.declared.buffers.Ints.{Ints}
use Rattle.arrow_layout.specs.declared.byte_range.ByteRange.{ByteRange}
use Rattle.arrow_layout.specs.declared.form.Form.{Form}
use Rattle.arrow_layout.specs.declared.form.Form.TheVariants as forms
use Rattle.arrow_layout.specs.declared.form.ListForm.{ListForm}
use Rattle.arrow_layout.specs.declared.form.ListForm.TheVariants.{Offsets, Fixed}
use Rattle.arrow_layout.specs.declared.form.OffsetWidth.{OffsetWidth}
use Rattle.arrow_data.proofs.Lists.{list_again}
use Rattle.arrow_layout.proofs.Widths.{items_inside, slot_inside}

-- slot by slot
fit_from : (P : PlainValue → Type 0) (n a : ℕ) (f : ℕ → PlainValue) → ((j : ℕ) → j < a + n → P (f j)) → AllByRecursion P (map f (range_with_len a n))
fit_from P zero a f h = tt
fit_from P (suc n) a f h = (h a (omega arith), fit_from P n (a + 1) f (λ j l. h j (omega arith)))

-- if the value of each slot has the property, all values have it
pub slots_fit : (P : PlainValue → Type 0) (n : ℕ) (f : ℕ → PlainValue) → ((j : ℕ) → j < n → P (f j)) → AllByRecursion P (slots n f)
slots_fit P n f h = fit_from P n 0 f (λ j l. h j (omega arith))

-- a slot fits if its value fits when the slot is valid
pub shown_fits : (form : Form) (fields : FieldTree) (valid : Bool) (x : PlainValue) → (valid ≡ true → Fits form fields x) → Fits form fields (if valid then x else null_value)
shown_fits form fields true x h = h refl
shown_fits form fields false x h = tt

-- each element of a range of bytes is a byte
pub part_small : (body : List ℕ) (r : ByteRange) → AreBytes body → (i : ℕ) → get_or (bytes_of body r) i 0 < 256
part_small body r small i = bytes_take (r.end - r.start) (drop r.start body) (λ k. rw (get_or-drop r.start body k 0) (small (r.start + k))) i

-- a width is at least one byte
pub some_bytes : (width : ℕ) (signed : Bool) → IsIntWidth width signed → 1 ≤ width
some_bytes width signed (inl (inl one)) = omega (arith, one)
some_bytes width signed (inl (inr (inl two))) = omega (arith, two)
some_bytes width signed (inl (inr (inr (inl four)))) = omega (arith, four)
some_bytes width signed (inl (inr (inr (inr eight)))) = omega (arith, eight)
some_bytes width signed (inr sixteen) = omega (arith, sixteen.0)

-- the number of a slot fits the form of its width and sign
int_fits_form : (form : Form) (len : ℕ) (body : List ℕ) (n : Ints) (j : ℕ) → AreBytes body → IsFormat form n → AreInts len body n → j < len
    → HoldsInt form (int_of (bytes_of body n.values) (n.width * j) n.width n.signed)
int_fits_form forms.Nulls len body n j small format ints l = absurd format
int_fits_form forms.Bits len body n j small format ints l = absurd format
int_fits_form (forms.Numbers number) len body n j small format ints l =
    let inside = slot_inside n.width j len (length (bytes_of body n.values)) l ints.laid.long in
    let own = int_fits n.width (n.width * j) n.signed (bytes_of body n.values) (some_bytes n.width n.signed ints.whole) (part_small body n.values small) inside in
    let z = int_of (bytes_of body n.values) (n.width * j) n.width n.signed in
    subst (λ s. FitsInt (number_width number) s z) format.1 (subst (λ w. FitsInt w n.signed z) format.0 own)
int_fits_form (forms.Bytes w) len body n j small format ints l = absurd format
int_fits_form (forms.Texts w) len body n j small format ints l = absurd format
int_fits_form (forms.FixedBytes w) len body n j small format ints l = absurd format
int_fits_form (forms.Lists w) len body n j small format ints l = absurd format
int_fits_form forms.Structs len body n j small format ints l = absurd format

-- if all values have the property, those of a range have it
pub all_take : (P : PlainValue → Type 0) (n : ℕ) (xs : List PlainValue) → AllByRecursion P xs → AllByRecursion P (take n xs)
all_take P zero xs h = tt
all_take P (suc n) [] h = tt
all_take P (suc n) (x ∷ xs) h = (h.0, all_take P n xs h.1)

pub all_drop : (P : PlainValue → Type 0) (n : ℕ) (xs : List PlainValue) → AllByRecursion P xs → AllByRecursion P (drop n xs)
all_drop P zero xs h = h
all_drop P (suc n) [] h = tt
all_drop P (suc n) (x ∷ xs) h = all_drop P n xs h.1

-- the value in a slot, which is null if there is no such slot
pub all_at : (P : PlainValue → Type 0) (xs : List PlainValue) (j : ℕ) → P null_value → AllByRecursion P xs → P (value_at xs j)
all_at P [] j nothing h = nothing
all_at P (x ∷ xs) zero nothing h = h.0
all_at P (x ∷ xs) (suc j) nothing h = all_at P xs j nothing h.1

-- items of a list that each fit its field
pub items_fit : (head : FieldHeader) (children rest : FieldTree) (vs : List PlainValue) → AllFit (record { tag = head.tag; children = children }) head.encoding vs → ItemsFit (more head children rest) (values_of vs)
items_fit head children rest [] h = tt
items_fit head children rest (v ∷ vs) h = (h.0, items_fit head children rest vs h.1)

-- the values of a column of a field fit the field
field_fits : (head : FieldHeader) (children : FieldTree) (c : Column) → c.data_type ≡ record { tag = head.tag; children = children } → c.encoding ≡ head.encoding → IsColumn c
    → AllFit (record { tag = head.tag; children = children }) head.encoding c.raw
field_fits head children c typed encoded known = subst (λ e. AllFit (record { tag = head.tag; children = children }) e c.raw) encoded (subst (λ t. AllFit t c.encoding c.raw) typed known.fits)

-- a range of the child's values
list_fits : (fields : FieldTree) (child : Column) (a b : ℕ) → AreOf fields (child ∷ []) → IsColumn child → ItemsFit fields (values_of (slice_range child.raw a b))
list_fits none child a b typed known = absurd typed
list_fits (more head children rest) child a b typed known =
    let P = FitsType (record { tag = head.tag; children = children }) head.encoding in
    items_fit head children rest (slice_range child.raw a b) (all_take P (b - a) (drop a child.raw) (all_drop P a child.raw (field_fits head children child typed.0 typed.1 known)))

-- as many items as the form requires
items_many : (w : ListForm) (len j : ℕ) (places : List ℕ) (xs : List PlainValue) → HasItemPlaces w len (length xs) places → j < len → HoldsItems w (length (items_at w places xs j))
items_many (Offsets width) len j places xs laid l = tt
items_many (Fixed size) len j places xs laid l =
    let inside = items_inside size j len (length xs) l laid in
    let start = size * j in
    let stop = size * (j + 1) in
    let long : stop ≡ start + size = omega arith in
    omega (arith, length-take (stop - start) (drop start xs), length-drop start xs, inside.0, inside.1, long)

-- a list of the child's values has as many items as the form requires
pub list_many : (form : Form) (w : ListForm) (len j : ℕ) (places : List ℕ) (xs : List PlainValue) → form ≡ forms.Lists w → HasItemPlaces w len (length xs) places → j < len
    → HoldsList form (length (list_of_values (values_of (items_at w places xs j))))
list_many form w len j places xs is laid l =
    subst (λ f. HoldsList f (length (list_of_values (values_of (items_at w places xs j))))) (sym is) (rw (list_again (items_at w places xs j)) (items_many w len j places xs laid l))

-- a slot of each of the children
struct_fits : (fields : FieldTree) (cs : List Column) (j : ℕ) → AreOf fields cs → AllByRecursion IsColumn cs
    → PartsFit fields (values_of (map (λ values. value_at values j) (map (λ (c : Column). c.raw) cs)))
struct_fits none [] j typed known = tt
struct_fits none (c ∷ cs) j typed known = absurd typed
struct_fits (more head children rest) [] j typed known = absurd typed
struct_fits (more head children rest) (c ∷ cs) j typed known =
    (all_at (FitsType (record { tag = head.tag; children = children }) head.encoding) c.raw j tt (field_fits head children c typed.0 typed.1 known.0), struct_fits rest cs j typed.2 known.1)

-- the number of bytes in a slot of fixed width is that width
fixed_long : (width j : ℕ) (bytes : List ℕ) → width * j + width ≤ length bytes → length (slice_range bytes (width * j) (width * j + width)) ≡ width
fixed_long width j bytes inside = omega (arith, length-take (width * j + width - width * j) (drop (width * j) bytes), length-drop (width * j) bytes)

-- byte strings fit the form of byte strings, and texts fit the form of texts
binary_fits : (form : Form) (w : OffsetWidth) (bytes : List ℕ) → form ≡ forms.Bytes w → HoldsBinary form bytes
binary_fits form w bytes is = subst (λ f. HoldsBinary f bytes) (sym is) tt

utf8_fits : (form : Form) (w : OffsetWidth) (bytes : List ℕ) → form ≡ forms.Texts w → IsUtf8 bytes → HoldsUtf8 form bytes
utf8_fits form w bytes is text = subst (λ f. HoldsUtf8 f bytes) (sym is) text

-- the values of a node's ranges fit its type
pub ranges_fit : (len : ℕ) (t : TypeShape) (e : Option Encoding) (body : List ℕ) (r : Ranges) → AreBytes body → AreRanges len t e body r → AllFit t e (slots len (raw_slot body r))
ranges_fit len t e body ranges.Nulls small h = slots_fit (FitsType t e) len _ (λ j l. tt)
ranges_fit len t e body (ranges.Bools b) small h =
    subst (λ x. AllFit t x (slots len (raw_slot body (ranges.Bools b)))) (sym h.0) (slots_fit (FitsType t None) len _ (λ j l. shown_fits (form_of t.tag) t.children (is_valid_at (bytes_of body b.validity) j) _ (λ _. h.1)))
ranges_fit len t e body (ranges.Ints n) small h =
    subst (λ x. AllFit t x (slots len (raw_slot body (ranges.Ints n)))) (sym h.0) (slots_fit (FitsType t None) len _ (λ j l.
    shown_fits (form_of t.tag) t.children (is_valid_at (bytes_of body n.validity) j) _ (λ _. int_fits_form (form_of t.tag) len body n j small h.1 h.2 l)))
ranges_fit len t e body (ranges.Binaries s) small h =
    subst (λ x. AllFit t x (slots len (raw_slot body (ranges.Binaries s)))) (sym h.0) (slots_fit (FitsType t None) len _ (λ j l.
    shown_fits (form_of t.tag) t.children (is_valid_at (bytes_of body s.validity) j) _ (λ _. binary_fits (form_of t.tag) s.width (range_of s.width (bytes_of body s.offsets) (bytes_of body s.bytes) j) h.1)))
ranges_fit len t e body (ranges.Texts s) small h =
    subst (λ x. AllFit t x (slots len (raw_slot body (ranges.Texts s)))) (sym h.0) (slots_fit (FitsType t None) len _ (λ j l.
    shown_fits (form_of t.tag) t.children (is_valid_at (bytes_of body s.validity) j) _ (λ valid. utf8_fits (form_of t.tag) s.width (range_of s.width (bytes_of body s.offsets) (bytes_of body s.bytes) j) h.1 (h.3 j l valid))))
ranges_fit len t e body (ranges.FixedBytes f) small h =
    let bytes = bytes_of body f.values in
    subst (λ x. AllFit t x (slots len (raw_slot body (ranges.FixedBytes f)))) (sym h.0) (slots_fit (FitsType t None) len _ (λ j l.
    shown_fits (form_of t.tag) t.children (is_valid_at (bytes_of body f.validity) j) _ (λ _.
    subst (λ x. HoldsBinary x (slice_range bytes (f.width * j) (f.width * j + f.width))) (sym h.1) (fixed_long f.width j bytes (slot_inside f.width j len (length bytes) l h.2.laid.long)))))
ranges_fit len t e body (ranges.Lists w v o child) small h =
    let places = bytes_of body o in
    subst (λ x. AllFit t x (slots len (raw_slot body (ranges.Lists w v o child)))) (sym h.0) (slots_fit (FitsType t None) len _ (λ j l.
    shown_fits (form_of t.tag) t.children (is_valid_at (bytes_of body v) j) _ (λ _.
    (list_many (form_of t.tag) w len j places child.value.raw h.1 h.2.laid.rising l, list_fits t.children child.value (item_place w places j) (item_place w places (j + 1)) h.2.typed h.2.known))))
ranges_fit len t e body (ranges.Structs v children) small h =
    subst (λ x. AllFit t x (slots len (raw_slot body (ranges.Structs v children)))) (sym h.0) (slots_fit (FitsType t None) len _ (λ j l.
    shown_fits (form_of t.tag) t.children (is_valid_at (bytes_of body v) j) _ (λ _. (h.1, struct_fits t.children children.items j h.2.typed h.2.known))))
ranges_fit len t None body (ranges.Indices n d) small h = absurd h
ranges_fit len t (Some e) body (ranges.Indices n d) small h =
    slots_fit (FitsType t (Some e)) len _ (λ j l.
    shown_fits (node_form t.tag (Some e)) t.children (is_valid_at (bytes_of body n.validity) j) _ (λ _. int_fits_form (node_form t.tag (Some e)) len body n j small h.format h.ints l))
