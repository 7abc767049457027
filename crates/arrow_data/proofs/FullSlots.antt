-- Slots of which none is null, and the bytes of their values.
use Rattle.std.proofs.Common.{◌≡◌, ◌≤◌, ◌<◌, ℕ, zero, suc, ◌+◌, ◌-◌, ◌*◌, Bool, true, false, List, [], ◌∷◌, ◌++◌, length, take, drop, refl, sym, ap, ◌∙◌, subst, arith, if◌then◌else◌, append-nil}
use Rattle.std.specs.Prelude.{not, slice_range, Option, None, Some}
use Rattle.std.specs.List.{flat_map}
use Rattle.std.specs.List.Sorted.{IsNonDecreasing}
use Rattle.std.proofs.Math.Nat.{mul-suc}
use Rattle.std.proofs.Math.Seq.{take-add}
use Rattle.std.proofs.lemmas.Grind.{flat_map-append}
use Rattle.std.proofs.lemmas.List.{drop-drop, get_or-drop, length-drop}
use Rattle.arrow_bits.specs.Numbers.{int_bytes, int_of}
use Rattle.arrow_bits.specs.Offsets.{plain_list}
use Rattle.arrow_types.specs.Field.{TypeShape}
use Rattle.arrow_types.specs.declared.field.Encoding.{Encoding}
use Rattle.arrow_data.specs.Column.{Column, ValueList, values_from}
use Rattle.arrow_layout.specs.Form.{node_form, offset_bytes}
use Rattle.arrow_data.specs.FullSlots.{AreFull, IsFirstNull, value_bytes, width_in}
use Rattle.arrow_layout.specs.Slots.{IsFirstInvalid, HasBits, is_valid_at, or_null, place_of, range_of, slots}
use Rattle.arrow_layout.specs.ByteRanges.{AreBytes, IsInside, bytes_of}
use Rattle.arrow_data.specs.Node.{AreEntriesBy, AreInts, AreRanges, IsFormat, fixed_at, int_at, raw_slot, validity_in}
use Rattle.arrow_layout.specs.PlainValue.{PlainValue, null_value, binary_value, int_value, is_null_value, value_at}
use Rattle.arrow_data.specs.declared.array.Ranges.{Ranges}
use Rattle.arrow_data.specs.declared.array.Ranges.TheVariants as ranges
use Rattle.arrow_layout.specs.declared.byte_range.ByteRange.{ByteRange}
use Rattle.arrow_data.specs.declared.buffers.Fixed.{Fixed}
use Rattle.arrow_data.specs.declared.buffers.Ints.{Ints}
use Rattle.arrow_data.specs.declared.buffers.Strings.{Strings}
use Rattle.arrow_layout.specs.declared.form.Form.{Form}
use Rattle.arrow_layout.specs.declared.form.Form.TheVariants as forms
use Rattle.arrow_data.proofs.Again.{int_again_at}
use Rattle.arrow_layout.proofs.Cuts.{places_order}
use Rattle.arrow_data.proofs.Fitting.{part_small, some_bytes}
use Rattle.arrow_data.proofs.Sameness.{at_values_from, length-values_from}
use Rattle.arrow_data.proofs.Shown.{at_slots}
use Rattle.arrow_layout.proofs.Widths.{slot_inside}

-- the first k + 1 values are the first k and one more
take_next : (vs : List PlainValue) (k : ℕ) → k < length vs → take (suc k) vs ≡ take k vs ++ value_at vs k ∷ []
take_next [] k h = absurd (omega (arith, h))
take_next (v ∷ vs) zero h = refl
take_next (v ∷ vs) (suc k) h = ap (λ others. v ∷ others) (take_next vs k (omega (arith, h)))

-- a range of a list is a range and the one after it
part_both : {A : Type 0} (xs : List A) (a b c : ℕ) → a ≤ b → b ≤ c → slice_range xs a c ≡ slice_range xs a b ++ slice_range xs b c
part_both xs a b c low high =
    let count : c - a ≡ (b - a) + (c - b) = omega (arith, low, high) in
    let place : a + (b - a) ≡ b = omega (arith, low) in
    ap (λ n. take n (drop a xs)) count ∙ take-add (b - a) (c - b) (drop a xs)
    ∙ ap (λ others. slice_range xs a b ++ take (c - b) others) (drop-drop (b - a) a xs ∙ ap (λ n. drop n xs) place)

-- the elements of each slot of a range lie between two consecutive indices of `all`
abbrev pub LieBetween : {A : Type 0} → (PlainValue → List A) → List PlainValue → List A → (ℕ → ℕ) → ℕ → ℕ → Type 0
LieBetween g raw all place start stop =
    (j : ℕ) → start ≤ j → j < stop → (place j ≤ place (j + 1)) × (g (value_at raw j) ≡ slice_range all (place j) (place (j + 1)))

-- so the indices never decrease
pub places_rise : {A : Type 0} (g : PlainValue → List A) (raw : List PlainValue) (all : List A) (place : ℕ → ℕ) (start n : ℕ) → LieBetween g raw all place start (start + n) → place start ≤ place (start + n)
places_rise g raw all place start zero each = let same : start ≡ start + 0 = omega arith in omega (arith, ap place same)
places_rise g raw all place start (suc n) each =
    let one : start + n + 1 ≡ start + suc n = omega arith in
    omega (arith, places_rise g raw all place start n (λ j low high. each j low (omega (arith, high))), (each (start + n) (omega arith) (omega arith)).0, ap place one)

-- and the elements of all slots lie between the first index and the last
joined : {A : Type 0} (g : PlainValue → List A) (raw : List PlainValue) (all : List A) (place : ℕ → ℕ) (start n : ℕ) → start + n ≤ length raw → LieBetween g raw all place start (start + n)
    → flat_map g (take n (drop start raw)) ≡ slice_range all (place start) (place (start + n))
joined g raw all place start zero inside each =
    let same : start + 0 ≡ start = omega arith in
    let none : 0 ≡ place start - place start = omega arith in
    ap (λ k. take k (drop (place start) all)) none ∙ ap (λ k. slice_range all (place start) (place k)) (sym same)
joined g raw all place start (suc n) inside each =
    let one : start + n + 1 ≡ start + suc n = omega arith in
    let before = λ (j : ℕ) (low : start ≤ j) (high : j < start + n). each j low (omega (arith, high)) in
    let last = each (start + n) (omega arith) (omega arith) in
    ap (flat_map g) (take_next (drop start raw) n (omega (arith, inside, length-drop start raw)) ∙ ap (λ v. take n (drop start raw) ++ v ∷ []) (get_or-drop start raw n null_value))
    ∙ flat_map-append g (take n (drop start raw)) (value_at raw (start + n) ∷ [])
    ∙ (λ i. joined g raw all place start n (omega (arith, inside)) before i ++ (append-nil (g (value_at raw (start + n))) ∙ last.1) i)
    ∙ sym (part_both all (place start) (place (start + n)) (place (start + n + 1)) (places_rise g raw all place start n before) last.0)
    ∙ ap (λ k. slice_range all (place start) (place k)) one

-- the elements of a range of slots
pub joined_range : {A : Type 0} (g : PlainValue → List A) (raw : List PlainValue) (all : List A) (place : ℕ → ℕ) (start stop : ℕ) → start ≤ stop → stop ≤ length raw → LieBetween g raw all place start stop
    → slice_range all (place start) (place stop) ≡ flat_map g (values_from raw start stop)
joined_range g raw all place start stop order inside each =
    let end : start + (stop - start) ≡ stop = omega (arith, order) in
    ap (λ k. slice_range all (place start) (place k)) (sym end)
    ∙ sym (joined g raw all place start (stop - start) (omega (arith, order, inside)) (λ j low high. each j low (omega (arith, high, order))))

-- the value that a slot shows if it is not null
pub full_value : (valid : Bool) (payload shown : PlainValue) → shown ≡ (if valid then payload else null_value) → is_null_value shown ≡ false → shown ≡ payload
full_value true payload shown is full = is
full_value false payload shown is full = let no : true ≡ false = ap is_null_value (sym is) ∙ full in cc

-- the value of a slot
slots_long : (raw : List PlainValue) (len : ℕ) (slot : ℕ → PlainValue) → raw ≡ slots len slot → (j : ℕ) → j < len → value_at raw j ≡ slot j
slots_long raw len slot is j h = ap (λ vs. value_at vs j) is ∙ at_slots len slot j h

-- two ranges that are both given and equal as options are equal
same_range : (v w : ByteRange) → ◌≡◌ {A = Option ByteRange} (Some v) (Some w) → v ≡ w
same_range v w e = cc

-- a slot is null if it is not valid
null_by : (valid : Bool) (payload : PlainValue) → is_null_value payload ≡ false → is_null_value (if valid then payload else null_value) ≡ not valid
null_by true payload full = full
null_by false payload full = refl

-- the same for every node that has a bitmap or an empty one
pub null_where : (body : List ℕ) (r : Ranges) (v : ByteRange) (j : ℕ) → validity_in r ≡ Some v → is_null_value (raw_slot body r j) ≡ not (is_valid_at (bytes_of body v) j)
null_where body ranges.Nulls v j is = cc
null_where body (ranges.Bools b) v j is = null_by (is_valid_at (bytes_of body b.validity) j) _ refl ∙ ap (λ x. not (is_valid_at (bytes_of body x) j)) (same_range b.validity v is)
null_where body (ranges.Ints n) v j is = null_by (is_valid_at (bytes_of body n.validity) j) _ refl ∙ ap (λ x. not (is_valid_at (bytes_of body x) j)) (same_range n.validity v is)
null_where body (ranges.Binaries s) v j is = null_by (is_valid_at (bytes_of body s.validity) j) _ refl ∙ ap (λ x. not (is_valid_at (bytes_of body x) j)) (same_range s.validity v is)
null_where body (ranges.Texts s) v j is = null_by (is_valid_at (bytes_of body s.validity) j) _ refl ∙ ap (λ x. not (is_valid_at (bytes_of body x) j)) (same_range s.validity v is)
null_where body (ranges.FixedBytes f) v j is = null_by (is_valid_at (bytes_of body f.validity) j) _ refl ∙ ap (λ x. not (is_valid_at (bytes_of body x) j)) (same_range f.validity v is)
null_where body (ranges.Lists w o p child) v j is = null_by (is_valid_at (bytes_of body o) j) _ refl ∙ ap (λ x. not (is_valid_at (bytes_of body x) j)) (same_range o v is)
null_where body (ranges.Structs o children) v j is = null_by (is_valid_at (bytes_of body o) j) _ refl ∙ ap (λ x. not (is_valid_at (bytes_of body x) j)) (same_range o v is)
null_where body (ranges.Indices n d) v j is = null_by (is_valid_at (bytes_of body n.validity) j) _ refl ∙ ap (λ x. not (is_valid_at (bytes_of body x) j)) (same_range n.validity v is)

-- each slot of a node without validity is null
pub null_always : (body : List ℕ) (r : Ranges) (j : ℕ) → validity_in r ≡ None → is_null_value (raw_slot body r j) ≡ true
null_always body ranges.Nulls j is = refl
null_always body (ranges.Bools b) j is = cc
null_always body (ranges.Ints n) j is = cc
null_always body (ranges.Binaries s) j is = cc
null_always body (ranges.Texts s) j is = cc
null_always body (ranges.FixedBytes f) j is = cc
null_always body (ranges.Lists w o p child) j is = cc
null_always body (ranges.Structs o children) j is = cc
null_always body (ranges.Indices n d) j is = cc

-- the validity has a bit for each slot, or is empty
pub validity_long : (len : ℕ) (t : TypeShape) (e : Option Encoding) (body : List ℕ) (r : Ranges) (v : ByteRange) → validity_in r ≡ Some v → AreRanges len t e body r
    → IsInside body v × HasBits len (bytes_of body v)
validity_long len t e body ranges.Nulls v is ok = cc
validity_long len t e body (ranges.Bools b) v is ok = subst (λ x. IsInside body x × HasBits len (bytes_of body x)) (same_range b.validity v is) (ok.2.validity, ok.2.laid.bits)
validity_long len t e body (ranges.Ints n) v is ok = subst (λ x. IsInside body x × HasBits len (bytes_of body x)) (same_range n.validity v is) (ok.2.validity, ok.2.laid.bits)
validity_long len t e body (ranges.Binaries s) v is ok = subst (λ x. IsInside body x × HasBits len (bytes_of body x)) (same_range s.validity v is) (ok.2.validity, ok.2.laid.bits)
validity_long len t e body (ranges.Texts s) v is ok = subst (λ x. IsInside body x × HasBits len (bytes_of body x)) (same_range s.validity v is) (ok.2.validity, ok.2.laid.bits)
validity_long len t e body (ranges.FixedBytes f) v is ok = subst (λ x. IsInside body x × HasBits len (bytes_of body x)) (same_range f.validity v is) (ok.2.validity, ok.2.laid.bits)
validity_long len t e body (ranges.Lists w o p child) v is ok = subst (λ x. IsInside body x × HasBits len (bytes_of body x)) (same_range o v is) (ok.2.validity, ok.2.laid.bits)
validity_long len t e body (ranges.Structs o children) v is ok = subst (λ x. IsInside body x × HasBits len (bytes_of body x)) (same_range o v is) (ok.2.validity, ok.2.laid.bits)
validity_long len t None body (ranges.Indices n d) v is ok = absurd ok
validity_long len t (Some e) body (ranges.Indices n d) v is ok = subst (λ x. IsInside body x × HasBits len (bytes_of body x)) (same_range n.validity v is) (ok.ints.validity, ok.ints.laid.bits)

-- the first slot that is not valid is the first null one
pub first_of : (c : Column) (len : ℕ) (body : List ℕ) (r : Ranges) (v : ByteRange) (start stop i : ℕ) → c.raw ≡ slots len (raw_slot body r) → validity_in r ≡ Some v → stop ≤ len
    → IsFirstInvalid (bytes_of body v) start stop i → IsFirstNull c start stop i
first_of c len body r v start stop i raw is inside first =
    let shown = λ (j : ℕ) (h : j < len). ap is_null_value (slots_long c.raw len (raw_slot body r) raw j h) ∙ null_where body r v j is in
    record {
      low = first.low;
      high = first.high;
      full = λ j low high. shown j (omega (arith, high, first.high, inside)) ∙ ap not (first.valid j low high);
      null = λ h. shown i (omega (arith, h, inside)) ∙ ap not (first.invalid h);
    }

-- if all slots are null, it is the first slot
pub first_always : (c : Column) (len : ℕ) (body : List ℕ) (r : Ranges) (start stop : ℕ) → c.raw ≡ slots len (raw_slot body r) → validity_in r ≡ None → start ≤ stop → stop ≤ len → IsFirstNull c start stop start
first_always c len body r start stop raw is order inside = record {
  low = omega arith;
  high = order;
  full = λ j low high. absurd (omega (arith, low, high));
  null = λ h. ap is_null_value (slots_long c.raw len (raw_slot body r) raw start (omega (arith, h, inside))) ∙ null_always body r start is;
}

-- a range of one width
part_is : (w j : ℕ) (bytes : List ℕ) → (w * j ≤ w * (j + 1)) × (take w (drop (w * j) bytes) ≡ slice_range bytes (w * j) (w * (j + 1)))
part_is w j bytes =
    let next : w * (j + 1) ≡ w * j + w = omega (arith, mul-suc w j) in
    let wide : w ≡ w * (j + 1) - w * j = omega (arith, next) in
    (omega (arith, next), ap (λ n. take n (drop (w * j) bytes)) wide)

-- the width of the numbers of a form
format_width : (form : Form) (n : Ints) → IsFormat form n → width_in form ≡ n.width
format_width forms.Nulls n format = absurd format
format_width forms.Bits n format = absurd format
format_width (forms.Numbers number) n format = sym format.0
format_width (forms.Bytes w) n format = absurd format
format_width (forms.Texts w) n format = absurd format
format_width (forms.FixedBytes w) n format = absurd format
format_width (forms.Lists w) n format = absurd format
format_width forms.Structs n format = absurd format

-- the bytes of numbers
pub ints_part : (form : Form) (c : Column) (len : ℕ) (body : List ℕ) (n : Ints) (start stop : ℕ) → c.raw ≡ slots len (λ j. int_at body n j) → len ≡ length c.raw → IsFormat form n → AreInts len body n → AreBytes body
    → start ≤ stop → stop ≤ len → AreFull c start stop → slice_range (bytes_of body n.values) (n.width * start) (n.width * stop) ≡ flat_map (value_bytes form) (values_from c.raw start stop)
ints_part form c len body n start stop raw long format ints small order inside full =
    let values = bytes_of body n.values in
    joined_range (value_bytes form) c.raw values (λ j. n.width * j) start stop order (omega (arith, inside, long)) (λ j low high.
    let here : j < len = omega (arith, high, inside) in
    let shown = full_value (is_valid_at (bytes_of body n.validity) j) (int_value (int_of values (n.width * j) n.width n.signed)) (value_at c.raw j) (slots_long c.raw len (λ k. int_at body n k) raw j here) (full j low high) in
    let part = part_is n.width j values in (
      part.0,
      ap (value_bytes form) shown ∙ ap (λ w. int_bytes w (int_of values (n.width * j) n.width n.signed)) (format_width form n format)
          ∙ int_again_at n.width n.signed values (n.width * j) (some_bytes n.width n.signed ints.whole) (part_small body n.values small) (slot_inside n.width j len (length values) here ints.laid.long) ∙ part.1,
    ))

-- the bytes of byte strings of one width
pub fixed_part : (form : Form) (c : Column) (len : ℕ) (body : List ℕ) (f : Fixed) (start stop : ℕ) → c.raw ≡ slots len (λ j. fixed_at body f j) → len ≡ length c.raw
    → start ≤ stop → stop ≤ len → AreFull c start stop → slice_range (bytes_of body f.values) (f.width * start) (f.width * stop) ≡ flat_map (value_bytes form) (values_from c.raw start stop)
fixed_part form c len body f start stop raw long order inside full =
    let values = bytes_of body f.values in
    joined_range (value_bytes form) c.raw values (λ j. f.width * j) start stop order (omega (arith, inside, long)) (λ j low high.
    let here : j < len = omega (arith, high, inside) in
    let own = slice_range values (f.width * j) (f.width * j + f.width) in
    let shown = full_value (is_valid_at (bytes_of body f.validity) j) (binary_value own) (value_at c.raw j) (slots_long c.raw len (λ k. fixed_at body f k) raw j here) (full j low high) in
    let next : f.width * j + f.width ≡ f.width * (j + 1) = omega (arith, mul-suc f.width j) in
    ((part_is f.width j values).0, ap (value_bytes form) shown ∙ ap (slice_range values (f.width * j)) next))

-- the bytes of byte strings that are given by offsets
pub strings_part : (form : Form) (c : Column) (len : ℕ) (body : List ℕ) (s : Strings) (start stop : ℕ) (value : List ℕ → PlainValue)
    → ((bytes : List ℕ) → value_bytes form (value bytes) ≡ bytes)
    → c.raw ≡ slots len (λ j. or_null (bytes_of body s.validity) j (value (range_of s.width (bytes_of body s.offsets) (bytes_of body s.bytes) j))) → len ≡ length c.raw
    → IsNonDecreasing (plain_list (offset_bytes s.width) len (bytes_of body s.offsets)) → start ≤ stop → stop ≤ len → AreFull c start stop
    → slice_range (bytes_of body s.bytes) (place_of s.width (bytes_of body s.offsets) start) (place_of s.width (bytes_of body s.offsets) stop)
    ≡ flat_map (value_bytes form) (values_from c.raw start stop)
strings_part form c len body s start stop value own raw long rises order inside full =
    let offsets = bytes_of body s.offsets in
    let bytes = bytes_of body s.bytes in
    joined_range (value_bytes form) c.raw bytes (place_of s.width offsets) start stop order (omega (arith, inside, long)) (λ j low high.
    let here : j < len = omega (arith, high, inside) in
    let shown = full_value (is_valid_at (bytes_of body s.validity) j) (value (range_of s.width offsets bytes j)) (value_at c.raw j)
    (slots_long c.raw len (λ k. or_null (bytes_of body s.validity) k (value (range_of s.width offsets bytes k))) raw j here) (full j low high) in
    (places_order s.width offsets len j (j + 1) rises (omega arith) (omega (arith, here)), ap (value_bytes form) shown ∙ own (range_of s.width offsets bytes j)))

-- values that have no bytes
no_bytes : (g : PlainValue → List ℕ) (vs : List PlainValue) → ((j : ℕ) → j < length vs → g (value_at vs j) ≡ []) → flat_map g vs ≡ []
no_bytes g [] none = refl
no_bytes g (v ∷ vs) none = λ i. none 0 (omega arith) i ++ no_bytes g vs (λ j h. none (suc j) (omega (arith, h))) i

pub none_by : (form : Form) (valid : Bool) (payload : PlainValue) → value_bytes form payload ≡ [] → value_bytes form (if valid then payload else null_value) ≡ []
none_by form true payload none = none
none_by form false payload none = refl

-- slots that have no bytes
pub none_part : (form : Form) (c : Column) (len : ℕ) (start stop : ℕ) (slot : ℕ → PlainValue) → c.raw ≡ slots len slot → len ≡ length c.raw → stop ≤ len
    → ((j : ℕ) → value_bytes form (slot j) ≡ []) → [] ≡ flat_map (value_bytes form) (values_from c.raw start stop)
none_part form c len start stop slot raw long inside none =
    sym (no_bytes (value_bytes form) (values_from c.raw start stop) (λ j h.
    let few : j < stop - start = omega (arith, h, length-values_from c.raw start stop (omega (arith, inside, long))) in
    ap (value_bytes form) (at_values_from c.raw start stop j few ∙ slots_long c.raw len slot raw (start + j) (omega (arith, few, inside))) ∙ none (start + j)))

-- an empty range of slots has no bytes
pub empty_part : (g : PlainValue → List ℕ) (raw : List PlainValue) (start stop : ℕ) → start ≡ stop → [] ≡ flat_map g (values_from raw start stop)
empty_part g raw start stop same = let none : 0 ≡ stop - start = omega (arith, same) in ap (λ n. flat_map g (take n (drop start raw))) none

-- indices are numbers of the form of their encoding
pub entries_of : (len : ℕ) (t : TypeShape) (e : Option Encoding) (body : List ℕ) (n : Ints) (d : ValueList) → AreEntriesBy e len t body n d → IsFormat (node_form t.tag e) n × AreInts len body n
entries_of len t None body n d entries = absurd entries
entries_of len t (Some e) body n d entries = (entries.format, entries.ints)
