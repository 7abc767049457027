-- Where a text may be cut.
use Rattle.std.proofs.Common.{◌≡◌, ◌↔◌, ℕ, zero, suc, refl, ◌+◌, ◌-◌, ◌<◌, ◌≤◌, Bool, IsTrue, List, length, take, drop, get_or, ap, sym, ◌∙◌, subst, arith}
use Rattle.std.specs.Prelude.{slice_range, IsAscii, IsUtf8, IsCharBoundary}
use Rattle.std.specs.List.Sorted.{IsNonDecreasing}
use Rattle.std.proofs.Math.Seq.{take-add}
use Rattle.std.proofs.lemmas.List.{drop-drop, drop-take, take-take, length-take, length-drop, places}
use Rattle.std.proofs.lemmas.Str.{IsAscii-drop, IsAscii-take, IsCharBoundary-from_take, IsCharBoundary-start, IsUtf8-append, IsUtf8-between, IsUtf8-from_ascii, IsUtf8-take}
use Rattle.arrow_bits.specs.Offsets.{plain_list}
use Rattle.arrow_bits.proofs.Rising.{length_offsets, length_large_offsets, offset_found, large_offset_found}
use Rattle.arrow_layout.specs.Form.{offset_bytes}
use Rattle.arrow_layout.specs.Cuts.{AreCuts}
use Rattle.arrow_layout.specs.Slots.{place_of, range_of, AreTexts}
use Rattle.arrow_layout.specs.declared.form.OffsetWidth.{OffsetWidth}
use Rattle.arrow_layout.specs.declared.form.OffsetWidth.TheVariants.{Small, Large}

-- a nonempty part of a text that is itself a text begins between characters
pub part_begins : (bs : List ℕ) (i j : ℕ) → i < j → j ≤ length bs → IsUtf8 (slice_range bs i j) → IsCharBoundary bs i
part_begins bs i j order inside part =
    let start = IsCharBoundary-start (slice_range bs i j) part in
    let first : get_or (take (j - i) (drop i bs)) 0 0 ≡ get_or bs i 0 = grind (arith, places, order, inside) in
    let long : 0 < length (take (j - i) (drop i bs)) = omega (arith, order, inside, length-take (j - i) (drop i bs), length-drop i bs) in
    (omega (arith, order, inside), λ h high. omega (arith, first, start.1 long (omega (arith, first, high))))

-- and ends there
pub part_ends : (bs : List ℕ) (i j : ℕ) → IsUtf8 bs → i < j → j ≤ length bs → IsUtf8 (slice_range bs i j) → IsCharBoundary bs j
part_ends bs i j whole order inside part =
    let front = IsUtf8-take bs i whole (part_begins bs i j order inside part) in
    let gap : i + (j - i) ≡ j = omega (arith, order) in
    let joined = ap (λ n. take n bs) (sym gap) ∙ take-add i (j - i) bs in
    IsCharBoundary-from_take bs j whole inside (subst IsUtf8 (sym joined) (IsUtf8-append _ _ front part))

-- a part of a range is a part of the whole
pub part_of_range : (xs : List ℕ) (first last i j : ℕ) → first ≤ i → i ≤ j → j ≤ last
    → slice_range (slice_range xs first last) (i - first) (j - first) ≡ slice_range xs i j
part_of_range xs first last i j below order above =
    let long : i - first + (last - i) ≡ last - first = omega (arith, below, order, above) in
    let back : first + (i - first) ≡ i = omega (arith, below) in
    let width : j - first - (i - first) ≡ j - i = omega (arith, below, order) in
    let cut : drop (i - first) (take (last - first) (drop first xs)) ≡ take (last - i) (drop i xs) =
    ap (λ n. drop (i - first) (take n (drop first xs))) (sym long) ∙ drop-take (i - first) (last - i) (drop first xs) ∙ ap (take (last - i)) (drop-drop (i - first) first xs ∙ ap (λ n. drop n xs) back) in
    ap (λ n. take n (drop (i - first) (take (last - first) (drop first xs)))) width ∙ ap (take (j - i)) cut ∙ take-take (j - i) (last - i) (drop i xs) (omega (arith, order, above))

none_taken : (n : ℕ) → 0 ≡ n - n
none_taken n = omega arith

-- offsets in their order
pub places_order : (width : OffsetWidth) (offsets : List ℕ) (len i k : ℕ) → IsNonDecreasing (plain_list (offset_bytes width) len offsets) → i ≤ k → k ≤ len → place_of width offsets i ≤ place_of width offsets k
places_order Small offsets len i k rises order inside =
    let room = length_offsets len offsets in
    omega (arith, offset_found len offsets i (omega (arith, order, inside)), offset_found len offsets k (omega (arith, inside)), rises i k 0 order (omega (arith, room, inside)))
places_order Large offsets len i k rises order inside =
    let room = length_large_offsets len offsets in
    omega (arith, large_offset_found len offsets i (omega (arith, order, inside)), large_offset_found len offsets k (omega (arith, inside)), rises i k 0 order (omega (arith, room, inside)))

-- the number of offsets, where they lie, and their order
pub ruleset offsets = (length_offsets, length_large_offsets, offset_found, large_offset_found, places_order)

-- the bytes of a slot, in those of all
pub slot_in : (width : OffsetWidth) (offsets bytes text : List ℕ) (len j start stop : ℕ) → text ≡ slice_range bytes (place_of width offsets 0) (place_of width offsets len)
    → place_of width offsets 0 ≤ place_of width offsets j → place_of width offsets j ≤ place_of width offsets (j + 1) → place_of width offsets (j + 1) ≤ place_of width offsets len
    → start ≡ place_of width offsets j - place_of width offsets 0 → stop ≡ place_of width offsets (j + 1) - place_of width offsets 0 → slice_range text start stop ≡ range_of width offsets bytes j
slot_in width offsets bytes text len j start stop whole before order after low high =
    let first = place_of width offsets 0 in
    let last = place_of width offsets len in
    (λ i. slice_range (whole i) (low i) (high i)) ∙ part_of_range bytes first last (place_of width offsets j) (place_of width offsets (j + 1)) before order after

-- whether a part is a text
pub part_decides : (bs : List ℕ) (i j : ℕ) (r : Bool) → IsUtf8 bs → i < j → j ≤ length bs → (IsTrue r ↔ (IsCharBoundary bs i × IsCharBoundary bs j)) → IsTrue r ↔ IsUtf8 (slice_range bs i j)
part_decides bs i j r whole order inside cuts = (
  λ t. let both = cuts.0 t in IsUtf8-between bs i j whole (omega (arith, order)) both.0 both.1,
  λ part. cuts.1 (part_begins bs i j order inside part, part_ends bs i j whole order inside part),
)

-- a text may be cut before a slot if it may be cut after each slot
cut_before : (width : OffsetWidth) (offsets text : List ℕ) (len j : ℕ) → IsUtf8 text → AreCuts width len offsets text → j < len
    → IsCharBoundary text (place_of width offsets j - place_of width offsets 0)
cut_before width offsets text len zero utf8 cuts below =
    subst (IsCharBoundary text) (none_taken (place_of width offsets 0)) (IsCharBoundary-start text utf8)
cut_before width offsets text len (suc k) utf8 cuts below =
    let next : k + 1 ≡ suc k = omega arith in
    subst (λ n. IsCharBoundary text (place_of width offsets n - place_of width offsets 0)) next (cuts k (omega (arith, below)))

-- the bytes of a slot are a part of the bytes of all slots
slot_of_all : (width : OffsetWidth) (len j : ℕ) (offsets bytes text : List ℕ) → IsNonDecreasing (plain_list (offset_bytes width) len offsets)
    → text ≡ slice_range bytes (place_of width offsets 0) (place_of width offsets len) → j < len
    → slice_range text (place_of width offsets j - place_of width offsets 0) (place_of width offsets (j + 1) - place_of width offsets 0) ≡ range_of width offsets bytes j
slot_of_all width len j offsets bytes text rises whole below =
    let before = places_order width offsets len 0 j rises (omega arith) (omega (arith, below)) in
    let order = places_order width offsets len j (j + 1) rises (omega arith) (omega (arith, below)) in
    let after = places_order width offsets len (j + 1) len rises (omega (arith, below)) (omega arith) in
    slot_in width offsets bytes text len j (place_of width offsets j - place_of width offsets 0) (place_of width offsets (j + 1) - place_of width offsets 0) whole before order after refl refl

-- if the bytes of all slots are ASCII, each slot is a text
pub ascii_texts : (width : OffsetWidth) (len : ℕ) (validity offsets bytes text : List ℕ) → IsNonDecreasing (plain_list (offset_bytes width) len offsets)
    → text ≡ slice_range bytes (place_of width offsets 0) (place_of width offsets len) → IsAscii text → AreTexts width len validity offsets bytes
ascii_texts width len validity offsets bytes text rises whole ascii j below valid =
    let start = place_of width offsets j - place_of width offsets 0 in
    let stop = place_of width offsets (j + 1) - place_of width offsets 0 in
    subst IsUtf8 (slot_of_all width len j offsets bytes text rises whole below) (IsUtf8-from_ascii _ (IsAscii-take (drop start text) (stop - start) (IsAscii-drop text start ascii)))

-- then each slot is a text, valid or not
pub cuts_texts : (width : OffsetWidth) (len : ℕ) (validity offsets bytes text : List ℕ) → IsNonDecreasing (plain_list (offset_bytes width) len offsets)
    → text ≡ slice_range bytes (place_of width offsets 0) (place_of width offsets len) → IsUtf8 text → AreCuts width len offsets text
    → AreTexts width len validity offsets bytes
cuts_texts width len validity offsets bytes text rises whole utf8 cuts j below valid =
    let order = places_order width offsets len j (j + 1) rises (omega arith) (omega (arith, below)) in
    let start = place_of width offsets j - place_of width offsets 0 in
    let stop = place_of width offsets (j + 1) - place_of width offsets 0 in
    subst IsUtf8 (slot_of_all width len j offsets bytes text rises whole below) (IsUtf8-between text start stop utf8 (omega (arith, order)) (cut_before width offsets text len j utf8 cuts below) (cuts j below))
