-- The offsets of a canonical node, and the values below it, are the stored ones of its values.
use Rattle.std.proofs.Common.{◌≡◌, ℕ, zero, suc, ◌+◌, ◌*◌, ◌-◌, ◌<◌, ◌≤◌, List, [], length, map, get_or, take, drop, ap, ◌∙◌, sym, subst, arith, length-take, length-drop, add-one}
use Rattle.std.specs.List.{flat_map, sum_by}
use Rattle.std.proofs.lemmas.List.{length-map}
use Rattle.arrow_bits.specs.Numbers.{number_bytes}
use Rattle.arrow_bits.proofs.Rising.{HasNumbers, numbers_from_offsets}
use Rattle.arrow_layout.specs.Form.{offset_bytes}
use Rattle.arrow_layout.specs.ByteRanges.{AreBytes}
use Rattle.arrow_layout.specs.PlainValue.{PlainValue, null_value, value_at}
use Rattle.arrow_layout.specs.Slots.{HasOffsets, is_valid_at, or_null, place_of, range_of}
use Rattle.arrow_layout.specs.declared.form.OffsetWidth.{OffsetWidth}
use Rattle.arrow_layout.specs.declared.form.OffsetWidth.TheVariants.{Small, Large}
use Rattle.arrow_layout.proofs.Widths.{slot_inside}
use Rattle.arrow_body_laws.specs.Packed.{offsets_bytes, sums_from}
use Rattle.arrow_body_laws.specs.Canonical.{IsCanonicalOffsets}
use Rattle.arrow_data.proofs.Again.{number_again_at}
use Rattle.arrow_body_laws.proofs.Joined.{uncut, unpieced}
use Rattle.arrow_body_laws.proofs.Pieces.{length_sums, sum_at, sum_next}
use Rattle.arrow_body_laws.proofs.Reslotted.{AreShown, slot_by}
use Rattle.arrow_body_laws.proofs.MadeCanonical.{all_taken}

-- The properties of the ranges of a canonical node: the values are those of the ranges, and the offsets are canonical
-- and ascending.
pub record AreRanged {A : Type 0} (w : OffsetWidth) (g : PlainValue → List A) (slot : List A → PlainValue) (vs : List PlainValue) (validity offsets : List ℕ) (xs : List A) : Type 0 where
  pub shown : AreShown vs (λ j. or_null validity j (slot (range_of w offsets xs j)))
  pub read : (ys : List A) → g (slot ys) ≡ ys
  pub nothing : g null_value ≡ []
  pub small : AreBytes offsets
  pub canonical : IsCanonicalOffsets w (length vs) validity offsets (length xs)
  pub rising : HasOffsets w (length vs) (length xs) offsets

-- there is at least one offset
offset_there : (w : OffsetWidth) (n m : ℕ) → m ≡ offset_bytes w * (n + 1) → 0 < n + m
offset_there Small n m just = omega (arith, just)
offset_there Large n m just = omega (arith, just)

-- the offsets as numbers
numbers : {A : Type 0} (w : OffsetWidth) (g : PlainValue → List A) (slot : List A → PlainValue) (vs : List PlainValue) (validity offsets : List ℕ) (xs : List A)
    → AreRanged w g slot vs validity offsets xs → HasNumbers (offset_bytes w) offsets (length vs) (length xs)
numbers w g slot vs validity offsets xs r =
    let some : 0 < length vs + length offsets = offset_there w (length vs) (length offsets) r.canonical.just in
    numbers_from_offsets (offset_bytes w) offsets (length vs) (length xs) r.small (r.rising some)

-- no offset is past the last
before_last : (w : OffsetWidth) (offsets : List ℕ) (len top : ℕ) → HasNumbers (offset_bytes w) offsets len top → (k j : ℕ) → j + k ≡ len → place_of w offsets j ≤ place_of w offsets len
before_last w offsets len top has zero j end =
    let same : j ≡ len = omega (arith, end) in
    subst (λ n. place_of w offsets j ≤ place_of w offsets n) same (omega arith)
before_last w offsets len top has (suc k) j end =
    let step = has.never j (omega arith) (omega (arith, end)) in
    let far = before_last w offsets len top has k (j + 1) (omega (arith, end)) in
    omega (arith, step, far)

-- the range of a slot is its part of the values, as long as the difference of the offsets
range_is : {A : Type 0} (w : OffsetWidth) (g : PlainValue → List A) (slot : List A → PlainValue) (vs : List PlainValue) (validity offsets : List ℕ) (xs : List A)
    → AreRanged w g slot vs validity offsets xs → (j : ℕ) → j < length vs → range_of w offsets xs j ≡ g (value_at vs j)
range_is w g slot vs validity offsets xs r j h =
    slot_by g (is_valid_at validity j) (slot (range_of w offsets xs j)) (value_at vs j) (range_of w offsets xs j) (r.shown j h)
    (λ valid. sym (r.read (range_of w offsets xs j)))
    (λ null. let none : place_of w offsets (j + 1) - place_of w offsets j ≡ 0 = omega (arith, r.canonical.empty j h null) in
    ap (λ n. take n (drop (place_of w offsets j) xs)) none ∙ sym r.nothing)

-- the next offset is this one and the length of the slot's range
next_place : {A : Type 0} (w : OffsetWidth) (g : PlainValue → List A) (slot : List A → PlainValue) (vs : List PlainValue) (validity offsets : List ℕ) (xs : List A)
    → AreRanged w g slot vs validity offsets xs → (j : ℕ) → j < length vs → place_of w offsets (j + 1) ≡ place_of w offsets j + length (g (value_at vs j))
next_place w g slot vs validity offsets xs r j h =
    let has = numbers w g slot vs validity offsets xs r in
    let here = place_of w offsets j in
    let next = place_of w offsets (j + 1) in
    let step = has.never j (omega arith) h in
    let last = before_last w offsets (length vs) (length xs) has (length vs - (j + 1)) (j + 1) (omega (arith, h)) in
    let long : length (range_of w offsets xs j) ≡ next - here = omega (arith, length-take (next - here) (drop here xs), length-drop here xs, last, r.canonical.ends) in
    omega (arith, step, long, ap length (range_is w g slot vs validity offsets xs r j h))

-- an offset is the sum of the lengths before it
place_again : {A : Type 0} (w : OffsetWidth) (g : PlainValue → List A) (slot : List A → PlainValue) (vs : List PlainValue) (validity offsets : List ℕ) (xs : List A)
    → AreRanged w g slot vs validity offsets xs → (j : ℕ) → j ≤ length vs → place_of w offsets j ≡ sum_by (λ v. length (g v)) (take j vs)
place_again w g slot vs validity offsets xs r zero h = r.canonical.begins
place_again w g slot vs validity offsets xs r (suc j) h =
    let next = next_place w g slot vs validity offsets xs r j (omega (arith, h)) in
    let sum = sum_next (λ v. length (g v)) vs j null_value (omega (arith, h)) in
    let before = place_again w g slot vs validity offsets xs r j (omega (arith, h)) in
    let same : place_of w offsets (j + 1) ≡ sum_by (λ v. length (g v)) (take (j + 1) vs) = omega (arith, next, sum, before) in
    subst (λ n. place_of w offsets n ≡ sum_by (λ v. length (g v)) (take n vs)) (add-one j) same

-- the offsets are the stored ones
pub offsets_again : {A : Type 0} (w : OffsetWidth) (g : PlainValue → List A) (slot : List A → PlainValue) (vs : List PlainValue) (validity offsets : List ℕ) (xs : List A)
    → AreRanged w g slot vs validity offsets xs → offsets ≡ offsets_bytes w (map (λ v. length (g v)) vs)
offsets_again w g slot vs validity offsets xs r =
    let width = offset_bytes w in
    let f : PlainValue → ℕ = λ v. length (g v) in
    let sums = sums_from 0 (map f vs) in
    let many : length sums ≡ length vs + 1 = length_sums 0 (map f vs) ∙ ap (λ n. n + 1) (length-map vs f) in
    unpieced (number_bytes width) width sums 0 offsets (r.canonical.just ∙ ap (λ n. width * n) (sym many))
    (λ j h. let inside = slot_inside width j (length vs + 1) (length offsets) (omega (arith, h, many)) (omega (arith, r.canonical.just)) in
    let sum : sum_by f (take j vs) ≡ get_or sums j 0 = omega (arith, sum_at f 0 vs j (omega (arith, h, many))) in
    sym (number_again_at width offsets (width * j) r.small inside)
    ∙ ap (number_bytes width) (place_again w g slot vs validity offsets xs r j (omega (arith, h, many)) ∙ sum))

-- and so are the values that they point to
pub ranges_again : {A : Type 0} (w : OffsetWidth) (g : PlainValue → List A) (slot : List A → PlainValue) (vs : List PlainValue) (validity offsets : List ℕ) (xs : List A)
    → AreRanged w g slot vs validity offsets xs → xs ≡ flat_map g vs
ranges_again w g slot vs validity offsets xs r =
    let f : PlainValue → ℕ = λ v. length (g v) in
    let end = place_again w g slot vs validity offsets xs r (length vs) (omega arith) ∙ ap (sum_by f) (all_taken vs) in
    uncut g vs null_value xs (sym r.canonical.ends ∙ end)
    (λ j h. let here = place_again w g slot vs validity offsets xs r j (omega (arith, h)) in
    let next = next_place w g slot vs validity offsets xs r j h in
    let apart : length (g (value_at vs j)) ≡ place_of w offsets (j + 1) - place_of w offsets j = omega (arith, next) in
    ap (λ n. take n (drop (sum_by f (take j vs)) xs)) apart
    ∙ ap (λ n. take (place_of w offsets (j + 1) - place_of w offsets j) (drop n xs)) (sym here)
    ∙ range_is w g slot vs validity offsets xs r j h)
