-- Offsets of 4 or of 8 bytes that do not fall.
use Rattle.std.proofs.Common.{◌≡◌, ℕ, zero, suc, ◌+◌, ◌-◌, ◌*◌, ◌^◌, ◌<◌, ◌≤◌, List, ◌∷◌, length, map, get_or, refl, ap, ◌∙◌, sym, subst, arith, add-one, add-zero}
use Rattle.std.specs.Prelude.{ℤ, pos, ◌≤ℤ◌, slice_index, All}
use Rattle.std.specs.List.{range_with_len}
use Rattle.std.specs.List.Sorted.{IsNonDecreasing}
use Rattle.std.proofs.lemmas.Int.{ints}
use Rattle.std.proofs.lemmas.List.FromFn.{length-map-range_with_len, get_or-map-range_with_len}
use Rattle.std.proofs.lemmas.Nat.{column_fits}
use Rattle.byteorder.proofs.Bytes.{pow256}
use Rattle.arrow_bits.specs.Numbers.{number_at, signed_at}
use Rattle.arrow_bits.specs.Offsets.{offset_of, AreOffsetsOf, signed_list, plain_list, offsets_of, large_offsets_of, NeverFall}
use Rattle.arrow_bits.proofs.Reading.{number_at-lt}

-- there is one more than there are slots
length_list : (width len : ℕ) (bytes : List ℕ) → length (plain_list width len bytes) ≡ len + 1
length_list width len bytes = length-map-range_with_len (λ j. number_at bytes (width * j) width) 0 (len + 1)

-- the one at an index
found_in_list : (width len : ℕ) (bytes : List ℕ) (i : ℕ) → i < len + 1
    → slice_index (plain_list width len bytes) i ≡ number_at bytes (width * i) width
found_in_list width len bytes i h = get_or-map-range_with_len (λ j. number_at bytes (width * j) width) 0 (len + 1) i i 0 h (omega arith)

-- both facts for offsets of 32 bits
pub length_offsets : (len : ℕ) (bytes : List ℕ) → length (offsets_of len bytes) ≡ len + 1
length_offsets len bytes = length_list 4 len bytes

pub offset_found : (len : ℕ) (bytes : List ℕ) (i : ℕ) → i < len + 1 → slice_index (offsets_of len bytes) i ≡ number_at bytes (4 * i) 4
offset_found len bytes i h = found_in_list 4 len bytes i h

-- both facts for offsets of 64 bits
pub length_large_offsets : (len : ℕ) (bytes : List ℕ) → length (large_offsets_of len bytes) ≡ len + 1
length_large_offsets len bytes = length_list 8 len bytes

pub large_offset_found : (len : ℕ) (bytes : List ℕ) (i : ℕ) → i < len + 1
    → slice_index (large_offsets_of len bytes) i ≡ number_at bytes (8 * i) 8
large_offset_found len bytes i h = found_in_list 8 len bytes i h

-- if there is room for all, there is room for each
has_room : (width len n : ℕ) → width * (len + 1) ≤ n → (j : ℕ) → j ≤ len → width * j + width ≤ n
has_room width len n there j h = omega (arith, there, column_fits width j width (len + 1) (omega (arith, h)) (omega arith))

-- a number of `width` bytes
number_fits : (width place : ℕ) (bytes : List ℕ) → ((i : ℕ) → get_or bytes i 0 < 256) → place + width ≤ length bytes
    → number_at bytes place width < 2 ^ (8 * width)
number_fits width place bytes small inside = omega (arith, number_at-lt place width bytes small inside, pow256 width)

-- an offset that is not negative equals its number read as unsigned
pub unsigned_offset : (width : ℕ) (bytes : List ℕ) (j : ℕ) → ((i : ℕ) → get_or bytes i 0 < 256) → width * j + width ≤ length bytes
    → pos 0 ≤ℤ offset_of width bytes j → offset_of width bytes j ≡ pos (number_at bytes (width * j) width)
unfolding signed_at
unsigned_offset width bytes j small inside sign =
    let fits = number_fits width (width * j) bytes small inside in
    grind (arith, ints, fits, sign)

-- no offset is negative
pub no_sign : (width : ℕ) (bytes : List ℕ) (len top : ℕ) → AreOffsetsOf width bytes len top → (j : ℕ) → j ≤ len → pos 0 ≤ℤ offset_of width bytes j
no_sign width bytes len top are zero h = are.first
no_sign width bytes len top are (suc j) h =
    omega (arith, ints, no_sign width bytes len top are j (omega arith), subst (λ k. offset_of width bytes j ≤ℤ offset_of width bytes k) (add-one j) (are.rise j (omega arith)))

-- so each equals its number read as unsigned
pub plain_offset : (width : ℕ) (bytes : List ℕ) (len top : ℕ) → ((i : ℕ) → get_or bytes i 0 < 256) → AreOffsetsOf width bytes len top
    → (j : ℕ) → j ≤ len → offset_of width bytes j ≡ pos (number_at bytes (width * j) width)
plain_offset width bytes len top small are j h =
    unsigned_offset width bytes j small (has_room width len (length bytes) are.there j h) (no_sign width bytes len top are j h)

-- an offset is not above a later one, adjacent or not
pub offsets_order : (width : ℕ) (bytes : List ℕ) (len top : ℕ) → AreOffsetsOf width bytes len top → (i k : ℕ) → i + k ≤ len
    → offset_of width bytes i ≤ℤ offset_of width bytes (i + k)
offsets_order width bytes len top are i zero h = rw (add-zero i) (omega (arith, ints))
offsets_order width bytes len top are i (suc k) h =
    let far = offsets_order width bytes len top are i k (omega arith) in
    let near = are.rise (i + k) (omega arith) in
    let e : i + k + 1 ≡ i + suc k = omega arith in
    subst (λ m. offset_of width bytes i ≤ℤ offset_of width bytes m) e (omega (arith, ints, far, near))

-- the list of the offsets is non-decreasing
pub offsets_rise : (width : ℕ) (bytes : List ℕ) (len top : ℕ) → ((i : ℕ) → get_or bytes i 0 < 256) → AreOffsetsOf width bytes len top
    → IsNonDecreasing (plain_list width len bytes)
offsets_rise width bytes len top small are i j d le inside =
    let room = length_list width len bytes in
    let gap : i + (j - i) ≡ j = omega (arith, le) in
    let low = plain_offset width bytes len top small are i (omega (arith, le, inside, room)) in
    let high = plain_offset width bytes len top small are j (omega (arith, inside, room)) in
    let order = subst (λ m. offset_of width bytes i ≤ℤ offset_of width bytes m) gap (offsets_order width bytes len top are i (j - i) (omega (arith, gap, inside, room))) in
    let at_low = get_or-map-range_with_len (λ m. number_at bytes (width * m) width) 0 (len + 1) i i d (omega (arith, le, inside, room)) (omega arith) in
    let at_high = get_or-map-range_with_len (λ m. number_at bytes (width * m) width) 0 (len + 1) j j d (omega (arith, inside, room)) (omega arith) in
    rw (at_low, at_high) (omega (arith, ints, low, high, order))

-- none is above the top
pub offsets_inside : (width : ℕ) (bytes : List ℕ) (len top : ℕ) → ((i : ℕ) → get_or bytes i 0 < 256) → AreOffsetsOf width bytes len top
    → All (λ x. x ≤ top) (plain_list width len bytes)
offsets_inside width bytes len top small are j d inside =
    let room = length_list width len bytes in
    let gap : j + (len - j) ≡ len = omega (arith, inside, room) in
    let value = plain_offset width bytes len top small are j (omega (arith, inside, room)) in
    let order = subst (λ m. offset_of width bytes j ≤ℤ offset_of width bytes m) gap (offsets_order width bytes len top are j (len - j) (omega (arith, gap))) in
    let at_place = get_or-map-range_with_len (λ m. number_at bytes (width * m) width) 0 (len + 1) j j d (omega (arith, inside, room)) (omega arith) in
    rw at_place (omega (arith, ints, value, order, are.last))

-- two functions that agree on a range give the same list
same_on_range : (f : ℕ → ℤ) (g : ℕ → ℕ) (a n : ℕ) → ((j : ℕ) → j < a + n → f j ≡ pos (g j))
    → map pos (map g (range_with_len a n)) ≡ map f (range_with_len a n)
same_on_range f g a zero same = refl
same_on_range f g a (suc n) same =
    let head = sym (same a (omega arith)) in
    let tail = same_on_range f g (a + 1) n (λ j h. same j (omega (arith, h))) in
    ap (λ z. z ∷ map pos (map g (range_with_len (a + 1) n))) head ∙ ap (λ zs. f a ∷ zs) tail

-- the list is that of the signed offsets
pub offsets_signed : (width : ℕ) (bytes : List ℕ) (len top : ℕ) → ((i : ℕ) → get_or bytes i 0 < 256) → AreOffsetsOf width bytes len top
    → map pos (plain_list width len bytes) ≡ signed_list width len bytes
offsets_signed width bytes len top small are =
    same_on_range (offset_of width bytes) (λ j. number_at bytes (width * j) width) 0 (len + 1) (λ j h. plain_offset width bytes len top small are j (omega (arith, h)))

-- an offset whose number has no sign bit
plain_number : (width : ℕ) (bytes : List ℕ) (j : ℕ) → number_at bytes (width * j) width < 2 ^ (8 * width - 1) → offset_of width bytes j ≡ pos (number_at bytes (width * j) width)
unfolding signed_at
plain_number width bytes j low = grind (arith, low)

-- an offset that is not negative has no sign bit
no_sign_bit : (width : ℕ) (bytes : List ℕ) (j : ℕ) → ((i : ℕ) → get_or bytes i 0 < 256) → width * j + width ≤ length bytes
    → pos 0 ≤ℤ offset_of width bytes j → number_at bytes (width * j) width < 2 ^ (8 * width - 1)
unfolding signed_at
no_sign_bit width bytes j small inside sign =
    let fits = number_fits width (width * j) bytes small inside in
    grind (arith, ints, fits, sign)

-- numbers that never fall are not above the last one
below_last : (width : ℕ) (bytes : List ℕ) (len k : ℕ) → NeverFall width bytes 0 len → k ≤ len → number_at bytes (width * (len - k)) width ≤ number_at bytes (width * len) width
below_last width bytes len zero never h =
    let same : len - 0 ≡ len = omega arith in
    rw same (omega arith)
below_last width bytes len (suc k) never h =
    let near = never (len - suc k) (omega arith) (omega (arith, h)) in
    let next : len - suc k + 1 ≡ len - k = omega (arith, h) in
    let far = below_last width bytes len k never (omega (arith, h)) in
    omega (arith, far, subst (λ m. number_at bytes (width * (len - suc k)) width ≤ number_at bytes (width * m) width) next near)

-- the unsigned test implies the signed one
pub offsets_from_numbers : (width : ℕ) (bytes : List ℕ) (len top : ℕ) → width * (len + 1) ≤ length bytes → number_at bytes (width * len) width < 2 ^ (8 * width - 1)
    → number_at bytes (width * len) width ≤ top → NeverFall width bytes 0 len → AreOffsetsOf width bytes len top
offsets_from_numbers width bytes len top there low le never =
    let plain : (j : ℕ) → j ≤ len → offset_of width bytes j ≡ pos (number_at bytes (width * j) width) =
    λ j h.
    let back : len - (len - j) ≡ j = omega (arith, h) in
    let under = subst (λ m. number_at bytes (width * m) width ≤ number_at bytes (width * len) width) back (below_last width bytes len (len - j) never (omega (arith, h))) in
    plain_number width bytes j (omega (arith, under, low)) in
    record {
      there = there;
      first = omega (arith, ints, plain 0 (omega arith));
      rise = λ j h. omega (arith, ints, plain j (omega (arith, h)), plain (j + 1) (omega (arith, h)), never j (omega arith) h);
      last = omega (arith, ints, plain len (omega arith), le);
    }

-- the last number has no sign bit and is at most the top, and none falls
pub record HasNumbers (width : ℕ) (bytes : List ℕ) (len top : ℕ) : Type 0 where
  pub low : number_at bytes (width * len) width < 2 ^ (8 * width - 1)
  pub le : number_at bytes (width * len) width ≤ top
  pub never : NeverFall width bytes 0 len

-- and conversely
pub numbers_from_offsets : (width : ℕ) (bytes : List ℕ) (len top : ℕ) → ((i : ℕ) → get_or bytes i 0 < 256) → AreOffsetsOf width bytes len top → HasNumbers width bytes len top
numbers_from_offsets width bytes len top small are =
    let plain = plain_offset width bytes len top small are in
    record {
      low = no_sign_bit width bytes len small (has_room width len (length bytes) are.there len (omega arith)) (no_sign width bytes len top are len (omega arith));
      le = omega (arith, ints, plain len (omega arith), are.last);
      never = λ j from h. omega (arith, ints, plain j (omega (arith, h)), plain (j + 1) (omega (arith, h)), are.rise j h);
    }
