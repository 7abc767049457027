-- Bits, numbers and offsets as the bytes of a buffer.
use Rattle.std.specs.Prelude.{ℕ, ◌+◌, ◌*◌, ℤ, Bool, cond, List, [], ◌∷◌, length, map, take, drop}
use Rattle.std.specs.List.{flat_map, range_with_len}
use Rattle.std.specs.Int.{div_ceil}
use Rattle.arrow_bits.specs.Numbers.{int_bytes, number_bytes}
use Rattle.arrow_layout.specs.Form.{offset_bytes}
use Rattle.arrow_layout.specs.declared.form.OffsetWidth.{OffsetWidth}

-- bits as a single number, the first the least significant
abbrev pub number_of_bits : List Bool → ℕ
number_of_bits [] = 0
number_of_bits (bit ∷ bits) = cond bit 1 0 + 2 * number_of_bits bits

-- bits eight to a byte, as few bytes as can be; those after the last are 0 (Columnar Format, "Validity bitmaps")
abbrev pub packed : List Bool → List ℕ
packed bits = map (λ k. number_of_bits (take 8 (drop (8 * k) bits))) (range_with_len 0 (div_ceil (length bits) 8))

-- numbers of a width, one after another (Columnar Format, "Fixed-size Primitive Layout")
abbrev pub ints_bytes : ℕ → List ℤ → List ℕ
ints_bytes width numbers = flat_map (int_bytes width) numbers

-- a number, and its sums with these added one by one
abbrev pub sums_from : ℕ → List ℕ → List ℕ
sums_from n [] = n ∷ []
sums_from n (k ∷ ks) = n ∷ sums_from (n + k) ks

-- the offsets of ranges of these lengths that follow one another, from 0 on (Columnar Format, "Variable-size Binary
-- Layout")
abbrev pub offsets_bytes : OffsetWidth → List ℕ → List ℕ
offsets_bytes width lengths = flat_map (number_bytes (offset_bytes width)) (sums_from 0 lengths)
