-- Numbers of a fixed width in a list of bytes.
use Rattle.std.specs.Prelude.{ℕ, zero, suc, ◌+◌, ◌-◌, ◌*◌, ◌/◌, ◌%◌, ◌^◌, ◌⊎◌, ◌≡◌, Bool, true, false, if◌then◌else◌, List, [], ◌∷◌, take, drop, nat_lt, ℤ, pos, negsuc, ◌-ℤ◌, ◌≤ℤ◌, ◌<ℤ◌, neg_ℤ}

-- the number that the bytes form, the first of them the least significant (Columnar Format, "Byte Order
-- (Endianness)")
abbrev pub number_of : List ℕ → ℕ
number_of [] = 0
number_of (byte ∷ bytes) = byte + 256 * number_of bytes

-- the number of the `width` bytes at an offset, or of those of them that are there
unfoldable pub number_at : List ℕ → ℕ → ℕ → ℕ
number_at bytes place width = number_of (take width (drop place bytes))

-- a number of `width` bytes read as two's complement: the upper half of the numbers is negative
abbrev pub twos_complement : ℕ → ℕ → ℤ
twos_complement width n = if nat_lt n (2 ^ (8 * width - 1)) then pos n else (pos n -ℤ pos (2 ^ (8 * width)))

-- the signed number of the `width` bytes at an offset
unfoldable pub signed_at : List ℕ → ℕ → ℕ → ℤ
signed_at bytes place width = twos_complement width (number_at bytes place width)

-- the number of the `width` bytes at an offset, signed or not (Schema.fbs, "Int")
abbrev pub int_of : List ℕ → ℕ → ℕ → Bool → ℤ
int_of bytes place width signed = if signed then signed_at bytes place width else pos (number_at bytes place width)

-- a width of 8, 16, 32 or 64 bits, in bytes (Schema.fbs, "Int")
abbrev pub IsWidth : ℕ → Type 0
IsWidth width = (width ≡ 1) ⊎ (width ≡ 2) ⊎ (width ≡ 4) ⊎ (width ≡ 8)

-- that, or the width of 128 bits (Schema.fbs, "Decimal")
abbrev pub IsAnyWidth : ℕ → Type 0
IsAnyWidth width = IsWidth width ⊎ (width ≡ 16)

-- a width of the signed integers, or of the unsigned ones: with 128 bits there are only signed ones
abbrev pub IsIntWidth : ℕ → Bool → Type 0
IsIntWidth width signed = IsWidth width ⊎ ((width ≡ 16) × (signed ≡ true))

-- the value lies in the range of the signed, or of the unsigned, numbers of this width
abbrev pub FitsInt : ℕ → Bool → ℤ → Type 0
FitsInt width true value = (neg_ℤ (pos (2 ^ (8 * width - 1))) ≤ℤ value) × (value <ℤ pos (2 ^ (8 * width - 1)))
FitsInt width false value = (pos 0 ≤ℤ value) × (value <ℤ pos (2 ^ (8 * width)))

-- the value lies in one of the two ranges
abbrev pub FitsWidth : ℕ → ℤ → Type 0
FitsWidth width value = (neg_ℤ (pos (2 ^ (8 * width - 1))) ≤ℤ value) × (value <ℤ pos (2 ^ (8 * width)))

-- the `width` lowest bytes of a number, the least significant first
abbrev pub number_bytes : ℕ → ℕ → List ℕ
number_bytes zero n = []
number_bytes (suc width) n = n % 256 ∷ number_bytes width (n / 256)

-- the bytes of a value of this width, a negative one as two's complement (`negsuc n` is -(n + 1))
abbrev pub int_bytes : ℕ → ℤ → List ℕ
int_bytes width (pos n) = number_bytes width n
int_bytes width (negsuc n) = number_bytes width (2 ^ (8 * width) - 1 - n)
