-- Decimals in columns: the whole number that is scaled by a power of 10, in two's complement (Schema.fbs, table
-- "Decimal").
use Rattle.std.specs.Prelude.{◌++◌, ◌^◌, ℕ, ℤ, pos, negsuc, ◌+ℤ◌, ◌*ℤ◌, nat_eq, nat_lt, Bool, Option, Some, None, if◌then◌else◌, List, length}
use Rattle.std.specs.Int.{cast_unsigned, w128}
use Rattle.arrow_bits.specs.Numbers.{int_bytes, number_at, number_bytes, signed_at}
use Rattle.arrow_types.specs.DataType.{TypeId}
use Rattle.arrow_types.specs.DataType as tags
use Rattle.arrow_layout.specs.declared.decimals.Decimal.{Decimal}
use Rattle.arrow_layout.specs.PlainValue.{PlainValue, int_value, binary_value}

-- the whole number of a decimal
abbrev pub unscaled_of : Decimal → ℤ
unscaled_of d = (d.high *ℤ pos (2 ^ 128)) +ℤ pos d.low

-- whether a number fits into 128 bits with a sign (`negsuc n` is -(n + 1))
abbrev pub has_128_bits : ℤ → Bool
has_128_bits (pos n) = nat_lt n (2 ^ 127)
has_128_bits (negsuc n) = nat_lt n (2 ^ 127)

-- the part above the lowest 128 bits of a number that fits into 128 bits with a sign
abbrev pub sign_above : ℤ → ℤ
sign_above (pos n) = pos 0
sign_above (negsuc n) = negsuc 0

-- the decimal of this scale with this whole number
abbrev pub decimal_of_number : ℤ → ℤ → Decimal
decimal_of_number scale z = record { high = sign_above z; low = cast_unsigned w128 z; scale = scale }

-- the decimal of this scale that the bytes encode, if there are 32
abbrev pub decimal_of_bytes : ℤ → List ℕ → Option Decimal
decimal_of_bytes scale bytes =
    if nat_eq (length bytes) 32 then Some (record { high = signed_at bytes 16 16; low = number_at bytes 0 16; scale = scale }) else None

-- the decimal that a value of this type is, if it is one
abbrev pub decimal_in : TypeId → PlainValue → Option Decimal
decimal_in (tags.decimal width precision scale) (int_value z) = Some (decimal_of_number scale z)
decimal_in (tags.decimal width precision scale) (binary_value bytes) = decimal_of_bytes scale bytes
decimal_in tag value = None

-- the value of a decimal in a column of 256 bits
abbrev pub wide_decimal_value : Decimal → PlainValue
wide_decimal_value d = binary_value (number_bytes 16 d.low ++ int_bytes 16 d.high)
