-- Floating-point numbers in columns: the value of a slot is the number of its bits (Schema.fbs, table "FloatingPoint" and enum
-- "Precision"; IEEE 754, 3.4, "Binary interchange format encodings").
use Rattle.std.specs.Prelude.{◌≡◌, ◌%◌, ◌^◌, ℕ, ℤ, pos, negsuc, nat_lt, Option, Some, None, if◌then◌else◌, from_bits, to_bits}
use Rattle.std.specs.Float.{Float, binary32, binary64, round_to_format}
use Rattle.arrow_types.specs.DataType.{TypeId, floating_point}
use Rattle.arrow_types.specs.declared.data_type.Precision.{Precision}
use Rattle.arrow_types.specs.declared.data_type.Precision.TheVariants.{Half, Single, Double}
use Rattle.arrow_layout.specs.Half.{IsNearestHalf, half_number}
use Rattle.arrow_layout.specs.PlainValue.{PlainValue, int_value}

-- a number as at most 64 bits
abbrev pub bits_in : ℤ → ℕ
bits_in (pos n) = if nat_lt n (2 ^ 64) then n else 0
bits_in (negsuc n) = 0

-- the number with these bits
abbrev pub number_of : Precision → ℕ → Float
number_of Half bits = half_number (bits % 2 ^ 16)
number_of Single bits = from_bits binary32 (bits % 2 ^ 32)
number_of Double bits = from_bits binary64 bits

-- the floating-point number that a value of this type is, if it is one
abbrev pub float_in : TypeId → PlainValue → Option Float
float_in (floating_point precision) (int_value z) = Some (number_of precision (bits_in z))
float_in tag value = None

-- The value of a number in a column of this precision: the nearest one that the precision has. For NaN it is one
-- quiet pattern.
abbrev pub IsFloatValue : Precision → Float → PlainValue → Type 0
IsFloatValue Half x value = (bits : ℕ) × IsNearestHalf x bits × (value ≡ int_value (pos bits))
IsFloatValue Single x value = value ≡ int_value (pos (to_bits binary32 (round_to_format binary32 x)))
IsFloatValue Double x value = value ≡ int_value (pos (to_bits binary64 x))
