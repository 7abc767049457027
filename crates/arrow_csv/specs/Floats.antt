-- The texts of numbers: whole numbers in decimal; floating-point numbers as any text that parses as the same number.
-- A decimal that is given as a number is scaled; an interval that is given as a number is that many months.
use Rattle.std.specs.Prelude.{ℕ, ℤ, List, ◌≡◌, Some}
use Rattle.std.specs.Float.{Format, binary32, binary64}
use Rattle.std.specs.Float.Parse.{parse_float}
use Rattle.std.specs.Fmt.{signed_decimal}
use Rattle.arrow_types.specs.DataType.{TypeId}
use Rattle.arrow_types.specs.DataType as tags
use Rattle.arrow_types.specs.declared.data_type.Precision.{Precision}
use Rattle.arrow_types.specs.declared.data_type.Precision.TheVariants.{Half, Single, Double}
use Rattle.arrow_layout.specs.Floats.{bits_in, number_of}
use Rattle.arrow_csv.specs.Decimals.{decimal_text}
use Rattle.arrow_csv.specs.Intervals.{months_text}

-- the format in which a text is parsed: a number of 16 bits shows as the one of 32 bits that it equals
abbrev pub text_format : Precision → Format
text_format Half = binary32
text_format Single = binary32
text_format Double = binary64

-- a text of the number of these bits: one that parses as it (IEEE 754, 5.12.2)
abbrev pub IsFloatText : Precision → ℕ → List ℕ → Type 0
IsFloatText precision bits text = parse_float (text_format precision) text ≡ Some (number_of precision bits)

-- a text of a number as a value of this type
abbrev pub IsNumberText : TypeId → ℤ → List ℕ → Type 0
IsNumberText (tags.floating_point precision) z text = IsFloatText precision (bits_in z) text
IsNumberText (tags.decimal _ _ scale) z text = text ≡ decimal_text scale z
IsNumberText (tags.interval _) z text = text ≡ months_text z
IsNumberText _ z text = text ≡ signed_decimal z
