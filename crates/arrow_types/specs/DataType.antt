-- Types without the fields below them (Schema.fbs, union "Type"), and the widths that units have.
use Rattle.std.specs.Prelude.{ℕ, ℤ, pos, negsuc, nat_lt, Bool, ◌&&◌, not, List, Option}
use Rattle.arrow_types.specs.declared.data_type.BitWidth.{BitWidth}
use Rattle.arrow_types.specs.declared.data_type.BitWidth.TheVariants.{Eight, Sixteen, ThirtyTwo, SixtyFour}
use Rattle.arrow_types.specs.declared.data_type.DateUnit.{DateUnit}
use Rattle.arrow_types.specs.declared.data_type.DateUnit.TheVariants as dates
use Rattle.arrow_types.specs.declared.data_type.DecimalWidth.{DecimalWidth}
use Rattle.arrow_types.specs.declared.data_type.DecimalWidth.TheVariants as decimals
use Rattle.arrow_types.specs.declared.data_type.IntervalUnit.{IntervalUnit}
use Rattle.arrow_types.specs.declared.data_type.Precision.{Precision}
use Rattle.arrow_types.specs.declared.data_type.Precision.TheVariants.{Half, Single, Double}
use Rattle.arrow_types.specs.declared.data_type.TimeUnit.{TimeUnit}
use Rattle.arrow_types.specs.declared.data_type.TimeUnit.TheVariants as times

-- A type without its child fields. A zone is given by the bytes of its name, a fixed size by its number of bytes or
-- of values, a decimal by its width, precision and scale, a map by whether its keys are sorted.
pub data TypeId : Type 0 where
  null : TypeId
  boolean : TypeId
  int : BitWidth → Bool → TypeId
  floating_point : Precision → TypeId
  decimal : DecimalWidth → ℕ → ℤ → TypeId
  binary : TypeId
  large_binary : TypeId
  fixed_size_binary : ℕ → TypeId
  utf8 : TypeId
  large_utf8 : TypeId
  date : DateUnit → TypeId
  time : TimeUnit → TypeId
  timestamp : TimeUnit → Option (List ℕ) → TypeId
  duration : TimeUnit → TypeId
  interval : IntervalUnit → TypeId
  list : TypeId
  large_list : TypeId
  fixed_size_list : ℕ → TypeId
  struct : TypeId
  map : Bool → TypeId

-- a width in bits (Schema.fbs, table "Int")
abbrev pub bits_of : BitWidth → ℕ
bits_of Eight = 8
bits_of Sixteen = 16
bits_of ThirtyTwo = 32
bits_of SixtyFour = 64

-- the width of a floating-point number (Schema.fbs, enum "Precision")
abbrev pub float_width_of : Precision → BitWidth
float_width_of Half = Sixteen
float_width_of Single = ThirtyTwo
float_width_of Double = SixtyFour

-- the width of a decimal in bits (Schema.fbs, table "Decimal")
abbrev pub decimal_bits_of : DecimalWidth → ℕ
decimal_bits_of decimals.ThirtyTwo = 32
decimal_bits_of decimals.SixtyFour = 64
decimal_bits_of decimals.OneHundredTwentyEight = 128
decimal_bits_of decimals.TwoHundredFiftySix = 256

-- the greatest number of digits such that each number of that many digits fits into a signed number of the width
abbrev pub digits_of : DecimalWidth → ℕ
digits_of decimals.ThirtyTwo = 9
digits_of decimals.SixtyFour = 18
digits_of decimals.OneHundredTwentyEight = 38
digits_of decimals.TwoHundredFiftySix = 76

-- whether a scale is from -76 to 76 (the bounds are this project's own; `negsuc n` is -(n + 1))
abbrev pub is_scale : ℤ → Bool
is_scale (pos n) = nat_lt n 77
is_scale (negsuc n) = nat_lt n 76

-- whether decimals of a width may have this precision and this scale (Schema.fbs, table "Decimal")
abbrev pub is_decimal : DecimalWidth → ℕ → ℤ → Bool
is_decimal width precision scale = nat_lt 0 precision && not (nat_lt (digits_of width) precision) && is_scale scale

-- the width of a date (Schema.fbs, table "Date")
abbrev pub date_width_of : DateUnit → BitWidth
date_width_of dates.Day = ThirtyTwo
date_width_of dates.Millisecond = SixtyFour

-- the width of a time of day (Schema.fbs, table "Time")
abbrev pub time_width_of : TimeUnit → BitWidth
time_width_of times.Second = ThirtyTwo
time_width_of times.Millisecond = ThirtyTwo
time_width_of times.Microsecond = SixtyFour
time_width_of times.Nanosecond = SixtyFour
