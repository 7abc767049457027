-- Intervals in columns: months are a number, the others are the bytes of their numbers, one after another, each in two's complement
-- with its least significant byte first (Schema.fbs, table "Interval" and enum "IntervalUnit").
use Rattle.std.specs.Prelude.{◌++◌, ◌^◌, ℕ, ℤ, pos, negsuc, nat_eq, nat_lt, Bool, Option, Some, None, if◌then◌else◌, List, length}
use Rattle.arrow_bits.specs.Numbers.{int_bytes, signed_at}
use Rattle.arrow_types.specs.DataType.{TypeId}
use Rattle.arrow_types.specs.DataType as tags
use Rattle.arrow_types.specs.declared.data_type.IntervalUnit.{IntervalUnit}
use Rattle.arrow_types.specs.declared.data_type.IntervalUnit.TheVariants as units
use Rattle.arrow_layout.specs.declared.intervals.Interval.{Interval}
use Rattle.arrow_layout.specs.declared.intervals.Interval.TheVariants.{YearMonth, DayTime, MonthDayNano}
use Rattle.arrow_layout.specs.PlainValue.{PlainValue, int_value, binary_value}

-- the unit of an interval
abbrev pub unit_of : Interval → IntervalUnit
unit_of (YearMonth _) = units.YearMonth
unit_of (DayTime _ _) = units.DayTime
unit_of (MonthDayNano _ _ _) = units.MonthDayNano

-- whether a number fits into 32 bits with a sign (`negsuc n` is -(n + 1))
abbrev pub has_32_bits : ℤ → Bool
has_32_bits (pos n) = nat_lt n (2 ^ 31)
has_32_bits (negsuc n) = nat_lt n (2 ^ 31)

-- the interval of that many months
abbrev pub interval_of_number : IntervalUnit → ℤ → Option Interval
interval_of_number units.YearMonth z = if has_32_bits z then Some (YearMonth z) else None
interval_of_number _ z = None

-- the days and the milliseconds that the bytes encode
abbrev pub day_time_in : List ℕ → Interval
day_time_in bytes = DayTime (signed_at bytes 0 4) (signed_at bytes 4 4)

-- the months, the days and the nanoseconds that the bytes encode
abbrev pub month_day_nano_in : List ℕ → Interval
month_day_nano_in bytes = MonthDayNano (signed_at bytes 0 4) (signed_at bytes 4 4) (signed_at bytes 8 8)

-- the interval that the bytes encode, if their number is that of the unit
abbrev pub interval_of_bytes : IntervalUnit → List ℕ → Option Interval
interval_of_bytes units.YearMonth bytes = None
interval_of_bytes units.DayTime bytes = if nat_eq (length bytes) 8 then Some (day_time_in bytes) else None
interval_of_bytes units.MonthDayNano bytes = if nat_eq (length bytes) 16 then Some (month_day_nano_in bytes) else None

-- the interval that a value of this type is, if it is one
abbrev pub interval_in : TypeId → PlainValue → Option Interval
interval_in (tags.interval unit) (int_value z) = interval_of_number unit z
interval_in (tags.interval unit) (binary_value bytes) = interval_of_bytes unit bytes
interval_in tag value = None

-- the value of an interval in a column of its unit
abbrev pub interval_value : Interval → PlainValue
interval_value (YearMonth months) = int_value months
interval_value (DayTime days milliseconds) = binary_value (int_bytes 4 days ++ int_bytes 4 milliseconds)
interval_value (MonthDayNano months days nanoseconds) = binary_value (int_bytes 4 months ++ int_bytes 4 days ++ int_bytes 8 nanoseconds)
