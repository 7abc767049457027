-- The texts of intervals: each number in decimal with its sign, then its unit. (This project's own: the standard gives none.)
use Rattle.std.specs.Prelude.{◌++◌, ℕ, ℤ, List, Some, None, codes}
use Rattle.std.specs.Fmt.{signed_decimal}
use Rattle.hex.specs.Hex.{encode_lower}
use Rattle.arrow_types.specs.DataType.{TypeId}
use Rattle.arrow_types.specs.DataType as tags
use Rattle.arrow_layout.specs.Decimals.{decimal_of_bytes, unscaled_of}
use Rattle.arrow_layout.specs.Intervals.{interval_of_bytes}
use Rattle.arrow_csv.specs.Decimals.{decimal_text}
use Rattle.arrow_layout.specs.declared.intervals.Interval.{Interval}
use Rattle.arrow_layout.specs.declared.intervals.Interval.TheVariants.{YearMonth, DayTime, MonthDayNano}

-- a number, then its unit
abbrev pub counted : ℤ → List ℕ → List ℕ
counted number unit = signed_decimal number ++ unit

-- the text of a number of months
abbrev pub months_text : ℤ → List ℕ
months_text months = counted months (codes "M")

-- all numbers of an interval, also those that are 0
abbrev pub interval_text : Interval → List ℕ
interval_text (YearMonth months) = months_text months
interval_text (DayTime days milliseconds) = counted days (codes "d") ++ counted milliseconds (codes "ms")
interval_text (MonthDayNano months days nanoseconds) = months_text months ++ counted days (codes "d") ++ counted nanoseconds (codes "ns")

-- the text of bytes by the type of the value: a decimal and an interval have their own, all others hexadecimal digits
abbrev pub bytes_text : TypeId → List ℕ → List ℕ
bytes_text (tags.decimal _ _ scale) bytes = elim (decimal_of_bytes scale bytes) [ None ↦ encode_lower bytes | Some decimal ↦ decimal_text decimal.scale (unscaled_of decimal) ]
bytes_text (tags.interval unit) bytes = elim (interval_of_bytes unit bytes) [ None ↦ encode_lower bytes | Some interval ↦ interval_text interval ]
bytes_text _ bytes = encode_lower bytes
