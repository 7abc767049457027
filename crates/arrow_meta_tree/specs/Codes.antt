-- The numbers of headers, widths and units (Message.fbs, Schema.fbs).
use Rattle.std.specs.Prelude.{ℕ, ℤ, ◌%◌, ◌^◌, Option, Some, None, ◌==◌, nat_lt, if◌then◌else◌}
use Rattle.std.specs.Int.{cast_signed, w32}
use Rattle.arrow_types.specs.declared.data_type.BitWidth.{BitWidth}
use Rattle.arrow_types.specs.declared.data_type.BitWidth.TheVariants as widths
use Rattle.arrow_types.specs.declared.data_type.DateUnit.{DateUnit}
use Rattle.arrow_types.specs.declared.data_type.DateUnit.TheVariants as dates
use Rattle.arrow_types.specs.declared.data_type.DecimalWidth.{DecimalWidth}
use Rattle.arrow_types.specs.declared.data_type.DecimalWidth.TheVariants as decimals
use Rattle.arrow_types.specs.declared.data_type.IntervalUnit.{IntervalUnit}
use Rattle.arrow_types.specs.declared.data_type.IntervalUnit.TheVariants as intervals
use Rattle.arrow_types.specs.declared.data_type.Precision.{Precision}
use Rattle.arrow_types.specs.declared.data_type.Precision.TheVariants as precisions
use Rattle.arrow_types.specs.declared.data_type.TimeUnit.{TimeUnit}
use Rattle.arrow_types.specs.declared.data_type.TimeUnit.TheVariants as times
use Rattle.arrow_meta_tree.specs.declared.codes.HeaderKind.{HeaderKind}
use Rattle.arrow_meta_tree.specs.declared.codes.HeaderKind.TheVariants as headers

-- the header's code of a schema (Message.fbs, union "MessageHeader")
abbrev pub schema_code : ℕ
schema_code = 1

-- the header's code of a dictionary batch (Message.fbs, union "MessageHeader")
abbrev pub dictionary_code : ℕ
dictionary_code = 2

-- the header's code of a record batch (Message.fbs, union "MessageHeader")
abbrev pub batch_code : ℕ
batch_code = 3

-- The header that a code names (Message.fbs, union "MessageHeader"). There is none for 0, which means that there is
-- no header, for a Tensor (4) and a SparseTensor (5), which this project leaves out, and for a number that is not a
-- header's.
abbrev pub header_kind : ℕ → Option HeaderKind
header_kind n =
    if n == schema_code then Some headers.Schema else
    (if n == dictionary_code then Some headers.DictionaryBatch else
    (if n == batch_code then Some headers.RecordBatch else None))

-- the precision of a floating-point number (Schema.fbs, enum "Precision")
abbrev pub precision : ℕ → Option Precision
precision n =
    if n == 0 then Some precisions.Half else
    (if n == 1 then Some precisions.Single else
    (if n == 2 then Some precisions.Double else None))

-- the width of an Int (Schema.fbs, table "Int", field "bitWidth")
abbrev pub bit_width : ℕ → Option BitWidth
bit_width n =
    if n == 8 then Some widths.Eight else
    (if n == 16 then Some widths.Sixteen else
    (if n == 32 then Some widths.ThirtyTwo else
    (if n == 64 then Some widths.SixtyFour else None)))

-- The width of a FixedSizeBinary (Schema.fbs, table "FixedSizeBinary", field "byteWidth") and the size of a
-- FixedSizeList (table "FixedSizeList", field "listSize"): a signed number of 32 bits. Numbers above the greatest are
-- the negative ones, which are not a width and not a size.
abbrev pub byte_width : ℕ → Option ℕ
byte_width n = if nat_lt 2147483647 n then None else Some n

-- the width of a Decimal (Schema.fbs, table "Decimal", field "bitWidth")
abbrev pub decimal_width : ℕ → Option DecimalWidth
decimal_width n =
    if n == 32 then Some decimals.ThirtyTwo else
    (if n == 64 then Some decimals.SixtyFour else
    (if n == 128 then Some decimals.OneHundredTwentyEight else
    (if n == 256 then Some decimals.TwoHundredFiftySix else None)))

-- the scale of a Decimal (Schema.fbs, table "Decimal", field "scale"): its 32 bits as a signed number
abbrev pub decimal_scale : ℕ → ℤ
decimal_scale n = cast_signed w32 (n % 2 ^ 32)

-- the unit of a Date (Schema.fbs, enum "DateUnit")
abbrev pub date_unit : ℕ → Option DateUnit
date_unit n = if n == 0 then Some dates.Day else (if n == 1 then Some dates.Millisecond else None)

-- the unit of a Time, a Timestamp and a Duration (Schema.fbs, enum "TimeUnit")
abbrev pub time_unit : ℕ → Option TimeUnit
time_unit n =
    if n == 0 then Some times.Second else
    (if n == 1 then Some times.Millisecond else
    (if n == 2 then Some times.Microsecond else
    (if n == 3 then Some times.Nanosecond else None)))

-- the unit of an Interval (Schema.fbs, enum "IntervalUnit")
abbrev pub interval_unit : ℕ → Option IntervalUnit
interval_unit n =
    if n == 0 then Some intervals.YearMonth else
    (if n == 1 then Some intervals.DayTime else
    (if n == 2 then Some intervals.MonthDayNano else None))
