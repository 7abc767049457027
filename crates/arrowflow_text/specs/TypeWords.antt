-- The words for types (Schema.fbs, union "Type"): the name in the text of a schema, which is this project's own, and
-- the format string (Arrow C data interface, "Data type description -- format strings"). The table has a row for each
-- type, and for each unit of one.
use Rattle.std.specs.Prelude.{ℕ, true, false, List, [], ◌++◌, Some, None, codes}
use Rattle.std.specs.Fmt.{decimal, signed_decimal}
use Rattle.arrow_types.specs.DataType as tags
use Rattle.arrow_types.specs.DataType.{TypeId, null, boolean, int, floating_point, binary, large_binary, fixed_size_binary, utf8, large_utf8, date, time, timestamp, duration, interval, list, large_list, fixed_size_list, map, struct}
use Rattle.arrow_types.specs.declared.data_type.BitWidth.TheVariants.{Eight, Sixteen, ThirtyTwo, SixtyFour}
use Rattle.arrow_types.specs.declared.data_type.DateUnit.TheVariants as dates
use Rattle.arrow_types.specs.declared.data_type.DecimalWidth.{DecimalWidth}
use Rattle.arrow_types.specs.declared.data_type.DecimalWidth.TheVariants as decimals
use Rattle.arrow_types.specs.declared.data_type.IntervalUnit.TheVariants.{YearMonth, DayTime, MonthDayNano}
use Rattle.arrow_types.specs.declared.data_type.Precision.TheVariants.{Half, Single, Double}
use Rattle.arrow_types.specs.declared.data_type.TimeUnit.TheVariants as times
use Rattle.arrowflow_text.specs.Escapes.{escaped}

-- the texts in a row of the table
pub record Texts : Type 0 where
  pub name : List ℕ
  pub format : List ℕ

-- a row of the table
abbrev pub words : List ℕ → List ℕ → Texts
words name format = record { name = name; format = format }

-- the fixed texts of a type without its children: complete, or up to its width, its time zone or its precision
abbrev pub words_of : TypeId → Texts
words_of null = words (codes "null") (codes "n")
words_of boolean = words (codes "bool") (codes "b")
words_of (int Eight true) = words (codes "int8") (codes "c")
words_of (int Sixteen true) = words (codes "int16") (codes "s")
words_of (int ThirtyTwo true) = words (codes "int32") (codes "i")
words_of (int SixtyFour true) = words (codes "int64") (codes "l")
words_of (int Eight false) = words (codes "uint8") (codes "C")
words_of (int Sixteen false) = words (codes "uint16") (codes "S")
words_of (int ThirtyTwo false) = words (codes "uint32") (codes "I")
words_of (int SixtyFour false) = words (codes "uint64") (codes "L")
words_of (floating_point Half) = words (codes "halffloat") (codes "e")
words_of (floating_point Single) = words (codes "float") (codes "f")
words_of (floating_point Double) = words (codes "double") (codes "g")
words_of (tags.decimal decimals.ThirtyTwo _ _) = words (codes "decimal32(") (codes "d:")
words_of (tags.decimal decimals.SixtyFour _ _) = words (codes "decimal64(") (codes "d:")
words_of (tags.decimal decimals.OneHundredTwentyEight _ _) = words (codes "decimal128(") (codes "d:")
words_of (tags.decimal decimals.TwoHundredFiftySix _ _) = words (codes "decimal256(") (codes "d:")
words_of binary = words (codes "binary") (codes "z")
words_of large_binary = words (codes "large_binary") (codes "Z")
words_of (fixed_size_binary _) = words (codes "fixed_size_binary[") (codes "w:")
words_of utf8 = words (codes "utf8") (codes "u")
words_of large_utf8 = words (codes "large_utf8") (codes "U")
words_of (date dates.Day) = words (codes "date[day]") (codes "tdD")
words_of (date dates.Millisecond) = words (codes "date[ms]") (codes "tdm")
words_of (time times.Second) = words (codes "time[s]") (codes "tts")
words_of (time times.Millisecond) = words (codes "time[ms]") (codes "ttm")
words_of (time times.Microsecond) = words (codes "time[us]") (codes "ttu")
words_of (time times.Nanosecond) = words (codes "time[ns]") (codes "ttn")
words_of (timestamp times.Second _) = words (codes "timestamp[s") (codes "tss:")
words_of (timestamp times.Millisecond _) = words (codes "timestamp[ms") (codes "tsm:")
words_of (timestamp times.Microsecond _) = words (codes "timestamp[us") (codes "tsu:")
words_of (timestamp times.Nanosecond _) = words (codes "timestamp[ns") (codes "tsn:")
words_of (duration times.Second) = words (codes "duration[s]") (codes "tDs")
words_of (duration times.Millisecond) = words (codes "duration[ms]") (codes "tDm")
words_of (duration times.Microsecond) = words (codes "duration[us]") (codes "tDu")
words_of (duration times.Nanosecond) = words (codes "duration[ns]") (codes "tDn")
words_of (interval YearMonth) = words (codes "month_interval") (codes "tiM")
words_of (interval DayTime) = words (codes "day_time_interval") (codes "tiD")
words_of (interval MonthDayNano) = words (codes "month_day_nano_interval") (codes "tin")
words_of list = words (codes "list") (codes "+l")
words_of large_list = words (codes "large_list") (codes "+L")
words_of (fixed_size_list _) = words (codes "fixed_size_list[") (codes "+w:")
words_of (map false) = words (codes "map") (codes "+m")
words_of (map true) = words (codes "map[sorted]") (codes "+m")
words_of struct = words (codes "struct") (codes "+s")

-- what follows the name: the width or the size, the time zone if there is one, which may be empty, or the precision and the scale
abbrev pub name_end : TypeId → List ℕ
name_end (fixed_size_binary width) = decimal width ++ codes "]"
name_end (fixed_size_list size) = decimal size ++ codes "]"
name_end (tags.decimal _ precision scale) = decimal precision ++ codes ", " ++ signed_decimal scale ++ codes ")"
name_end (timestamp _ None) = codes "]"
name_end (timestamp _ (Some zone)) = codes ", " ++ escaped zone ++ codes "]"
name_end _ = []

-- the width at the end of a format string of decimals: none is given for 128 bits
abbrev pub format_width : DecimalWidth → List ℕ
format_width decimals.ThirtyTwo = codes ",32"
format_width decimals.SixtyFour = codes ",64"
format_width decimals.OneHundredTwentyEight = []
format_width decimals.TwoHundredFiftySix = codes ",256"

-- what follows the format string: the width or the size, the time zone if there is one, or the precision and the scale
abbrev pub format_end : TypeId → List ℕ
format_end (fixed_size_binary width) = decimal width
format_end (fixed_size_list size) = decimal size
format_end (tags.decimal width precision scale) = decimal precision ++ codes "," ++ signed_decimal scale ++ format_width width
format_end (timestamp _ (Some zone)) = zone
format_end _ = []

-- the name of a type without its children
abbrev pub type_name : TypeId → List ℕ
type_name tag = (words_of tag).name ++ name_end tag

-- the format string of a type without its children
abbrev pub format_of : TypeId → List ℕ
format_of tag = (words_of tag).format ++ format_end tag
