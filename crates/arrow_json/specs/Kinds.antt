-- How the numbers and the bytes of a type are shown.
use Rattle.arrow_types.specs.DataType.{TypeId}
use Rattle.arrow_types.specs.DataType as tags
use Rattle.arrow_json.specs.declared.kind.JsonKind.{JsonKind}
use Rattle.arrow_json.specs.declared.kind.JsonKind.TheVariants.{Float, Decimal, Interval, Plain}

-- floating-point numbers, decimals and intervals as such; dates, times, timestamps and durations as the numbers of their units
abbrev pub kind_of : TypeId → JsonKind
kind_of (tags.floating_point precision) = Float precision
kind_of (tags.decimal width precision scale) = Decimal scale
kind_of (tags.interval unit) = Interval unit
kind_of tags.null = Plain
kind_of tags.boolean = Plain
kind_of (tags.int bits signed) = Plain
kind_of tags.binary = Plain
kind_of tags.large_binary = Plain
kind_of (tags.fixed_size_binary width) = Plain
kind_of tags.utf8 = Plain
kind_of tags.large_utf8 = Plain
kind_of (tags.date unit) = Plain
kind_of (tags.time unit) = Plain
kind_of (tags.timestamp unit of_zone) = Plain
kind_of (tags.duration unit) = Plain
kind_of tags.list = Plain
kind_of tags.large_list = Plain
kind_of (tags.fixed_size_list size) = Plain
kind_of tags.struct = Plain
kind_of (tags.map sorted) = Plain
