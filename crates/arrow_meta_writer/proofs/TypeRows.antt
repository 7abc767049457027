-- The written table of each type can be written, is not a misfit, and decodes to the type again: one row each, by the
-- numbers of its widths and units.
use Rattle.std.proofs.Common.{◌≡◌, ◌<◌, pos, Bool, true, false, not, ◌||◌, ◌==◌, if◌then◌else◌, Some, None, refl, ap, arith}
use Rattle.std.specs.Option.{is_none, unwrap_or}
use Rattle.std.proofs.lemmas.Bool.{ltb-false, not-false}
use Rattle.arrow_flatbuf.specs.Nodes.{NodeFits}
use Rattle.arrow_flatbuf.specs.Nodes as laid
use Rattle.arrow_types.specs.DataType as tags
use Rattle.arrow_types.specs.DataType.{TypeId, bits_of, is_decimal, time_width_of}
use Rattle.arrow_types.specs.Field.{FieldTree}
use Rattle.arrow_types.specs.declared.data_type.BitWidth.{BitWidth}
use Rattle.arrow_types.specs.declared.data_type.BitWidth.TheVariants as widths
use Rattle.arrow_types.specs.declared.data_type.DateUnit.{DateUnit}
use Rattle.arrow_types.specs.declared.data_type.DateUnit.TheVariants as dates
use Rattle.arrow_types.specs.declared.data_type.DecimalWidth.TheVariants as decimals
use Rattle.arrow_types.specs.declared.data_type.IntervalUnit.{IntervalUnit}
use Rattle.arrow_types.specs.declared.data_type.IntervalUnit.TheVariants as intervals
use Rattle.arrow_types.specs.declared.data_type.Precision.{Precision}
use Rattle.arrow_types.specs.declared.data_type.Precision.TheVariants as precisions
use Rattle.arrow_types.specs.declared.data_type.TimeUnit.{TimeUnit}
use Rattle.arrow_types.specs.declared.data_type.TimeUnit.TheVariants as times
use Rattle.arrow_types.specs.declared.fault.SchemaFault.TheVariants.{ByteWidth, DecimalRange}
use Rattle.arrow_types.specs.declared.type_set.TypeSet.TheVariants.{All}
use Rattle.arrow_meta_tree.specs.Codes.{bit_width, date_unit, interval_unit, precision, time_unit}
use Rattle.arrow_meta_schema.specs.Conditions.{any, is_misfit}
use Rattle.arrow_meta_tree.specs.Parts.{parts}
use Rattle.arrow_meta_schema.specs.SchemaMeaning.{tag_by}
use Rattle.arrow_meta_tree.specs.Types.{is_time, type_code}
use Rattle.arrow_meta_writer.specs.Layouts.{flag, tag_code, int_cells, type_cells, date_number, interval_number, precision_number, time_number}
use Rattle.arrow_meta_writer.specs.Writable.{HasTextZone}
use Rattle.arrow_meta_writer.specs.Written.{type_tree}
use Rattle.arrow_meta_writer.proofs.Decimals.{decimal_again, decimal_bits_fit, precision_fits as digits_fit, scale_fits}
use Rattle.arrow_meta_writer.proofs.Flawless.{IsFlawless}

-- The number of a width or a unit is read as the same width or unit.

pub flag_again : (b : Bool) → not (flag b == 0) ≡ b
flag_again true = refl
flag_again false = refl

pub width_again : (bits : BitWidth) → bit_width (bits_of bits) ≡ Some bits
width_again widths.Eight = refl
width_again widths.Sixteen = refl
width_again widths.ThirtyTwo = refl
width_again widths.SixtyFour = refl

precision_again : (p : Precision) → precision (precision_number p) ≡ Some p
precision_again precisions.Half = refl
precision_again precisions.Single = refl
precision_again precisions.Double = refl

date_again : (unit : DateUnit) → date_unit (date_number unit) ≡ Some unit
date_again dates.Day = refl
date_again dates.Millisecond = refl

time_again : (unit : TimeUnit) → time_unit (time_number unit) ≡ Some unit
time_again times.Second = refl
time_again times.Millisecond = refl
time_again times.Microsecond = refl
time_again times.Nanosecond = refl

interval_again : (unit : IntervalUnit) → interval_unit (interval_number unit) ≡ Some unit
interval_again intervals.YearMonth = refl
interval_again intervals.DayTime = refl
interval_again intervals.MonthDayNano = refl

-- the width of a time is its unit's
width_of_time : (unit : TimeUnit) → not (is_time (time_unit (time_number unit)) (bits_of (time_width_of unit))) ≡ false
width_of_time times.Second = refl
width_of_time times.Millisecond = refl
width_of_time times.Microsecond = refl
width_of_time times.Nanosecond = refl

-- A byte holds this number.

pub flag_fits : (b : Bool) → flag b < 256
flag_fits true = omega arith
flag_fits false = omega arith

pub bits_fit : (bits : BitWidth) → bits_of bits < 256
bits_fit widths.Eight = omega arith
bits_fit widths.Sixteen = omega arith
bits_fit widths.ThirtyTwo = omega arith
bits_fit widths.SixtyFour = omega arith

precision_fits : (p : Precision) → precision_number p < 256
precision_fits precisions.Half = omega arith
precision_fits precisions.Single = omega arith
precision_fits precisions.Double = omega arith

date_fits : (unit : DateUnit) → date_number unit < 256
date_fits dates.Day = omega arith
date_fits dates.Millisecond = omega arith

time_fits : (unit : TimeUnit) → time_number unit < 256
time_fits times.Second = omega arith
time_fits times.Millisecond = omega arith
time_fits times.Microsecond = omega arith
time_fits times.Nanosecond = omega arith

interval_fits : (unit : IntervalUnit) → interval_number unit < 256
interval_fits intervals.YearMonth = omega arith
interval_fits intervals.DayTime = omega arith
interval_fits intervals.MonthDayNano = omega arith

-- a type's table decodes to the type
pub tag_of_all : (tag : TypeId) (children : FieldTree) → IsFlawless tag children → tag_by (type_code (tag_code tag)) (parts (type_tree All tag)) ≡ tag
tag_of_all (tags.int bits signed) children flawless = λ i. tags.int (unwrap_or (width_again bits i) widths.Eight) (flag_again signed i)
tag_of_all (tags.floating_point precision) children flawless = ap (λ p. tags.floating_point (unwrap_or p precisions.Half)) (precision_again precision)
tag_of_all (tags.decimal width precision scale) children flawless =
    ap (λ t. unwrap_or t (tags.decimal decimals.ThirtyTwo 1 (pos 0))) (decimal_again width precision scale (not-false _ (flawless DecimalRange)))
tag_of_all (tags.date unit) children flawless = ap (λ u. tags.date (unwrap_or u dates.Day)) (date_again unit)
tag_of_all (tags.time unit) children flawless = ap (λ u. tags.time (unwrap_or u times.Second)) (time_again unit)
tag_of_all (tags.timestamp unit None) children flawless = ap (λ u. tags.timestamp (unwrap_or u times.Second) None) (time_again unit)
tag_of_all (tags.timestamp unit (Some zone)) children flawless = ap (λ u. tags.timestamp (unwrap_or u times.Second) (Some zone)) (time_again unit)
tag_of_all (tags.fixed_size_binary width) children flawless = ap (λ b. tags.fixed_size_binary (unwrap_or (if b then None else Some width) 0)) (flawless ByteWidth)
tag_of_all (tags.fixed_size_list size) children flawless = ap (λ b. tags.fixed_size_list (unwrap_or (if b then None else Some size) 0)) (flawless ByteWidth)
tag_of_all (tags.duration unit) children flawless = ap (λ u. tags.duration (unwrap_or u times.Second)) (time_again unit)
tag_of_all (tags.map sorted) children flawless = ap tags.map (flag_again sorted)
tag_of_all (tags.interval unit) children flawless = ap (λ u. tags.interval (unwrap_or u intervals.YearMonth)) (interval_again unit)
tag_of_all tag children flawless = refl

-- a type's table is not a misfit
pub fitting_all : (tag : TypeId) (children : FieldTree) → IsFlawless tag children → any is_misfit (type_tree All tag) ≡ false
fitting_all (tags.int bits signed) children flawless = rw (width_again bits) refl
fitting_all (tags.floating_point precision) children flawless = rw (precision_again precision) refl
fitting_all (tags.decimal width precision scale) children flawless =
    ap (λ t. is_none t || false) (decimal_again width precision scale (not-false _ (flawless DecimalRange)))
fitting_all (tags.date unit) children flawless = rw (date_again unit) refl
fitting_all (tags.time unit) children flawless = rw (width_of_time unit) refl
fitting_all (tags.timestamp unit None) children flawless = rw (time_again unit) refl
fitting_all (tags.timestamp unit (Some zone)) children flawless = rw (time_again unit) refl
fitting_all (tags.fixed_size_binary width) children flawless = let narrow = flawless ByteWidth in rw narrow refl
fitting_all (tags.fixed_size_list size) children flawless = let narrow = flawless ByteWidth in rw narrow refl
fitting_all (tags.duration unit) children flawless = rw (time_again unit) refl
fitting_all (tags.interval unit) children flawless = rw (interval_again unit) refl
fitting_all tag children flawless = refl

pub int_fits : (bits : BitWidth) (signed : Bool) → NodeFits (laid.table (int_cells bits signed))
int_fits bits signed = (omega arith, (omega (arith, bits_fit bits), (flag_fits signed, tt)))

-- a type's table can be written
pub type_fits : (tag : TypeId) (children : FieldTree) → HasTextZone tag → IsFlawless tag children → NodeFits (laid.table (type_cells tag))
type_fits (tags.int bits signed) children h flawless = int_fits bits signed
type_fits (tags.floating_point precision) children h flawless = (omega arith, (omega (arith, precision_fits precision), tt))
type_fits (tags.decimal width precision scale) children h flawless =
    let allowed : is_decimal width precision scale ≡ true = not-false _ (flawless DecimalRange) in
    (omega arith, (omega (arith, digits_fit width precision scale allowed), (omega (arith, scale_fits width precision scale allowed), (omega (arith, decimal_bits_fit width), tt))))
type_fits (tags.date unit) children h flawless = (omega arith, (omega (arith, date_fits unit), tt))
type_fits (tags.time unit) children h flawless = (omega arith, (omega (arith, time_fits unit), (omega (arith, bits_fit (time_width_of unit)), tt)))
type_fits (tags.timestamp unit None) children h flawless = (omega arith, (omega (arith, time_fits unit), tt))
type_fits (tags.timestamp unit (Some zone)) children h flawless = (omega arith, (omega (arith, time_fits unit), (h, tt)))
type_fits (tags.fixed_size_binary width) children h flawless = (omega arith, (omega (arith, ltb-false 2147483647 width (flawless ByteWidth)), tt))
type_fits (tags.fixed_size_list size) children h flawless = (omega arith, (omega (arith, ltb-false 2147483647 size (flawless ByteWidth)), tt))
type_fits (tags.duration unit) children h flawless = (omega arith, (omega (arith, time_fits unit), tt))
type_fits (tags.map sorted) children h flawless = (omega arith, (flag_fits sorted, tt))
type_fits (tags.interval unit) children h flawless = (omega arith, (omega (arith, interval_fits unit), tt))
type_fits tag children h flawless = (omega arith, tt)
