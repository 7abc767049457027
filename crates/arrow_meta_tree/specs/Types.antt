-- The types that are read: for each a row, with its number in the union "Type", its table, its children, and the
-- values that its table may hold (Schema.fbs, union "Type" and the tables of its members).
use Rattle.std.specs.Prelude.{ℕ, ℤ, pos, Bool, true, false, not, ◌==◌, if◌then◌else◌, List, [], ◌∷◌, Option, Some, None}
use Rattle.std.specs.Option.{is_none, unwrap_or}
use Rattle.arrow_types.specs.DataType as tags
use Rattle.arrow_types.specs.DataType.{TypeId, bits_of, is_decimal, time_width_of}
use Rattle.arrow_types.specs.TypeSet.{leaves_out}
use Rattle.arrow_types.specs.declared.data_type.BitWidth.{BitWidth}
use Rattle.arrow_types.specs.declared.data_type.BitWidth.TheVariants as widths
use Rattle.arrow_types.specs.declared.data_type.DateUnit.TheVariants as dates
use Rattle.arrow_types.specs.declared.data_type.DecimalWidth.{DecimalWidth}
use Rattle.arrow_types.specs.declared.data_type.DecimalWidth.TheVariants as decimals
use Rattle.arrow_types.specs.declared.data_type.IntervalUnit.TheVariants as intervals
use Rattle.arrow_types.specs.declared.data_type.Precision.TheVariants as precisions
use Rattle.arrow_types.specs.declared.data_type.TimeUnit.{TimeUnit}
use Rattle.arrow_types.specs.declared.data_type.TimeUnit.TheVariants as times
use Rattle.arrow_types.specs.declared.type_set.TypeSet.{TypeSet}
use Rattle.arrow_meta_tree.specs.declared.codes.TypeCode.{TypeCode}
use Rattle.arrow_meta_tree.specs.declared.codes.TypeCode.TheVariants as codes
use Rattle.arrow_meta_tree.specs.declared.kinds.FieldForm.{FieldForm}
use Rattle.arrow_meta_tree.specs.declared.kinds.FieldForm.TheVariants as forms
use Rattle.arrow_meta_tree.specs.Codes.{bit_width, byte_width, date_unit, decimal_scale, decimal_width, interval_unit, precision, time_unit}
use Rattle.arrow_meta_tree.specs.Parts.{nth, number_at, flag_at, some_text_in}
use Rattle.arrow_meta_tree.specs.Trees.{Trees, none}

-- a type as the metadata describe it
pub record TypeRow : Type 0 where
  -- its number in the union
  pub code : ℕ
  -- The fields of its table, in order of their numbers from 0. If none is read the table is not opened.
  pub fields : List FieldForm
  -- how many children it has; none if it may have any number
  pub children : Option ℕ
  -- whether a table holds a value that no such type has
  pub is_misfit : Trees → Bool
  -- the type's tag, from the fields of its table
  pub tag : Trees → TypeId

-- a type without a table that is read
abbrev bare : ℕ → Option ℕ → TypeId → TypeRow
bare code children tag = record { code = code; fields = []; children = children; is_misfit = λ xs. false; tag = λ xs. tag }

-- a type without children, with a table of these fields
abbrev tabled : ℕ → List FieldForm → (Trees → Bool) → (Trees → TypeId) → TypeRow
tabled code fields is_misfit tag = record { code = code; fields = fields; children = Some 0; is_misfit = is_misfit; tag = tag }

-- the width of an Int table, whose default 0 is not a width
abbrev pub width_in : Trees → BitWidth
width_in xs = unwrap_or (bit_width (number_at 0 0 xs)) widths.Eight

-- whether an Int table has a sign; by default it has none
abbrev pub sign_in : Trees → Bool
sign_in xs = flag_at 1 xs

-- the unit of the table of a Time, a Timestamp or a Duration, by the number of the default
abbrev pub time_in : ℕ → Trees → TimeUnit
time_in default xs = unwrap_or (time_unit (number_at 0 default xs)) times.Second

-- a time's unit, and the width in bits that goes with it (Schema.fbs, table "Time")
abbrev pub is_time : Option TimeUnit → ℕ → Bool
is_time None bits = false
is_time (Some unit) bits = bits == bits_of (time_width_of unit)

-- decimals of a width, if it allows the precision and the scale (Schema.fbs, table "Decimal")
abbrev pub decimal_by : Option DecimalWidth → ℕ → ℤ → Option TypeId
decimal_by None precision scale = None
decimal_by (Some width) precision scale = if is_decimal width precision scale then Some (tags.decimal width precision scale) else None

-- the decimals that a Decimal table describes, if there are such
abbrev pub decimal_in : Trees → Option TypeId
decimal_in xs = decimal_by (decimal_width (number_at 2 128 xs)) (number_at 0 0 xs) (decimal_scale (number_at 1 0 xs))

-- The row of a type. A comment names the fields of its table, with their defaults if they are not 0. If a table is a
-- misfit the type's tag is an arbitrary value, and means nothing.
abbrev pub type_row : TypeCode → TypeRow
type_row codes.Null = bare 1 (Some 0) tags.null
-- bitWidth, is_signed
type_row codes.Int = tabled 2 (forms.Int ∷ forms.Byte ∷ []) (λ xs. is_none (bit_width (number_at 0 0 xs))) (λ xs. tags.int (width_in xs) (sign_in xs))
-- precision
type_row codes.FloatingPoint =
    tabled 3 (forms.Short ∷ []) (λ xs. is_none (precision (number_at 0 0 xs))) (λ xs. tags.floating_point (unwrap_or (precision (number_at 0 0 xs)) precisions.Half))
type_row codes.Binary = bare 4 (Some 0) tags.binary
type_row codes.Utf8 = bare 5 (Some 0) tags.utf8
type_row codes.Bool = bare 6 (Some 0) tags.boolean
-- precision, scale, bitWidth (128)
type_row codes.Decimal =
    tabled 7 (forms.Int ∷ forms.Int ∷ forms.Int ∷ []) (λ xs. is_none (decimal_in xs)) (λ xs. unwrap_or (decimal_in xs) (tags.decimal decimals.ThirtyTwo 1 (pos 0)))
-- unit (MILLISECOND)
type_row codes.Date = tabled 8 (forms.Short ∷ []) (λ xs. is_none (date_unit (number_at 0 1 xs))) (λ xs. tags.date (unwrap_or (date_unit (number_at 0 1 xs)) dates.Day))
-- unit (MILLISECOND), bitWidth (32)
type_row codes.Time =
    tabled 9 (forms.Short ∷ forms.Int ∷ []) (λ xs. not (is_time (time_unit (number_at 0 1 xs)) (number_at 1 32 xs))) (λ xs. tags.time (time_in 1 xs))
-- unit, timezone
type_row codes.Timestamp =
    tabled 10 (forms.Short ∷ forms.Text ∷ []) (λ xs. is_none (time_unit (number_at 0 0 xs))) (λ xs. tags.timestamp (time_in 0 xs) (some_text_in (nth 1 xs)))
-- unit
type_row codes.Interval = tabled 11 (forms.Short ∷ []) (λ xs. is_none (interval_unit (number_at 0 0 xs))) (λ xs. tags.interval (unwrap_or (interval_unit (number_at 0 0 xs)) intervals.YearMonth))
type_row codes.List = bare 12 (Some 1) tags.list
type_row codes.Struct = bare 13 None tags.struct
-- byteWidth
type_row codes.FixedSizeBinary =
    tabled 15 (forms.Int ∷ []) (λ xs. is_none (byte_width (number_at 0 0 xs))) (λ xs. tags.fixed_size_binary (unwrap_or (byte_width (number_at 0 0 xs)) 0))
-- listSize
type_row codes.FixedSizeList = record {
  code = 16;
  fields = forms.Int ∷ [];
  children = Some 1;
  is_misfit = λ xs. is_none (byte_width (number_at 0 0 xs));
  tag = λ xs. tags.fixed_size_list (unwrap_or (byte_width (number_at 0 0 xs)) 0);
}
-- keysSorted
type_row codes.Map = record { code = 17; fields = forms.Byte ∷ []; children = Some 1; is_misfit = λ xs. false; tag = λ xs. tags.map (flag_at 0 xs) }
-- unit (MILLISECOND)
type_row codes.Duration = tabled 18 (forms.Short ∷ []) (λ xs. is_none (time_unit (number_at 0 1 xs))) (λ xs. tags.duration (time_in 1 xs))
type_row codes.LargeBinary = bare 19 (Some 0) tags.large_binary
type_row codes.LargeUtf8 = bare 20 (Some 0) tags.large_utf8
type_row codes.LargeList = bare 21 (Some 1) tags.large_list

-- all of them
abbrev all_types : List TypeCode
all_types =
    codes.Null ∷ codes.Int ∷ codes.FloatingPoint ∷ codes.Binary ∷ codes.Utf8 ∷ codes.Bool ∷ codes.Decimal ∷ codes.Date ∷ codes.Time ∷ codes.Timestamp ∷
    codes.Interval ∷ codes.List ∷ codes.Struct ∷ codes.FixedSizeBinary ∷ codes.FixedSizeList ∷ codes.Map ∷ codes.Duration ∷ codes.LargeBinary ∷ codes.LargeUtf8 ∷
    codes.LargeList ∷ []

-- the first of these types that has this number
abbrev numbered : ℕ → List TypeCode → Option TypeCode
numbered n [] = None
numbered n (code ∷ rest) = if n == (type_row code).code then Some code else numbered n rest

-- The type that a number names. There is none for the types that this project leaves out, whatever the set.
abbrev pub type_code : ℕ → Option TypeCode
type_code n = numbered n all_types

-- the type, if the set has it
abbrev pub taken : TypeSet → Option TypeCode → Option TypeCode
taken types None = None
taken types (Some code) = if leaves_out types ((type_row code).tag none) then None else Some code

-- the type of a tag
abbrev pub code_of : TypeId → TypeCode
code_of tags.null = codes.Null
code_of tags.boolean = codes.Bool
code_of (tags.int bits signed) = codes.Int
code_of (tags.floating_point precision) = codes.FloatingPoint
code_of (tags.decimal width precision scale) = codes.Decimal
code_of tags.binary = codes.Binary
code_of tags.large_binary = codes.LargeBinary
code_of (tags.fixed_size_binary width) = codes.FixedSizeBinary
code_of tags.utf8 = codes.Utf8
code_of tags.large_utf8 = codes.LargeUtf8
code_of (tags.date unit) = codes.Date
code_of (tags.time unit) = codes.Time
code_of (tags.timestamp unit _) = codes.Timestamp
code_of (tags.duration unit) = codes.Duration
code_of (tags.interval unit) = codes.Interval
code_of tags.list = codes.List
code_of tags.large_list = codes.LargeList
code_of (tags.fixed_size_list size) = codes.FixedSizeList
code_of tags.struct = codes.Struct
code_of (tags.map sorted) = codes.Map

-- whether a type may have this many children
abbrev pub has_children : Option ℕ → ℕ → Bool
has_children None n = true
has_children (Some count) n = n == count
