-- The layouts of nodes, and which of them each type has (Columnar Format, "Physical Memory Layout" and "Buffer
-- Listing for Each Layout"; Schema.fbs, union "Type"). All statements about buffers and slots go by this one table.
use Rattle.std.specs.Prelude.{◌≡◌, ◌-◌, ◌/◌, ◌^◌, ℕ, Bool, true, false, Option, Some, None, ⊤}
use Rattle.arrow_types.specs.DataType.{TypeId, bits_of, date_width_of, float_width_of, time_width_of}
use Rattle.arrow_types.specs.DataType as tags
use Rattle.arrow_types.specs.Field.{FieldTree, none, more}
use Rattle.arrow_types.specs.declared.data_type.BitWidth.{BitWidth}
use Rattle.arrow_types.specs.declared.data_type.BitWidth.TheVariants.{ThirtyTwo, SixtyFour}
use Rattle.arrow_types.specs.declared.data_type.DecimalWidth.{DecimalWidth}
use Rattle.arrow_types.specs.declared.data_type.DecimalWidth.TheVariants as decimals
use Rattle.arrow_types.specs.declared.data_type.IntervalUnit.{IntervalUnit}
use Rattle.arrow_types.specs.declared.data_type.IntervalUnit.TheVariants.{YearMonth, DayTime, MonthDayNano}
use Rattle.arrow_types.specs.declared.field.Encoding.{Encoding}
use Rattle.arrow_layout.specs.declared.form.Form.{Form}
use Rattle.arrow_layout.specs.declared.form.Form.TheVariants as forms
use Rattle.arrow_layout.specs.declared.form.ListForm.{ListForm}
use Rattle.arrow_layout.specs.declared.form.ListForm.TheVariants as lists
use Rattle.arrow_layout.specs.declared.form.NumberForm.{NumberForm}
use Rattle.arrow_layout.specs.declared.form.NumberForm.TheVariants as numbers
use Rattle.arrow_layout.specs.declared.form.OffsetWidth.{OffsetWidth}
use Rattle.arrow_layout.specs.declared.form.OffsetWidth.TheVariants.{Small, Large}

-- the form of intervals: a number for months, the bytes of all numbers for the other units (Schema.fbs, enum
-- "IntervalUnit")
abbrev pub interval_form : IntervalUnit → Form
interval_form YearMonth = forms.Numbers (numbers.Int ThirtyTwo true)
interval_form DayTime = forms.FixedBytes 8
interval_form MonthDayNano = forms.FixedBytes 16

-- The form of decimals: the whole number that is scaled. For 256 bits it is the bytes, as the program has no numbers
-- of that width (Schema.fbs, table "Decimal").
abbrev pub decimal_form : DecimalWidth → Form
decimal_form decimals.ThirtyTwo = forms.Numbers (numbers.Int ThirtyTwo true)
decimal_form decimals.SixtyFour = forms.Numbers (numbers.Int SixtyFour true)
decimal_form decimals.OneHundredTwentyEight = forms.Numbers numbers.Int128
decimal_form decimals.TwoHundredFiftySix = forms.FixedBytes 32

-- the form of the values of a type; a floating-point number has the form of its bits as a number, a map the form of a
-- list of its entries
abbrev pub form_of : TypeId → Form
form_of tags.null = forms.Nulls
form_of tags.boolean = forms.Bits
form_of (tags.int bits signed) = forms.Numbers (numbers.Int bits signed)
form_of (tags.floating_point precision) = forms.Numbers (numbers.Int (float_width_of precision) false)
form_of (tags.decimal width precision scale) = decimal_form width
form_of (tags.date unit) = forms.Numbers (numbers.Int (date_width_of unit) true)
form_of (tags.time unit) = forms.Numbers (numbers.Int (time_width_of unit) true)
form_of (tags.timestamp unit text) = forms.Numbers (numbers.Int SixtyFour true)
form_of (tags.duration unit) = forms.Numbers (numbers.Int SixtyFour true)
form_of (tags.interval unit) = interval_form unit
form_of tags.binary = forms.Bytes Small
form_of tags.large_binary = forms.Bytes Large
form_of (tags.fixed_size_binary width) = forms.FixedBytes width
form_of tags.utf8 = forms.Texts Small
form_of tags.large_utf8 = forms.Texts Large
form_of tags.list = forms.Lists (lists.Offsets Small)
form_of tags.large_list = forms.Lists (lists.Offsets Large)
form_of tags.struct = forms.Structs
form_of (tags.map sorted) = forms.Lists (lists.Offsets Small)
form_of (tags.fixed_size_list size) = forms.Lists (lists.Fixed size)

-- the form of the indices of an encoding
abbrev pub index_form : Encoding → Form
index_form e = forms.Numbers (numbers.Int e.index.bits e.index.signed)

-- the form of a node: a dictionary-encoded one has that of its indices (Columnar Format, "Dictionary-encoded Layout")
abbrev pub node_form : TypeId → Option Encoding → Form
node_form tag None = form_of tag
node_form tag (Some e) = index_form e

-- how many bytes an offset takes (Columnar Format, "Variable-size Binary Layout")
abbrev pub offset_bytes : OffsetWidth → ℕ
offset_bytes Small = 4
offset_bytes Large = 8

-- the greatest offset of a width: offsets have a sign (Columnar Format, "Variable-size Binary Layout")
abbrev pub greatest_offset : OffsetWidth → ℕ
greatest_offset Small = 2147483647
greatest_offset Large = 2 ^ 63 - 1

-- how many bytes an Int takes (Schema.fbs, "Int")
abbrev pub int_width : BitWidth → ℕ
int_width bits = bits_of bits / 8

-- how many bytes a number takes
abbrev pub number_width : NumberForm → ℕ
number_width (numbers.Int bits signed) = int_width bits
number_width numbers.Int128 = 16

-- whether numbers have a sign
abbrev pub has_sign : NumberForm → Bool
has_sign (numbers.Int bits signed) = signed
has_sign numbers.Int128 = true

-- how many buffers a node of lists has: the validity, and the offsets if they are stored (Columnar Format, "Buffer
-- Listing for Each Layout")
abbrev pub list_buffers : ListForm → ℕ
list_buffers (lists.Offsets width) = 2
list_buffers (lists.Fixed size) = 1

-- how many buffers a node of the form has
abbrev pub buffers_of : Form → ℕ
buffers_of forms.Nulls = 0
buffers_of forms.Bits = 2
buffers_of (forms.Numbers number) = 2
buffers_of (forms.Bytes width) = 3
buffers_of (forms.Texts width) = 3
buffers_of (forms.FixedBytes width) = 2
buffers_of (forms.Lists list) = list_buffers list
buffers_of forms.Structs = 1

-- there is one field
abbrev pub IsOneField : FieldTree → Type 0
IsOneField none = ⊥
IsOneField (more head children none) = ⊤
IsOneField (more head children (more head' children' rest)) = ⊥

-- the fields below a type of the form: one for lists, any number for structs, none for all others
abbrev pub HasFieldsOf : Form → FieldTree → Type 0
HasFieldsOf forms.Nulls fields = fields ≡ none
HasFieldsOf forms.Bits fields = fields ≡ none
HasFieldsOf (forms.Numbers number) fields = fields ≡ none
HasFieldsOf (forms.Bytes width) fields = fields ≡ none
HasFieldsOf (forms.Texts width) fields = fields ≡ none
HasFieldsOf (forms.FixedBytes width) fields = fields ≡ none
HasFieldsOf (forms.Lists list) fields = IsOneField fields
HasFieldsOf forms.Structs fields = ⊤

-- slots hold lists
abbrev pub IsLists : Form → Type 0
IsLists forms.Nulls = ⊥
IsLists forms.Bits = ⊥
IsLists (forms.Numbers number) = ⊥
IsLists (forms.Bytes width) = ⊥
IsLists (forms.Texts width) = ⊥
IsLists (forms.FixedBytes width) = ⊥
IsLists (forms.Lists list) = ⊤
IsLists forms.Structs = ⊥

-- slots of a node of lists may hold that many items: any number, or the fixed one (Schema.fbs, table "FixedSizeList")
abbrev pub HoldsItems : ListForm → ℕ → Type 0
HoldsItems (lists.Offsets width) count = ⊤
HoldsItems (lists.Fixed size) count = count ≡ size

-- slots of the form hold lists, and may hold one with that many items
abbrev pub HoldsList : Form → ℕ → Type 0
HoldsList forms.Nulls count = ⊥
HoldsList forms.Bits count = ⊥
HoldsList (forms.Numbers number) count = ⊥
HoldsList (forms.Bytes width) count = ⊥
HoldsList (forms.Texts width) count = ⊥
HoldsList (forms.FixedBytes width) count = ⊥
HoldsList (forms.Lists list) count = HoldsItems list count
HoldsList forms.Structs count = ⊥

-- a type of the form has no fields below it
abbrev pub IsLeaf : Form → Type 0
IsLeaf forms.Nulls = ⊤
IsLeaf forms.Bits = ⊤
IsLeaf (forms.Numbers number) = ⊤
IsLeaf (forms.Bytes width) = ⊤
IsLeaf (forms.Texts width) = ⊤
IsLeaf (forms.FixedBytes width) = ⊤
IsLeaf (forms.Lists list) = ⊥
IsLeaf forms.Structs = ⊥
