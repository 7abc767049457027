-- What a slot shows.
use Rattle.std.specs.Prelude.{◌≡◌, ◌≤◌, ℕ, List, [], ◌∷◌, length, Option, None, is_some, if◌then◌else◌}
use Rattle.arrow_layout.specs.PlainValue.{value_at, null_value, bool_value, int_value, binary_value, utf8_value, list_value, struct_value, values_of}
use Rattle.arrow_data.specs.Column.{Column, AreOf, HasItems, HasParts, values_from, resolved_row_of}
use Rattle.std.specs.Float.{Float}
use Rattle.arrow_layout.specs.Decimals.{decimal_in}
use Rattle.arrow_layout.specs.Floats.{float_in}
use Rattle.arrow_layout.specs.Intervals.{interval_in}
use Rattle.arrow_layout.specs.declared.decimals.Decimal.{Decimal}
use Rattle.arrow_layout.specs.declared.intervals.Interval.{Interval}
use Rattle.arrow_data.specs.Same.{HaveSlot}
use Rattle.arrow_data.specs.declared.array.SlotRef.{SlotRef}
use Rattle.arrow_data.specs.declared.array.SlotValue.{SlotValue}
use Rattle.arrow_data.specs.declared.array.SlotValue.TheVariants as values
use Rattle.arrow_data.specs.declared.array.SlotRef.TheVariants.{Nothing, Truth, Number, Binary, Text, Items, Parts}

-- slot i shows its raw value
abbrev pub Shows : Column → ℕ → SlotRef → Type 0
Shows c i Nothing = value_at c.raw i ≡ null_value
Shows c i (Truth b) = value_at c.raw i ≡ bool_value b
Shows c i (Number z) = value_at c.raw i ≡ int_value z
Shows c i (Binary bytes) = value_at c.raw i ≡ binary_value bytes.now
Shows c i (Text text) = value_at c.raw i ≡ utf8_value text.now
Shows c i (Items start stop child) = HasItems c i start stop child.now
Shows c i (Parts children) = HasParts c i children.now

-- the value is the list of the child's values from `start` up to `stop`, indices looked up
pub record ListsItems (c : Column) (i start stop : ℕ) (child : Column) : Type 0 where
  pub typed : AreOf c.data_type.children (child ∷ [])
  pub ordered : start ≤ stop
  pub inside : stop ≤ length child.raw
  pub long : length child.resolved ≡ length child.raw
  pub same : value_at c.resolved i ≡ list_value (values_of (values_from child.resolved start stop))

-- the value consists of the values of the fields' columns in one slot, indices looked up
pub record JoinsParts (c : Column) (i : ℕ) (children : List Column) (place : ℕ) : Type 0 where
  pub typed : AreOf c.data_type.children children
  pub inside : HaveSlot place children
  pub same : value_at c.resolved i ≡ struct_value (values_of (resolved_row_of children place))

-- the value of slot i once indices are looked up
abbrev pub HoldsValue : Column → ℕ → SlotValue → Type 0
HoldsValue c i values.Null = value_at c.resolved i ≡ null_value
HoldsValue c i (values.Bool b) = value_at c.resolved i ≡ bool_value b
HoldsValue c i (values.Int z) = value_at c.resolved i ≡ int_value z
HoldsValue c i (values.Bytes bytes) = value_at c.resolved i ≡ binary_value bytes.now
HoldsValue c i (values.Text text) = value_at c.resolved i ≡ utf8_value text.now
HoldsValue c i (values.List start stop child) = ListsItems c i start stop child.now
HoldsValue c i (values.Struct children place) = JoinsParts c i children.now place

-- what slot i shows, as a value
abbrev pub value_shown : ℕ → SlotRef → SlotValue
value_shown i Nothing = values.Null
value_shown i (Truth b) = values.Bool b
value_shown i (Number z) = values.Int z
value_shown i (Binary bytes) = values.Bytes bytes
value_shown i (Text text) = values.Text text
value_shown i (Items start stop child) = values.List start stop child
value_shown i (Parts children) = values.Struct children i

-- the number in slot i of a column whose values are not given by indices
abbrev pub float_shown : Column → ℕ → Option Float
float_shown column i = if is_some column.encoding then None else float_in column.data_type.tag (value_at column.raw i)

-- the decimal in slot i of a column whose values are not given by indices
abbrev pub decimal_shown : Column → ℕ → Option Decimal
decimal_shown column i = if is_some column.encoding then None else decimal_in column.data_type.tag (value_at column.raw i)

-- the interval in slot i of a column whose values are not given by indices
abbrev pub interval_shown : Column → ℕ → Option Interval
interval_shown column i = if is_some column.encoding then None else interval_in column.data_type.tag (value_at column.raw i)
