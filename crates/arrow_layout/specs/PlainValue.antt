-- The values of slots as plain data, apart from where they lie in memory (Columnar Format, "Terminology").
use Rattle.std.specs.Prelude.{ℕ, zero, suc, ℤ, Bool, true, false, List, [], ◌∷◌, Option, Some, None, slice_index_or}

mutual
  -- A value of any type. A date, a time, a timestamp or a duration is its number, a text is its bytes.
  pub data PlainValue : Type 0 where
    null_value : PlainValue
    bool_value : Bool → PlainValue
    int_value : ℤ → PlainValue
    binary_value : List ℕ → PlainValue
    utf8_value : List ℕ → PlainValue
    list_value : PlainValues → PlainValue
    struct_value : PlainValues → PlainValue

  -- a sequence of values: the items of a list, or one for each field of a struct
  pub data PlainValues : Type 0 where
    no_values : PlainValues
    more_values : PlainValue → PlainValues → PlainValues

-- the values of a list, in their order
abbrev pub values_of : List PlainValue → PlainValues
values_of [] = no_values
values_of (value ∷ values) = more_values value (values_of values)

-- and the inverse
abbrev pub list_of_values : PlainValues → List PlainValue
list_of_values no_values = []
list_of_values (more_values value others) = value ∷ list_of_values others

-- the value of a slot, null if there is no such slot
abbrev pub value_at : List PlainValue → ℕ → PlainValue
value_at values j = slice_index_or values j null_value

-- whether it is null
abbrev pub is_null_value : PlainValue → Bool
is_null_value null_value = true
is_null_value (bool_value b) = false
is_null_value (int_value z) = false
is_null_value (binary_value bytes) = false
is_null_value (utf8_value bytes) = false
is_null_value (list_value vs) = false
is_null_value (struct_value vs) = false

-- the truth value, if it is one
abbrev pub bool_in : PlainValue → Option Bool
bool_in null_value = None
bool_in (bool_value b) = Some b
bool_in (int_value z) = None
bool_in (binary_value bytes) = None
bool_in (utf8_value bytes) = None
bool_in (list_value vs) = None
bool_in (struct_value vs) = None

-- the number, if it is one
abbrev pub int_in : PlainValue → Option ℤ
int_in null_value = None
int_in (bool_value b) = None
int_in (int_value z) = Some z
int_in (binary_value bytes) = None
int_in (utf8_value bytes) = None
int_in (list_value vs) = None
int_in (struct_value vs) = None

-- the bytes, if it is a byte string
abbrev pub binary_in : PlainValue → Option (List ℕ)
binary_in null_value = None
binary_in (bool_value b) = None
binary_in (int_value z) = None
binary_in (binary_value bytes) = Some bytes
binary_in (utf8_value bytes) = None
binary_in (list_value vs) = None
binary_in (struct_value vs) = None

-- the bytes of the text, if it is one
abbrev pub utf8_in : PlainValue → Option (List ℕ)
utf8_in null_value = None
utf8_in (bool_value b) = None
utf8_in (int_value z) = None
utf8_in (binary_value bytes) = None
utf8_in (utf8_value bytes) = Some bytes
utf8_in (list_value vs) = None
utf8_in (struct_value vs) = None

-- the items, if it is a list
abbrev pub items_in : PlainValue → Option PlainValues
items_in null_value = None
items_in (bool_value b) = None
items_in (int_value z) = None
items_in (binary_value bytes) = None
items_in (utf8_value bytes) = None
items_in (list_value vs) = Some vs
items_in (struct_value vs) = None

-- value k, null if there are fewer
abbrev pub nth_value : ℕ → PlainValues → PlainValue
nth_value k no_values = null_value
nth_value zero (more_values value _) = value
nth_value (suc k) (more_values _ rest) = nth_value k rest

-- the value of field k of a struct's value
abbrev pub field_value : ℕ → PlainValue → PlainValue
field_value k null_value = null_value
field_value k (bool_value b) = null_value
field_value k (int_value z) = null_value
field_value k (binary_value bytes) = null_value
field_value k (utf8_value bytes) = null_value
field_value k (list_value vs) = null_value
field_value k (struct_value vs) = nth_value k vs
