-- The columns of all nodes of a field, determined by the field's raw values: what each child has in its slots
-- (Columnar Format, "Variable-size List Layout", "Fixed-Size List Layout" and "Struct Layout").
use Rattle.std.specs.Prelude.{◌+◌, ℕ, List, [], ◌∷◌, ◌++◌, length, map, take, ⊤}
use Rattle.std.specs.List.{range_with_len}
use Rattle.arrow_types.specs.Field.{FieldTree, FieldShape, FieldHeader, none, more}
use Rattle.arrow_layout.specs.Form.{node_form}
use Rattle.arrow_layout.specs.PlainValue.{PlainValue, field_value}
use Rattle.arrow_data.specs.Same.{Begins}
use Rattle.arrow_layout.specs.declared.form.Form.{Form}
use Rattle.arrow_layout.specs.declared.form.Form.TheVariants as forms
use Rattle.arrow_layout.specs.declared.form.ListForm.{ListForm}
use Rattle.arrow_builder.specs.Built.{Built, given_items}
use Rattle.arrow_builder.specs.Fields.{field_form}

-- the items of all lists, one list after another; with nulls for a null in fixed-size lists
abbrev pub all_items : ListForm → List PlainValue → List PlainValue
all_items list [] = []
all_items list (value ∷ values) = given_items list value ++ all_items list values

-- The column of child k of a node of the form. For lists it is all their items, for structs the values of field k,
-- with a null for a struct that is null. Other forms have no children.
abbrev pub child_column : Form → ℕ → List PlainValue → List PlainValue
child_column forms.Nulls k raw = []
child_column forms.Bits k raw = []
child_column (forms.Numbers number) k raw = []
child_column (forms.Bytes width) k raw = []
child_column (forms.Texts width) k raw = []
child_column (forms.FixedBytes width) k raw = []
child_column (forms.Lists list) k raw = all_items list raw
child_column forms.Structs k raw = map (field_value k) raw

-- The offsets of a node of the form: how many items all lists before each slot have, and all lists at the end. Other forms
-- have none.
abbrev pub item_offsets : Form → List PlainValue → List ℕ
item_offsets forms.Nulls raw = []
item_offsets forms.Bits raw = []
item_offsets (forms.Numbers number) raw = []
item_offsets (forms.Bytes width) raw = []
item_offsets (forms.Texts width) raw = []
item_offsets (forms.FixedBytes width) raw = []
item_offsets (forms.Lists list) raw = map (λ j. length (all_items list (take j raw))) (range_with_len 0 (length raw + 1))
item_offsets forms.Structs raw = []

-- the columns of the children with these fields, the first of them child k
abbrev pub child_columns : Form → FieldTree → ℕ → List PlainValue → List (List PlainValue)
child_columns form none k raw = []
child_columns form (more head children rest) k raw = child_column form k raw ∷ child_columns form rest (k + 1) raw

-- the statement holds of the columns of these children, the first of them child k, and of all below them
abbrev pub AllBelow : (FieldHeader → List PlainValue → Type 0) → Form → FieldTree → ℕ → List PlainValue → Type 0
AllBelow P form none k raw = ⊤
AllBelow P form (more head children rest) k raw =
    P head (child_column form k raw) × AllBelow P (node_form head.tag head.encoding) children 0 (child_column form k raw) × AllBelow P form rest (k + 1) raw

-- the statement holds of the column of a field, and of all below it
abbrev pub AllNodes : (FieldHeader → List PlainValue → Type 0) → FieldShape → List PlainValue → Type 0
AllNodes P field raw = P field.head raw × AllBelow P (field_form field) field.children 0 raw

-- the children, the first of them child k, begin with their columns
abbrev pub AreHeld : Form → ℕ → List PlainValue → List Built → Type 0
AreHeld form k raw [] = ⊤
AreHeld form k raw (b ∷ bs) = Begins (child_column form k raw) b.raw × AreHeld form (k + 1) raw bs
