-- The column of a node, by its buffers, its children and its dictionary (Columnar Format, "Physical Memory Layout").
use Rattle.std.specs.Prelude.{◌≡◌, ℕ, List, [], ◌∷◌, map, ⊤, get_or, false, Option, None, Some}
use Rattle.arrow_types.specs.Field.{FieldShape, TypeShape}
use Rattle.arrow_types.specs.Schema.{has_encoding}
use Rattle.arrow_types.specs.declared.field.Encoding.{Encoding}
use Rattle.arrow_layout.specs.PlainValue.{PlainValue, null_value}
use Rattle.arrow_data.specs.Column.{Column, ValueList, AreOf, listed_of, slots_of}
use Rattle.arrow_layout.specs.Form.{form_of, number_width, has_sign}
use Rattle.arrow_layout.specs.Layout.{buffer, list_offsets}
use Rattle.arrow_layout.specs.Slots.{slots, bool_slot, int_slot, fixed_slot, binary_slot, utf8_slot, item_places, list_slot, struct_slot, entry_slot, index_width}
use Rattle.arrow_layout.specs.declared.form.Form.{Form}
use Rattle.arrow_layout.specs.declared.form.Form.TheVariants as forms

-- the type of a field's values
abbrev pub type_of : FieldShape → TypeShape
type_of f = record { tag = f.head.tag; children = f.children }

-- the value of a slot of a node of the form, by the values of its children
abbrev pub value_slot : Form → List (List ℕ) → List (List PlainValue) → ℕ → PlainValue
value_slot forms.Nulls b children j = null_value
value_slot forms.Bits b children j = bool_slot (buffer b 0) (buffer b 1) j
value_slot (forms.Numbers number) b children j = int_slot (number_width number) (has_sign number) (buffer b 0) (buffer b 1) j
value_slot (forms.Bytes width) b children j = binary_slot width (buffer b 0) (buffer b 1) (buffer b 2) j
value_slot (forms.Texts width) b children j = utf8_slot width (buffer b 0) (buffer b 1) (buffer b 2) j
value_slot (forms.FixedBytes width) b children j = fixed_slot width (buffer b 0) (buffer b 1) j
value_slot (forms.Lists list) b children j = list_slot list (buffer b 0) (list_offsets list b) (get_or children 0 []) j
value_slot forms.Structs b children j = struct_slot (buffer b 0) children j

-- where the items of a node of lists begin and end
abbrev pub node_offsets : Form → ℕ → List (List ℕ) → List ℕ
node_offsets forms.Nulls len b = []
node_offsets forms.Bits len b = []
node_offsets (forms.Numbers number) len b = []
node_offsets (forms.Bytes width) len b = []
node_offsets (forms.Texts width) len b = []
node_offsets (forms.FixedBytes width) len b = []
node_offsets (forms.Lists list) len b = item_places list len (list_offsets list b)
node_offsets forms.Structs len b = []

-- the index in a slot
abbrev pub index_slot : Encoding → List (List ℕ) → ℕ → PlainValue
index_slot e b j = int_slot (index_width e.index) e.index.signed (buffer b 0) (buffer b 1) j

-- the value that the index in a slot refers to
abbrev pub entry_of_slot : Encoding → List (List ℕ) → List PlainValue → ℕ → PlainValue
entry_of_slot e b values j = entry_slot (index_width e.index) e.index.signed (buffer b 0) (buffer b 1) values j

-- The column of a node of `len` slots: with an encoding its slots are indices into the values; without one they are
-- values, which its buffers and its children give.
abbrev pub node_column : TypeShape → Option Encoding → ℕ → List (List ℕ) → List Column → List PlainValue → Column
node_column t None len b children values = record {
  data_type = t;
  encoding = None;
  raw = slots len (value_slot (form_of t.tag) b (map (λ (c : Column). c.raw) children));
  resolved = slots len (value_slot (form_of t.tag) b (map (λ (c : Column). c.resolved) children));
  dictionaries = listed_of children;
  offsets = node_offsets (form_of t.tag) len b;
  below = map slots_of children;
}
node_column t (Some e) len b children values = record {
  data_type = t;
  encoding = Some e;
  raw = slots len (index_slot e b);
  resolved = slots len (entry_of_slot e b values);
  dictionaries = (e.id, record { data_type = t; values = values }) ∷ [];
  offsets = [];
  below = [];
}

-- the children are those of the type; a dictionary-encoded node has none of its own
abbrev pub AreChildren : TypeShape → Option Encoding → List Column → Type 0
AreChildren t None children = AreOf t.children children
AreChildren t (Some e) children = has_encoding t.children ≡ false

-- the values of a dictionary, or none if there is no dictionary
abbrev pub values_in : Option ValueList → List PlainValue
values_in None = []
values_in (Some d) = d.values

-- a dictionary has the type
abbrev pub IsOfType : TypeShape → Option ValueList → Type 0
IsOfType t None = ⊤
IsOfType t (Some d) = d.data_type ≡ t
