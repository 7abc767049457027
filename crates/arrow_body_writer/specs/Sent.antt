-- The raw values that are sent to the nodes below a column's own, and the columns that these form.
use Rattle.std.specs.Prelude.{◌≡◌, ℕ, ◌+◌, List, [], ◌∷◌, map, ⊤, Option, None, Some, MatchOption}
use Rattle.std.specs.List.{flat_map}
use Rattle.arrow_types.specs.DataType.{null}
use Rattle.arrow_types.specs.Field.{FieldTree, none, more, TypeShape}
use Rattle.arrow_types.specs.declared.field.Encoding.{Encoding}
use Rattle.arrow_data.specs.Column.{Column, type_of_field}
use Rattle.arrow_layout.specs.Form.{IsLists, node_form}
use Rattle.arrow_layout.specs.PlainValue.{PlainValue, field_value}
use Rattle.arrow_layout.specs.declared.form.Form.{Form}
use Rattle.arrow_layout.specs.declared.form.Form.TheVariants as forms
use Rattle.arrow_body_reader.specs.Taken.{below, flattened, taken_nodes}
use Rattle.arrow_body_laws.specs.Raws.{items_in_value, raws_below}
use Rattle.arrow_body_writer.specs.declared.steps.ChildPath.{ChildPath, Here, Items', Field'}

-- the number of nodes of a column of this type and this encoding, including its own
abbrev pub nodes_of_type : TypeShape → Option Encoding → ℕ
nodes_of_type t e = 1 + flattened e (taken_nodes t.children)

abbrev pub nodes_of_column : Column → ℕ
nodes_of_column c = nodes_of_type c.data_type c.encoding

-- the form of a column's own node
abbrev pub form_of_column : Column → Form
form_of_column c = node_form c.data_type.tag c.encoding

-- What slots with these values send along steps: lists send the items of one slot after those of the one before, n
-- nulls under a null; structs send value k of each slot, null under a null (Columnar Format, "Variable-size List
-- Layout", "Fixed-Size List Layout", "Struct Layout").
abbrev pub sent_along : ChildPath → List PlainValue → List PlainValue
sent_along Here vs = vs
sent_along (Items' n p rest) vs = sent_along rest (flat_map (items_in_value n) vs)
sent_along (Field' k p rest) vs = sent_along rest (map (field_value k) vs)

-- the steps lead down from a node of this type and this encoding
abbrev pub LeadDown : ChildPath → TypeShape → Option Encoding → Type 0
LeadDown Here t e = ⊤
LeadDown (Items' n p rest) t e = IsLists (node_form t.tag e) × MatchOption (type_of_field t.children 0) ⊥ (λ f. LeadDown rest f.0 f.1)
LeadDown (Field' k p rest) t e = (node_form t.tag e ≡ forms.Structs) × MatchOption (type_of_field t.children k) ⊥ (λ f. LeadDown rest f.0 f.1)

-- the same from a field, which exists
abbrev pub LeadFrom : Option (TypeShape × Option Encoding) → ChildPath → Type 0
LeadFrom field steps = MatchOption field ⊥ (λ f. LeadDown steps f.0 f.1)

-- the type and the encoding of a field, those of nulls if there is none
abbrev pub field_type : Option (TypeShape × Option Encoding) → TypeShape
field_type None = record { tag = null; children = none }
field_type (Some f) = f.0

abbrev pub field_encoding : Option (TypeShape × Option Encoding) → Option Encoding
field_encoding None = None
field_encoding (Some f) = f.1

-- the column of a field with these raw values
abbrev pub column_by : Option (TypeShape × Option Encoding) → List PlainValue → Column
column_by field vs = record { data_type = field_type field; encoding = field_encoding field; raw = vs; resolved = vs; dictionaries = []; offsets = []; below = [] }

-- the columns of fields with raw values for each
abbrev pub columns_by : FieldTree → List (List PlainValue) → List Column
columns_by none raws = []
columns_by (more head children rest) [] = []
columns_by (more head children rest) (vs ∷ raws) = column_by (Some (record { tag = head.tag; children = children }, head.encoding)) vs ∷ columns_by rest raws

-- the columns that are sent below a column's own node
abbrev pub visible_children : Column → List Column
visible_children c = columns_by (below c.encoding c.data_type.children) (raws_below (form_of_column c) c.data_type.children c.raw)
