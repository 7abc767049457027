-- What a node of the builder represents, and the invariant of every node.
use Rattle.std.specs.Prelude.{◌≤◌, ℕ}
use Rattle.std.specs.List.{AllByRecursion}
use Rattle.arrow_types.specs.View.{field_view}
use Rattle.arrow_layout.specs.Form.{HasFieldsOf, form_of}
use Rattle.arrow_data.specs.Parts.{value_slot}
use Rattle.arrow_layout.specs.PlainValue.{PlainValue}
use Rattle.arrow_layout.specs.Slots.{slots}
use Rattle.arrow_builder.specs.Buffers.{buffers_in}
use Rattle.arrow_builder.specs.Built.{Built, AreBelow, counts_in, raws_in}
use Rattle.arrow_builder.specs.Columns.{AreHeld}
use Rattle.arrow_builder.specs.Fields.{FitsField, field_form}
use Rattle.arrow_builder.specs.Kept.{CountsItems, Keeps}
use Rattle.arrow_builder.specs.declared.node.Node.TheInside.{Inside}

-- the value of a slot of the node
abbrev pub slot_in : Inside → ℕ → PlainValue
slot_in a j = value_slot (field_form (field_view a.field)) (buffers_in a.buffers) (raws_in a.children.items) j

-- the field and the values of the first `len` slots
abbrev pub built_of : Inside → Built
built_of a = record { field = field_view a.field; raw = slots a.len (slot_in a) }

-- The values fit the field, the buffers and the children hold them, and the children are those of the field. Each
-- child begins with the column that the values determine for it.
pub record IsNode (a : Inside) : Type 0 where
  pub few : a.len ≤ 2147483647
  pub kept : Keeps (field_form (field_view a.field)) a.len (buffers_in a.buffers) (counts_in a.children.items)
  pub fits : AllByRecursion (FitsField (field_view a.field)) (built_of a).raw
  pub own : HasFieldsOf (form_of (field_view a.field).head.tag) (field_view a.field).children
  pub below : AreBelow (field_view a.field).head.encoding (field_view a.field).children a.children.items
  pub held : AreHeld (field_form (field_view a.field)) 0 (built_of a).raw a.children.items
  pub counted : CountsItems (field_form (field_view a.field)) a.len (buffers_in a.buffers) (built_of a).raw
