-- Nodes with one more slot, with fewer, and with the same ones in other buffers.
use Rattle.std.proofs.Common.{◌≡◌, ℕ, ◌+◌, ◌<◌, ◌≤◌, List, [], ◌∷◌, ◌++◌, length, ap, sym, ◌∙◌, subst, arith}
use Rattle.std.specs.List.{AllByRecursion}
use Rattle.arrow_types.specs.View.{field_view}
use Rattle.arrow_data.specs.Parts.{value_slot}
use Rattle.arrow_layout.specs.PlainValue.{PlainValue}
use Rattle.arrow_layout.specs.declared.form.Form.{Form}
use Rattle.arrow_layout.specs.declared.form.Form.TheVariants as forms
use Rattle.arrow_data.proofs.Shown.{length_slots}
use Rattle.arrow_builder.specs.Buffers.{IsLeaf, buffers_in}
use Rattle.arrow_builder.specs.Built.{Built, AreBelow, counts_in, cut_to, raws_in, with_value}
use Rattle.arrow_builder.specs.Columns.{AreHeld}
use Rattle.arrow_builder.specs.Fields.{FitsField, field_form}
use Rattle.arrow_builder.specs.Kept.{CountsItems, Keeps}
use Rattle.arrow_builder.specs.Nodes.{IsNode, built_of, slot_in}
use Rattle.arrow_builder.specs.Puts.{PutsSlot, StaySlots}
use Rattle.arrow_builder.specs.declared.slots.SlotBuffers.{SlotBuffers}
use Rattle.arrow_builder.specs.declared.node.Node.TheInside.{Inside}
use Rattle.arrow_builder.proofs.Growing.{all_push, all_take, keeps_fewer, slots_put, slots_stay, take_slots}
use Rattle.arrow_builder.proofs.Held.{counted_leaf, counted_take, held_leaf, held_take}

-- the node of the field with this many slots, and another one's buffers and children
abbrev pub next : Inside → ℕ → Inside → Inside
next a len b = record { field = a.field; len = len; buffers = b.buffers; children = b.children }

-- how many slots there are
pub node_len : (a : Inside) (b : Built) → built_of a ≡ b → a.len ≡ length b.raw
node_len a b view = sym (length_slots a.len (slot_in a)) ∙ ap (λ (x : Built). length x.raw) view

-- fewer slots
pub node_cut : (a : Inside) (at : ℕ) → at ≤ a.len → IsNode a → IsNode (next a at a)
node_cut a at le ok = record {
  few = omega (arith, le, ok.few);
  kept = keeps_fewer (field_form (field_view a.field)) at a.len (buffers_in a.buffers) (counts_in a.children.items) le ok.kept;
  fits = subst (AllByRecursion (FitsField (field_view a.field))) (take_slots (slot_in a) a.len at le) (all_take (FitsField (field_view a.field)) at (built_of a).raw ok.fits);
  own = ok.own;
  below = ok.below;
  held = subst (λ vs. AreHeld (field_form (field_view a.field)) 0 vs a.children.items) (take_slots (slot_in a) a.len at le) (held_take (field_form (field_view a.field)) at (built_of a).raw a.children.items ok.held);
  counted = subst (CountsItems (field_form (field_view a.field)) at (buffers_in a.buffers)) (take_slots (slot_in a) a.len at le) (counted_take (field_form (field_view a.field)) at a.len (buffers_in a.buffers) (built_of a).raw le ok.counted);
}

-- their values are the first ones
pub node_cut_view : (a : Inside) (at : ℕ) → at ≤ a.len → built_of (next a at a) ≡ cut_to at (built_of a)
node_cut_view a at le = ap (λ vs. record { field = field_view a.field; raw = vs }) (sym (take_slots (slot_in a) a.len at le))

-- the same slots
pub node_stays : (a b : Inside) → IsNode a → Keeps (field_form (field_view a.field)) a.len (buffers_in b.buffers) (counts_in b.children.items)
    → AreBelow (field_view a.field).head.encoding (field_view a.field).children b.children.items → StaySlots a.len (slot_in a) (slot_in (next a a.len b))
    → AreHeld (field_form (field_view a.field)) 0 (built_of a).raw b.children.items → CountsItems (field_form (field_view a.field)) a.len (buffers_in b.buffers) (built_of a).raw
    → IsNode (next a a.len b) × (built_of (next a a.len b) ≡ built_of a)
node_stays a b ok kept below stay held counted =
    let same = slots_stay a.len (slot_in a) (slot_in (next a a.len b)) stay in (
      record {
        few = ok.few;
        kept = kept;
        fits = subst (AllByRecursion (FitsField (field_view a.field))) (sym same) ok.fits;
        own = ok.own;
        below = below;
        held = subst (λ vs. AreHeld (field_form (field_view a.field)) 0 vs b.children.items) (sym same) held;
        counted = subst (CountsItems (field_form (field_view a.field)) a.len (buffers_in b.buffers)) (sym same) counted;
      },
      ap (λ vs. record { field = field_view a.field; raw = vs }) same,
    )

-- one more slot
pub node_grows : (a b : Inside) (value : PlainValue) → a.len < 2147483647 → IsNode a → FitsField (field_view a.field) value
    → Keeps (field_form (field_view a.field)) (a.len + 1) (buffers_in b.buffers) (counts_in b.children.items)
    → AreBelow (field_view a.field).head.encoding (field_view a.field).children b.children.items → PutsSlot a.len value (slot_in a) (slot_in (next a (a.len + 1) b))
    → AreHeld (field_form (field_view a.field)) 0 ((built_of a).raw ++ value ∷ []) b.children.items
    → CountsItems (field_form (field_view a.field)) (a.len + 1) (buffers_in b.buffers) ((built_of a).raw ++ value ∷ [])
    → IsNode (next a (a.len + 1) b) × (built_of (next a (a.len + 1) b) ≡ with_value (built_of a) value)
node_grows a b value few ok fits kept below puts held counted =
    let same = slots_put a.len value (slot_in a) (slot_in (next a (a.len + 1) b)) puts in (
      record {
        few = omega (arith, few);
        kept = kept;
        fits = subst (AllByRecursion (FitsField (field_view a.field))) (sym same) (all_push (FitsField (field_view a.field)) (built_of a).raw value ok.fits fits);
        own = ok.own;
        below = below;
        held = subst (λ vs. AreHeld (field_form (field_view a.field)) 0 vs b.children.items) (sym same) held;
        counted = subst (CountsItems (field_form (field_view a.field)) (a.len + 1) (buffers_in b.buffers)) (sym same) counted;
      },
      ap (λ vs. record { field = field_view a.field; raw = vs }) same,
    )

-- a node without children keeps the same whatever children there are
pub leaf_keeps : (form : Form) (len : ℕ) (b : List (List ℕ)) (counts others : List ℕ) → IsLeaf form → Keeps form len b counts → Keeps form len b others
leaf_keeps forms.Nulls len b counts others leaf kept = kept
leaf_keeps forms.Bits len b counts others leaf kept = kept
leaf_keeps (forms.Numbers number) len b counts others leaf kept = kept
leaf_keeps (forms.Bytes width) len b counts others leaf kept = kept
leaf_keeps (forms.Texts width) len b counts others leaf kept = kept
leaf_keeps (forms.FixedBytes width) len b counts others leaf kept = kept
leaf_keeps (forms.Lists list) len b counts others leaf kept = absurd leaf
leaf_keeps forms.Structs len b counts others leaf kept = absurd leaf

-- the same slots of a node without children
pub leaf_stays : (a : Inside) (b : SlotBuffers) (form : Form) → form ≡ field_form (field_view a.field) → IsLeaf form → IsNode a → Keeps form a.len (buffers_in b) []
    → ((children : List (List PlainValue)) → StaySlots a.len (value_slot form (buffers_in a.buffers) children) (value_slot form (buffers_in b) children))
    → IsNode (record a { buffers = b }) × (built_of (record a { buffers = b }) ≡ built_of a)
leaf_stays a b form is leaf ok kept stay =
    node_stays a (record a { buffers = b }) ok
    (subst (λ f. Keeps f a.len (buffers_in b) (counts_in a.children.items)) is (leaf_keeps form a.len (buffers_in b) [] (counts_in a.children.items) leaf kept)) ok.below
    (subst (λ f. StaySlots a.len (value_slot f (buffers_in a.buffers) (raws_in a.children.items)) (value_slot f (buffers_in b) (raws_in a.children.items))) is (stay (raws_in a.children.items)))
    (held_leaf (field_form (field_view a.field)) (built_of a).raw a.children.items (subst IsLeaf is leaf))
    (counted_leaf (field_form (field_view a.field)) a.len (buffers_in b) (built_of a).raw (subst IsLeaf is leaf))

-- one more slot of a node without children
pub leaf_grows : (a : Inside) (b : SlotBuffers) (form : Form) (value : PlainValue) → form ≡ field_form (field_view a.field) → IsLeaf form → a.len < 2147483647 → IsNode a
    → FitsField (field_view a.field) value → Keeps form (a.len + 1) (buffers_in b) []
    → ((children : List (List PlainValue)) → PutsSlot a.len value (value_slot form (buffers_in a.buffers) children) (value_slot form (buffers_in b) children))
    → IsNode (record a { len = a.len + 1; buffers = b }) × (built_of (record a { len = a.len + 1; buffers = b }) ≡ with_value (built_of a) value)
leaf_grows a b form value is leaf few ok fits kept puts =
    node_grows a (record a { buffers = b }) value few ok fits
    (subst (λ f. Keeps f (a.len + 1) (buffers_in b) (counts_in a.children.items)) is (leaf_keeps form (a.len + 1) (buffers_in b) [] (counts_in a.children.items) leaf kept)) ok.below
    (subst (λ f. PutsSlot a.len value (value_slot f (buffers_in a.buffers) (raws_in a.children.items)) (value_slot f (buffers_in b) (raws_in a.children.items))) is (puts (raws_in a.children.items)))
    (held_leaf (field_form (field_view a.field)) ((built_of a).raw ++ value ∷ []) a.children.items (subst IsLeaf is leaf))
    (counted_leaf (field_form (field_view a.field)) (a.len + 1) (buffers_in b) ((built_of a).raw ++ value ∷ []) (subst IsLeaf is leaf))
