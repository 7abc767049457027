-- The columns of a stored body have the raw values.
use Rattle.std.proofs.Common.{◌≡◌, ℕ, ◌+◌, List, [], ◌∷◌, length, map, drop, refl, ap, ◌∙◌}
use Rattle.std.specs.Prelude.{ℤ, Option, None, Some}
use Rattle.std.specs.List.{AllByRecursion}
use Rattle.arrow_types.specs.DataType.{TypeId}
use Rattle.arrow_types.specs.Field.{FieldTree, none, more}
use Rattle.arrow_types.specs.declared.field.Encoding.{Encoding}
use Rattle.arrow_types.specs.declared.node.FieldNode.{FieldNode}
use Rattle.arrow_types.specs.declared.node.Buffer.{Buffer}
use Rattle.arrow_data.specs.Column.{Column, ValueList}
use Rattle.arrow_layout.specs.Form.{form_of, node_form, index_form}
use Rattle.arrow_layout.specs.PlainValue.{PlainValue}
use Rattle.arrow_layout.specs.Slots.{slots}
use Rattle.arrow_data.specs.Parts.{node_column, value_slot, index_slot, values_in}
use Rattle.arrow_layout.specs.declared.form.Form.{Form}
use Rattle.arrow_data.specs.Listed.{dictionary_for}
use Rattle.arrow_layout.specs.declared.form.Form.TheVariants as forms
use Rattle.arrow_body_reader.specs.Sound.{columns_of, if_flattened, own_bytes, slots_at}
use Rattle.arrow_body_reader.specs.Taken.{flattened, own_buffers, taken_buffers, taken_nodes}
use Rattle.arrow_body_laws.specs.Raws.{IsOwn, IsSmall, raws_below}
use Rattle.arrow_body_laws.specs.Stored.{own_chunks}
use Rattle.arrow_body_laws.proofs.Slotted.{read_nulls, read_bools, read_fixed, read_ints, read_strings, read_texts, read_lists, read_structs}
use Rattle.arrow_body_laws.proofs.Walk.{AreStored, inner_raws, own_node_is, own_bytes_are, stored_inside, stored_next}

-- the slots of a node of the form
pub layout_read : (form : Form) (c : FieldTree) (vs : List PlainValue) → AllByRecursion (IsOwn form c) vs → IsSmall form vs
    → slots (length vs) (value_slot form (own_chunks form vs) (raws_below form c vs)) ≡ vs
layout_read forms.Nulls c vs own small = read_nulls c vs own
layout_read forms.Bits c vs own small = read_bools c vs own
layout_read (forms.Numbers number) c vs own small = read_ints number c vs own
layout_read (forms.Bytes w) c vs own small = read_strings w c vs own small.near
layout_read (forms.Texts w) c vs own small = read_texts w c vs own small.near
layout_read (forms.FixedBytes w) c vs own small = read_fixed w c vs own
layout_read (forms.Lists w) c vs own small = read_lists w c vs own small.near
layout_read forms.Structs c vs own small = read_structs c vs own

-- the raw values of a node
pub node_read : (tag : TypeId) (e : Option Encoding) (c : FieldTree) (vs : List PlainValue) (len : ℕ) (b : List (List ℕ)) (cs : List Column) (values : List PlainValue)
    → AllByRecursion (IsOwn (node_form tag e) c) vs → IsSmall (node_form tag e) vs → len ≡ length vs → b ≡ own_chunks (node_form tag e) vs
    → (e ≡ None → map (λ (d : Column). d.raw) cs ≡ raws_below (node_form tag e) c vs)
    → (node_column (record { tag = tag; children = c }) e len b cs values).raw ≡ vs
node_read tag None c vs len b cs values own small long same kids =
    (λ i. slots (long i) (value_slot (form_of tag) (same i) (kids refl i))) ∙ layout_read (form_of tag) c vs own small
node_read tag (Some e) c vs len b cs values own small long same kids =
    (λ i. slots (long i) (index_slot e (same i))) ∙ layout_read (index_form e) c vs own small

-- the columns below a field without an encoding
if_none : (e : Option Encoding) (cs : List Column) → e ≡ None → if_flattened e cs ≡ cs
if_none None cs h = refl
if_none (Some e) cs h = cc

-- the raw values of all columns
pub columns_read : (body : List ℕ) (ds : List (ℤ × ValueList)) (fields : FieldTree) (raws : List (List PlainValue)) (ns : List FieldNode) (bs : List Buffer)
    → AreStored body fields raws ns bs → map (λ (c : Column). c.raw) (columns_of body ds fields ns bs) ≡ raws
columns_read body ds none [] ns bs s = refl
columns_read body ds none (vs ∷ raws) ns bs s = absurd s.raw
columns_read body ds (more h c rest) [] ns bs s = absurd s.raw
columns_read body ds (more h c rest) (vs ∷ raws) ns bs s =
    let kids = columns_of body ds c (drop 1 ns) (drop (own_buffers h) bs) in
    let below = λ (e : h.encoding ≡ None). ap (map (λ (d : Column). d.raw)) (if_none h.encoding kids e)
    ∙ columns_read body ds c (inner_raws h c vs) (drop 1 ns) (drop (own_buffers h) bs) (stored_inside body h c rest vs raws ns bs s e) in
    let first = node_read h.tag h.encoding c vs (slots_at ns) (own_bytes body h bs) (if_flattened h.encoding kids) (values_in (dictionary_for ds h.encoding))
    s.raw.0 s.small.0 (ap (λ (n : FieldNode). slots_at (n ∷ [])) (own_node_is body h c rest vs raws ns bs s)) (own_bytes_are body h c rest vs raws ns bs s) below in
    let next = columns_read body ds rest raws (drop (1 + flattened h.encoding (taken_nodes c)) ns) (drop (own_buffers h + flattened h.encoding (taken_buffers c)) bs) (stored_next body h c rest vs raws ns bs s) in
    λ i. first i ∷ next i
