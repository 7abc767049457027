-- The buffers of nodes without null slots.
use Rattle.std.proofs.Common.{◌≡◌, ◌<◌, ℕ, List, [], ◌∷◌, ◌++◌, length, append-nil, refl, sym, ap, ◌∙◌, subst, arith, if◌then◌else◌, map, not}
use Rattle.std.specs.Prelude.{nat_eq, pos}
use Rattle.std.specs.List.{AllByRecursion, flat_map}
use Rattle.arrow_layout.specs.declared.form.NumberForm.{NumberForm}
use Rattle.arrow_data.specs.Column.{Column, IsColumn, values_from}
use Rattle.arrow_layout.specs.Form.{node_form}
use Rattle.arrow_data.specs.FullSlots.{AreFull, value_bytes}
use Rattle.arrow_layout.specs.PlainValue.{PlainValue, is_null_value}
use Rattle.arrow_layout.specs.declared.form.Form.{Form}
use Rattle.arrow_layout.specs.declared.form.Form.TheVariants as forms
use Rattle.arrow_body_laws.specs.Packed.{packed}
use Rattle.arrow_body_laws.specs.Stored.{nulls_in, own_chunks, own_node, validity_bytes}
use Rattle.arrow_types.specs.declared.node.FieldNode.{FieldNode}
use Rattle.arrow_body_writer.proofs.Chunks.{stores_more}
use Rattle.arrow_body_slots.proofs.Ranges.{all_from}
use Rattle.arrow_body_writer.specs.Storing.{Stores}
use Rattle.arrow_body_writer.specs.declared.body.Body.{Body}
use Rattle.arrow_body_slots.proofs.Running.{IsFullOf, full_of, none_null, none_of, numbers_are}

-- none of the slots is null
pub no_nulls : (c : Column) → AreFull c 0 (length c.raw) → nulls_in c.raw ≡ 0
no_nulls c full =
    subst (λ vs. nulls_in vs ≡ 0) (all_from c.raw (length c.raw) refl)
    (none_null (values_from c.raw 0 (length c.raw)) (none_of c 0 (length c.raw) (omega arith) full))

-- so no bytes are sent for their validity
no_validity : (vs : List PlainValue) → nulls_in vs ≡ 0 → [] ≡ validity_bytes vs
no_validity vs none = sym (ap (λ n. if nat_eq n 0 then [] else packed (map (λ v. not (is_null_value v)) vs)) none)

-- structs have no other buffer
pub full_structs : (c : Column) (form : Form) → form ≡ node_form c.data_type.tag c.encoding → form ≡ forms.Structs → AreFull c 0 (length c.raw)
    → [] ∷ [] ≡ own_chunks (node_form c.data_type.tag c.encoding) c.raw
full_structs c form own is full =
    ap (λ bytes. bytes ∷ []) (no_validity c.raw (no_nulls c full)) ∙ ap (λ f. own_chunks f c.raw) (sym is ∙ own)

-- numbers have the buffer of bytes that they occupy in the array
pub full_numbers : (c : Column) (form : Form) (number : NumberForm) (slots : ℕ) (bytes : List ℕ) → IsColumn c → form ≡ node_form c.data_type.tag c.encoding → form ≡ forms.Numbers number
    → AreFull c 0 (length c.raw) → slots ≡ length c.raw → bytes ≡ flat_map (value_bytes (node_form c.data_type.tag c.encoding)) (values_from c.raw 0 slots)
    → [] ∷ bytes ∷ [] ≡ own_chunks (node_form c.data_type.tag c.encoding) c.raw
full_numbers c form number slots bytes known own is full many are =
    let numbers : node_form c.data_type.tag c.encoding ≡ forms.Numbers number = sym own ∙ is in
    let each = subst (λ f. AllByRecursion (IsFullOf f c.data_type.children) (values_from c.raw 0 (length c.raw))) numbers (full_of c 0 (length c.raw) known (omega arith) full) in
    let values = are ∙ ap (λ n. flat_map (value_bytes (node_form c.data_type.tag c.encoding)) (values_from c.raw 0 n)) many
    ∙ ap (λ f. flat_map (value_bytes f) (values_from c.raw 0 (length c.raw))) numbers
    ∙ numbers_are number c.data_type.children (values_from c.raw 0 (length c.raw)) each in
    let sent = ap (λ vs. own_chunks (forms.Numbers number) vs) (all_from c.raw (length c.raw) refl) in
    let empty = no_validity (values_from c.raw 0 (length c.raw)) (none_null (values_from c.raw 0 (length c.raw)) (none_of c 0 (length c.raw) (omega arith) full)) in
    (λ i. empty i ∷ values i ∷ []) ∙ sent ∙ ap (λ f. own_chunks f c.raw) (sym numbers)

-- the node is appended, and after it the buffer of its validity
pub full_stored : (align : ℕ) (c : Column) (node : FieldNode) (old mid new : Body) → 0 < align → AreFull c 0 (length c.raw) → node ≡ record { length = pos (length c.raw); null_count = pos 0 }
    → mid.nodes.items ≡ old.nodes.items ++ (node ∷ []) → mid.buffers.items ≡ old.buffers.items → mid.bytes.items ≡ old.bytes.items
    → Stores align [] ([] ∷ []) mid new → Stores align (own_node c.raw ∷ []) ([] ∷ []) old new
full_stored align c node old mid new some full is nodes buffers bytes more =
    let own : node ≡ own_node c.raw = is ∙ ap (λ n. record { length = pos (length c.raw); null_count = pos n }) (sym (no_nulls c full)) in
    let one : Stores align (own_node c.raw ∷ []) [] old mid = record {
      nodes_added = nodes ∙ ap (λ n. old.nodes.items ++ (n ∷ [])) own;
      buffers_added = buffers ∙ sym (append-nil old.buffers.items);
      bytes_added = bytes ∙ sym (append-nil old.bytes.items);
    } in
    stores_more align (own_node c.raw ∷ []) [] [] ([] ∷ []) old mid new some one more
