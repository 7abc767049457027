-- The buffers of nodes, one after another.
use Rattle.std.proofs.Common.{◌≡◌, ◌≤◌, ◌<◌, ℕ, zero, suc, ◌+◌, List, [], ◌∷◌, ◌++◌, length, take, sym, ap, ◌∙◌, subst, arith, append_assoc, append-nil, length-append, Option, None, Some}
use Rattle.std.specs.Prelude.{pos}
use Rattle.std.specs.List.{flat_map}
use Rattle.std.proofs.lemmas.Grind.{flat_map-append}
use Rattle.std.proofs.lemmas.List.{take_all}
use Rattle.arrow_types.specs.declared.node.FieldNode.{FieldNode}
use Rattle.arrow_data.specs.Column.{Column}
use Rattle.arrow_layout.specs.Form.{buffers_of, node_form}
use Rattle.arrow_layout.specs.PlainValue.{PlainValue}
use Rattle.arrow_layout.specs.declared.form.Form.{Form}
use Rattle.arrow_layout.specs.declared.form.Form.TheVariants as forms
use Rattle.arrow_layout.specs.declared.form.ListForm.TheVariants as lists
use Rattle.arrow_body_laws.proofs.Placed.{padded_long}
use Rattle.arrow_body_laws.proofs.Walk.{own_long}
use Rattle.arrow_body_laws.specs.Stored.{fields_of_columns, own_chunks, own_node, padded, places_from, rounded, stored, stored_chunks, stored_nodes}
use Rattle.arrow_body_laws.specs.Laws.{raws_of}
use Rattle.arrow_body_laws.specs.Raws.{raws_below}
use Rattle.arrow_body_writer.specs.Align.{alignment_of}
use Rattle.arrow_body_writer.specs.declared.align.Align.{Align}
use Rattle.arrow_body_writer.specs.declared.align.Align.TheVariants.{Eight, SixtyFour}
use Rattle.arrow_body_slots.specs.Part.{chunk_of, part_of}
use Rattle.arrow_body_writer.specs.Storing.{Stores, body_view}
use Rattle.arrow_body_writer.specs.declared.body.Body.{Body}
use Rattle.arrow_body_slots.specs.declared.part.BufferKind.{BufferKind}
use Rattle.arrow_body_slots.specs.declared.part.BufferKind.TheVariants.{Validity}

pub same_part : (p q : BufferKind) → ◌≡◌ {A = Option BufferKind} (Some p) (Some q) → p ≡ q
same_part p q e = cc

-- buffer k is the one after the first k
pub chunk_next : (form : Form) (k : ℕ) (vs : List PlainValue) (part : BufferKind) → part_of form k ≡ Some part → take (k + 1) (own_chunks form vs) ≡ take k (own_chunks form vs) ++ chunk_of part vs ∷ []
chunk_next forms.Nulls k vs part e = cc
chunk_next forms.Bits zero vs part e = ap (λ p. chunk_of p vs ∷ []) (same_part _ part e)
chunk_next forms.Bits (suc zero) vs part e = ap (λ p. chunk_of Validity vs ∷ chunk_of p vs ∷ []) (same_part _ part e)
chunk_next forms.Bits (suc (suc k)) vs part e = cc
chunk_next (forms.Numbers number) zero vs part e = ap (λ p. chunk_of p vs ∷ []) (same_part _ part e)
chunk_next (forms.Numbers number) (suc zero) vs part e = ap (λ p. chunk_of Validity vs ∷ chunk_of p vs ∷ []) (same_part _ part e)
chunk_next (forms.Numbers number) (suc (suc k)) vs part e = cc
chunk_next (forms.Bytes w) zero vs part e = ap (λ p. chunk_of p vs ∷ []) (same_part _ part e)
chunk_next (forms.Bytes w) (suc zero) vs part e = ap (λ p. chunk_of Validity vs ∷ chunk_of p vs ∷ []) (same_part _ part e)
chunk_next (forms.Bytes w) (suc (suc zero)) vs part e = ap (λ p. take 2 (own_chunks (forms.Bytes w) vs) ++ chunk_of p vs ∷ []) (same_part _ part e)
chunk_next (forms.Bytes w) (suc (suc (suc k))) vs part e = cc
chunk_next (forms.Texts w) zero vs part e = ap (λ p. chunk_of p vs ∷ []) (same_part _ part e)
chunk_next (forms.Texts w) (suc zero) vs part e = ap (λ p. chunk_of Validity vs ∷ chunk_of p vs ∷ []) (same_part _ part e)
chunk_next (forms.Texts w) (suc (suc zero)) vs part e = ap (λ p. take 2 (own_chunks (forms.Texts w) vs) ++ chunk_of p vs ∷ []) (same_part _ part e)
chunk_next (forms.Texts w) (suc (suc (suc k))) vs part e = cc
chunk_next (forms.FixedBytes w) zero vs part e = ap (λ p. chunk_of p vs ∷ []) (same_part _ part e)
chunk_next (forms.FixedBytes w) (suc zero) vs part e = ap (λ p. chunk_of Validity vs ∷ chunk_of p vs ∷ []) (same_part _ part e)
chunk_next (forms.FixedBytes w) (suc (suc k)) vs part e = cc
chunk_next (forms.Lists list) zero vs part e = ap (λ p. chunk_of p vs ∷ []) (same_part _ part e)
chunk_next (forms.Lists (lists.Offsets w)) (suc zero) vs part e = ap (λ p. chunk_of Validity vs ∷ chunk_of p vs ∷ []) (same_part _ part e)
chunk_next (forms.Lists (lists.Offsets w)) (suc (suc k)) vs part e = cc
chunk_next (forms.Lists (lists.Fixed size)) (suc k) vs part e = cc
chunk_next forms.Structs zero vs part e = ap (λ p. chunk_of p vs ∷ []) (same_part _ part e)
chunk_next forms.Structs (suc k) vs part e = cc

-- there are no more buffers
past : (form : Form) (k : ℕ) → part_of form k ≡ None → buffers_of form ≤ k
past forms.Nulls k e = omega arith
past forms.Bits zero e = cc
past forms.Bits (suc zero) e = cc
past forms.Bits (suc (suc k)) e = omega arith
past (forms.Numbers number) zero e = cc
past (forms.Numbers number) (suc zero) e = cc
past (forms.Numbers number) (suc (suc k)) e = omega arith
past (forms.Bytes w) zero e = cc
past (forms.Bytes w) (suc zero) e = cc
past (forms.Bytes w) (suc (suc zero)) e = cc
past (forms.Bytes w) (suc (suc (suc k))) e = omega arith
past (forms.Texts w) zero e = cc
past (forms.Texts w) (suc zero) e = cc
past (forms.Texts w) (suc (suc zero)) e = cc
past (forms.Texts w) (suc (suc (suc k))) e = omega arith
past (forms.FixedBytes w) zero e = cc
past (forms.FixedBytes w) (suc zero) e = cc
past (forms.FixedBytes w) (suc (suc k)) e = omega arith
past (forms.Lists list) zero e = cc
past (forms.Lists (lists.Offsets w)) (suc zero) e = cc
past (forms.Lists (lists.Offsets w)) (suc (suc k)) e = omega arith
past (forms.Lists (lists.Fixed size)) (suc k) e = omega arith
past forms.Structs zero e = cc
past forms.Structs (suc k) e = omega arith

pub chunk_past : (form : Form) (k : ℕ) (vs : List PlainValue) → part_of form k ≡ None → take (k + 1) (own_chunks form vs) ≡ take k (own_chunks form vs)
chunk_past form k vs e =
    let few = past form k e in
    take_all (k + 1) (own_chunks form vs) (omega (arith, few, own_long form vs)) ∙ sym (take_all k (own_chunks form vs) (omega (arith, few, own_long form vs)))

-- a node has at most three buffers
few_buffers : (form : Form) → buffers_of form ≤ 3
few_buffers forms.Nulls = omega arith
few_buffers forms.Bits = omega arith
few_buffers (forms.Numbers number) = omega arith
few_buffers (forms.Bytes w) = omega arith
few_buffers (forms.Texts w) = omega arith
few_buffers (forms.FixedBytes w) = omega arith
few_buffers (forms.Lists (lists.Offsets w)) = omega arith
few_buffers (forms.Lists (lists.Fixed size)) = omega arith
few_buffers forms.Structs = omega arith

pub all_chunks : (form : Form) (vs : List PlainValue) → take 3 (own_chunks form vs) ≡ own_chunks form vs
all_chunks form vs = take_all 3 (own_chunks form vs) (omega (arith, few_buffers form, own_long form vs))

-- the positions of further buffers
places_more : (align from : ℕ) (xs ys : List (List ℕ)) → 0 < align → places_from align from (xs ++ ys) ≡ places_from align from xs ++ places_from align (from + length (flat_map (padded align) xs)) ys
places_more align from [] ys some = let start : from ≡ from + 0 = omega arith in ap (λ n. places_from align n ys) start
places_more align from (x ∷ xs) ys some =
    let further : from + rounded align (length x) + length (flat_map (padded align) xs) ≡ from + length (flat_map (padded align) (x ∷ xs)) =
    omega (arith, padded_long align x some, length-append (padded align x) (flat_map (padded align) xs)) in
    ap (λ bs. record { offset = pos from; length = pos (length x) } ∷ bs) (places_more align (from + rounded align (length x)) xs ys some
    ∙ ap (λ n. places_from align (from + rounded align (length x)) xs ++ places_from align n ys) further)

-- nothing is added if nothing is done
pub stores_none : (align : ℕ) (b : Body) → Stores align [] [] b b
stores_none align b = record { nodes_added = sym (append-nil b.nodes.items); buffers_added = sym (append-nil b.buffers.items); bytes_added = sym (append-nil b.bytes.items) }

-- nodes and buffers, and then others
pub stores_more : (align : ℕ) (ns ms : List FieldNode) (xs ys : List (List ℕ)) (a b c : Body) → 0 < align → Stores align ns xs a b → Stores align ms ys b c → Stores align (ns ++ ms) (xs ++ ys) a c
stores_more align ns ms xs ys a b c some one other =
    let long : length b.bytes.items ≡ length a.bytes.items + length (flat_map (padded align) xs) = ap length one.bytes_added ∙ length-append a.bytes.items (flat_map (padded align) xs) in
    record {
      nodes_added = other.nodes_added ∙ ap (λ l. l ++ ms) one.nodes_added ∙ append_assoc a.nodes.items ns ms;
      buffers_added = other.buffers_added ∙ (λ i. one.buffers_added i ++ places_from align (long i) ys)
          ∙ append_assoc a.buffers.items (places_from align (length a.bytes.items) xs) (places_from align (length a.bytes.items + length (flat_map (padded align) xs)) ys)
          ∙ ap (λ l. a.buffers.items ++ l) (sym (places_more align (length a.bytes.items) xs ys some));
      bytes_added = other.bytes_added ∙ ap (λ l. l ++ flat_map (padded align) ys) one.bytes_added ∙ append_assoc a.bytes.items (flat_map (padded align) xs) (flat_map (padded align) ys)
          ∙ ap (λ l. a.bytes.items ++ l) (sym (flat_map-append (padded align) xs ys));
    }

-- buffers are padded to a positive number of bytes
pub some_alignment : (a : Align) → 0 < alignment_of a
some_alignment Eight = omega arith
some_alignment SixtyFour = omega arith

-- for a list of columns, the stored nodes and buffers of the first column come before those of the others
pub nodes_first : (c : Column) (cs : List Column) → stored_nodes (fields_of_columns (c ∷ cs)) (raws_of (c ∷ cs)) ≡ stored_nodes (fields_of_columns (c ∷ [])) (raws_of (c ∷ [])) ++ stored_nodes (fields_of_columns cs) (raws_of cs)
nodes_first c cs =
    let below = stored_nodes c.data_type.children (raws_below (node_form c.data_type.tag c.encoding) c.data_type.children c.raw) in
    ap (λ b. own_node c.raw ∷ (b ++ stored_nodes (fields_of_columns cs) (raws_of cs))) (sym (append-nil below))

pub chunks_first : (c : Column) (cs : List Column)
    → stored_chunks (fields_of_columns (c ∷ cs)) (raws_of (c ∷ cs)) ≡ stored_chunks (fields_of_columns (c ∷ [])) (raws_of (c ∷ [])) ++ stored_chunks (fields_of_columns cs) (raws_of cs)
chunks_first c cs =
    let own = own_chunks (node_form c.data_type.tag c.encoding) c.raw in
    let below = stored_chunks c.data_type.children (raws_below (node_form c.data_type.tag c.encoding) c.data_type.children c.raw) in
    let others = stored_chunks (fields_of_columns cs) (raws_of cs) in
    sym (append_assoc own below others) ∙ ap (λ b. own ++ b ++ others) (sym (append-nil below))

-- what holds of each body to which these columns are added
abbrev pub Leads : ℕ → List Column → (Body → Type 0) → Body → Type 0
Leads align rest P b = (z : Body) → Stores align (stored_nodes (fields_of_columns rest) (raws_of rest)) (stored_chunks (fields_of_columns rest) (raws_of rest)) b z → P z

-- the same after one more column is stored
pub leads_more : (align : ℕ) (c : Column) (cs : List Column) (P : Body → Type 0) (b d : Body) → 0 < align → Leads align (c ∷ cs) P b
    → Stores align (stored_nodes (fields_of_columns (c ∷ [])) (raws_of (c ∷ []))) (stored_chunks (fields_of_columns (c ∷ [])) (raws_of (c ∷ []))) b d → Leads align cs P d
leads_more align c cs P b d some leads one = λ z others.
    let both = stores_more align (stored_nodes (fields_of_columns (c ∷ [])) (raws_of (c ∷ []))) (stored_nodes (fields_of_columns cs) (raws_of cs))
    (stored_chunks (fields_of_columns (c ∷ [])) (raws_of (c ∷ []))) (stored_chunks (fields_of_columns cs) (raws_of cs)) b d z some one others in
    leads z (subst (λ ns. Stores align ns (stored_chunks (fields_of_columns (c ∷ cs)) (raws_of (c ∷ cs))) b z) (sym (nodes_first c cs))
    (subst (λ xs. Stores align (stored_nodes (fields_of_columns (c ∷ [])) (raws_of (c ∷ [])) ++ stored_nodes (fields_of_columns cs) (raws_of cs)) xs b z) (sym (chunks_first c cs)) both))

-- the same after the last column
pub leads_out : (align : ℕ) (P : Body → Type 0) (b : Body) → Leads align [] P b → P b
leads_out align P b leads = leads b (stores_none align b)

-- once the remaining columns are stored, all are
abbrev pub StoresUpTo : ℕ → List Column → List Column → Body → Body → Type 0
StoresUpTo align all rest old b = Leads align rest (Stores align (stored_nodes (fields_of_columns all) (raws_of all)) (stored_chunks (fields_of_columns all) (raws_of all)) old) b

-- the body that results when columns are added to an empty one
pub stored_from : (align : ℕ) (cs : List Column) (b z : Body) → b.nodes.items ≡ [] → b.buffers.items ≡ [] → b.bytes.items ≡ []
    → Stores align (stored_nodes (fields_of_columns cs) (raws_of cs)) (stored_chunks (fields_of_columns cs) (raws_of cs)) b z → body_view z ≡ stored align (fields_of_columns cs) (raws_of cs)
stored_from align cs b z no_nodes no_buffers no_bytes all =
    let nodes = all.nodes_added ∙ ap (λ l. l ++ stored_nodes (fields_of_columns cs) (raws_of cs)) no_nodes in
    let buffers = all.buffers_added ∙ (λ i. no_buffers i ++ places_from align (length (no_bytes i)) (stored_chunks (fields_of_columns cs) (raws_of cs))) in
    let bytes = all.bytes_added ∙ ap (λ l. l ++ flat_map (padded align) (stored_chunks (fields_of_columns cs) (raws_of cs))) no_bytes in
    λ i. record { nodes = nodes i; buffers = buffers i; bytes = bytes i }
