-- The indices of a stored body have their values.
use Rattle.std.proofs.Common.{◌≡◌, ℕ, ◌+◌, true, not, List, [], ◌∷◌, length, map, drop, ◌∙◌, sym, subst, arith}
use Rattle.std.specs.Prelude.{ℤ, pos, negsuc, Option, None, Some}
use Rattle.std.specs.List.{AllByRecursion}
use Rattle.std.proofs.lemmas.List.{get_or-map, length-map}
use Rattle.std.proofs.lemmas.Option.{slice_get_within}
use Rattle.arrow_bits.specs.Numbers.{FitsInt}
use Rattle.arrow_types.specs.DataType.{TypeId}
use Rattle.arrow_types.specs.Field.{FieldTree, none, more}
use Rattle.arrow_types.specs.declared.field.Encoding.{Encoding}
use Rattle.arrow_types.specs.declared.node.FieldNode.{FieldNode}
use Rattle.arrow_types.specs.declared.node.Buffer.{Buffer}
use Rattle.arrow_layout.specs.declared.form.NumberForm.TheVariants as numbers
use Rattle.arrow_data.specs.Column.{ValueList}
use Rattle.arrow_layout.specs.Form.{node_form, index_form}
use Rattle.arrow_layout.specs.Layout.{IsIndexed}
use Rattle.arrow_data.specs.Parts.{values_in}
use Rattle.arrow_layout.specs.PlainValue.{PlainValue, null_value, bool_value, int_value, binary_value, utf8_value, list_value, struct_value, value_at, is_null_value}
use Rattle.arrow_layout.specs.Resolve.{entry_of, resolve}
use Rattle.arrow_layout.specs.Slots.{AreIndices, IsIndex, index_width}
use Rattle.arrow_data.specs.Listed.{dictionary_for, values_by}
use Rattle.arrow_layout.specs.declared.form.Form.TheVariants as forms
use Rattle.arrow_body_reader.specs.Sound.{AreIndexed, IsNodeIndexed, own_bytes}
use Rattle.arrow_body_reader.specs.Taken.{AllNodes, IfFlattened, flattened, own_buffers, taken_buffers, taken_nodes}
use Rattle.arrow_body_laws.specs.Entries.{HaveEntries}
use Rattle.arrow_body_laws.specs.Raws.{AreRaws, IsOwn, number_in, raws_below}
use Rattle.arrow_body_laws.specs.Stored.{number_buffer, own_chunks, validity_bytes}
use Rattle.arrow_body_laws.proofs.Below.{ColumnsHold}
use Rattle.arrow_body_laws.proofs.Pieces.{int_read}
use Rattle.arrow_body_laws.proofs.Slotted.{in_slot, read_valid, some_bytes}
use Rattle.arrow_body_laws.proofs.Soundness.{slots_are}
use Rattle.arrow_body_laws.proofs.Resolved.{AllResolve, Resolves, ResolvesBy, all_resolve, below_resolves}
use Rattle.arrow_body_laws.proofs.Walk.{AreStored, if_made, inner_raws, own_bytes_are, stored_inside, stored_next}

-- an index that has a value is in bounds
entry_inside : (values : List PlainValue) (z : ℤ) (r : PlainValue) → entry_of values z ≡ Some r → IsIndex (length values) z
entry_inside values (pos n) r same = slice_get_within values n r same
entry_inside values (negsuc n) r same = cc

-- the index of a slot that is not null
entry_number : (e : Encoding) (c : FieldTree) (d : ℤ → List PlainValue) (v : PlainValue) → IsOwn (index_form e) c v → Resolves (resolve (Some e) c d) v
    → not (is_null_value v) ≡ true → FitsInt (index_width e.index) e.index.signed (number_in v) × IsIndex (length (d e.id)) (number_in v)
entry_number e c d null_value own resolves h = cc
entry_number e c d (bool_value b) own resolves h = cc
entry_number e c d (int_value z) own resolves h = (own, entry_inside (d e.id) z resolves.0 resolves.1)
entry_number e c d (binary_value b) own resolves h = absurd own
entry_number e c d (utf8_value b) own resolves h = absurd own
entry_number e c d (list_value b) own resolves h = absurd own
entry_number e c d (struct_value b) own resolves h = let other = own.0 in cc

are_indices : (e : Encoding) (c : FieldTree) (d : ℤ → List PlainValue) (vs : List PlainValue) → AllByRecursion (IsOwn (index_form e) c) vs → AllResolve (resolve (Some e) c d) vs
    → AreIndices (length vs) (index_width e.index) e.index.signed (validity_bytes vs) (number_buffer (index_width e.index) vs) (length (d e.id))
are_indices e c d vs own resolving = λ j h valid.
    let w = index_width e.index in
    let known = entry_number e c d (value_at vs j) (in_slot (IsOwn (index_form e) c) vs j h own) (in_slot (Resolves (resolve (Some e) c d)) vs j h resolving) (sym (read_valid vs j h) ∙ valid) in
    let at = get_or-map number_in vs j null_value (pos 0) h in
    let read = int_read w e.index.signed (map number_in vs) j (some_bytes (numbers.Int e.index.bits e.index.signed)) (omega (arith, h, length-map vs number_in)) (subst (FitsInt w e.index.signed) (sym at) known.0) in
    subst (IsIndex (length (d e.id))) (sym (read ∙ at)) known.1

is_indexed : (tag : TypeId) (e : Option Encoding) (c : FieldTree) (ds : List (ℤ × ValueList)) (vs : List PlainValue) → AllByRecursion (IsOwn (node_form tag e) c) vs → AllResolve (resolve e c (values_by ds)) vs
    → IsIndexed e (length vs) (own_chunks (node_form tag e) vs) (values_in (dictionary_for ds e))
is_indexed tag None c ds vs own resolving = tt
is_indexed tag (Some e) c ds vs own resolving = are_indices e c (values_by ds) vs own resolving

-- the values below a field without an encoding resolve too
inside_resolves : (tag : TypeId) (e : Option Encoding) (c : FieldTree) (d : ℤ → List PlainValue) (vs : List PlainValue) → e ≡ None → IfFlattened e (AreRaws c (raws_below (node_form tag e) c vs))
    → AllResolve (resolve e c d) vs → ColumnsHold (ResolvesBy d) c (raws_below (node_form tag e) c vs)
inside_resolves tag None c d vs plain raws resolving = below_resolves (node_form tag None) d c vs raws resolving
inside_resolves tag (Some e) c d vs plain raws resolving = cc

-- all indices of values that resolve have their values
indexed_by : (body : List ℕ) (ds : List (ℤ × ValueList)) (fields : FieldTree) (raws : List (List PlainValue)) (ns : List FieldNode) (bs : List Buffer)
    → AreStored body fields raws ns bs → ColumnsHold (ResolvesBy (values_by ds)) fields raws → AreIndexed body ds fields ns bs
indexed_by body ds none raws ns bs s resolving = tt
indexed_by body ds (more h c rest) [] ns bs s resolving = absurd s.raw
indexed_by body ds (more h c rest) (vs ∷ raws) ns bs s resolving =
    let values = values_in (dictionary_for ds h.encoding) in (
      subst (λ n. IsIndexed h.encoding n (own_bytes body h bs) values) (sym (slots_are body h c rest vs raws ns bs s))
          (subst (λ b. IsIndexed h.encoding (length vs) b values) (sym (own_bytes_are body h c rest vs raws ns bs s))
          (is_indexed h.tag h.encoding c ds vs s.raw.0 resolving.0)),
      if_made h.encoding (AllNodes (IsNodeIndexed body ds) c (drop 1 ns) (drop (own_buffers h) bs))
          (λ e. indexed_by body ds c (inner_raws h c vs) (drop 1 ns) (drop (own_buffers h) bs) (stored_inside body h c rest vs raws ns bs s e)
          (inside_resolves h.tag h.encoding c (values_by ds) vs e s.raw.1 resolving.0)),
      indexed_by body ds rest raws (drop (1 + flattened h.encoding (taken_nodes c)) ns) (drop (own_buffers h + flattened h.encoding (taken_buffers c)) bs) (stored_next body h c rest vs raws ns bs s) resolving.1,
    )

-- the columns whose values all resolve
columns_resolve : (d : ℤ → List PlainValue) (fields : FieldTree) (raws : List (List PlainValue)) → HaveEntries d fields raws → ColumnsHold (ResolvesBy d) fields raws
columns_resolve d none raws has = tt
columns_resolve d (more h c rest) [] has = tt
columns_resolve d (more h c rest) (vs ∷ raws) has = (all_resolve (resolve h.encoding c d) vs has.0, columns_resolve d rest raws has.1)

-- all indices have their values
pub all_indexed : (body : List ℕ) (ds : List (ℤ × ValueList)) (fields : FieldTree) (raws : List (List PlainValue)) (ns : List FieldNode) (bs : List Buffer)
    → AreStored body fields raws ns bs → HaveEntries (values_by ds) fields raws → AreIndexed body ds fields ns bs
all_indexed body ds fields raws ns bs s has = indexed_by body ds fields raws ns bs s (columns_resolve (values_by ds) fields raws has)
