-- The columns of fields, one by one.
use Rattle.std.proofs.Common.{rules, ◌≡◌, ◌+◌, ℕ, ℤ, List, [], ◌∷◌, length, drop, map, Option, Some, None, IsTrue, is_some, false, refl, sym, ap}
use Rattle.arrow_types.specs.Field.{FieldTree, FieldHeader, none, more, TypeShape}
use Rattle.arrow_types.specs.Schema.{has_encoding}
use Rattle.arrow_types.specs.View.{field_view, type_view}
use Rattle.arrow_types.specs.declared.field.Encoding.{Encoding}
use Rattle.arrow_types.specs.declared.field.Field.{Field, the_lemmas}
use Rattle.arrow_types.specs.declared.node.FieldNode.{FieldNode}
use Rattle.arrow_types.specs.declared.node.Buffer.{Buffer}
use Rattle.arrow_data.specs.Column.{Column, ValueList, AreOf, counts_of}
use Rattle.arrow_layout.specs.Form.{form_of}
use Rattle.arrow_data.specs.Parts.{node_column, value_slot, index_slot, values_in, AreChildren}
use Rattle.arrow_layout.specs.PlainValue.{PlainValue}
use Rattle.arrow_data.proofs.Shown.{length_slots}
use Rattle.arrow_data.specs.Listed.{dictionary_for}
use Rattle.arrow_body_reader.specs.Sound.{AreFit, IsNodeIndexed, IsNodeLaid, IsNodeText, IsSound, columns_of, if_flattened, lengths_of, own_bytes, slots_at}
use Rattle.arrow_body_reader.specs.Taken.{IfFlattened, below, flattened, own_buffers, taken_buffers, taken_nodes}
use Rattle.arrow_body_reader.proofs.Taking.{all_inside, all_next, buffer_after, node_after, there_after, there_parts}

-- the type of a field
pub field_type : (f : Field) → type_view f.data_type ≡ record { tag = (field_view f).head.tag; children = (field_view f).children }
field_type f = search (rules, the_lemmas)

-- and its encoding
pub field_encoding : (f : Field) → f.dictionary ≡ (field_view f).head.encoding
field_encoding f = search (rules, the_lemmas)

node_type : (t : TypeShape) (e : Option Encoding) (len : ℕ) (b : List (List ℕ)) (cs : List Column) (values : List PlainValue) → (node_column t e len b cs values).data_type ≡ t
node_type t None len b cs values = refl
node_type t (Some e) len b cs values = refl

node_encoding : (t : TypeShape) (e : Option Encoding) (len : ℕ) (b : List (List ℕ)) (cs : List Column) (values : List PlainValue) → (node_column t e len b cs values).encoding ≡ e
node_encoding t None len b cs values = refl
node_encoding t (Some e) len b cs values = refl

node_length : (t : TypeShape) (e : Option Encoding) (len : ℕ) (b : List (List ℕ)) (cs : List Column) (values : List PlainValue) → length (node_column t e len b cs values).raw ≡ len
node_length t None len b cs values = length_slots len (λ j. value_slot (form_of t.tag) b (map (λ (c : Column). c.raw) cs) j)
node_length t (Some e) len b cs values = length_slots len (λ j. index_slot e b j)

-- the columns have the types of the fields
pub columns_typed : (body : List ℕ) (ds : List (ℤ × ValueList)) (fields : FieldTree) (ns : List FieldNode) (bs : List Buffer) → AreOf fields (columns_of body ds fields ns bs)
columns_typed body ds none ns bs = tt
columns_typed body ds (more h c rest) ns bs = (
  node_type (record { tag = h.tag; children = c }) h.encoding (slots_at ns) (own_bytes body h bs) (if_flattened h.encoding (columns_of body ds c (drop 1 ns) (drop (own_buffers h) bs))) (values_in (dictionary_for ds h.encoding)),
  node_encoding (record { tag = h.tag; children = c }) h.encoding (slots_at ns) (own_bytes body h bs) (if_flattened h.encoding (columns_of body ds c (drop 1 ns) (drop (own_buffers h) bs))) (values_in (dictionary_for ds h.encoding)),
  columns_typed body ds rest (drop (1 + flattened h.encoding (taken_nodes c)) ns) (drop (own_buffers h + flattened h.encoding (taken_buffers c)) bs),
)

-- and the lengths of their nodes
pub columns_long : (body : List ℕ) (ds : List (ℤ × ValueList)) (fields : FieldTree) (ns : List FieldNode) (bs : List Buffer) → counts_of (columns_of body ds fields ns bs) ≡ lengths_of fields ns
columns_long body ds none ns bs = refl
columns_long body ds (more h c rest) ns bs = λ i.
    node_length (record { tag = h.tag; children = c }) h.encoding (slots_at ns) (own_bytes body h bs) (if_flattened h.encoding (columns_of body ds c (drop 1 ns) (drop (own_buffers h) bs))) (values_in (dictionary_for ds h.encoding)) i
    ∷ columns_long body ds rest (drop (1 + flattened h.encoding (taken_nodes c)) ns) (drop (own_buffers h + flattened h.encoding (taken_buffers c)) bs) i

columns_below : (body : List ℕ) (ds : List (ℤ × ValueList)) (e : Option Encoding) (c : FieldTree) (ns : List FieldNode) (bs : List Buffer) → if_flattened e (columns_of body ds c ns bs) ≡ columns_of body ds (below e c) ns bs
columns_below body ds None c ns bs = refl
columns_below body ds (Some e) c ns bs = refl

-- the column of the first field, and those of the fields after it
pub columns_step : (body : List ℕ) (ds : List (ℤ × ValueList)) (h : FieldHeader) (c rest : FieldTree) (ns ns' : List FieldNode) (bs bs' : List Buffer)
    → ns' ≡ drop (taken_nodes (below h.encoding c)) (drop 1 ns) → bs' ≡ drop (taken_buffers (below h.encoding c)) (drop (own_buffers h) bs)
    → columns_of body ds (more h c rest) ns bs
    ≡ node_column (record { tag = h.tag; children = c }) h.encoding (slots_at ns) (own_bytes body h bs) (columns_of body ds (below h.encoding c) (drop 1 ns) (drop (own_buffers h) bs)) (values_in (dictionary_for ds h.encoding))
    ∷ columns_of body ds rest ns' bs'
columns_step body ds h c rest ns ns' bs bs' is is' = λ i.
    node_column (record { tag = h.tag; children = c }) h.encoding (slots_at ns) (own_bytes body h bs) (columns_below body ds h.encoding c (drop 1 ns) (drop (own_buffers h) bs) i) (values_in (dictionary_for ds h.encoding))
    ∷ columns_of body ds rest (sym (node_after h c ns ns' is) i) (sym (buffer_after h c bs bs' is') i)

-- a leaf has no columns below it, and no dictionary
pub leaf_column : (body : List ℕ) (ds : List (ℤ × ValueList)) (t : TypeShape) (e : Option Encoding) (c : FieldTree) (len : ℕ) (b : List (List ℕ)) (ns : List FieldNode) (bs : List Buffer) → e ≡ None → c ≡ none
    → node_column t e len b [] [] ≡ node_column t e len b (columns_of body ds (below e c) ns bs) (values_in (dictionary_for ds e))
leaf_column body ds t None c len b ns bs own bare = ap (λ f. node_column t None len b (columns_of body ds f ns bs) []) (sym bare)
leaf_column body ds t (Some e) c len b ns bs own bare = absurd cc

-- the columns below a node are its children
pub are_children : (t : TypeShape) (e : Option Encoding) (cs : List Column) → AreOf (below e t.children) cs → (IsTrue (is_some e) → has_encoding t.children ≡ false) → AreChildren t e cs
are_children t None cs typed flat = typed
are_children t (Some e) cs typed flat = flat refl

-- nodes and buffers that are valid are valid below a field
pub sound_inside : (body : List ℕ) (ds : List (ℤ × ValueList)) (h : FieldHeader) (c rest : FieldTree) (ns : List FieldNode) (bs : List Buffer) → IsSound body ds (more h c rest) ns bs → IsSound body ds (below h.encoding c) (drop 1 ns) (drop (own_buffers h) bs)
sound_inside body ds h c rest ns bs s = record {
  there = (there_parts h c rest ns bs s.there).2;
  laid = all_inside (IsNodeLaid body) h c rest ns bs s.laid;
  text = all_inside (IsNodeText body) h c rest ns bs s.text;
  indexed = all_inside (IsNodeIndexed body ds) h c rest ns bs s.indexed;
}

-- nodes and buffers that are valid are valid after a field
pub sound_next : (body : List ℕ) (ds : List (ℤ × ValueList)) (h : FieldHeader) (c rest : FieldTree) (ns ns' : List FieldNode) (bs bs' : List Buffer) → IsSound body ds (more h c rest) ns bs
    → ns' ≡ drop (taken_nodes (below h.encoding c)) (drop 1 ns) → bs' ≡ drop (taken_buffers (below h.encoding c)) (drop (own_buffers h) bs) → IsSound body ds rest ns' bs'
sound_next body ds h c rest ns ns' bs bs' s is is' =
    let parts = there_parts h c rest ns bs s.there in
    record {
      there = (there_after h c rest ns ns' bs bs' parts.0 parts.1 parts.2 is is').0.1 s.there;
      laid = all_next (IsNodeLaid body) h c rest ns ns' bs bs' s.laid is is';
      text = all_next (IsNodeText body) h c rest ns ns' bs bs' s.text is is';
      indexed = all_next (IsNodeIndexed body ds) h c rest ns ns' bs bs' s.indexed is is';
    }

-- dictionaries that fit all fields fit those below a field
pub fit_inside : (ds : List (ℤ × ValueList)) (e : Option Encoding) (c : FieldTree) → IfFlattened e (AreFit ds c) → AreFit ds (below e c)
fit_inside ds None c f = f
fit_inside ds (Some e) c f = tt
