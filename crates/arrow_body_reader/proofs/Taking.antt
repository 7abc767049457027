-- The nodes and buffers that are left, field by field.
use Rattle.std.proofs.Common.{◌≡◌, ◌≤◌, ◌<◌, ◌+◌, ◌-◌, ◌↔◌, ℕ, List, length, drop, get_or, Option, Some, None, refl, sym, ap, ◌∙◌, subst, arith, length-drop}
use Rattle.std.proofs.lemmas.List.{drop-drop}
use Rattle.arrow_types.proofs.Fields.{fewer_below}
use Rattle.arrow_types.specs.Field.{FieldTree, FieldHeader, more, count}
use Rattle.arrow_types.specs.View.{field_view, fields_view}
use Rattle.arrow_types.specs.declared.field.Encoding.{Encoding}
use Rattle.arrow_types.specs.declared.field.Field.{Field}
use Rattle.arrow_types.specs.declared.node.FieldNode.{FieldNode}
use Rattle.arrow_types.specs.declared.node.Buffer.{Buffer}
use Rattle.arrow_body_reader.specs.Taken.{AllNodes, AreThere, IfFlattened, below, flattened, own_buffers, taken_nodes, taken_buffers}

-- the number of nodes below a field
pub nodes_below : (e : Option Encoding) (children : FieldTree) → taken_nodes (below e children) ≡ flattened e (taken_nodes children)
nodes_below None children = refl
nodes_below (Some e) children = refl

-- and the number of buffers
pub buffers_below : (e : Option Encoding) (children : FieldTree) → taken_buffers (below e children) ≡ flattened e (taken_buffers children)
buffers_below None children = refl
buffers_below (Some e) children = refl

count_below : (e : Option Encoding) (children : FieldTree) → count (below e children) ≤ count children
count_below None children = omega arith
count_below (Some e) children = omega arith

-- fewer taken fields are below one of the fields than there are in all
pub fewer_taken : (fs : List Field) (i : ℕ) (f : Field) → i < length fs → f ≡ get_or fs i f
    → count (below (field_view f).head.encoding (field_view f).children) < count (fields_view fs)
fewer_taken fs i f h is = omega (arith, count_below (field_view f).head.encoding (field_view f).children, fewer_below fs i f h is)

-- what one field takes: its own node and buffers, and those of the fields below it
pub node_after : (h : FieldHeader) (c : FieldTree) (ns rest : List FieldNode) → rest ≡ drop (taken_nodes (below h.encoding c)) (drop 1 ns) → rest ≡ drop (1 + flattened h.encoding (taken_nodes c)) ns
node_after h c ns rest is = is ∙ drop-drop (taken_nodes (below h.encoding c)) 1 ns ∙ ap (λ n. drop (1 + n) ns) (nodes_below h.encoding c)

-- the same for buffers
pub buffer_after : (h : FieldHeader) (c : FieldTree) (bs rest : List Buffer) → rest ≡ drop (taken_buffers (below h.encoding c)) (drop (own_buffers h) bs) → rest ≡ drop (own_buffers h + flattened h.encoding (taken_buffers c)) bs
buffer_after h c bs rest is = is ∙ drop-drop (taken_buffers (below h.encoding c)) (own_buffers h) bs ∙ ap (λ n. drop (own_buffers h + n) bs) (buffers_below h.encoding c)

-- the nodes left after one field and those that follow are the nodes left after all
pub nodes_left : (h : FieldHeader) (c rest : FieldTree) (ns ns' : List FieldNode) → ns' ≡ drop (taken_nodes (below h.encoding c)) (drop 1 ns) → drop (taken_nodes rest) ns' ≡ drop (taken_nodes (more h c rest)) ns
nodes_left h c rest ns ns' is = ap (drop (taken_nodes rest)) (node_after h c ns ns' is) ∙ drop-drop (taken_nodes rest) (1 + flattened h.encoding (taken_nodes c)) ns

-- the fields that follow have the remaining nodes and buffers exactly when all fields have all of them
pub there_after : (h : FieldHeader) (c rest : FieldTree) (ns ns' : List FieldNode) (bs bs' : List Buffer) → 1 ≤ length ns → own_buffers h ≤ length bs → AreThere (below h.encoding c) (drop 1 ns) (drop (own_buffers h) bs)
    → ns' ≡ drop (taken_nodes (below h.encoding c)) (drop 1 ns) → bs' ≡ drop (taken_buffers (below h.encoding c)) (drop (own_buffers h) bs)
    → (AreThere rest ns' bs' ↔ AreThere (more h c rest) ns bs) × (drop (taken_nodes rest) ns' ≡ drop (taken_nodes (more h c rest)) ns) × (drop (taken_buffers rest) bs' ≡ drop (taken_buffers (more h c rest)) bs)
there_after h c rest ns ns' bs bs' one own there is is' =
    let a = node_after h c ns ns' is in
    let b = buffer_after h c bs bs' is' in
    let room : length ns' ≡ length ns - (1 + flattened h.encoding (taken_nodes c)) = ap length a ∙ length-drop (1 + flattened h.encoding (taken_nodes c)) ns in
    let room' : length bs' ≡ length bs - (own_buffers h + flattened h.encoding (taken_buffers c)) = ap length b ∙ length-drop (own_buffers h + flattened h.encoding (taken_buffers c)) bs in
    let left : 1 + flattened h.encoding (taken_nodes c) ≤ length ns = omega (arith, there.0, nodes_below h.encoding c, length-drop 1 ns) in
    let left' : own_buffers h + flattened h.encoding (taken_buffers c) ≤ length bs = omega (arith, there.1, buffers_below h.encoding c, length-drop (own_buffers h) bs) in (
      (λ t. (omega (arith, t.0), omega (arith, t.1)), λ t. (omega (arith, t.0), omega (arith, t.1))),
      ap (drop (taken_nodes rest)) a ∙ drop-drop (taken_nodes rest) (1 + flattened h.encoding (taken_nodes c)) ns,
      ap (drop (taken_buffers rest)) b ∙ drop-drop (taken_buffers rest) (own_buffers h + flattened h.encoding (taken_buffers c)) bs,
    )

-- what is there for a field, and for the fields below it
pub there_parts : (h : FieldHeader) (c rest : FieldTree) (ns : List FieldNode) (bs : List Buffer) → AreThere (more h c rest) ns bs
    → (1 ≤ length ns) × (own_buffers h ≤ length bs) × AreThere (below h.encoding c) (drop 1 ns) (drop (own_buffers h) bs)
there_parts h c rest ns bs there = (
  omega (arith, there.0),
  omega (arith, there.1),
  (omega (arith, there.0, nodes_below h.encoding c, length-drop 1 ns), omega (arith, there.1, buffers_below h.encoding c, length-drop (own_buffers h) bs)),
)

-- A condition on the fields below a field, which is void if that field is dictionary-encoded, is the condition on the
-- fields that are taken below it.
pub all_below : (P : FieldHeader → FieldTree → List FieldNode → List Buffer → Type 0) (e : Option Encoding) (c : FieldTree) (ns : List FieldNode) (bs : List Buffer)
    → IfFlattened e (AllNodes P c ns bs) ↔ AllNodes P (below e c) ns bs
all_below P None c ns bs = (λ x. x, λ x. x)
all_below P (Some e) c ns bs = (λ x. x, λ x. x)

-- if a condition holds of a field and of the fields below it, it holds of all exactly when it holds of those that
-- follow
pub all_after : (P : FieldHeader → FieldTree → List FieldNode → List Buffer → Type 0) (h : FieldHeader) (c rest : FieldTree) (ns ns' : List FieldNode) (bs bs' : List Buffer)
    → P h c ns bs → AllNodes P (below h.encoding c) (drop 1 ns) (drop (own_buffers h) bs)
    → ns' ≡ drop (taken_nodes (below h.encoding c)) (drop 1 ns) → bs' ≡ drop (taken_buffers (below h.encoding c)) (drop (own_buffers h) bs)
    → AllNodes P rest ns' bs' ↔ AllNodes P (more h c rest) ns bs
all_after P h c rest ns ns' bs bs' here inner is is' =
    let a = node_after h c ns ns' is in
    let b = buffer_after h c bs bs' is' in (
      λ x. (here, (all_below P h.encoding c (drop 1 ns) (drop (own_buffers h) bs)).1 inner, subst (λ y. AllNodes P rest y (drop (own_buffers h + flattened h.encoding (taken_buffers c)) bs)) a (subst (λ y. AllNodes P rest ns' y) b x)),
      λ w. subst (λ y. AllNodes P rest ns' y) (sym b) (subst (λ y. AllNodes P rest y (drop (own_buffers h + flattened h.encoding (taken_buffers c)) bs)) (sym a) w.2),
    )

-- a condition on all fields is one on the fields below the first
pub all_inside : (P : FieldHeader → FieldTree → List FieldNode → List Buffer → Type 0) (h : FieldHeader) (c rest : FieldTree) (ns : List FieldNode) (bs : List Buffer)
    → AllNodes P (more h c rest) ns bs → AllNodes P (below h.encoding c) (drop 1 ns) (drop (own_buffers h) bs)
all_inside P h c rest ns bs all = (all_below P h.encoding c (drop 1 ns) (drop (own_buffers h) bs)).0 all.1

-- and on the fields that follow
pub all_next : (P : FieldHeader → FieldTree → List FieldNode → List Buffer → Type 0) (h : FieldHeader) (c rest : FieldTree) (ns ns' : List FieldNode) (bs bs' : List Buffer)
    → AllNodes P (more h c rest) ns bs → ns' ≡ drop (taken_nodes (below h.encoding c)) (drop 1 ns) → bs' ≡ drop (taken_buffers (below h.encoding c)) (drop (own_buffers h) bs)
    → AllNodes P rest ns' bs'
all_next P h c rest ns ns' bs bs' all is is' = (all_after P h c rest ns ns' bs bs' all.0 (all_inside P h c rest ns bs all) is is').1 all

-- if two propositions decide a condition on a field and on the fields below it, then these and the condition on the
-- fields that follow decide the condition on all
pub all_reported : (P : FieldHeader → FieldTree → List FieldNode → List Buffer → Type 0) (here inner : Type 0) (h : FieldHeader) (c rest : FieldTree) (ns ns' : List FieldNode) (bs bs' : List Buffer)
    → here ↔ P h c ns bs → inner ↔ AllNodes P (below h.encoding c) (drop 1 ns) (drop (own_buffers h) bs)
    → ns' ≡ drop (taken_nodes (below h.encoding c)) (drop 1 ns) → bs' ≡ drop (taken_buffers (below h.encoding c)) (drop (own_buffers h) bs)
    → (here × inner × AllNodes P rest ns' bs') ↔ AllNodes P (more h c rest) ns bs
all_reported P here inner h c rest ns ns' bs bs' own under is is' = (
  λ x. (all_after P h c rest ns ns' bs bs' (own.0 x.0) (under.0 x.1) is is').0 x.2,
  λ w. (own.1 w.0, under.1 (all_inside P h c rest ns bs w), all_next P h c rest ns ns' bs bs' w is is'),
)
