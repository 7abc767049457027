-- The types of nodes, field by field.
use Rattle.std.proofs.Common.{◌≡◌, ◌+◌, ◌++◌, ℕ, suc, List, [], ◌∷◌, length, drop, refl, sym, ap, ◌∙◌, subst, Option, Some, None, append_assoc, append-nil, arith}
use Rattle.std.specs.Prelude.{slice_get}
use Rattle.std.proofs.Math.Seq.{drop-append_seam}
use Rattle.std.proofs.lemmas.List.{drop-drop, length-append}
use Rattle.arrow_types.specs.Field.{FieldTree, FieldHeader, none, more}
use Rattle.arrow_types.specs.declared.field.Encoding.{Encoding}
use Rattle.arrow_layout.specs.Shared.{NodeType, node_types, types_below}
use Rattle.arrow_body_reader.specs.Taken.{IfFlattened, below, flattened, taken_nodes}
use Rattle.arrow_body_reader.specs.Types.{HaveTypes}
use Rattle.arrow_body_reader.proofs.Taking.{nodes_below}

-- the types of the fields below a field
pub types_of_below : (e : Option Encoding) (children : FieldTree) → types_below e (node_types children) ≡ node_types (below e children)
types_of_below None children = refl
types_of_below (Some e) children = refl

-- there is one for each node
as_many_below : (e : Option Encoding) (types : List NodeType) (n : ℕ) → length types ≡ n → length (types_below e types) ≡ flattened e n
as_many_below None types n is = is
as_many_below (Some e) types n is = refl

pub as_many_types : (fields : FieldTree) → length (node_types fields) ≡ taken_nodes fields
as_many_types none = refl
as_many_types (more h c rest) =
    let inner = types_below h.encoding (node_types c) in
    omega (arith, length-append inner (node_types rest), as_many_below h.encoding (node_types c) (taken_nodes c) (as_many_types c), as_many_types rest)

-- the elements after the first n
past : {A : Type 0} (xs ys : List A) (n : ℕ) → length xs ≡ n → drop n (xs ++ ys) ≡ ys
past xs ys n is = ap (λ k. drop k (xs ++ ys)) (sym is) ∙ drop-append_seam xs ys

-- the fields below a field have the types at the start of the list, whatever types follow
have_below : (e : Option Encoding) (children : FieldTree) (types others : List NodeType) → ((more : List NodeType) → HaveTypes children (types ++ more)) → IfFlattened e (HaveTypes children (types_below e types ++ others))
have_below None children types others all = all others
have_below (Some e) children types others all = tt

pub have_types : (fields : FieldTree) (others : List NodeType) → HaveTypes fields (node_types fields ++ others)
have_types none others = tt
have_types (more h c rest) others =
    let inner = types_below h.encoding (node_types c) in
    let n = flattened h.encoding (taken_nodes c) in
    let all = node_types (more h c rest) ++ others in
    let again : (inner ++ node_types rest) ++ others ≡ inner ++ (node_types rest ++ others) = append_assoc inner (node_types rest) others in
    let long = as_many_below h.encoding (node_types c) (taken_nodes c) (as_many_types c) in
    let next : 1 + n ≡ suc n = omega arith in
    let left : drop (1 + n) all ≡ node_types rest ++ others = ap (λ k. drop k all) next ∙ ap (drop n) again ∙ past inner (node_types rest ++ others) n long in (
      refl,
      subst (λ ts. IfFlattened h.encoding (HaveTypes c ts)) (sym again) (have_below h.encoding c (node_types c) (node_types rest ++ others) (have_types c)),
      subst (HaveTypes rest) (sym left) (have_types rest others),
    )

pub typed_as : (fields : FieldTree) (types : List NodeType) → types ≡ node_types fields → HaveTypes fields types
typed_as fields types is = subst (HaveTypes fields) (append-nil (node_types fields) ∙ sym is) (have_types fields [])

flat : (e : Option Encoding) (c : FieldTree) (types : List NodeType) → IfFlattened e (HaveTypes c types) → HaveTypes (below e c) types
flat None c types have = have
flat (Some e) c types have = tt

-- the first of some types
pub first_is : (types others : List NodeType) (t u : NodeType) → slice_get types 0 ≡ Some u → types ≡ t ∷ others → t ≡ u
first_is [] others t u got is = cc
first_is (v ∷ vs) others t u got is =
    let one : v ≡ u = cc in
    let same : v ≡ t = cc in
    sym same ∙ one

-- the types of the fields below a field, and of the fields that follow
pub typed_inside : (h : FieldHeader) (c rest : FieldTree) (types : List NodeType) → HaveTypes (more h c rest) types → HaveTypes (below h.encoding c) (drop 1 types)
typed_inside h c rest types have = flat h.encoding c (drop 1 types) have.1

pub types_after : (h : FieldHeader) (c : FieldTree) (types types' : List NodeType) → types' ≡ drop (taken_nodes (below h.encoding c)) (drop 1 types) → types' ≡ drop (1 + flattened h.encoding (taken_nodes c)) types
types_after h c types types' is = is ∙ drop-drop (taken_nodes (below h.encoding c)) 1 types ∙ ap (λ n. drop (1 + n) types) (nodes_below h.encoding c)

pub typed_next : (h : FieldHeader) (c rest : FieldTree) (types types' : List NodeType) → HaveTypes (more h c rest) types → types' ≡ drop (taken_nodes (below h.encoding c)) (drop 1 types) → HaveTypes rest types'
typed_next h c rest types types' have is =
    subst (HaveTypes rest) (sym (types_after h c types types' is)) have.2

pub types_left : (h : FieldHeader) (c rest : FieldTree) (types types' : List NodeType) → types' ≡ drop (taken_nodes (below h.encoding c)) (drop 1 types) → drop (taken_nodes rest) types' ≡ drop (taken_nodes (more h c rest)) types
types_left h c rest types types' is = ap (drop (taken_nodes rest)) (types_after h c types types' is) ∙ drop-drop (taken_nodes rest) (1 + flattened h.encoding (taken_nodes c)) types
