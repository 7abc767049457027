-- From field to field of a stored body.
use Rattle.std.proofs.Common.{◌≡◌, ℕ, zero, suc, ◌+◌, List, [], ◌∷◌, ◌++◌, length, map, take, drop, refl, ap, ◌∙◌, sym, arith}
use Rattle.std.specs.Prelude.{Option, None, Some}
use Rattle.std.specs.List.{AllByRecursion}
use Rattle.std.proofs.lemmas.List.{length-append, append_assoc}
use Rattle.std.proofs.Math.Seq.{take-append_seam, drop-append_seam}
use Rattle.arrow_types.specs.DataType.{TypeId}
use Rattle.arrow_types.specs.Field.{FieldTree, FieldHeader, none, more}
use Rattle.arrow_types.specs.declared.field.Encoding.{Encoding}
use Rattle.arrow_types.specs.declared.node.FieldNode.{FieldNode}
use Rattle.arrow_types.specs.declared.node.Buffer.{Buffer}
use Rattle.arrow_layout.specs.Form.{buffers_of, node_form}
use Rattle.arrow_layout.specs.PlainValue.{PlainValue}
use Rattle.arrow_layout.specs.declared.form.Form.{Form}
use Rattle.arrow_layout.specs.declared.form.Form.TheVariants as forms
use Rattle.arrow_layout.specs.declared.form.ListForm.TheVariants as lists
use Rattle.arrow_body_reader.specs.Held.{IsHeld, bytes_in}
use Rattle.arrow_body_reader.specs.Sound.{node_at, own_bytes}
use Rattle.arrow_body_reader.specs.Taken.{IfFlattened, flattened, own_buffers, taken_buffers, taken_nodes}
use Rattle.arrow_body_laws.specs.Raws.{AreRaws, AreSmall, raws_below}
use Rattle.arrow_body_laws.specs.Stored.{own_chunks, own_node, stored_chunks, stored_nodes}

-- the form of a field's own node
abbrev pub head_form : FieldHeader → Form
head_form h = node_form h.tag h.encoding

-- the raw values of the fields below a field with these raw values
abbrev pub inner_raws : FieldHeader → FieldTree → List PlainValue → List (List PlainValue)
inner_raws h c vs = raws_below (head_form h) c vs

-- without raw values nothing is stored
pub nodes_of_none : (c : FieldTree) → stored_nodes c [] ≡ []
nodes_of_none none = refl
nodes_of_none (more h c rest) = refl

pub chunks_of_none : (c : FieldTree) → stored_chunks c [] ≡ []
chunks_of_none none = refl
chunks_of_none (more h c rest) = refl

-- a node has as many buffers as its form needs
pub own_long : (form : Form) (vs : List PlainValue) → length (own_chunks form vs) ≡ buffers_of form
own_long forms.Nulls vs = refl
own_long forms.Bits vs = refl
own_long (forms.Numbers number) vs = refl
own_long (forms.Bytes w) vs = refl
own_long (forms.Texts w) vs = refl
own_long (forms.FixedBytes w) vs = refl
own_long (forms.Lists (lists.Offsets w)) vs = refl
own_long (forms.Lists (lists.Fixed size)) vs = refl
own_long forms.Structs vs = refl

-- below a field there are as many nodes as are taken there
nodes_inside : (tag : TypeId) (e : Option Encoding) (c : FieldTree) (vs : List PlainValue) → IfFlattened e (AreRaws c (raws_below (node_form tag e) c vs))
    → (AreRaws c (raws_below (node_form tag e) c vs) → length (stored_nodes c (raws_below (node_form tag e) c vs)) ≡ taken_nodes c)
    → length (stored_nodes c (raws_below (node_form tag e) c vs)) ≡ flattened e (taken_nodes c)
nodes_inside tag None c vs raws long = long raws
nodes_inside tag (Some e) c vs raws long = ap length (nodes_of_none c)

-- and as many buffers
chunks_inside : (tag : TypeId) (e : Option Encoding) (c : FieldTree) (vs : List PlainValue) → IfFlattened e (AreRaws c (raws_below (node_form tag e) c vs))
    → (AreRaws c (raws_below (node_form tag e) c vs) → length (stored_chunks c (raws_below (node_form tag e) c vs)) ≡ taken_buffers c)
    → length (stored_chunks c (raws_below (node_form tag e) c vs)) ≡ flattened e (taken_buffers c)
chunks_inside tag None c vs raws long = long raws
chunks_inside tag (Some e) c vs raws long = ap length (chunks_of_none c)

-- there are as many nodes as the fields take
pub nodes_long : (fields : FieldTree) (raws : List (List PlainValue)) → AreRaws fields raws → length (stored_nodes fields raws) ≡ taken_nodes fields
nodes_long none raws are = refl
nodes_long (more h c rest) [] are = absurd are
nodes_long (more h c rest) (vs ∷ raws) are =
    let kids = nodes_inside h.tag h.encoding c vs are.1 (λ below. nodes_long c (inner_raws h c vs) below) in
    omega (arith, kids, nodes_long rest raws are.2, length-append (stored_nodes c (inner_raws h c vs)) (stored_nodes rest raws))

-- and as many buffers
pub chunks_long : (fields : FieldTree) (raws : List (List PlainValue)) → AreRaws fields raws → length (stored_chunks fields raws) ≡ taken_buffers fields
chunks_long none raws are = refl
chunks_long (more h c rest) [] are = absurd are
chunks_long (more h c rest) (vs ∷ raws) are =
    let kids = chunks_inside h.tag h.encoding c vs are.1 (λ below. chunks_long c (inner_raws h c vs) below) in
    let inner = stored_chunks c (inner_raws h c vs) in
    omega (arith, kids, own_long (head_form h) vs, chunks_long rest raws are.2, length-append inner (stored_chunks rest raws), length-append (own_chunks (head_form h) vs) (inner ++ stored_chunks rest raws))

-- mapping a prefix is the prefix of the mapped list
pub map-take : {X Y : Type 0} (f : X → Y) (n : ℕ) (xs : List X) → map f (take n xs) ≡ take n (map f xs)
map-take f zero xs = refl
map-take f (suc n) [] = refl
map-take f (suc n) (x ∷ xs) = ap (λ ys. f x ∷ ys) (map-take f n xs)

pub map-drop : {X Y : Type 0} (f : X → Y) (n : ℕ) (xs : List X) → map f (drop n xs) ≡ drop n (map f xs)
map-drop f zero xs = refl
map-drop f (suc n) [] = refl
map-drop f (suc n) (x ∷ xs) = map-drop f n xs

-- From here on the nodes and the buffers are those of these raw values, followed by others.
pub record AreStored (body : List ℕ) (fields : FieldTree) (raws : List (List PlainValue)) (ns : List FieldNode) (bs : List Buffer) : Type 0 where
  pub raw : AreRaws fields raws
  pub small : AreSmall fields raws
  pub others : List FieldNode
  pub past : List (List ℕ)
  pub nodes : ns ≡ stored_nodes fields raws ++ others
  pub chunks : map (bytes_in body) bs ≡ stored_chunks fields raws ++ past
  pub held : AllByRecursion (IsHeld body) bs

-- the split of two appended lists, by the length of the first
take_seam : {A : Type 0} (xs ys : List A) (n : ℕ) → length xs ≡ n → take n (xs ++ ys) ≡ xs
take_seam xs ys n e = ap (λ n. take n (xs ++ ys)) (sym e) ∙ take-append_seam xs ys

drop_seam : {A : Type 0} (xs ys : List A) (n : ℕ) → length xs ≡ n → drop n (xs ++ ys) ≡ ys
drop_seam xs ys n e = ap (λ n. drop n (xs ++ ys)) (sym e) ∙ drop-append_seam xs ys

-- a property of all elements is one of all in a prefix
pub all_take : {X : Type 0} (P : X → Type 0) (n : ℕ) (xs : List X) → AllByRecursion P xs → AllByRecursion P (take n xs)
all_take P zero xs all = tt
all_take P (suc n) [] all = tt
all_take P (suc n) (x ∷ xs) all = (all.0, all_take P n xs all.1)

pub all_drop : {X : Type 0} (P : X → Type 0) (n : ℕ) (xs : List X) → AllByRecursion P xs → AllByRecursion P (drop n xs)
all_drop P zero xs all = all
all_drop P (suc n) [] all = tt
all_drop P (suc n) (x ∷ xs) all = all_drop P n xs all.1

-- the first field's own node
pub own_node_is : (body : List ℕ) (h : FieldHeader) (c rest : FieldTree) (vs : List PlainValue) (raws : List (List PlainValue)) (ns : List FieldNode) (bs : List Buffer) → AreStored body (more h c rest) (vs ∷ raws) ns bs → node_at ns ≡ own_node vs
own_node_is body h c rest vs raws ns bs s = ap node_at s.nodes

-- its own buffers
pub own_bytes_are : (body : List ℕ) (h : FieldHeader) (c rest : FieldTree) (vs : List PlainValue) (raws : List (List PlainValue)) (ns : List FieldNode) (bs : List Buffer) → AreStored body (more h c rest) (vs ∷ raws) ns bs → own_bytes body h bs ≡ own_chunks (head_form h) vs
own_bytes_are body h c rest vs raws ns bs s =
    let inner = stored_chunks c (inner_raws h c vs) ++ stored_chunks rest raws in
    map-take (bytes_in body) (own_buffers h) bs
    ∙ ap (take (own_buffers h)) (s.chunks ∙ append_assoc (own_chunks (head_form h) vs) inner s.past)
    ∙ take_seam (own_chunks (head_form h) vs) (inner ++ s.past) (own_buffers h) (own_long (head_form h) vs)

-- the nodes and buffers after its own
pub stored_after : (body : List ℕ) (h : FieldHeader) (c rest : FieldTree) (vs : List PlainValue) (raws : List (List PlainValue)) (ns : List FieldNode) (bs : List Buffer) → (s : AreStored body (more h c rest) (vs ∷ raws) ns bs)
    → (drop 1 ns ≡ stored_nodes c (inner_raws h c vs) ++ (stored_nodes rest raws ++ s.others))
    × (map (bytes_in body) (drop (own_buffers h) bs) ≡ stored_chunks c (inner_raws h c vs) ++ (stored_chunks rest raws ++ s.past))
stored_after body h c rest vs raws ns bs s =
    let kids = stored_nodes c (inner_raws h c vs) in
    let inner = stored_chunks c (inner_raws h c vs) in
    let own = own_chunks (head_form h) vs in (
      ap (drop 1) s.nodes ∙ append_assoc kids (stored_nodes rest raws) s.others,
      map-drop (bytes_in body) (own_buffers h) bs
          ∙ ap (drop (own_buffers h)) (s.chunks ∙ append_assoc own (inner ++ stored_chunks rest raws) s.past)
          ∙ drop_seam own ((inner ++ stored_chunks rest raws) ++ s.past) (own_buffers h) (own_long (head_form h) vs)
          ∙ append_assoc inner (stored_chunks rest raws) s.past,
    )

-- a condition below a field without an encoding, used and proved
pub if_all : (e : Option Encoding) (P : Type 0) → IfFlattened e P → e ≡ None → P
if_all None P p h = p
if_all (Some e) P p h = cc

pub if_made : (e : Option Encoding) (P : Type 0) → (e ≡ None → P) → IfFlattened e P
if_made None P p = p refl
if_made (Some e) P p = tt

-- the nodes and buffers below a field that is not dictionary-encoded
pub stored_inside : (body : List ℕ) (h : FieldHeader) (c rest : FieldTree) (vs : List PlainValue) (raws : List (List PlainValue)) (ns : List FieldNode) (bs : List Buffer) → AreStored body (more h c rest) (vs ∷ raws) ns bs
    → h.encoding ≡ None → AreStored body c (inner_raws h c vs) (drop 1 ns) (drop (own_buffers h) bs)
stored_inside body h c rest vs raws ns bs s plain =
    let after = stored_after body h c rest vs raws ns bs s in
    record {
      raw = if_all h.encoding (AreRaws c (inner_raws h c vs)) s.raw.1 plain;
      small = s.small.1;
      others = stored_nodes rest raws ++ s.others;
      past = stored_chunks rest raws ++ s.past;
      nodes = after.0;
      chunks = after.1;
      held = all_drop (IsHeld body) (own_buffers h) bs s.held;
    }

-- the nodes and buffers after a field
pub stored_next : (body : List ℕ) (h : FieldHeader) (c rest : FieldTree) (vs : List PlainValue) (raws : List (List PlainValue)) (ns : List FieldNode) (bs : List Buffer) → AreStored body (more h c rest) (vs ∷ raws) ns bs
    → AreStored body rest raws (drop (1 + flattened h.encoding (taken_nodes c)) ns) (drop (own_buffers h + flattened h.encoding (taken_buffers c)) bs)
stored_next body h c rest vs raws ns bs s =
    let kids = stored_nodes c (inner_raws h c vs) in
    let inner = stored_chunks c (inner_raws h c vs) in
    let first = own_chunks (head_form h) vs in
    let few = nodes_inside h.tag h.encoding c vs s.raw.1 (λ below. nodes_long c (inner_raws h c vs) below) in
    let few_buffers = chunks_inside h.tag h.encoding c vs s.raw.1 (λ below. chunks_long c (inner_raws h c vs) below) in
    let nodes_here : ns ≡ (own_node vs ∷ kids) ++ (stored_nodes rest raws ++ s.others) = s.nodes ∙ ap (λ xs. own_node vs ∷ xs) (append_assoc kids (stored_nodes rest raws) s.others) in
    let chunks_here : map (bytes_in body) bs ≡ (first ++ inner) ++ (stored_chunks rest raws ++ s.past) =
    s.chunks ∙ append_assoc first (inner ++ stored_chunks rest raws) s.past ∙ ap (λ xs. first ++ xs) (append_assoc inner (stored_chunks rest raws) s.past) ∙ sym (append_assoc first inner (stored_chunks rest raws ++ s.past)) in
    let long : length (first ++ inner) ≡ own_buffers h + flattened h.encoding (taken_buffers c) = omega (arith, length-append first inner, own_long (head_form h) vs, few_buffers) in
    let many : length (own_node vs ∷ kids) ≡ 1 + flattened h.encoding (taken_nodes c) = omega (arith, few) in
    record {
      raw = s.raw.2;
      small = s.small.2;
      others = s.others;
      past = s.past;
      nodes = ap (drop (1 + flattened h.encoding (taken_nodes c))) nodes_here ∙ drop_seam (own_node vs ∷ kids) (stored_nodes rest raws ++ s.others) (1 + flattened h.encoding (taken_nodes c)) many;
      chunks = map-drop (bytes_in body) (own_buffers h + flattened h.encoding (taken_buffers c)) bs
          ∙ ap (drop (own_buffers h + flattened h.encoding (taken_buffers c))) chunks_here
          ∙ drop_seam (first ++ inner) (stored_chunks rest raws ++ s.past) (own_buffers h + flattened h.encoding (taken_buffers c)) long;
      held = all_drop (IsHeld body) (own_buffers h + flattened h.encoding (taken_buffers c)) bs s.held;
    }
