-- What is stored for fields, level by level.
use Rattle.std.proofs.Common.{◌≡◌, List, [], ◌∷◌, ◌++◌, refl}
use Rattle.arrow_types.specs.Field.{FieldTree, none, more}
use Rattle.arrow_layout.specs.Form.{node_form}
use Rattle.arrow_layout.specs.PlainValue.{PlainValue}
use Rattle.arrow_layout.specs.declared.form.Form.{Form}
use Rattle.arrow_body_laws.specs.Raws.{raws_below}
use Rattle.arrow_body_laws.specs.Size.{own_sizes, sizes_of}
use Rattle.arrow_body_laws.specs.Stored.{own_chunks, own_node, stored_chunks, stored_nodes}

-- what each node gives, in pre-order
abbrev pub by_level : {A : Type 0} → (Form → List PlainValue → List A) → FieldTree → List (List PlainValue) → List A
by_level g none raws = []
by_level g (more h c rest) [] = []
by_level g (more h c rest) (vs ∷ raws) = g (node_form h.tag h.encoding) vs ++ (by_level g c (raws_below (node_form h.tag h.encoding) c vs) ++ by_level g rest raws)

-- columns without values give nothing
pub none_by_level : {A : Type 0} (g : Form → List PlainValue → List A) (fields : FieldTree) → by_level g fields [] ≡ []
none_by_level g none = refl
none_by_level g (more h c rest) = refl

-- the stored chunks, nodes and sizes are built this way
pub chunks_by_level : (fields : FieldTree) (raws : List (List PlainValue)) → stored_chunks fields raws ≡ by_level own_chunks fields raws
chunks_by_level none raws = refl
chunks_by_level (more h c rest) [] = refl
chunks_by_level (more h c rest) (vs ∷ raws) =
    λ i. own_chunks (node_form h.tag h.encoding) vs ++ (chunks_by_level c (raws_below (node_form h.tag h.encoding) c vs) i ++ chunks_by_level rest raws i)

pub nodes_by_level : (fields : FieldTree) (raws : List (List PlainValue)) → stored_nodes fields raws ≡ by_level (λ form vs. own_node vs ∷ []) fields raws
nodes_by_level none raws = refl
nodes_by_level (more h c rest) [] = refl
nodes_by_level (more h c rest) (vs ∷ raws) = λ i. own_node vs ∷ (nodes_by_level c (raws_below (node_form h.tag h.encoding) c vs) i ++ nodes_by_level rest raws i)

pub sizes_by_level : (fields : FieldTree) (raws : List (List PlainValue)) → sizes_of fields raws ≡ by_level own_sizes fields raws
sizes_by_level none raws = refl
sizes_by_level (more h c rest) [] = refl
sizes_by_level (more h c rest) (vs ∷ raws) =
    λ i. own_sizes (node_form h.tag h.encoding) vs ++ (sizes_by_level c (raws_below (node_form h.tag h.encoding) c vs) i ++ sizes_by_level rest raws i)
