-- Names and nullability are not stored.
use Rattle.std.proofs.Common.{◌≡◌, List, [], ◌∷◌, ◌++◌, refl}
use Rattle.std.specs.List.{flat_map}
use Rattle.arrow_types.specs.Field.{FieldTree, none, more}
use Rattle.arrow_data.specs.Column.{AreOf, Column}
use Rattle.arrow_layout.specs.Form.{node_form}
use Rattle.arrow_layout.specs.PlainValue.{PlainValue}
use Rattle.arrow_body_laws.specs.Laws.{NamesAreNotStored}
use Rattle.arrow_body_laws.specs.Raws.{raws_below}
use Rattle.arrow_body_laws.specs.Stored.{fields_of_columns, own_chunks, own_node, padded, places_from, stored_chunks, stored_nodes}

-- the columns of the fields are stored as the fields are: their nodes
same_nodes : (fields : FieldTree) (cs : List Column) (raws : List (List PlainValue)) → AreOf fields cs → stored_nodes (fields_of_columns cs) raws ≡ stored_nodes fields raws
same_nodes none [] raws are = refl
same_nodes none (d ∷ cs) raws are = absurd are
same_nodes (more h c rest) [] raws are = absurd are
same_nodes (more h c rest) (d ∷ cs) [] are = refl
same_nodes (more h c rest) (d ∷ cs) (vs ∷ raws) are = λ i.
    own_node vs ∷ (stored_nodes (are.0 i).children (raws_below (node_form (are.0 i).tag (are.1 i)) (are.0 i).children vs) ++ same_nodes rest cs raws are.2 i)

-- and their buffers
same_chunks : (fields : FieldTree) (cs : List Column) (raws : List (List PlainValue)) → AreOf fields cs → stored_chunks (fields_of_columns cs) raws ≡ stored_chunks fields raws
same_chunks none [] raws are = refl
same_chunks none (d ∷ cs) raws are = absurd are
same_chunks (more h c rest) [] raws are = absurd are
same_chunks (more h c rest) (d ∷ cs) [] are = refl
same_chunks (more h c rest) (d ∷ cs) (vs ∷ raws) are = λ i.
    own_chunks (node_form (are.0 i).tag (are.1 i)) vs
    ++ (stored_chunks (are.0 i).children (raws_below (node_form (are.0 i).tag (are.1 i)) (are.0 i).children vs) ++ same_chunks rest cs raws are.2 i)

-- so the same body is stored
pub same_body : NamesAreNotStored
same_body = λ align fields cs raws are.
    let chunks = same_chunks fields cs raws are in
    λ i. record { nodes = same_nodes fields cs raws are i; buffers = places_from align 0 (chunks i); bytes = flat_map (padded align) (chunks i) }
