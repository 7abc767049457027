-- Children that are sent unsliced, and what is stored of them.
use Rattle.std.proofs.Common.{◌≡◌, ◌<◌, ℕ, zero, suc, ◌+◌, List, [], ◌∷◌, ◌++◌, length, map, refl, sym, ap, ◌∙◌, subst, arith, append-nil, Option, None, Some}
use Rattle.std.specs.Prelude.{slice_get}
use Rattle.std.specs.List.{AllByRecursion, flat_map, range_with_len, sum_by}
use Rattle.std.proofs.lemmas.List.Sums.{sum_by-append}
use Rattle.arrow_types.specs.DataType.{TypeId}
use Rattle.arrow_types.specs.Field.{FieldTree, none, more, width, TypeShape}
use Rattle.arrow_types.specs.declared.field.Encoding.{Encoding}
use Rattle.arrow_data.specs.Column.{AreOf, Column, HasChild, HasFields, IsList, values_from}
use Rattle.arrow_layout.specs.Form.{HasFieldsOf, IsLeaf, form_of, node_form}
use Rattle.arrow_data.specs.FullSlots.{AreFull}
use Rattle.arrow_layout.specs.PlainValue.{PlainValue, field_value}
use Rattle.arrow_data.specs.Same.{parts_measure, slot_measure}
use Rattle.arrow_layout.specs.declared.form.Form.{Form}
use Rattle.arrow_layout.specs.declared.form.Form.TheVariants as forms
use Rattle.arrow_data.proofs.Sameness.{parts_smaller}
use Rattle.arrow_body_reader.specs.Taken.{IfFlattened, below, flattened, taken_nodes}
use Rattle.arrow_body_laws.specs.Laws.{raws_of}
use Rattle.arrow_body_laws.specs.Raws.{AreRaws, AreSmall, IsOwn, IsSmall, items_in_value, nulls_under, raws_below}
use Rattle.arrow_body_laws.specs.Size.{own_sizes}
use Rattle.arrow_body_laws.specs.Stored.{fields_of_columns, own_chunks, own_node, rounded, stored_chunks, stored_nodes}
use Rattle.arrow_body_writer.proofs.Chunks.{stores_more}
use Rattle.arrow_body_writer.proofs.Levels.{by_level, chunks_by_level, nodes_by_level, none_by_level, sizes_by_level}
use Rattle.arrow_body_writer.proofs.Children.{as_many}
use Rattle.arrow_body_slots.proofs.Ranges.{all_from}
use Rattle.arrow_body_writer.proofs.Runs.{fields_are}
use Rattle.arrow_body_writer.proofs.Sending.{lists_of, plain_list, plain_struct}
use Rattle.arrow_body_slots.specs.Runs.{HasNoRun, HasRun}
use Rattle.arrow_body_writer.specs.Sent.{nodes_of_column}
use Rattle.arrow_body_writer.specs.Storable.{AreRepresentable, columns_size}
use Rattle.arrow_body_writer.specs.Storing.{Stores}
use Rattle.arrow_body_slots.specs.Tally.{capped}
use Rattle.arrow_body_writer.specs.Whole.{AreSentWhole}
use Rattle.arrow_body_writer.specs.declared.body.Body.{Body}

-- the column at an index is as long as all are
long_at : (n : ℕ) (cs : List Column) (k : ℕ) (c : Column) → AllByRecursion (λ (d : Column). length d.raw ≡ n) cs → slice_get cs k ≡ Some c → length c.raw ≡ n
long_at n [] k c long is = cc
long_at n (d ∷ cs) zero c long is = let same : d ≡ c = cc in subst (λ (x : Column). length x.raw ≡ n) same long.0
long_at n (d ∷ cs) (suc k) c long is = long_at n cs k c long.1 is

-- a property of each column by its index holds of all columns
raws_by_place : (f : ℕ → List PlainValue) (cs : List Column) (a w : ℕ) → w ≡ length cs → ((k : ℕ) (c : Column) → slice_get cs k ≡ Some c → f (a + k) ≡ c.raw) → map f (range_with_len a w) ≡ raws_of cs
raws_by_place f [] a zero many each = refl
raws_by_place f [] a (suc w) many each = absurd (omega (arith, many))
raws_by_place f (c ∷ cs) a zero many each = absurd (omega (arith, many))
raws_by_place f (c ∷ cs) a (suc w) many each =
    let start : a ≡ a + 0 = omega arith in
    let first = ap f start ∙ each 0 c refl in
    let others = raws_by_place f cs (a + 1) w (omega (arith, many)) (λ k d is. let next : a + 1 + k ≡ a + suc k = omega arith in ap f next ∙ each (suc k) d is) in
    λ i. first i ∷ others i

-- without an encoding the children are those of all child fields
typed_below : (c : Column) (children : List Column) → c.encoding ≡ None → AreOf c.data_type.children children → AreOf (below c.encoding c.data_type.children) children
typed_below c children plain typed = subst (λ e. AreOf (below e c.data_type.children) children) (sym plain) typed

-- structs without nulls send their children unsliced, if these have no more slots than there are structs
pub fields_whole : (c : Column) (children : List Column) (slots : ℕ) → HasFields c children → AreFull c 0 (length c.raw) → slots ≡ length c.raw → AllByRecursion (λ (d : Column). length d.raw ≡ slots) children → AreSentWhole c children
fields_whole c children slots fields full all long =
    let values : (k : ℕ) (d : Column) → slice_get children k ≡ Some d → map (field_value (0 + k)) c.raw ≡ d.raw = λ k d is.
    let place : 0 + k ≡ k = omega arith in
    let own : length c.raw ≡ length d.raw = sym all ∙ sym (long_at slots children k d long is) in
    ap (λ n. map (field_value n) c.raw) place ∙ ap (map (field_value k)) (sym (all_from c.raw (length c.raw) refl))
    ∙ fields_are c d 0 (length c.raw) k (fields.each k d is) (omega arith) (omega arith) full ∙ all_from d.raw (length c.raw) own in
    record {
      typed = typed_below c children (plain_struct c.data_type.tag c.encoding fields.is_struct) fields.typed;
      same = ap (λ f. raws_below f c.data_type.children c.raw) fields.is_struct
          ∙ raws_by_place (λ k. map (field_value k) c.raw) children 0 (width c.data_type.children) (as_many c.data_type.children children fields.typed) values;
    }

-- lists send their child unsliced if their items are all its slots
items_whole : (c child : Column) → IsList c → AreOf c.data_type.children (child ∷ []) → ((n : ℕ) → flat_map (items_in_value n) (values_from c.raw 0 (length c.raw)) ≡ child.raw) → AreSentWhole c (child ∷ [])
items_whole c child lists typed items =
    let form = lists_of (node_form c.data_type.tag c.encoding) lists in
    record {
      typed = typed_below c (child ∷ []) (plain_list c.data_type.tag c.encoding lists) typed;
      same = ap (λ f. raws_below f c.data_type.children c.raw) form.1
          ∙ ap (λ vs. vs ∷ []) (ap (flat_map (items_in_value (nulls_under form.0))) (sym (all_from c.raw (length c.raw) refl)) ∙ items (nulls_under form.0));
    }

pub run_whole : (c child : Column) (slots first last : ℕ) → IsList c → HasRun c 0 slots first last child → slots ≡ length c.raw → first ≡ 0 → last ≡ length child.raw → AreSentWhole c (child ∷ [])
run_whole c child slots first last lists run all begins ends =
    items_whole c child lists run.typed (λ nulls. ap (λ n. flat_map (items_in_value nulls) (values_from c.raw 0 n)) (sym all) ∙ run.same nulls ∙ ap (λ n. values_from child.raw n last) begins ∙ all_from child.raw last ends)

-- also if there are no slots
no_vs : (vs : List PlainValue) → length vs ≡ 0 → [] ≡ vs
no_vs [] empty = refl
no_vs (v ∷ vs) empty = absurd (omega (arith, empty))

pub none_whole : (c child : Column) (slots : ℕ) → HasChild c child → HasNoRun c 0 slots → slots ≡ length c.raw → length child.raw ≡ 0 → AreSentWhole c (child ∷ [])
none_whole c child slots has items all empty =
    items_whole c child has.is_list has.typed (λ nulls. ap (λ n. flat_map (items_in_value nulls) (values_from c.raw 0 n)) (sym all) ∙ items.none_of_lists has.is_list nulls ∙ no_vs child.raw empty)

-- a leaf has no field below it, and nothing is sent
leaf_fields : (form : Form) (fields : FieldTree) → IsLeaf form → HasFieldsOf form fields → fields ≡ none
leaf_fields forms.Nulls fields leaf has = has
leaf_fields forms.Bits fields leaf has = has
leaf_fields (forms.Numbers number) fields leaf has = has
leaf_fields (forms.Bytes w) fields leaf has = has
leaf_fields (forms.Texts w) fields leaf has = has
leaf_fields (forms.FixedBytes w) fields leaf has = has
leaf_fields (forms.Lists list) fields leaf has = absurd leaf
leaf_fields forms.Structs fields leaf has = absurd leaf

leaf_raws : (form : Form) (fields : FieldTree) (vs : List PlainValue) → IsLeaf form → raws_below form fields vs ≡ []
leaf_raws forms.Nulls fields vs leaf = refl
leaf_raws forms.Bits fields vs leaf = refl
leaf_raws (forms.Numbers number) fields vs leaf = refl
leaf_raws (forms.Bytes w) fields vs leaf = refl
leaf_raws (forms.Texts w) fields vs leaf = refl
leaf_raws (forms.FixedBytes w) fields vs leaf = refl
leaf_raws (forms.Lists list) fields vs leaf = absurd leaf
leaf_raws forms.Structs fields vs leaf = absurd leaf

-- a column of a leaf type without an encoding sends no child
pub leaf_whole : (c : Column) (form : Form) → c.encoding ≡ None → form ≡ form_of c.data_type.tag → HasFieldsOf form c.data_type.children → IsLeaf form → AreSentWhole c []
leaf_whole c form plain is has leaf =
    let own : node_form c.data_type.tag c.encoding ≡ form = ap (node_form c.data_type.tag) plain ∙ sym is in
    record {
      typed = typed_below c [] plain (subst (λ fields. AreOf fields []) (sym (leaf_fields form c.data_type.children leaf has)) tt);
      same = ap (λ f. raws_below f c.data_type.children c.raw) own ∙ leaf_raws form c.data_type.children c.raw leaf;
    }

-- neither does a column of indices
pub encoded_whole : (c : Column) (e : Encoding) → c.encoding ≡ Some e → AreSentWhole c []
encoded_whole c e is = record {
  typed = subst (λ o. AreOf (below o c.data_type.children) []) (sym is) tt;
  same = ap (λ o. raws_below (node_form c.data_type.tag o) c.data_type.children c.raw) is;
}

-- names and nullability are ignored: each node of the columns gives what the node of the corresponding field gives
level_typed : {A : Type 0} (g : Form → List PlainValue → List A) (fields : FieldTree) (cs : List Column) (raws : List (List PlainValue)) → AreOf fields cs → by_level g (fields_of_columns cs) raws ≡ by_level g fields raws
level_typed g none [] raws are = refl
level_typed g none (d ∷ cs) raws are = absurd are
level_typed g (more h c rest) [] raws are = absurd are
level_typed g (more h c rest) (d ∷ cs) [] are = refl
level_typed g (more h c rest) (d ∷ cs) (vs ∷ raws) are = λ i.
    g (node_form (are.0 i).tag (are.1 i)) vs ++ (by_level g (are.0 i).children (raws_below (node_form (are.0 i).tag (are.1 i)) (are.0 i).children vs) ++ level_typed g rest cs raws are.2 i)

-- what the nodes below a column give: those of the children
level_below : {A : Type 0} (g : Form → List PlainValue → List A) (tag : TypeId) (e : Option Encoding) (fields : FieldTree) (vs : List PlainValue) (children : List Column)
    → AreOf (below e fields) children → raws_below (node_form tag e) fields vs ≡ raws_of children
    → by_level g fields (raws_below (node_form tag e) fields vs) ≡ by_level g (fields_of_columns children) (raws_of children)
level_below g tag None fields vs children typed same = ap (by_level g fields) same ∙ sym (level_typed g fields children (raws_of children) typed)
level_below g tag (Some e) fields vs [] typed same = none_by_level g fields
level_below g tag (Some e) fields vs (d ∷ cs) typed same = absurd typed

-- what the column's own node gives, and then those of the children
whole_level : {A : Type 0} (g : Form → List PlainValue → List A) (c : Column) (children : List Column) → AreSentWhole c children
    → by_level g (fields_of_columns (c ∷ [])) (raws_of (c ∷ [])) ≡ g (node_form c.data_type.tag c.encoding) c.raw ++ by_level g (fields_of_columns children) (raws_of children)
whole_level g c children whole =
    let own = g (node_form c.data_type.tag c.encoding) c.raw in
    let lower = by_level g c.data_type.children (raws_below (node_form c.data_type.tag c.encoding) c.data_type.children c.raw) in
    ap (λ b. own ++ b) (append-nil lower)
    ∙ ap (λ b. own ++ b) (level_below g c.data_type.tag c.encoding c.data_type.children c.raw children whole.typed whole.same)

pub whole_nodes : (c : Column) (children : List Column) → AreSentWhole c children
    → stored_nodes (fields_of_columns (c ∷ [])) (raws_of (c ∷ [])) ≡ (own_node c.raw ∷ []) ++ stored_nodes (fields_of_columns children) (raws_of children)
whole_nodes c children whole =
    nodes_by_level (fields_of_columns (c ∷ [])) (raws_of (c ∷ [])) ∙ whole_level (λ form vs. own_node vs ∷ []) c children whole
    ∙ ap (λ b. (own_node c.raw ∷ []) ++ b) (sym (nodes_by_level (fields_of_columns children) (raws_of children)))

pub whole_chunks : (c : Column) (children : List Column) → AreSentWhole c children
    → stored_chunks (fields_of_columns (c ∷ [])) (raws_of (c ∷ [])) ≡ own_chunks (node_form c.data_type.tag c.encoding) c.raw ++ stored_chunks (fields_of_columns children) (raws_of children)
whole_chunks c children whole =
    chunks_by_level (fields_of_columns (c ∷ [])) (raws_of (c ∷ [])) ∙ whole_level own_chunks c children whole
    ∙ ap (λ b. own_chunks (node_form c.data_type.tag c.encoding) c.raw ++ b) (sym (chunks_by_level (fields_of_columns children) (raws_of children)))

pub whole_size : (align : ℕ) (c : Column) (children : List Column) → AreSentWhole c children
    → columns_size align (c ∷ []) ≡ sum_by (rounded align) (own_sizes (node_form c.data_type.tag c.encoding) c.raw) + columns_size align children
whole_size align c children whole =
    let own = own_sizes (node_form c.data_type.tag c.encoding) c.raw in
    ap (sum_by (rounded align)) (sizes_by_level (fields_of_columns (c ∷ [])) (raws_of (c ∷ [])) ∙ whole_level own_sizes c children whole)
    ∙ sum_by-append (rounded align) own (by_level own_sizes (fields_of_columns children) (raws_of children))
    ∙ ap (λ xs. sum_by (rounded align) own + sum_by (rounded align) xs) (sym (sizes_by_level (fields_of_columns children) (raws_of children)))

-- raw values that a field may hold, on every level
abbrev pub HoldsRaws : List PlainValue → TypeShape → Option Encoding → Type 0
HoldsRaws vs t e = AllByRecursion (IsOwn (node_form t.tag e) t.children) vs × IfFlattened e (AreRaws t.children (raws_below (node_form t.tag e) t.children vs))

-- a property of a field's type and encoding holds of its column's
of_column : (P : TypeShape → Option Encoding → Type 0) (t u : TypeShape) (e f : Option Encoding) → t ≡ u → e ≡ f → P u f → P t e
of_column P t u e f type encoding holds = subst (λ x. P x e) (sym type) (subst (λ x. P u x) (sym encoding) holds)

raws_typed : (fields : FieldTree) (cs : List Column) (raws : List (List PlainValue)) → AreOf fields cs → AreRaws fields raws → AreRaws (fields_of_columns cs) raws
raws_typed none [] raws are all = all
raws_typed none (d ∷ cs) raws are all = absurd are
raws_typed (more h c rest) [] raws are all = absurd are
raws_typed (more h c rest) (d ∷ cs) [] are all = absurd all
raws_typed (more h c rest) (d ∷ cs) (vs ∷ raws) are all =
    let own = of_column (HoldsRaws vs) d.data_type (record { tag = h.tag; children = c }) d.encoding h.encoding are.0 are.1 (all.0, all.1) in
    (own.0, own.1, raws_typed rest cs raws are.2 all.2)

raws_under : (tag : TypeId) (e : Option Encoding) (fields : FieldTree) (vs : List PlainValue) (children : List Column) → AreOf (below e fields) children → raws_below (node_form tag e) fields vs ≡ raws_of children
    → IfFlattened e (AreRaws fields (raws_below (node_form tag e) fields vs)) → AreRaws (fields_of_columns children) (raws_of children)
raws_under tag None fields vs children typed same are = raws_typed fields children (raws_of children) typed (subst (AreRaws fields) same are)
raws_under tag (Some e) fields vs [] typed same are = tt
raws_under tag (Some e) fields vs (d ∷ cs) typed same are = absurd typed

-- so may those of the children
pub whole_raws : (c : Column) (children : List Column) → AreSentWhole c children → AreRaws (fields_of_columns (c ∷ [])) (raws_of (c ∷ [])) → AreRaws (fields_of_columns children) (raws_of children)
whole_raws c children whole are = raws_under c.data_type.tag c.encoding c.data_type.children c.raw children whole.typed whole.same are.1

-- the nodes of a field that are representable
abbrev pub SmallBelow : List PlainValue → TypeShape → Option Encoding → Type 0
SmallBelow vs t e = IsSmall (node_form t.tag e) vs × AreSmall t.children (raws_below (node_form t.tag e) t.children vs)

small_typed : (fields : FieldTree) (cs : List Column) (raws : List (List PlainValue)) → AreOf fields cs → AreSmall fields raws → AreSmall (fields_of_columns cs) raws
small_typed none [] raws are all = tt
small_typed none (d ∷ cs) raws are all = absurd are
small_typed (more h c rest) [] raws are all = absurd are
small_typed (more h c rest) (d ∷ cs) [] are all = tt
small_typed (more h c rest) (d ∷ cs) (vs ∷ raws) are all =
    let own = of_column (SmallBelow vs) d.data_type (record { tag = h.tag; children = c }) d.encoding h.encoding are.0 are.1 (all.0, all.1) in
    (own.0, own.1, small_typed rest cs raws are.2 all.2)

small_named : (fields : FieldTree) (cs : List Column) (raws : List (List PlainValue)) → AreOf fields cs → AreSmall (fields_of_columns cs) raws → AreSmall fields raws
small_named none [] raws are all = tt
small_named none (d ∷ cs) raws are all = absurd are
small_named (more h c rest) [] raws are all = absurd are
small_named (more h c rest) (d ∷ cs) [] are all = tt
small_named (more h c rest) (d ∷ cs) (vs ∷ raws) are all =
    let own = of_column (SmallBelow vs) (record { tag = h.tag; children = c }) d.data_type h.encoding d.encoding (sym are.0) (sym are.1) (all.0, all.1) in
    (own.0, own.1, small_named rest cs raws are.2 all.2)

-- no child has more nodes than the column
fewer : (fields : FieldTree) (cs : List Column) (n : ℕ) → AreOf fields cs → taken_nodes fields < n → AllByRecursion (λ (c : Column). nodes_of_column c < n) cs
fewer none [] n are less = tt
fewer none (d ∷ cs) n are less = absurd are
fewer (more h c rest) [] n are less = absurd are
fewer (more h c rest) (d ∷ cs) n are less =
    let same : flattened d.encoding (taken_nodes d.data_type.children) ≡ flattened h.encoding (taken_nodes c) = λ i. flattened (are.1 i) (taken_nodes (are.0 i).children) in
    (omega (arith, less, same), fewer rest cs n are.2 (omega (arith, less)))

taken_below : (e : Option Encoding) (fields : FieldTree) → taken_nodes (below e fields) ≡ flattened e (taken_nodes fields)
taken_below None fields = refl
taken_below (Some e) fields = refl

pub whole_counted : (c : Column) (children : List Column) (n : ℕ) → AreSentWhole c children → nodes_of_column c < n → AllByRecursion (λ (d : Column). nodes_of_column d < n) children
whole_counted c children n whole less =
    fewer (below c.encoding c.data_type.children) children n whole.typed (omega (arith, less, taken_below c.encoding c.data_type.children))

-- without values all nodes are small
none_small : (fields : FieldTree) → AreSmall fields []
none_small none = tt
none_small (more h c rest) = tt

small_under : (tag : TypeId) (e : Option Encoding) (fields : FieldTree) (vs : List PlainValue) (children : List Column) → AreOf (below e fields) children → raws_below (node_form tag e) fields vs ≡ raws_of children
    → AreSmall fields (raws_below (node_form tag e) fields vs) → AreSmall (fields_of_columns children) (raws_of children)
small_under tag None fields vs children typed same small = small_typed fields children (raws_of children) typed (subst (AreSmall fields) same small)
small_under tag (Some e) fields vs [] typed same small = tt
small_under tag (Some e) fields vs (d ∷ cs) typed same small = absurd typed

small_over : (tag : TypeId) (e : Option Encoding) (fields : FieldTree) (vs : List PlainValue) (children : List Column) → AreOf (below e fields) children → raws_below (node_form tag e) fields vs ≡ raws_of children
    → AreSmall (fields_of_columns children) (raws_of children) → AreSmall fields (raws_below (node_form tag e) fields vs)
small_over tag None fields vs children typed same small = subst (AreSmall fields) (sym same) (small_named fields children (raws_of children) typed small)
small_over tag (Some e) fields vs children typed same small = none_small fields

-- the column is representable exactly if its own node and its children are
pub whole_represented : (c : Column) (children : List Column) → AreSentWhole c children → AreRepresentable (c ∷ []) → AreRepresentable children
whole_represented c children whole represented = record {
  counted = whole_counted c children 18446744073709551615 whole represented.counted.0;
  small = small_under c.data_type.tag c.encoding c.data_type.children c.raw children whole.typed whole.same represented.small.1;
}

pub represented_whole : (c : Column) (children : List Column) → AreSentWhole c children → nodes_of_column c < 18446744073709551615 → IsSmall (node_form c.data_type.tag c.encoding) c.raw → AreRepresentable children → AreRepresentable (c ∷ [])
represented_whole c children whole counted own represented = record {
  counted = (counted, tt);
  small = (own, small_over c.data_type.tag c.encoding c.data_type.children c.raw children whole.typed whole.same represented.small, tt);
}

-- so its size is the sum of the size of its own node and the size of its children
pub sized_whole : (align : ℕ) (c : Column) (children : List Column) (own below all : ℕ) → AreSentWhole c children → nodes_of_column c < 18446744073709551615 → IsSmall (node_form c.data_type.tag c.encoding) c.raw
    → own ≡ sum_by (rounded align) (own_sizes (node_form c.data_type.tag c.encoding) c.raw) → AreRepresentable children → below ≡ capped (columns_size align children) → all ≡ capped (own + below)
    → AreRepresentable (c ∷ []) × (all ≡ capped (columns_size align (c ∷ [])))
sized_whole align c children own below all whole counted small is represented size sum =
    (represented_whole c children whole counted small represented, omega (arith, sum, is, size, whole_size align c children whole))

-- the column is stored when its own node is stored, followed by its children
pub stores_whole : (align : ℕ) (c : Column) (children : List Column) (a b z : Body) → 0 < align → AreSentWhole c children
    → Stores align (own_node c.raw ∷ []) (own_chunks (node_form c.data_type.tag c.encoding) c.raw) a b
    → Stores align (stored_nodes (fields_of_columns children) (raws_of children)) (stored_chunks (fields_of_columns children) (raws_of children)) b z
    → Stores align (stored_nodes (fields_of_columns (c ∷ [])) (raws_of (c ∷ []))) (stored_chunks (fields_of_columns (c ∷ [])) (raws_of (c ∷ []))) a z
stores_whole align c children a b z some whole own others =
    let nodes = stored_nodes (fields_of_columns children) (raws_of children) in
    let chunks = stored_chunks (fields_of_columns children) (raws_of children) in
    let both = stores_more align (own_node c.raw ∷ []) nodes (own_chunks (node_form c.data_type.tag c.encoding) c.raw) chunks a b z some own others in
    subst (λ ns. Stores align ns (stored_chunks (fields_of_columns (c ∷ [])) (raws_of (c ∷ []))) a z) (sym (whole_nodes c children whole))
    (subst (λ xs. Stores align ((own_node c.raw ∷ []) ++ nodes) xs a z) (sym (whole_chunks c children whole)) both)

-- and each child is smaller than the column
pub whole_smaller : (c : Column) (children : List Column) → AreSentWhole c children → parts_measure children < slot_measure c
whole_smaller c children whole = of_encoding c.encoding refl children whole.typed
  where
    of_encoding : (e : Option Encoding) → c.encoding ≡ e → (cs : List Column) → AreOf (below e c.data_type.children) cs → parts_measure cs < slot_measure c
    of_encoding None is cs typed = parts_smaller c cs typed
    of_encoding (Some e) is [] typed = omega arith
    of_encoding (Some e) is (d ∷ cs) typed = absurd typed
