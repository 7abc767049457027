-- What slots send along steps, and the columns that are sent below a column's own node.
use Rattle.std.proofs.Common.{◌≡◌, ◌<◌, ℕ, zero, suc, ◌+◌, List, [], ◌∷◌, ◌++◌, length, map, refl, sym, ap, ◌∙◌, subst, arith, Option, None, Some}
use Rattle.std.specs.Prelude.{slice_get}
use Rattle.std.specs.List.{flat_map, range_with_len}
use Rattle.std.proofs.lemmas.Grind.{flat_map-append}
use Rattle.std.proofs.lemmas.List.{map-append}
use Rattle.arrow_types.specs.DataType.{TypeId}
use Rattle.arrow_types.specs.Field.{FieldTree, none, more, width, TypeShape}
use Rattle.arrow_types.specs.declared.field.Encoding.{Encoding}
use Rattle.arrow_data.specs.Column.{AreOf, Column, IsList, IsStruct, type_of_field}
use Rattle.arrow_layout.specs.Form.{IsLists, node_form}
use Rattle.arrow_layout.specs.PlainValue.{PlainValue, field_value}
use Rattle.arrow_layout.specs.declared.form.Form.{Form}
use Rattle.arrow_layout.specs.declared.form.Form.TheVariants as forms
use Rattle.arrow_layout.specs.declared.form.ListForm.{ListForm}
use Rattle.arrow_body_reader.specs.Taken.{IfFlattened, below}
use Rattle.arrow_body_laws.specs.Laws.{raws_of}
use Rattle.arrow_body_laws.specs.Raws.{AreRaws, items_in_value, nulls_under, raws_below}
use Rattle.arrow_body_laws.specs.Stored.{fields_of_columns}
use Rattle.arrow_body_writer.specs.Sent.{LeadDown, LeadFrom, column_by, columns_by, form_of_column, sent_along, visible_children}
use Rattle.arrow_body_writer.specs.Whole.{AreSentWhole}
use Rattle.arrow_body_writer.specs.declared.steps.ChildPath.{ChildPath, Here, Items', Field'}

-- what values send, followed by what others send
pub along_more : (steps : ChildPath) (vs ws : List PlainValue) → sent_along steps (vs ++ ws) ≡ sent_along steps vs ++ sent_along steps ws
along_more Here vs ws = refl
along_more (Items' n p rest) vs ws = ap (sent_along rest) (flat_map-append (items_in_value n) vs ws) ∙ along_more rest (flat_map (items_in_value n) vs) (flat_map (items_in_value n) ws)
along_more (Field' k p rest) vs ws = ap (sent_along rest) (map-append (field_value k) vs ws) ∙ along_more rest (map (field_value k) vs) (map (field_value k) ws)

-- no values send nothing
pub along_none : (steps : ChildPath) → sent_along steps [] ≡ []
along_none Here = refl
along_none (Items' n p rest) = along_none rest
along_none (Field' k p rest) = along_none rest

-- the number of steps
abbrev pub count_steps : ChildPath → ℕ
count_steps Here = 0
count_steps (Items' n p rest) = suc (count_steps rest)
count_steps (Field' k p rest) = suc (count_steps rest)

-- a form that holds lists
pub lists_of : (form : Form) → IsLists form → (list : ListForm) × (form ≡ forms.Lists list)
lists_of forms.Nulls h = absurd h
lists_of forms.Bits h = absurd h
lists_of (forms.Numbers number) h = absurd h
lists_of (forms.Bytes w) h = absurd h
lists_of (forms.Texts w) h = absurd h
lists_of (forms.FixedBytes w) h = absurd h
lists_of (forms.Lists list) h = (list, refl)
lists_of forms.Structs h = absurd h

-- a column of indices has no children of its own
pub plain_struct : (tag : TypeId) (e : Option Encoding) → node_form tag e ≡ forms.Structs → e ≡ None
plain_struct tag None is = refl
plain_struct tag (Some e) is = cc

pub plain_list : (tag : TypeId) (e : Option Encoding) → IsLists (node_form tag e) → e ≡ None
plain_list tag None is = refl
plain_list tag (Some e) is = absurd is

-- the first child of a list is the one of its first field
pub first_typed : (fields : FieldTree) (child : Column) → AreOf fields (child ∷ []) → type_of_field fields 0 ≡ Some (child.data_type, child.encoding)
first_typed none child typed = absurd typed
first_typed (more h c rest) child typed = λ i. Some (sym typed.0 i, sym typed.1 i)

-- steps that lead down from a field lead down from its child
pub lead_on : (field : Option (TypeShape × Option Encoding)) (t : TypeShape) (e : Option Encoding) (steps : ChildPath) → field ≡ Some (t, e) → LeadFrom field steps → LeadDown steps t e
lead_on field t e steps is leads = subst (λ f. LeadFrom f steps) is leads

-- an existing field has a type
pub field_there : (fields : FieldTree) (k : ℕ) (steps : ChildPath) → k < width fields → LeadDown steps (column_by (type_of_field fields k) []).data_type (column_by (type_of_field fields k) []).encoding → LeadFrom (type_of_field fields k) steps
field_there none k steps here leads = absurd (omega (arith, here))
field_there (more h c rest) zero steps here leads = leads
field_there (more h c rest) (suc k) steps here leads = field_there rest k steps (omega (arith, here)) leads

pub field_inside : (fields : FieldTree) (k : ℕ) (steps : ChildPath) → LeadFrom (type_of_field fields k) steps → k < width fields
field_inside none k steps leads = absurd leads
field_inside (more h c rest) zero steps leads = omega arith
field_inside (more h c rest) (suc k) steps leads = omega (arith, field_inside rest k steps leads)

-- the columns of fields have their types
columns_typed : (fields : FieldTree) (raws : List (List PlainValue)) → length raws ≡ width fields → AreOf fields (columns_by fields raws)
columns_typed none raws many = tt
columns_typed (more h c rest) [] many = absurd (omega (arith, many))
columns_typed (more h c rest) (vs ∷ raws) many = (refl, refl, columns_typed rest raws (omega (arith, many)))

-- and they have their raw values
columns_raws : (fields : FieldTree) (raws : List (List PlainValue)) → length raws ≡ width fields → raws ≡ raws_of (columns_by fields raws)
columns_raws none [] many = refl
columns_raws none (vs ∷ raws) many = absurd (omega (arith, many))
columns_raws (more h c rest) [] many = absurd (omega (arith, many))
columns_raws (more h c rest) (vs ∷ raws) many = ap (λ rs. vs ∷ rs) (columns_raws rest raws (omega (arith, many)))

-- there are raw values for each field
pub raws_many : (fields : FieldTree) (raws : List (List PlainValue)) → AreRaws fields raws → length raws ≡ width fields
raws_many none [] are = refl
raws_many none (vs ∷ raws) are = absurd are
raws_many (more h c rest) [] are = absurd are
raws_many (more h c rest) (vs ∷ raws) are = omega (arith, raws_many rest raws are.2)

-- below a node of indices nothing is sent
none_below : (tag : TypeId) (e : Encoding) (children : FieldTree) (vs : List PlainValue) → raws_below (node_form tag (Some e)) children vs ≡ []
none_below tag e children vs = refl

-- so the columns that are sent below a node are its children
pub sent_whole : (c : Column) → AreRaws (fields_of_columns (c ∷ [])) (raws_of (c ∷ [])) → AreSentWhole c (visible_children c)
sent_whole c are = record { typed = both.0; same = both.1 }
  where
    of_encoding : (tag : TypeId) (e : Option Encoding) (children : FieldTree) (vs : List PlainValue) → IfFlattened e (AreRaws children (raws_below (node_form tag e) children vs))
        → AreOf (below e children) (columns_by (below e children) (raws_below (node_form tag e) children vs))
        × (raws_below (node_form tag e) children vs ≡ raws_of (columns_by (below e children) (raws_below (node_form tag e) children vs)))
    of_encoding tag None children vs are =
        let many = raws_many children (raws_below (node_form tag None) children vs) are in
        (columns_typed children (raws_below (node_form tag None) children vs) many, columns_raws children (raws_below (node_form tag None) children vs) many)
    of_encoding tag (Some e) children vs are = (tt, none_below tag e children vs)

    both : AreOf (below c.encoding c.data_type.children) (visible_children c) × (raws_below (form_of_column c) c.data_type.children c.raw ≡ raws_of (visible_children c))
    both = of_encoding c.data_type.tag c.encoding c.data_type.children c.raw are.1

-- the column of a field at an index
column_at : (fields : FieldTree) (raws : List (List PlainValue)) (k : ℕ) (vs : List PlainValue) → k < width fields → slice_get raws k ≡ Some vs → slice_get (columns_by fields raws) k ≡ Some (column_by (type_of_field fields k) vs)
column_at none raws k vs here is = absurd (omega (arith, here))
column_at (more h c rest) [] k vs here is = cc
column_at (more h c rest) (ws ∷ raws) zero vs here is =
    let same : ws ≡ vs = cc in
    ap (λ us. Some (column_by (type_of_field (more h c rest) 0) us)) same
column_at (more h c rest) (ws ∷ raws) (suc k) vs here is = column_at rest raws k vs (omega (arith, here)) is

-- what a function gives for each number of a range
pub made_at : (g : ℕ → List PlainValue) (a w k : ℕ) → k < w → slice_get (map g (range_with_len a w)) k ≡ Some (g (a + k))
made_at g a zero k here = absurd (omega (arith, here))
made_at g a (suc w) zero here = let start : a ≡ a + 0 = omega arith in ap (λ n. Some (g n)) start
made_at g a (suc w) (suc k) here = let next : a + 1 + k ≡ a + suc k = omega arith in made_at g (a + 1) w k (omega (arith, here)) ∙ ap (λ n. Some (g n)) next

-- the columns that lists and structs send
pub items_sent : (c : Column) (k : ℕ) (list : ListForm) → form_of_column c ≡ forms.Lists list → AreRaws (fields_of_columns (c ∷ [])) (raws_of (c ∷ [])) → k < length (visible_children c)
    → (0 < width c.data_type.children) × (slice_get (visible_children c) k ≡ Some (column_by (type_of_field c.data_type.children 0) (flat_map (items_in_value (nulls_under list)) c.raw)))
items_sent c k list lists are here = of_encoding c.data_type.tag c.encoding c.data_type.children c.raw lists are.1 here
  where
    of_form : (form : Form) (children : FieldTree) (vs : List PlainValue) → form ≡ forms.Lists list → AreRaws children (raws_below form children vs) → k < length (columns_by children (raws_below form children vs))
        → (0 < width children) × (slice_get (columns_by children (raws_below form children vs)) k ≡ Some (column_by (type_of_field children 0) (flat_map (items_in_value (nulls_under list)) vs)))
    of_form form children vs is are here =
        subst (λ f. (0 < width children) × (slice_get (columns_by children (raws_below f children vs)) k ≡ Some (column_by (type_of_field children 0) (flat_map (items_in_value (nulls_under list)) vs)))) (sym is)
        (only children (flat_map (items_in_value (nulls_under list)) vs) (subst (λ f. AreRaws children (raws_below f children vs)) is are) (subst (λ f. k < length (columns_by children (raws_below f children vs))) is here))
      where
        only : (children : FieldTree) (items : List PlainValue) → AreRaws children (items ∷ []) → k < length (columns_by children (items ∷ []))
            → (0 < width children) × (slice_get (columns_by children (items ∷ [])) k ≡ Some (column_by (type_of_field children 0) items))
        only none items are here = absurd are
        only (more h c none) items are here = let first : 0 ≡ k = omega (arith, here) in (omega arith, subst (λ n. slice_get (columns_by (more h c none) (items ∷ [])) n ≡ Some (column_by (type_of_field (more h c none) 0) items)) first refl)
        only (more h c (more h' c' rest)) items are here = absurd are.2

    of_encoding : (tag : TypeId) (e : Option Encoding) (children : FieldTree) (vs : List PlainValue) → node_form tag e ≡ forms.Lists list → IfFlattened e (AreRaws children (raws_below (node_form tag e) children vs))
        → k < length (columns_by (below e children) (raws_below (node_form tag e) children vs))
        → (0 < width children) × (slice_get (columns_by (below e children) (raws_below (node_form tag e) children vs)) k ≡ Some (column_by (type_of_field children 0) (flat_map (items_in_value (nulls_under list)) vs)))
    of_encoding tag None children vs lists are here = of_form (node_form tag None) children vs lists are here
    of_encoding tag (Some e) children vs lists are here = cc

pub field_sent : (c : Column) (k : ℕ) → IsStruct c → AreRaws (fields_of_columns (c ∷ [])) (raws_of (c ∷ [])) → k < length (visible_children c)
    → (k < width c.data_type.children) × (slice_get (visible_children c) k ≡ Some (column_by (type_of_field c.data_type.children k) (map (field_value k) c.raw)))
field_sent c k structs are here = of_encoding c.data_type.tag c.encoding c.data_type.children c.raw structs are.1 here
  where
    as_long : (children : FieldTree) (raws : List (List PlainValue)) → length raws ≡ width children → length (columns_by children raws) ≡ width children
    as_long none raws many = refl
    as_long (more h c rest) [] many = absurd (omega (arith, many))
    as_long (more h c rest) (vs ∷ raws) many = omega (arith, as_long rest raws (omega (arith, many)))

    of_encoding : (tag : TypeId) (e : Option Encoding) (children : FieldTree) (vs : List PlainValue) → node_form tag e ≡ forms.Structs → IfFlattened e (AreRaws children (raws_below (node_form tag e) children vs))
        → k < length (columns_by (below e children) (raws_below (node_form tag e) children vs))
        → (k < width children) × (slice_get (columns_by (below e children) (raws_below (node_form tag e) children vs)) k ≡ Some (column_by (type_of_field children k) (map (field_value k) vs)))
    of_encoding tag None children vs structs are here =
        let inside : k < width children = omega (arith, here, as_long children (raws_below (node_form tag None) children vs) (raws_many children (raws_below (node_form tag None) children vs) are)) in
        let start : 0 + k ≡ k = omega arith in
        let raw = made_at (λ n. map (field_value n) vs) 0 (width children) k inside ∙ ap (λ n. Some (map (field_value n) vs)) start in (
          inside,
          column_at children (raws_below (node_form tag None) children vs) k (map (field_value k) vs) inside
              (subst (λ f. slice_get (raws_below f children vs) k ≡ Some (map (field_value k) vs)) (sym structs) raw),
        )
    of_encoding tag (Some e) children vs structs are here = cc

-- only lists and structs send anything
pub sends_structs : (c : Column) (k : ℕ) → (IsList c → ⊥) → k < length (visible_children c) → IsStruct c
sends_structs c k no_lists here = of_form (form_of_column c) (below c.encoding c.data_type.children) c.data_type.children c.raw no_lists here
  where
    without : (fields : FieldTree) → length (columns_by fields []) ≡ 0
    without none = refl
    without (more h c rest) = refl

    of_form : (form : Form) (fields children : FieldTree) (vs : List PlainValue) → (IsLists form → ⊥) → k < length (columns_by fields (raws_below form children vs)) → form ≡ forms.Structs
    of_form forms.Nulls fields children vs never here = absurd (omega (arith, here, without fields))
    of_form forms.Bits fields children vs never here = absurd (omega (arith, here, without fields))
    of_form (forms.Numbers number) fields children vs never here = absurd (omega (arith, here, without fields))
    of_form (forms.Bytes w) fields children vs never here = absurd (omega (arith, here, without fields))
    of_form (forms.Texts w) fields children vs never here = absurd (omega (arith, here, without fields))
    of_form (forms.FixedBytes w) fields children vs never here = absurd (omega (arith, here, without fields))
    of_form (forms.Lists list) fields children vs never here = absurd (never tt)
    of_form forms.Structs fields children vs never here = refl

-- the number of columns that are sent
pub sent_many : (c : Column) → AreRaws (fields_of_columns (c ∷ [])) (raws_of (c ∷ [])) → length (visible_children c) ≡ width (below c.encoding c.data_type.children)
sent_many c are = as_many (below c.encoding c.data_type.children) (visible_children c) (sent_whole c are).typed
  where
    as_many : (fields : FieldTree) (cs : List Column) → AreOf fields cs → length cs ≡ width fields
    as_many none [] typed = refl
    as_many none (d ∷ cs) typed = absurd typed
    as_many (more h c rest) [] typed = absurd typed
    as_many (more h c rest) (d ∷ cs) typed = omega (arith, as_many rest cs typed.2)
