-- Why each raw value of the columns of a valid body resolves to its resolved value.
use Rattle.std.proofs.Common.{◌≡◌, ◌+◌, ◌-◌, ◌*◌, ℕ, zero, suc, ℤ, List, [], ◌∷◌, map, take, drop, get_or, Option, Some, None, refl, sym, ap, ◌∙◌, subst}
use Rattle.std.specs.List.{AllByRecursion}
use Rattle.std.specs.Prelude.{slice_range, option_map}
use Rattle.arrow_bits.specs.Numbers.{int_of}
use Rattle.arrow_types.specs.Field.{FieldTree, none, more, TypeShape}
use Rattle.arrow_types.specs.declared.field.Encoding.{Encoding}
use Rattle.arrow_types.specs.declared.node.FieldNode.{FieldNode}
use Rattle.arrow_types.specs.declared.node.Buffer.{Buffer}
use Rattle.arrow_data.specs.Column.{Column, ValueList, AreOf}
use Rattle.arrow_layout.specs.Form.{form_of}
use Rattle.arrow_layout.specs.Layout.{buffer, list_offsets, IsIndexed}
use Rattle.arrow_data.specs.Listed.{listed, ResolvesBy, dictionary_for, values_by}
use Rattle.arrow_data.specs.Parts.{node_column, value_slot, index_slot, entry_of_slot, values_in}
use Rattle.arrow_layout.specs.PlainValue.{PlainValue, value_at, list_value, struct_value, values_of}
use Rattle.arrow_layout.specs.Resolve.{resolve, resolve_items, resolve_parts, before}
use Rattle.arrow_layout.specs.Slots.{is_valid_at, item_place, index_width}
use Rattle.arrow_layout.specs.declared.form.Form.{Form}
use Rattle.arrow_layout.specs.declared.form.Form.TheVariants as forms
use Rattle.arrow_data.proofs.Resolving.{slots_resolve, null_resolves, shown_resolves, plain_resolves, items_resolve, range_resolves, at_resolves, index_resolves}
use Rattle.arrow_body_reader.proofs.Columns.{columns_typed}
use Rattle.arrow_body_reader.specs.Sound.{IsNodeIndexed, columns_of, if_flattened, own_bytes, slots_at}
use Rattle.arrow_body_reader.specs.Taken.{AllNodes, IfFlattened, flattened, own_buffers, taken_buffers, taken_nodes}

take_nothing : (n : ℕ) → take {A = PlainValue} n [] ≡ []
take_nothing zero = refl
take_nothing (suc n) = refl

slice_none : (a b : ℕ) → slice_range {X = PlainValue} [] a b ≡ []
slice_none zero b = take_nothing (b - 0)
slice_none (suc a) b = take_nothing (b - suc a)

-- the items of a list, from the values of the first child
first_items : (ds : List (ℤ × ValueList)) (fields : FieldTree) (cs : List Column) (a b : ℕ) → AreOf fields cs → AllByRecursion (ResolvesBy ds) cs
    → resolve_items fields (values_by ds) (values_of (slice_range (get_or (map (λ (c : Column). c.raw) cs) 0 []) a b)) ≡ Some (values_of (slice_range (get_or (map (λ (c : Column). c.resolved) cs) 0 []) a b))
first_items ds none [] a b typed all = ap (λ xs. resolve_items none (values_by ds) (values_of xs)) (slice_none a b) ∙ ap (λ xs. Some (values_of xs)) (sym (slice_none a b))
first_items ds none (c ∷ cs) a b typed all = absurd typed
first_items ds (more head children rest) [] a b typed all = absurd typed
first_items ds (more head children rest) (c ∷ cs) a b typed all =
    let coded = subst (λ e. map (resolve e c.data_type.children (values_by ds)) c.raw ≡ map Some c.resolved) typed.1 all.0 in
    let whole = subst (λ (t : TypeShape). map (resolve head.encoding t.children (values_by ds)) c.raw ≡ map Some c.resolved) typed.0 coded in
    items_resolve (more head children rest) (values_by ds) (resolve head.encoding children (values_by ds)) (slice_range c.raw a b) (slice_range c.resolved a b) (λ value others. refl) (range_resolves (resolve head.encoding children (values_by ds)) c.raw c.resolved a b whole)

-- the values of a struct, from those of its fields
each_part : (ds : List (ℤ × ValueList)) (fields : FieldTree) (cs : List Column) (j : ℕ) → AreOf fields cs → AllByRecursion (ResolvesBy ds) cs
    → resolve_parts fields (values_by ds) (values_of (map (λ values. value_at values j) (map (λ (c : Column). c.raw) cs))) ≡ Some (values_of (map (λ values. value_at values j) (map (λ (c : Column). c.resolved) cs)))
each_part ds none [] j typed all = refl
each_part ds none (c ∷ cs) j typed all = absurd typed
each_part ds (more head children rest) [] j typed all = absurd typed
each_part ds (more head children rest) (c ∷ cs) j typed all =
    let coded = subst (λ e. map (resolve e c.data_type.children (values_by ds)) c.raw ≡ map Some c.resolved) typed.1 all.0 in
    let whole = subst (λ (t : TypeShape). map (resolve head.encoding t.children (values_by ds)) c.raw ≡ map Some c.resolved) typed.0 coded in
    let here = at_resolves (resolve head.encoding children (values_by ds)) c.raw c.resolved j (null_resolves head.encoding children (values_by ds)) whole in
    let others = each_part ds rest cs j typed.2 all.1 in
    λ i. before (here i) (others i)

-- the value of a slot of a node without an encoding
value_resolves : (ds : List (ℤ × ValueList)) (form : Form) (fields : FieldTree) (b : List (List ℕ)) (cs : List Column) (j : ℕ) → AreOf fields cs → AllByRecursion (ResolvesBy ds) cs
    → resolve None fields (values_by ds) (value_slot form b (map (λ (c : Column). c.raw) cs) j) ≡ Some (value_slot form b (map (λ (c : Column). c.resolved) cs) j)
value_resolves ds forms.Nulls fields b cs j typed all = refl
value_resolves ds forms.Bits fields b cs j typed all = plain_resolves None fields (values_by ds) (is_valid_at (buffer b 0) j) _ refl
value_resolves ds (forms.Numbers number) fields b cs j typed all = plain_resolves None fields (values_by ds) (is_valid_at (buffer b 0) j) _ refl
value_resolves ds (forms.Bytes width) fields b cs j typed all = plain_resolves None fields (values_by ds) (is_valid_at (buffer b 0) j) _ refl
value_resolves ds (forms.Texts width) fields b cs j typed all = plain_resolves None fields (values_by ds) (is_valid_at (buffer b 0) j) _ refl
value_resolves ds (forms.FixedBytes width) fields b cs j typed all = plain_resolves None fields (values_by ds) (is_valid_at (buffer b 0) j) _ refl
value_resolves ds (forms.Lists list) fields b cs j typed all =
    shown_resolves None fields (values_by ds) (is_valid_at (buffer b 0) j) _ _ (λ valid. ap (option_map list_value) (first_items ds fields cs (item_place list (list_offsets list b) j) (item_place list (list_offsets list b) (j + 1)) typed all))
value_resolves ds forms.Structs fields b cs j typed all =
    shown_resolves None fields (values_by ds) (is_valid_at (buffer b 0) j) _ _ (λ valid. ap (option_map struct_value) (each_part ds fields cs j typed all))

-- the column of a node
node_resolves : (ds : List (ℤ × ValueList)) (t : TypeShape) (e : Option Encoding) (len : ℕ) (b : List (List ℕ)) (cs : List Column) → AreOf t.children cs → IfFlattened e (AllByRecursion (ResolvesBy ds) cs)
    → IsIndexed e len b (values_in (dictionary_for ds e)) → ResolvesBy ds (node_column t e len b (if_flattened e cs) (values_in (dictionary_for ds e)))
node_resolves ds t None len b cs typed all indexed =
    slots_resolve len (resolve None t.children (values_by ds)) (λ j. value_slot (form_of t.tag) b (map (λ (c : Column). c.raw) cs) j) (λ j. value_slot (form_of t.tag) b (map (λ (c : Column). c.resolved) cs) j)
    (λ j l. value_resolves ds (form_of t.tag) t.children b cs j typed all)
node_resolves ds t (Some e) len b cs typed all indexed =
    let values = values_in (listed ds e.id) in
    slots_resolve len (resolve (Some e) t.children (values_by ds)) (λ j. index_slot e b j) (λ j. entry_of_slot e b values j)
    (λ j l. shown_resolves (Some e) t.children (values_by ds) (is_valid_at (buffer b 0) j) _ _
    (λ valid. index_resolves values (int_of (buffer b 1) (index_width e.index * j) (index_width e.index) e.index.signed) (indexed j l valid)))

if_known : (e : Option Encoding) (P Q : Type 0) → (P → Q) → IfFlattened e P → IfFlattened e Q
if_known None P Q f p = f p
if_known (Some e) P Q f p = tt

-- each raw value of the columns resolves to its resolved value
pub columns_resolve : (body : List ℕ) (ds : List (ℤ × ValueList)) (fields : FieldTree) (ns : List FieldNode) (bs : List Buffer) → AllNodes (IsNodeIndexed body ds) fields ns bs
    → AllByRecursion (ResolvesBy ds) (columns_of body ds fields ns bs)
columns_resolve body ds none ns bs all = tt
columns_resolve body ds (more h c rest) ns bs all =
    let ns1 = drop 1 ns in
    let bs1 = drop (own_buffers h) bs in
    let below_all = if_known h.encoding (AllNodes (IsNodeIndexed body ds) c ns1 bs1) (AllByRecursion (ResolvesBy ds) (columns_of body ds c ns1 bs1)) (columns_resolve body ds c ns1 bs1) all.1 in (
      node_resolves ds (record { tag = h.tag; children = c }) h.encoding (slots_at ns) (own_bytes body h bs) (columns_of body ds c ns1 bs1) (columns_typed body ds c ns1 bs1) below_all all.0,
      columns_resolve body ds rest (drop (1 + flattened h.encoding (taken_nodes c)) ns) (drop (own_buffers h + flattened h.encoding (taken_buffers c)) bs) all.2,
    )
