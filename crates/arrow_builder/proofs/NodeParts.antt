-- Nodes of structs and of lists with the same slots, and with one more.
use Rattle.std.proofs.Common.{◌≡◌, ℕ, ◌+◌, ◌*◌, ◌<◌, ◌≤◌, List, [], ◌∷◌, ◌++◌, length, map, take, get_or, refl, ap, sym, ◌∙◌, subst, arith, length-append, length-take, Option, None}
use Rattle.std.specs.Prelude.{not}
use Rattle.std.specs.List.{AllByRecursion}
use Rattle.std.proofs.lemmas.List.{length-map, take_all}
use Rattle.arrow_types.specs.Field.{FieldTree}
use Rattle.arrow_types.specs.View.{field_view}
use Rattle.arrow_types.specs.declared.field.Encoding.{Encoding}
use Rattle.arrow_bits.specs.Bitmap.{PutsBit}
use Rattle.arrow_layout.specs.Fits.{Fits, PartsFit}
use Rattle.arrow_layout.specs.Layout.{child_count, list_offsets}
use Rattle.arrow_data.specs.Parts.{value_slot}
use Rattle.arrow_layout.specs.PlainValue.{PlainValue, PlainValues, is_null_value, field_value, struct_value, value_at, values_of}
use Rattle.arrow_data.specs.Same.{Begins}
use Rattle.arrow_layout.specs.Slots.{is_valid_at, item_place, list_slot, place_of, struct_slot}
use Rattle.arrow_data.proofs.Shown.{length_slots}
use Rattle.arrow_layout.specs.declared.form.Form.TheVariants as forms
use Rattle.arrow_layout.specs.declared.form.ListForm.{ListForm}
use Rattle.arrow_layout.specs.declared.form.ListForm.TheVariants as lists
use Rattle.arrow_layout.specs.declared.form.OffsetWidth.{OffsetWidth}
use Rattle.arrow_builder.specs.Buffers.{buffers_in}
use Rattle.arrow_builder.specs.Built.{Built, AreBelow, counts_in, cut_to, fields_in, given_items, items_of, raws_in, sized_items, with_parts, with_value, with_values}
use Rattle.arrow_builder.specs.Columns.{AreHeld, all_items, child_column}
use Rattle.arrow_builder.specs.Fields.{FitsField, field_form}
use Rattle.arrow_builder.specs.Kept.{CountsItems, Keeps, KeepsLists, KeepsRanges, KeepsStructs}
use Rattle.arrow_builder.specs.Nodes.{IsNode, built_of, slot_in}
use Rattle.arrow_builder.specs.Puts.{PutsSlot, PutsValid, StayPlaces, StaySlots}
use Rattle.arrow_builder.specs.declared.node.Node.TheInside.{Inside}
use Rattle.arrow_builder.proofs.Held.{begins_self, counted_grows, held_cut, held_struct, items_grown}
use Rattle.arrow_builder.proofs.Listed.{StayItems, items_given, lists_put, lists_stay, plain_list, plain_struct, sized_long, struct_in_slot}
use Rattle.arrow_builder.proofs.Nested.{counts_long, fields_by_cut, long_counts, parts_cut, parts_long, row_by_cut, row_of_parts, slots_by_cut}
use Rattle.arrow_builder.proofs.NodeSlots.{next, node_grows, node_stays}
use Rattle.arrow_builder.proofs.Putting.{or_null_same, valid_put, valid_stays}

-- what a node of structs keeps
pub kept_structs : (a : Inside) → field_form (field_view a.field) ≡ forms.Structs → IsNode a → KeepsStructs a.len a.buffers.validity.items (counts_in a.children.items)
kept_structs a form ok = subst (λ f. Keeps f a.len (buffers_in a.buffers) (counts_in a.children.items)) form ok.kept

-- its children are those of its field
pub children_are : (a : Inside) → field_form (field_view a.field) ≡ forms.Structs → IsNode a → fields_in a.children.items ≡ (field_view a.field).children
children_are a form ok =
    subst (λ e. AreBelow e (field_view a.field).children a.children.items) (plain_struct (field_view a.field).head.tag (field_view a.field).head.encoding form) ok.below

-- columns of the same fields are below the same field
below_same : (e : Option Encoding) (fields : FieldTree) (old new : List Built) → e ≡ None → AreBelow e fields old → fields_in new ≡ fields_in old → AreBelow e fields new
below_same e fields old new plain below same =
    subst (λ e. AreBelow e fields new) (sym plain) (same ∙ subst (λ e. AreBelow e fields old) plain below)

-- the columns of its children are as long as its own
struct_short : (a : Inside) (j : ℕ) → length (map (field_value j) (built_of a).raw) ≤ a.len
struct_short a j = omega (arith, length-map (built_of a).raw (field_value j), length_slots a.len (slot_in a))

-- the same structs
pub struct_stays : (a b : Inside) → field_form (field_view a.field) ≡ forms.Structs → IsNode a → a.len ≤ 8 * length b.buffers.validity.items
    → ((j : ℕ) → j < a.len → is_valid_at b.buffers.validity.items j ≡ is_valid_at a.buffers.validity.items j) → map (cut_to a.len) b.children.items ≡ map (cut_to a.len) a.children.items
    → IsNode (next a a.len b) × (built_of (next a a.len b) ≡ built_of a)
struct_stays a b form ok bits valid cut =
    let kept = kept_structs a form ok in
    let there = slots_by_cut a.len b.children.items a.children.items cut (long_counts a.len a.children.items kept.longer) in
    let plain = plain_struct (field_view a.field).head.tag (field_view a.field).head.encoding form in
    let keeps : KeepsStructs a.len b.buffers.validity.items (counts_in b.children.items) = record { bits = bits; longer = counts_long a.len b.children.items there } in
    let stay : StaySlots a.len (λ j. struct_slot a.buffers.validity.items (raws_in a.children.items) j) (λ j. struct_slot b.buffers.validity.items (raws_in b.children.items) j) =
    λ j h. or_null_same a.buffers.validity.items b.buffers.validity.items j (struct_value (values_of (map (λ values. value_at values j) (raws_in a.children.items))))
    (struct_value (values_of (map (λ values. value_at values j) (raws_in b.children.items)))) (valid j h)
    (ap (λ row. struct_value (values_of row)) (row_by_cut a.len j b.children.items a.children.items cut h)) in
    node_stays a b ok (subst (λ f. Keeps f a.len (buffers_in b.buffers) (counts_in b.children.items)) (sym form) keeps)
    (below_same (field_view a.field).head.encoding (field_view a.field).children a.children.items b.children.items plain ok.below (fields_by_cut a.len b.children.items a.children.items cut))
    (subst (λ f. StaySlots a.len (value_slot f (buffers_in a.buffers) (raws_in a.children.items)) (value_slot f (buffers_in b.buffers) (raws_in b.children.items))) (sym form) stay)
    (held_cut (field_form (field_view a.field)) 0 a.len (built_of a).raw b.children.items a.children.items (subst (λ f. (j : ℕ) → length (child_column f j (built_of a).raw) ≤ a.len) (sym form) (λ j. struct_short a j)) cut ok.held)
    (subst (λ f. CountsItems f a.len (buffers_in b.buffers) (built_of a).raw) (sym form) tt)

-- the values of a struct that fits
parts_fit : (fields : FieldTree) (v : PlainValue) (ws : PlainValues) → Fits forms.Structs fields v → v ≡ struct_value ws → PartsFit fields ws
parts_fit fields v ws fits is = (subst (Fits forms.Structs fields) is fits).1

-- one more struct
pub struct_grows : (a b : Inside) (v : PlainValue) → field_form (field_view a.field) ≡ forms.Structs → a.len < 2147483647 → IsNode a → FitsField (field_view a.field) v
    → PutsBit a.len (not (is_null_value v)) a.buffers.validity.items b.buffers.validity.items → b.children.items ≡ with_parts 0 a.len a.children.items v
    → IsNode (next a (a.len + 1) b) × (built_of (next a (a.len + 1) b) ≡ with_value (built_of a) v)
struct_grows a b v form few ok fits bit parts =
    let at = a.len in
    let kept = kept_structs a form ok in
    let there = long_counts at a.children.items kept.longer in
    let plain = plain_struct (field_view a.field).head.tag (field_view a.field).head.encoding form in
    let below : fields_in a.children.items ≡ (field_view a.field).children = subst (λ e. AreBelow e (field_view a.field).children a.children.items) plain ok.below in
    let fit : Fits forms.Structs (field_view a.field).children v = subst (λ f. Fits f (field_view a.field).children v) form fits in
    let cut : map (cut_to at) b.children.items ≡ map (cut_to at) a.children.items = ap (map (cut_to at)) parts ∙ parts_cut 0 at a.children.items v there in
    let keeps : KeepsStructs (at + 1) b.buffers.validity.items (counts_in b.children.items) =
    record { bits = omega (arith, bit.long); longer = subst (λ bs. AllByRecursion (λ count. at + 1 ≤ count) (counts_in bs)) (sym parts) (parts_long 0 at a.children.items v there) } in
    let row : (ws : PlainValues) → v ≡ struct_value ws → values_of (map (λ values. value_at values at) (raws_in b.children.items)) ≡ ws =
    λ ws is. ap (λ bs. values_of (map (λ values. value_at values at) (raws_in bs))) parts
    ∙ row_of_parts 0 at a.children.items v ws (λ i. let here : 0 + i ≡ i = omega arith in ap (λ m. field_value m v) here ∙ ap (field_value i) is)
    (subst (λ f. PartsFit f ws) (sym below) (parts_fit (field_view a.field).children v ws fit is)) there in
    let puts : PutsSlot at v (λ j. struct_slot a.buffers.validity.items (raws_in a.children.items) j) (λ j. struct_slot b.buffers.validity.items (raws_in b.children.items) j) =
    record {
      same = λ j h. or_null_same a.buffers.validity.items b.buffers.validity.items j (struct_value (values_of (map (λ values. value_at values j) (raws_in a.children.items))))
          (struct_value (values_of (map (λ values. value_at values j) (raws_in b.children.items))))
          (valid_stays at (not (is_null_value v)) a.buffers.validity.items b.buffers.validity.items kept.bits bit j h)
          (ap (λ row. struct_value (values_of row)) (row_by_cut at j b.children.items a.children.items cut h));
      put = struct_in_slot v (field_view a.field).children b.buffers.validity.items at (values_of (map (λ values. value_at values at) (raws_in b.children.items))) fit
          (valid_put at (not (is_null_value v)) a.buffers.validity.items b.buffers.validity.items bit) row;
    } in
    node_grows a b v few ok fits (subst (λ f. Keeps f (at + 1) (buffers_in b.buffers) (counts_in b.children.items)) (sym form) keeps)
    (below_same (field_view a.field).head.encoding (field_view a.field).children a.children.items b.children.items plain ok.below (fields_by_cut at b.children.items a.children.items cut))
    (subst (λ f. PutsSlot at v (value_slot f (buffers_in a.buffers) (raws_in a.children.items)) (value_slot f (buffers_in b.buffers) (raws_in b.children.items))) (sym form) puts)
    (subst (λ f. AreHeld f 0 ((built_of a).raw ++ v ∷ []) b.children.items) (sym form)
    (subst (AreHeld forms.Structs 0 ((built_of a).raw ++ v ∷ [])) (sym parts) (held_struct 0 at (built_of a).raw a.children.items v (length_slots at (slot_in a)) (subst (λ f. AreHeld f 0 (built_of a).raw a.children.items) form ok.held))))
    (subst (λ f. CountsItems f (at + 1) (buffers_in b.buffers) ((built_of a).raw ++ v ∷ [])) (sym form) tt)

-- the offsets of a node of lists
abbrev pub offsets_in : ListForm → Inside → List ℕ
offsets_in list a = list_offsets list (buffers_in a.buffers)

-- what a node of lists keeps
pub kept_lists : (a : Inside) (list : ListForm) (child : Built) → field_form (field_view a.field) ≡ forms.Lists list → a.children.items ≡ child ∷ [] → IsNode a
    → KeepsLists list a.len (length child.raw) a.buffers.validity.items (offsets_in list a)
kept_lists a list child form only ok =
    subst (λ bs. KeepsLists list a.len (child_count (counts_in bs)) a.buffers.validity.items (offsets_in list a)) only
    (subst (λ f. Keeps f a.len (buffers_in a.buffers) (counts_in a.children.items)) form ok.kept)

-- its offsets count the items
list_counts : (a : Inside) (list : ListForm) → field_form (field_view a.field) ≡ forms.Lists list → IsNode a
    → (j : ℕ) → j ≤ a.len → item_place list (offsets_in list a) j ≡ length (all_items list (take j (built_of a).raw))
list_counts a list form ok = subst (λ f. CountsItems f a.len (buffers_in a.buffers) (built_of a).raw) form ok.counted

-- the last of them counts all items
pub list_count : (a : Inside) (list : ListForm) → field_form (field_view a.field) ≡ forms.Lists list → IsNode a
    → item_place list (offsets_in list a) a.len ≡ length (all_items list (built_of a).raw)
list_count a list form ok =
    list_counts a list form ok a.len (omega arith) ∙ ap (λ vs. length (all_items list vs)) (take_all a.len (built_of a).raw (omega (arith, length_slots a.len (slot_in a))))

-- the same lists
items_stay : (a b : Inside) (list : ListForm) (child child' : Built) → field_form (field_view a.field) ≡ forms.Lists list → a.children.items ≡ child ∷ [] → b.children.items ≡ child' ∷ [] → IsNode a
    → cut_to (item_place list (offsets_in list a) a.len) child' ≡ cut_to (item_place list (offsets_in list a) a.len) child
    → KeepsLists list a.len (length child'.raw) b.buffers.validity.items (offsets_in list b)
    → ((j : ℕ) → j < a.len → is_valid_at b.buffers.validity.items j ≡ is_valid_at a.buffers.validity.items j) → StayItems list a.len (offsets_in list a) (offsets_in list b)
    → IsNode (next a a.len b) × (built_of (next a a.len b) ≡ built_of a)
items_stay a b list child child' form only only' ok cut keeps valid same =
    let at = a.len in
    let old = offsets_in list a in
    let new = offsets_in list b in
    let start = item_place list old at in
    let kept = kept_lists a list child form only ok in
    let plain = (plain_list (field_view a.field).head.tag (field_view a.field).head.encoding list form).0 in
    let fields : fields_in b.children.items ≡ fields_in a.children.items = ap fields_in only' ∙ ap (λ (c : Built). fields_in (c ∷ [])) cut ∙ sym (ap fields_in only) in
    let stay = lists_stay list at (length child.raw) a.buffers.validity.items b.buffers.validity.items old new child.raw child'.raw kept valid same (ap (λ (c : Built). c.raw) cut) in
    node_stays a b ok
    (subst (λ f. Keeps f at (buffers_in b.buffers) (counts_in b.children.items)) (sym form)
    (subst (λ bs. KeepsLists list at (child_count (counts_in bs)) b.buffers.validity.items new) (sym only') keeps))
    (below_same (field_view a.field).head.encoding (field_view a.field).children a.children.items b.children.items plain ok.below fields)
    (subst (λ f. StaySlots at (value_slot f (buffers_in a.buffers) (raws_in a.children.items)) (value_slot f (buffers_in b.buffers) (raws_in b.children.items))) (sym form)
    (subst (λ bs. StaySlots at (λ j. list_slot list a.buffers.validity.items old (get_or (raws_in bs) 0 []) j) (λ j. list_slot list b.buffers.validity.items new (get_or (raws_in b.children.items) 0 []) j)) (sym only)
    (subst (λ bs. StaySlots at (λ j. list_slot list a.buffers.validity.items old child.raw j) (λ j. list_slot list b.buffers.validity.items new (get_or (raws_in bs) 0 []) j)) (sym only') stay)))
    (held_cut (field_form (field_view a.field)) 0 start (built_of a).raw b.children.items a.children.items
    (subst (λ f. (j : ℕ) → length (child_column f j (built_of a).raw) ≤ start) (sym form) (λ j. omega (arith, list_count a list form ok)))
    (ap (map (cut_to start)) only' ∙ ap (λ (c : Built). c ∷ []) cut ∙ sym (ap (map (cut_to start)) only)) ok.held)
    (subst (λ f. CountsItems f at (buffers_in b.buffers) (built_of a).raw) (sym form) (λ j h. same j h ∙ list_counts a list form ok j h))

-- the same if offsets are stored
pub list_stays : (a b : Inside) (width : OffsetWidth) (child child' : Built) → field_form (field_view a.field) ≡ forms.Lists (lists.Offsets width) → a.children.items ≡ child ∷ [] → b.children.items ≡ child' ∷ []
    → IsNode a → cut_to (place_of width a.buffers.values.items a.len) child' ≡ cut_to (place_of width a.buffers.values.items a.len) child
    → KeepsRanges width a.len b.buffers.validity.items b.buffers.values.items
    → ((j : ℕ) → j < a.len → is_valid_at b.buffers.validity.items j ≡ is_valid_at a.buffers.validity.items j) → StayPlaces width a.len a.buffers.values.items b.buffers.values.items
    → place_of width a.buffers.values.items a.len ≤ length child'.raw
    → IsNode (next a a.len b) × (built_of (next a a.len b) ≡ built_of a)
list_stays a b width child child' form only only' ok cut ranges valid same long =
    items_stay a b (lists.Offsets width) child child' form only only' ok cut (record { ranges = ranges; inside = rw (same a.len (omega arith)) long }) valid same

-- and in fixed-size lists
pub sized_stays : (a b : Inside) (size : ℕ) (child child' : Built) → field_form (field_view a.field) ≡ forms.Lists (lists.Fixed size) → a.children.items ≡ child ∷ [] → b.children.items ≡ child' ∷ []
    → IsNode a → cut_to (size * a.len) child' ≡ cut_to (size * a.len) child → a.len ≤ 8 * length b.buffers.validity.items
    → ((j : ℕ) → j < a.len → is_valid_at b.buffers.validity.items j ≡ is_valid_at a.buffers.validity.items j) → size * a.len ≤ length child'.raw
    → IsNode (next a a.len b) × (built_of (next a a.len b) ≡ built_of a)
sized_stays a b size child child' form only only' ok cut bits valid long =
    items_stay a b (lists.Fixed size) child child' form only only' ok cut (record { bits = bits; inside = long }) valid (λ j h. refl)

-- one more list
items_grow : (a b : Inside) (list : ListForm) (child child' : Built) (v : PlainValue) (values : List PlainValue) → field_form (field_view a.field) ≡ forms.Lists list → a.children.items ≡ child ∷ [] → b.children.items ≡ child' ∷ []
    → a.len < 2147483647 → IsNode a → FitsField (field_view a.field) v
    → child' ≡ with_values (cut_to (item_place list (offsets_in list a) a.len) child) values → values ≡ given_items list v
    → KeepsLists list (a.len + 1) (length child'.raw) b.buffers.validity.items (offsets_in list b) → item_place list (offsets_in list b) (a.len + 1) ≡ length child'.raw
    → PutsValid a.len (not (is_null_value v)) a.buffers.validity.items b.buffers.validity.items → StayItems list a.len (offsets_in list a) (offsets_in list b)
    → IsNode (next a (a.len + 1) b) × (built_of (next a (a.len + 1) b) ≡ with_value (built_of a) v)
items_grow a b list child child' v values form only only' few ok fits grown items keeps end valid same =
    let at = a.len in
    let old = offsets_in list a in
    let new = offsets_in list b in
    let start = item_place list old at in
    let kept = kept_lists a list child form only ok in
    let plain = (plain_list (field_view a.field).head.tag (field_view a.field).head.encoding list form).0 in
    let fit : Fits (forms.Lists list) (field_view a.field).children v = subst (λ f. Fits f (field_view a.field).children v) form fits in
    let fields : fields_in b.children.items ≡ fields_in a.children.items = ap fields_in only' ∙ ap (λ (c : Built). fields_in (c ∷ [])) grown ∙ sym (ap fields_in only) in
    let raw : child'.raw ≡ take start child.raw ++ values = ap (λ (c : Built). c.raw) grown in
    let held : AreHeld (forms.Lists list) 0 (built_of a).raw (child ∷ []) = subst (AreHeld (forms.Lists list) 0 (built_of a).raw) only (subst (λ f. AreHeld f 0 (built_of a).raw a.children.items) form ok.held) in
    let whole : child'.raw ≡ all_items list ((built_of a).raw ++ v ∷ []) = raw ∙ items_grown list start (built_of a).raw child.raw values v (list_count a list form ok) held.0 items in
    let puts = lists_put list at (field_view a.field).children v a.buffers.validity.items b.buffers.validity.items old new child.raw values kept valid same
    (end ∙ ap (λ xs. length xs) raw) fit items in
    node_grows a b v few ok fits
    (subst (λ f. Keeps f (at + 1) (buffers_in b.buffers) (counts_in b.children.items)) (sym form)
    (subst (λ bs. KeepsLists list (at + 1) (child_count (counts_in bs)) b.buffers.validity.items new) (sym only') keeps))
    (below_same (field_view a.field).head.encoding (field_view a.field).children a.children.items b.children.items plain ok.below fields)
    (subst (λ f. PutsSlot at v (value_slot f (buffers_in a.buffers) (raws_in a.children.items)) (value_slot f (buffers_in b.buffers) (raws_in b.children.items))) (sym form)
    (subst (λ bs. PutsSlot at v (λ j. list_slot list a.buffers.validity.items old (get_or (raws_in bs) 0 []) j) (λ j. list_slot list b.buffers.validity.items new (get_or (raws_in b.children.items) 0 []) j)) (sym only)
    (subst (λ bs. PutsSlot at v (λ j. list_slot list a.buffers.validity.items old child.raw j) (λ j. list_slot list b.buffers.validity.items new (get_or (raws_in bs) 0 []) j)) (sym only')
    (subst (λ xs. PutsSlot at v (λ j. list_slot list a.buffers.validity.items old child.raw j) (λ j. list_slot list b.buffers.validity.items new xs j)) (sym raw) puts))))
    (subst (λ f. AreHeld f 0 ((built_of a).raw ++ v ∷ []) b.children.items) (sym form) (subst (AreHeld (forms.Lists list) 0 ((built_of a).raw ++ v ∷ [])) (sym only') (subst (Begins (all_items list ((built_of a).raw ++ v ∷ []))) (sym whole) (begins_self (all_items list ((built_of a).raw ++ v ∷ []))), tt)))
    (subst (λ f. CountsItems f (at + 1) (buffers_in b.buffers) ((built_of a).raw ++ v ∷ [])) (sym form)
    (counted_grows list at old new (built_of a).raw v (length_slots at (slot_in a)) (list_counts a list form ok) same (end ∙ ap (λ xs. length xs) whole)))

-- if offsets are stored
pub list_grows : (a b : Inside) (width : OffsetWidth) (child child' : Built) (v : PlainValue) (values : List PlainValue) → field_form (field_view a.field) ≡ forms.Lists (lists.Offsets width)
    → a.children.items ≡ child ∷ [] → b.children.items ≡ child' ∷ [] → a.len < 2147483647 → IsNode a → FitsField (field_view a.field) v
    → child' ≡ with_values (cut_to (place_of width a.buffers.values.items a.len) child) values → values_of values ≡ items_of v
    → KeepsRanges width (a.len + 1) b.buffers.validity.items b.buffers.values.items → place_of width b.buffers.values.items (a.len + 1) ≡ length child'.raw
    → PutsValid a.len (not (is_null_value v)) a.buffers.validity.items b.buffers.validity.items → StayPlaces width a.len a.buffers.values.items b.buffers.values.items
    → IsNode (next a (a.len + 1) b) × (built_of (next a (a.len + 1) b) ≡ with_value (built_of a) v)
list_grows a b width child child' v values form only only' few ok fits grown items ranges end valid same =
    items_grow a b (lists.Offsets width) child child' v values form only only' few ok fits grown (items_given width v values items) (record { ranges = ranges; inside = omega (arith, end) }) end valid same

-- in fixed-size lists
pub sized_grows : (a b : Inside) (size : ℕ) (child child' : Built) (v : PlainValue) → field_form (field_view a.field) ≡ forms.Lists (lists.Fixed size)
    → a.children.items ≡ child ∷ [] → b.children.items ≡ child' ∷ [] → a.len < 2147483647 → IsNode a → FitsField (field_view a.field) v
    → child' ≡ with_values (cut_to (size * a.len) child) (sized_items size v) → PutsBit a.len (not (is_null_value v)) a.buffers.validity.items b.buffers.validity.items
    → IsNode (next a (a.len + 1) b) × (built_of (next a (a.len + 1) b) ≡ with_value (built_of a) v)
sized_grows a b size child child' v form only only' few ok fits grown bit =
    let at = a.len in
    let kept = kept_lists a (lists.Fixed size) child form only ok in
    let fit : Fits (forms.Lists (lists.Fixed size)) (field_view a.field).children v = subst (λ f. Fits f (field_view a.field).children v) form fits in
    let front : length (take (size * at) child.raw) ≡ size * at = grind (arith, length-take, kept.inside) in
    let steps : size * (at + 1) ≡ size * at + size = grind arith in
    let end : size * (at + 1) ≡ length child'.raw =
    omega (arith, steps, front, ap (λ (c : Built). length c.raw) grown, length-append (take (size * at) child.raw) (sized_items size v), sized_long size (field_view a.field).children v fit) in
    let valid : PutsValid at (not (is_null_value v)) a.buffers.validity.items b.buffers.validity.items = record {
      same = λ j h. valid_stays at (not (is_null_value v)) a.buffers.validity.items b.buffers.validity.items kept.bits bit j h;
      put = valid_put at (not (is_null_value v)) a.buffers.validity.items b.buffers.validity.items bit;
    } in
    items_grow a b (lists.Fixed size) child child' v (sized_items size v) form only only' few ok fits grown refl (record { bits = omega (arith, bit.long); inside = omega (arith, end) }) end valid (λ j h. refl)
