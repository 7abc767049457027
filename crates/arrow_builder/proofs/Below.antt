-- What holds of the columns of all nodes.
use Rattle.std.proofs.Common.{◌≡◌, ◌↔◌, ℕ, zero, suc, ◌+◌, ◌*◌, ◌<◌, ◌≤◌, ℤ, Bool, true, false, List, [], ◌∷◌, length, map, take, Option, None, Some, if◌then◌else◌, refl, ap, sym, ◌∙◌, subst, arith, length-take}
use Rattle.std.specs.List.{AllByRecursion, range_with_len}
use Rattle.arrow_types.specs.DataType.{TypeId}
use Rattle.arrow_types.specs.Field.{FieldTree, FieldHeader, none, more}
use Rattle.arrow_types.specs.View.{field_view}
use Rattle.arrow_types.specs.declared.field.Encoding.{Encoding}
use Rattle.arrow_data.specs.Column.{ValueList}
use Rattle.arrow_layout.specs.Form.{node_form, int_width, index_form}
use Rattle.arrow_layout.specs.Layout.{HasFixed, list_offsets}
use Rattle.arrow_data.specs.Parts.{value_slot}
use Rattle.arrow_layout.specs.PlainValue.{PlainValue, int_value, null_value}
use Rattle.arrow_data.specs.Same.{Begins}
use Rattle.arrow_layout.specs.Slots.{AreIndices, IsIndex, int_slot, is_valid_at, item_place, slots}
use Rattle.arrow_layout.specs.declared.form.Form.{Form}
use Rattle.arrow_layout.specs.declared.form.Form.TheVariants as forms
use Rattle.arrow_layout.specs.declared.form.ListForm.{ListForm}
use Rattle.arrow_data.specs.Listed.{values_by}
use Rattle.arrow_bits.specs.Numbers.{int_of}
use Rattle.arrow_builder.specs.Buffers.{buffers_in}
use Rattle.arrow_builder.specs.Built.{Built, AreBelow, HaveSlots, counts_in, cut_to, fields_in, raws_in}
use Rattle.arrow_builder.specs.Columns.{AllBelow, AllNodes, AreHeld, child_column}
use Rattle.arrow_builder.specs.Fields.{field_form}
use Rattle.arrow_builder.specs.Finished.{AreIndexed, HaveEntries, IsIndexed, RefersTo}
use Rattle.arrow_builder.specs.Kept.{CountsItems, Keeps}
use Rattle.arrow_builder.specs.Nodes.{IsNode, built_of, slot_in}
use Rattle.arrow_builder.specs.declared.node.Node.TheInside.{Inside}
use Rattle.arrow_builder.proofs.Growing.{keeps_fewer, take_slots}
use Rattle.arrow_builder.proofs.Held.{column_of_none, held_take}

-- if all columns of the children are empty, whatever holds of empty columns holds of all of them
empty_below : (P : FieldHeader → List PlainValue → Type 0) → ((h : FieldHeader) → P h []) → (form : Form) (fields : FieldTree) (k : ℕ) (raw : List PlainValue) → ((j : ℕ) → child_column form j raw ≡ [])
    → AllBelow P form fields k raw
empty_below P e form none k raw empty = tt
empty_below P e form (more h c rest) k raw empty = (
  subst (P h) (sym (empty k)) (e h),
  subst (AllBelow P (node_form h.tag h.encoding) c 0) (sym (empty k)) (empty_below P e (node_form h.tag h.encoding) c 0 [] (λ j. column_of_none (node_form h.tag h.encoding) j)),
  empty_below P e form rest (k + 1) raw empty,
)

-- what holds of the children, cut to their columns, holds of the columns
below_all : (P : FieldHeader → List PlainValue → Type 0) (form : Form) (k n : ℕ) (raw : List PlainValue) (bs : List Built) → ((j : ℕ) → n ≡ length (child_column form j raw)) → AreHeld form k raw bs
    → AllByRecursion (λ (b : Built). AllNodes P b.field (take n b.raw)) bs ↔ AllBelow P form (fields_in bs) k raw
below_all P form k n raw [] long held = (λ _. tt, λ _. tt)
below_all P form k n raw (b ∷ bs) long held =
    let own : take n b.raw ≡ child_column form k raw = ap (λ m. take m b.raw) (long k) ∙ held.0 in
    let rest = below_all P form (k + 1) n raw bs long held.1 in (
      (λ h. let o = subst (AllNodes P b.field) own h.0 in (o.0, o.1, rest.0 h.1)),
      (λ h. (subst (AllNodes P b.field) (sym own) (h.0, h.1), rest.1 h.2)),
    )

-- the same for the children of every node
children_all : (P : FieldHeader → List PlainValue → Type 0) → ((h : FieldHeader) → P h []) → (tag : TypeId) (e : Option Encoding) (fields : FieldTree) (n : ℕ) (raw : List PlainValue) (bs : List Built)
    → ((j : ℕ) → n ≡ length (child_column (node_form tag e) j raw)) → AreBelow e fields bs → AreHeld (node_form tag e) 0 raw bs
    → AllByRecursion (λ (b : Built). AllNodes P b.field (take n b.raw)) bs ↔ AllBelow P (node_form tag e) fields 0 raw
children_all P empty tag None fields n raw bs long below held =
    subst (λ fs. AllByRecursion (λ (b : Built). AllNodes P b.field (take n b.raw)) bs ↔ AllBelow P (node_form tag None) fs 0 raw) below (below_all P (node_form tag None) 0 n raw bs long held)
children_all P empty tag (Some e) fields n raw bs long below held = (
  (λ _. empty_below P empty (node_form tag (Some e)) fields 0 raw (λ j. refl)),
  (λ _. subst (AllByRecursion (λ (b : Built). AllNodes P b.field (take n b.raw))) (sym below.1) tt),
)

-- a list that begins with values is at least as long as they are
begins_long : (p xs : List PlainValue) → Begins p xs → length p ≤ length xs
begins_long p xs h = omega (arith, length-take (length p) xs, ap (λ vs. length vs) h)

-- children that begin with their columns have the slots of these
held_long : (form : Form) (k n : ℕ) (raw : List PlainValue) (bs : List Built) → ((j : ℕ) → n ≡ length (child_column form j raw)) → AreHeld form k raw bs → HaveSlots n bs
held_long form k n raw [] long held = tt
held_long form k n raw (b ∷ bs) long held = (omega (arith, long k, begins_long (child_column form k raw) b.raw held.0), held_long form (k + 1) n raw bs long held.1)

-- the same of a node
pub node_held : (a : Inside) (len : ℕ) → IsNode a → AreHeld (field_form (field_view a.field)) 0 (take len (built_of a).raw) a.children.items
node_held a len ok = held_take (field_form (field_view a.field)) len (built_of a).raw a.children.items ok.held

pub node_long : (a : Inside) (len n : ℕ) → IsNode a → ((k : ℕ) → n ≡ length (child_column (field_form (field_view a.field)) k (take len (built_of a).raw))) → HaveSlots n a.children.items
node_long a len n ok long = held_long (field_form (field_view a.field)) 0 n (take len (built_of a).raw) a.children.items long (node_held a len ok)

-- indices of no slots have their values
entries_none : (ds : List (ℤ × ValueList)) (e : Option Encoding) → HaveEntries ds e []
entries_none ds None = tt
entries_none ds (Some e) = tt

-- the indices of a node, and of the slots of its children that it covers
pub node_indexed : (ds : List (ℤ × ValueList)) (a : Inside) (len n : ℕ) → IsNode a → ((k : ℕ) → n ≡ length (child_column (field_form (field_view a.field)) k (take len (built_of a).raw)))
    → AllByRecursion (λ (b : Built). AreIndexed ds (cut_to n b)) a.children.items ↔ AllBelow (IsIndexed ds) (field_form (field_view a.field)) (field_view a.field).children 0 (take len (built_of a).raw)
node_indexed ds a len n ok long =
    children_all (IsIndexed ds) (λ h. entries_none ds h.encoding) (field_view a.field).head.tag (field_view a.field).head.encoding (field_view a.field).children n (take len (built_of a).raw) a.children.items long
    ok.below (node_held a len ok)

-- the ranges of the first lists of a node
pub lists_kept : (a : Inside) (list : ListForm) (len : ℕ) → field_form (field_view a.field) ≡ forms.Lists list → len ≤ a.len → IsNode a
    → Keeps (forms.Lists list) len (buffers_in a.buffers) (counts_in a.children.items)
lists_kept a list len form le ok =
    subst (λ f. Keeps f len (buffers_in a.buffers) (counts_in a.children.items)) form (keeps_fewer (field_form (field_view a.field)) len a.len (buffers_in a.buffers) (counts_in a.children.items) le ok.kept)

-- the first lists cover as many items as lie before the offset after them
pub lists_shown : (a : Inside) (list : ListForm) (len : ℕ) → field_form (field_view a.field) ≡ forms.Lists list → len ≤ a.len → IsNode a
    → (k : ℕ) → item_place list (list_offsets list (buffers_in a.buffers)) len ≡ length (child_column (field_form (field_view a.field)) k (take len (built_of a).raw))
lists_shown a list len form le ok k =
    (subst (λ f. CountsItems f a.len (buffers_in a.buffers) (built_of a).raw) form ok.counted) len le ∙ ap (λ f. length (child_column f k (take len (built_of a).raw))) (sym form)

-- slot by slot
all_from : (P : PlainValue → Type 0) (n a : ℕ) (f : ℕ → PlainValue) → AllByRecursion P (map f (range_with_len a n)) → (j : ℕ) → j < n → P (f (a + j))
all_from P zero a f h j l = absurd (omega (arith, l))
all_from P (suc n) a f h zero l = let here : a ≡ a + 0 = omega arith in subst (λ m. P (f m)) here h.0
all_from P (suc n) a f h (suc j) l = let there : a + 1 + j ≡ a + suc j = omega arith in subst (λ m. P (f m)) there (all_from P n (a + 1) f h.1 j (omega (arith, l)))

-- the values of slots
pub slots_have : (P : PlainValue → Type 0) (n : ℕ) (f : ℕ → PlainValue) → AllByRecursion P (slots n f) → (j : ℕ) → j < n → P (f j)
slots_have P n f h j l = let here : 0 + j ≡ j = omega arith in subst (λ m. P (f m)) here (all_from P n 0 f h j l)

to_all : (P : PlainValue → Type 0) (n a : ℕ) (f : ℕ → PlainValue) → ((j : ℕ) → j < a + n → P (f j)) → AllByRecursion P (map f (range_with_len a n))
to_all P zero a f h = tt
to_all P (suc n) a f h = (h a (omega arith), to_all P n (a + 1) f (λ j l. h j (omega (arith, l))))

-- an index, or null
index_or_null : (count : ℕ) (z : ℤ) (valid : Bool) → RefersTo count (if valid then int_value z else null_value) ↔ (valid ≡ true → IsIndex count z)
index_or_null count z true = (λ h _. h, λ h. h refl)
index_or_null count z false = (λ _ no. absurd (cc), λ _. tt)

-- the indices in slots
pub indices_refer : (len width : ℕ) (signed : Bool) (validity indices : List ℕ) (count : ℕ)
    → AreIndices len width signed validity indices count ↔ AllByRecursion (RefersTo count) (slots len (int_slot width signed validity indices))
indices_refer len width signed validity indices count = (
  (λ h. to_all (RefersTo count) len 0 (int_slot width signed validity indices) (λ j l. (index_or_null count (int_of indices (width * j) width signed) (is_valid_at validity j)).1 (h j (omega (arith, l))))),
  (λ h j l valid. (index_or_null count (int_of indices (width * j) width signed) (is_valid_at validity j)).0 (slots_have (RefersTo count) len (int_slot width signed validity indices) h j l) valid),
)

-- the numbers of a node with an encoding
pub numbers_fixed : (a : Inside) (e : Encoding) (len : ℕ) → (field_view a.field).head.encoding ≡ Some e → len ≤ a.len → IsNode a
    → HasFixed len (int_width e.index.bits) a.buffers.validity.items a.buffers.values.items
numbers_fixed a e len is le ok =
    let form : field_form (field_view a.field) ≡ index_form e = ap (node_form (field_view a.field).head.tag) is in
    let kept = subst (λ f. Keeps f len (buffers_in a.buffers) (counts_in a.children.items)) form (keeps_fewer (field_form (field_view a.field)) len a.len (buffers_in a.buffers) (counts_in a.children.items) le ok.kept) in
    record { bits = λ _. kept.bits; long = kept.long }

-- its first values are its first indices
pub numbers_slots : (a : Inside) (e : Encoding) (len : ℕ) → (field_view a.field).head.encoding ≡ Some e → len ≤ a.len
    → take len (built_of a).raw ≡ slots len (int_slot (int_width e.index.bits) e.index.signed a.buffers.validity.items a.buffers.values.items)
numbers_slots a e len is le =
    let form : field_form (field_view a.field) ≡ index_form e = ap (node_form (field_view a.field).head.tag) is in
    take_slots (slot_in a) a.len len le ∙ subst (λ f. slots len (λ j. value_of f a j) ≡ slots len (λ j. value_of (index_form e) a j)) (sym form) refl
  where
    value_of : Form → Inside → ℕ → PlainValue
    value_of f a j = value_slot f (buffers_in a.buffers) (raws_in a.children.items) j

-- whether they have their values
pub numbers_indexed : (ds : List (ℤ × ValueList)) (a : Inside) (e : Encoding) (len : ℕ) → (field_view a.field).head.encoding ≡ Some e → len ≤ a.len
    → AreIndices len (int_width e.index.bits) e.index.signed a.buffers.validity.items a.buffers.values.items (length (values_by ds e.id)) ↔ IsIndexed ds (field_view a.field).head (take len (built_of a).raw)
numbers_indexed ds a e len is le =
    let refer = indices_refer len (int_width e.index.bits) e.index.signed a.buffers.validity.items a.buffers.values.items (length (values_by ds e.id)) in
    let whole = subst (λ vs. AreIndices len (int_width e.index.bits) e.index.signed a.buffers.validity.items a.buffers.values.items (length (values_by ds e.id)) ↔ AllByRecursion (RefersTo (length (values_by ds e.id))) vs) (sym (numbers_slots a e len is le)) refer in
    subst (λ x. AreIndices len (int_width e.index.bits) e.index.signed a.buffers.validity.items a.buffers.values.items (length (values_by ds e.id)) ↔ HaveEntries ds x (take len (built_of a).raw)) (sym is) whole
