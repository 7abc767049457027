-- Lists and structs whose items and fields were looked up before.
use Rattle.std.proofs.Common.{◌≡◌, ◌<◌, ◌≤◌, ◌+◌, ℕ, zero, suc, List, [], ◌∷◌, ◌++◌, true, false, Some, if◌then◌else◌, length, take, get_or, slice_get, codes, refl, sym, ap, ap₂, ◌∙◌, subst, arith, append_assoc, append-nil}
use Rattle.std.proofs.Math.Seq.{take-suc}
use Rattle.std.proofs.lemmas.List.{map-append, take_all}
use Rattle.std.proofs.lemmas.Simd.{map-map}
use Rattle.arrow_types.specs.Field.{FieldTree, none, more}
use Rattle.arrow_types.specs.View.{field_view, fields_view}
use Rattle.arrow_types.specs.declared.field.Field.{Field}
use Rattle.arrow_layout.specs.PlainValue.{PlainValue, null_value, struct_value, value_at, values_of}
use Rattle.arrow_layout.specs.Slots.{is_valid_at, item_place, or_null}
use Rattle.arrow_layout.specs.declared.offsets.ItemPlaces.{ItemPlaces}
use Rattle.arrow_data.specs.Column.{Column, AreOf, resolved_row_of}
use Rattle.arrow_data.specs.Same.{HaveSlot}
use Rattle.arrow_data.specs.Shown.{ListsItems}
use Rattle.arrow_data.specs.View.{HoldStructs}
use Rattle.arrow_csv.specs.Made.{AreHeadedTexts, AreHeads, HasFieldTexts, HasItemsAt, columns_of, head_of}
use Rattle.arrow_csv.specs.Texts.{Appends, ArePartTexts, IsItemText, IsStructOf, IsText, after, joined}
use Rattle.arrow_csv.specs.declared.struct_text.FieldText.{FieldText}
use Rattle.arrow_csv.proofs.Joining.{as_many, struct_text}

-- a valid slot has its value
valid_value : (validity : List ℕ) (i : ℕ) (value : PlainValue) → is_valid_at validity i ≡ true → or_null validity i value ≡ value
valid_value validity i value valid = ap (λ b. if b then value else null_value) valid

-- another slot has none
no_value : (validity : List ℕ) (i : ℕ) (value : PlainValue) → is_valid_at validity i ≡ false → or_null validity i value ≡ null_value
no_value validity i value invalid = ap (λ b. if b then value else null_value) invalid

-- ---- lists

-- a list that is not valid is a null
pub no_list : (c : Column) (validity : List ℕ) (places : ItemPlaces) (items : Column) (i : ℕ) → HasItemsAt c validity places items → i < length c.raw → is_valid_at validity i ≡ false → value_at c.resolved i ≡ null_value
no_list c validity places items i has less invalid = has.held.5 i less ∙ no_value validity i _ invalid

-- a valid one has the items at its places
pub list_held : (c : Column) (validity : List ℕ) (places : ItemPlaces) (items : Column) (i start stop : ℕ) → HasItemsAt c validity places items → i < length c.raw → is_valid_at validity i ≡ true
    → start ≡ item_place places.form places.offsets.now i → stop ≡ item_place places.form places.offsets.now (i + 1) → start ≤ stop → stop ≤ places.top → ListsItems c i start stop items
list_held c validity places items i start stop has less valid starts stops ordered inside = record {
  typed = has.held.2.typed;
  ordered = ordered;
  inside = omega (arith, inside, has.top);
  long = has.long;
  same = rw (starts, stops) (has.held.5 i less ∙ valid_value validity i _ valid);
}

-- ---- structs

-- a struct that is not valid is a null
pub no_struct : (c : Column) (validity : List ℕ) (texts : List FieldText) (i : ℕ) → HasFieldTexts c validity texts → i < length c.raw → is_valid_at validity i ≡ false → value_at c.resolved i ≡ null_value
no_struct c validity texts i has less invalid = has.0.4 i less ∙ no_value validity i _ invalid

-- a valid one has the values of its fields' columns
struct_held : (c : Column) (validity : List ℕ) (children : List Column) (i : ℕ) → HoldStructs c validity children → i < length c.raw → is_valid_at validity i ≡ true → value_at c.resolved i ≡ struct_value (values_of (resolved_row_of children i))
struct_held c validity children i held less valid =
    held.4 i less ∙ valid_value validity i _ valid ∙ ap (λ vs. struct_value (values_of vs)) (map-map (λ vs. value_at vs i) (λ (x : Column). x.resolved) children)

-- columns that are at least as long have the slot
all_longer : (n i : ℕ) (children : List Column) → i < n → ((k : ℕ) (child : Column) → slice_get children k ≡ Some child → n ≤ length child.raw) → HaveSlot i children
all_longer n i [] less each = tt
all_longer n i (d ∷ ds) less each = (omega (arith, less, each 0 d refl), all_longer n i ds less (λ k child is. each (suc k) child is))

-- each field's column has the slots of the structs
pub fields_have_slot : (c : Column) (validity : List ℕ) (texts : List FieldText) (i : ℕ) → HasFieldTexts c validity texts → i < length c.raw → HaveSlot i (columns_of texts)
fields_have_slot c validity texts i has less = all_longer (length c.raw) i (columns_of texts) less (λ k child is. (has.0.2.each k child is).longer)

-- so has the column of each of them
pub slot_of_field : (texts : List FieldText) (i k : ℕ) (f : FieldText) → k < length texts → f ≡ get_or texts k f → HaveSlot i (columns_of texts) → i < length f.slots.raw
slot_of_field [] i k f less is has = absurd (omega arith)
slot_of_field (g ∷ gs) i zero f less is has = subst (λ (x : FieldText). i < length x.slots.raw) (sym is) (omega (arith, has.0))
slot_of_field (g ∷ gs) i (suc k) f less is has = slot_of_field gs i k f (omega (arith, less)) is has.1

-- ---- the texts of the fields' values, after their heads

headed_next : (fs : List FieldText) (f : FieldText) (i : ℕ) (text own : List ℕ) → AreHeadedTexts fs i text → IsItemText f.slots.data_type (value_at f.slots.resolved i) own → AreHeadedTexts (fs ++ f ∷ []) i (text ++ f.head.items ++ own)
headed_next [] f i text own standing_text is = (own, [], is, refl, ap (λ t. t ++ f.head.items ++ own) standing_text ∙ sym (append-nil (f.head.items ++ own)))
headed_next (g ∷ gs) f i text own standing_text is =
    let before = g.head.items ++ standing_text.0 in
    let others = standing_text.1 in
    let head = f.head.items in (
      standing_text.0,
      others ++ head ++ own,
      standing_text.2,
      headed_next gs f i others own standing_text.3 is,
      ap (λ t. t ++ head ++ own) standing_text.4 ∙ ap (λ t. t ++ own) (append_assoc before others head) ∙ append_assoc before (others ++ head) own,
    )

-- no fields have no texts
pub headed_none : (fs : List FieldText) (i : ℕ) (old : List ℕ) → Appends (AreHeadedTexts (take 0 fs) i) old old
headed_none fs i old = ([], refl, sym (append-nil old))

-- one more field: its head, and a text of its value
pub headed_more : (fs : List FieldText) (i k : ℕ) (f : FieldText) (old out before new : List ℕ) → k < length fs → f ≡ get_or fs k f → Appends (AreHeadedTexts (take k fs) i) old out → before ≡ out ++ f.head.items
    → Appends (IsItemText f.slots.data_type (value_at f.slots.resolved i)) before new → Appends (AreHeadedTexts (take (k + 1) fs) i) old new
headed_more fs i k f old out before new less is standing_text parted put =
    let text = standing_text.0 in
    let own = put.0 in
    let head = f.head.items in
    let next : suc k ≡ k + 1 = omega arith in
    let seen : take (suc k) fs ≡ take k fs ++ f ∷ [] = take-suc fs k f less ∙ ap (λ (g : FieldText). take k fs ++ g ∷ []) (sym is) in
    let all = subst (λ gs. AreHeadedTexts gs i (text ++ head ++ own)) (sym seen ∙ ap (λ n. take n fs) next) (headed_next (take k fs) f i text own standing_text.1 put.1) in (
      text ++ head ++ own,
      all,
      put.2 ∙ ap (λ t. t ++ own) (parted ∙ ap (λ t. t ++ head) standing_text.2 ∙ append_assoc old text head) ∙ append_assoc old (text ++ head) own,
    )

-- all fields
pub headed_done : (fs : List FieldText) (i k : ℕ) (old out : List ℕ) → length fs ≤ k → Appends (AreHeadedTexts (take k fs) i) old out → Appends (AreHeadedTexts fs i) old out
headed_done fs i k old out h standing_text = subst (λ gs. Appends (AreHeadedTexts gs i) old out) (take_all k fs h) standing_text

-- texts after the heads of later fields are those of the fields, each after a semicolon
later_parts : (fields : FieldTree) (k : ℕ) (fs : List FieldText) (i : ℕ) (text : List ℕ) → AreOf fields (columns_of fs) → AreHeads (suc k) fields fs → AreHeadedTexts fs i text
    → (texts : List (List ℕ)) × ArePartTexts fields (values_of (resolved_row_of (columns_of fs) i)) texts × (text ≡ after texts)
later_parts none k [] i text typed heads standing_text = ([], refl, standing_text)
later_parts none k (f ∷ fs) i text typed heads standing_text = absurd typed
later_parts (more head children rest) k [] i text typed heads standing_text = absurd typed
later_parts (more head children rest) k (f ∷ fs) i text typed heads standing_text =
    let own = standing_text.0 in
    let others = later_parts rest (suc k) fs i standing_text.1 typed.2 heads.1 standing_text.3 in (
      (head.name ++ codes "=" ++ own) ∷ others.0,
      ((own, subst (λ type. IsItemText type (value_at f.slots.resolved i) own) typed.0 standing_text.2, refl), others.1),
      standing_text.4 ∙ ap₂ (λ a b. a ++ own ++ b) heads.0 others.2,
    )

-- and those of all fields are joined
first_parts : (fields : FieldTree) (fs : List FieldText) (i : ℕ) (text : List ℕ) → AreOf fields (columns_of fs) → AreHeads 0 fields fs → AreHeadedTexts fs i text
    → (texts : List (List ℕ)) × ArePartTexts fields (values_of (resolved_row_of (columns_of fs) i)) texts × (text ≡ joined texts)
first_parts none [] i text typed heads standing_text = ([], refl, standing_text)
first_parts none (f ∷ fs) i text typed heads standing_text = absurd typed
first_parts (more head children rest) [] i text typed heads standing_text = absurd typed
first_parts (more head children rest) (f ∷ fs) i text typed heads standing_text =
    let own = standing_text.0 in
    let others = later_parts rest 0 fs i standing_text.1 typed.2 heads.1 standing_text.3 in (
      (head.name ++ codes "=" ++ own) ∷ others.0,
      ((own, subst (λ type. IsItemText type (value_at f.slots.resolved i) own) typed.0 standing_text.2, refl), others.1),
      standing_text.4 ∙ ap₂ (λ a b. a ++ own ++ b) heads.0 others.2,
    )

-- between braces they are a text of the struct
pub braced_text : (c : Column) (validity : List ℕ) (fs : List FieldText) (i : ℕ) (old opened out whole : List ℕ) → HasFieldTexts c validity fs → i < length c.raw → is_valid_at validity i ≡ true
    → opened ≡ old ++ codes "{" → Appends (AreHeadedTexts fs i) opened out → whole ≡ out ++ codes "}" → Appends (λ text. (null : List ℕ) → IsText null c.data_type (value_at c.resolved i) text) old whole
braced_text c validity fs i old opened out whole has less valid first standing_text last =
    let parts = first_parts c.data_type.children fs i standing_text.0 has.0.2.typed has.1 standing_text.1 in
    let row = resolved_row_of (columns_of fs) i in
    let inner = joined parts.0 in
    let is : IsStructOf c.data_type.children row (codes "{" ++ inner ++ codes "}") = (parts.0, parts.1, refl) in (
      codes "{" ++ inner ++ codes "}",
      λ null. struct_text null c.data_type c.data_type.children row (value_at c.resolved i) (codes "{" ++ inner ++ codes "}") (struct_held c validity (columns_of fs) i has.0 less valid) refl is,
      last ∙ ap (λ t. t ++ codes "}") (standing_text.2 ∙ ap₂ (λ a b. a ++ b) first parts.2 ∙ append_assoc old (codes "{") inner) ∙ append_assoc old (codes "{" ++ inner) (codes "}"),
    )

-- ---- the heads

heads_next : (fs : List Field) (j k : ℕ) (texts : List FieldText) (f : Field) (text : FieldText) → k < length fs → f ≡ get_or fs k f → AreHeads j (fields_view (take k fs)) texts → text.head.items ≡ head_of (j + k) (field_view f).head.name
    → AreHeads j (fields_view (take (suc k) fs)) (texts ++ text ∷ [])
heads_next [] j k texts f text less is heads own = absurd (omega (arith, less))
heads_next (g ∷ gs) j zero [] f text less is heads own =
    let first : j + 0 ≡ j = omega arith in
    (own ∙ ap₂ (λ n (x : Field). head_of n (field_view x).head.name) first is, refl)
heads_next (g ∷ gs) j zero (t ∷ texts) f text less is heads own = absurd (cc heads)
heads_next (g ∷ gs) j (suc k) [] f text less is heads own = absurd heads
heads_next (g ∷ gs) j (suc k) (t ∷ texts) f text less is heads own =
    let next : j + suc k ≡ suc j + k = omega arith in
    (heads.0, heads_next gs (suc j) k texts f text (omega (arith, less)) is heads.1 (own ∙ ap (λ n. head_of n (field_view f).head.name) next))

-- the heads and columns of the first k fields
abbrev pub FieldsMade : List Field → List Column → ℕ → List FieldText → Type 0
FieldsMade fs cs k texts = AreHeads 0 (fields_view (take k fs)) texts × (columns_of texts ≡ take k cs)

-- those of no fields
pub made_none : (fs : List Field) (cs : List Column) → FieldsMade fs cs 0 []
made_none fs cs = (refl, refl)

-- one more
pub made_more : (fs : List Field) (cs : List Column) (k : ℕ) (texts : List FieldText) (f : Field) (c : Column) (text : FieldText) → AreOf (fields_view fs) cs → k < length cs → f ≡ get_or fs k f → c ≡ get_or cs k c → FieldsMade fs cs k texts
    → text.head.items ≡ head_of k (field_view f).head.name → text.slots ≡ c → FieldsMade fs cs (k + 1) (texts ++ text ∷ [])
made_more fs cs k texts f c text typed less is at made own values =
    let next : suc k ≡ k + 1 = omega arith in
    let inside : k < length fs = omega (arith, less, as_many fs cs typed) in
    let place : k ≡ 0 + k = omega arith in
    let heads = heads_next fs 0 k texts f text inside is made.0 (own ∙ ap (λ n. head_of n (field_view f).head.name) place) in
    let seen : take (suc k) cs ≡ take k cs ++ c ∷ [] = take-suc cs k c less ∙ ap (λ (d : Column). take k cs ++ d ∷ []) (sym at) in
    let columns : columns_of (texts ++ text ∷ []) ≡ take (suc k) cs = map-append (λ (x : FieldText). x.slots) texts (text ∷ []) ∙ ap₂ (λ ds (d : Column). ds ++ d ∷ []) made.1 values ∙ sym seen in
    subst (λ n. FieldsMade fs cs n (texts ++ text ∷ [])) next (heads, columns)

-- all of them
pub made_done : (fs : List Field) (cs : List Column) (k : ℕ) (texts : List FieldText) → AreOf (fields_view fs) cs → length cs ≤ k → FieldsMade fs cs k texts → AreHeads 0 (fields_view fs) texts × (columns_of texts ≡ cs)
made_done fs cs k texts typed h made =
    let fields = take_all k fs (omega (arith, h, as_many fs cs typed)) in
    (subst (λ gs. AreHeads 0 (fields_view gs) texts) fields made.0, made.1 ∙ take_all k cs h)
