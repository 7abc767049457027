-- The tree of a type: absent, or the table of a type, whose fields hold no tables. All of it follows from the row of
-- a type (what a reader checks) and its layout (what is written), for every type alike.
use Rattle.std.proofs.Common.{◌≡◌, ℕ, suc, ◌+◌, ◌-◌, ◌≤◌, Bool, true, false, ◌&&◌, not, if◌then◌else◌, List, [], ◌∷◌, Option, Some, None, is_some, refl, sym, ap, subst, ◌∙◌, ◌⊎◌, inl, inr, arith, true≢false}
use Rattle.std.specs.Option.{is_none}
use Rattle.std.proofs.lemmas.Bool.{and_parts, and_right, cases_Bool}
use Rattle.arrow_flatbuf.specs.declared.layout.Width.{Width}
use Rattle.arrow_flatbuf.specs.declared.layout.Width.TheVariants.{One, Two, Four, Eight}
use Rattle.arrow_flatbuf.specs.declared.layout.FieldValue.TheVariants.{Target}
use Rattle.arrow_flatbuf.specs.Nodes.{Node, TableFields, last, absent as gap, scalar, offset, after, after_cells, cells_place, CellsPlaced, NodePlaced}
use Rattle.arrow_flatbuf.specs.Nodes as laid
use Rattle.arrow_flatbuf.proofs.Laid.{reaches}
use Rattle.arrow_flatbuf.specs.Placed.{SlotPlaced}
use Rattle.arrow_flatbuf.specs.Table.{field_place}
use Rattle.arrow_types.specs.DataType as tags
use Rattle.arrow_types.specs.DataType.{TypeId}
use Rattle.arrow_types.specs.TypeSet.{is_core, is_late, leaves_out}
use Rattle.arrow_types.specs.declared.type_set.TypeSet.{TypeSet}
use Rattle.arrow_types.specs.declared.type_set.TypeSet.TheVariants.{All}
use Rattle.arrow_meta_tree.specs.declared.codes.TypeCode.{TypeCode}
use Rattle.arrow_meta_tree.specs.declared.kinds.FieldForm.{FieldForm}
use Rattle.arrow_meta_tree.specs.declared.kinds.FieldForm.TheVariants as forms
use Rattle.arrow_meta_tree.specs.declared.kinds.TableKind.{TableKind}
use Rattle.arrow_meta_tree.specs.declared.kinds.TableKind.TheVariants as kinds
use Rattle.arrow_meta_schema.specs.Conditions.{any, any_in, lacks_table, is_unsupported}
use Rattle.arrow_meta_tree.specs.Kinds.{forms_of, header_table, opened, opened_of, table_of, type_table, spot, spots_from, code_at}
use Rattle.arrow_meta_tree.specs.Parts.{is_table}
use Rattle.arrow_meta_tree.specs.Trees.{absent, number, Tree, leaf, Trees, none}
use Rattle.arrow_meta_tree.specs.Types.{code_of, type_row, type_code, taken}
use Rattle.arrow_meta_tree.specs.Within.{levels, levels_all, visits, visits_all, entries, entries_all, text_bytes, text_bytes_all, text_length}
use Rattle.arrow_meta_writer.specs.Aligned.{PlacedAligned, AllAligned}
use Rattle.arrow_meta_writer.specs.Layouts.{tag_code, type_cells}
use Rattle.arrow_meta_writer.specs.Written.{cell_trees, node_leaf, laid_tree, type_tree}
use Rattle.arrow_meta_writer.proofs.Placed.{at, absent_spot, closed_spot, form_of, number_field, text_field, opened_field}

-- The fields of a type's table have no levels, no fields and no pairs, and pass each test.

cells_levels : (fs : List FieldForm) (cells : TableFields) → levels_all (cell_trees fs cells) ≡ 0
cells_levels [] cells = refl
cells_levels (f ∷ fs) last = omega (arith, cells_levels fs last)
cells_levels (f ∷ fs) (gap rest) = omega (arith, cells_levels fs rest)
cells_levels (f ∷ fs) (scalar w n rest) = omega (arith, cells_levels fs rest)
cells_levels (f ∷ fs) (offset node rest) = omega (arith, cells_levels fs rest)

cells_visits : (fs : List FieldForm) (cells : TableFields) → visits_all (cell_trees fs cells) ≡ 0
cells_visits [] cells = refl
cells_visits (f ∷ fs) last = omega (arith, cells_visits fs last)
cells_visits (f ∷ fs) (gap rest) = omega (arith, cells_visits fs rest)
cells_visits (f ∷ fs) (scalar w n rest) = omega (arith, cells_visits fs rest)
cells_visits (f ∷ fs) (offset node rest) = omega (arith, cells_visits fs rest)

cells_entries : (fs : List FieldForm) (cells : TableFields) → entries_all (cell_trees fs cells) ≡ 0
cells_entries [] cells = refl
cells_entries (f ∷ fs) last = omega (arith, cells_entries fs last)
cells_entries (f ∷ fs) (gap rest) = omega (arith, cells_entries fs rest)
cells_entries (f ∷ fs) (scalar w n rest) = omega (arith, cells_entries fs rest)
cells_entries (f ∷ fs) (offset node rest) = omega (arith, cells_entries fs rest)

cells_pass : (test : TableKind → Trees → Bool) (fs : List FieldForm) (cells : TableFields) → any_in test (cell_trees fs cells) ≡ false
cells_pass test [] cells = refl
cells_pass test (f ∷ fs) last = cells_pass test fs last
cells_pass test (f ∷ fs) (gap rest) = cells_pass test fs rest
cells_pass test (f ∷ fs) (scalar w n rest) = cells_pass test fs rest
cells_pass test (f ∷ fs) (offset node rest) = cells_pass test fs rest

-- So does the tree of a type, which is a table of no kind but that of a type.

opened_levels : (code : TypeCode) (fs : List FieldForm) (cells : TableFields) → levels (laid_tree (opened_of code fs) cells) ≡ 0
opened_levels code [] cells = refl
opened_levels code (f ∷ fs) cells = omega (arith, cells_levels (type_row code).fields cells)

opened_visits : (code : TypeCode) (fs : List FieldForm) (cells : TableFields) → visits (laid_tree (opened_of code fs) cells) ≡ 0
opened_visits code [] cells = refl
opened_visits code (f ∷ fs) cells = omega (arith, cells_visits (type_row code).fields cells)

opened_entries : (code : TypeCode) (fs : List FieldForm) (cells : TableFields) → entries (laid_tree (opened_of code fs) cells) ≡ 0
opened_entries code [] cells = refl
opened_entries code (f ∷ fs) cells = omega (arith, cells_entries (type_row code).fields cells)

opened_passes : (test : TableKind → Trees → Bool) → ((code : TypeCode) (xs : Trees) → test (kinds.Type code) xs ≡ false) → (code : TypeCode) (fs : List FieldForm) (cells : TableFields)
    → any test (laid_tree (opened_of code fs) cells) ≡ false
opened_passes test passes code [] cells = refl
opened_passes test passes code (f ∷ fs) cells = rw (passes code (cell_trees (type_row code).fields cells), cells_pass test (type_row code).fields cells) refl

table_levels : (code : Option TypeCode) (cells : TableFields) → levels (laid_tree (table_of code) cells) ≡ 0
table_levels None cells = refl
table_levels (Some code) cells = opened_levels code (type_row code).fields cells

table_visits : (code : Option TypeCode) (cells : TableFields) → visits (laid_tree (table_of code) cells) ≡ 0
table_visits None cells = refl
table_visits (Some code) cells = opened_visits code (type_row code).fields cells

table_entries : (code : Option TypeCode) (cells : TableFields) → entries (laid_tree (table_of code) cells) ≡ 0
table_entries None cells = refl
table_entries (Some code) cells = opened_entries code (type_row code).fields cells

table_passes : (test : TableKind → Trees → Bool) → ((code : TypeCode) (xs : Trees) → test (kinds.Type code) xs ≡ false) → (code : Option TypeCode) (cells : TableFields)
    → any test (laid_tree (table_of code) cells) ≡ false
table_passes test passes None cells = refl
table_passes test passes (Some code) cells = opened_passes test passes code (type_row code).fields cells

pub type_levels : (types : TypeSet) (tag : TypeId) → levels (type_tree types tag) ≡ 0
type_levels types tag = table_levels (taken types (type_code (tag_code tag))) (type_cells tag)

pub type_visits : (types : TypeSet) (tag : TypeId) → visits (type_tree types tag) ≡ 0
type_visits types tag = table_visits (taken types (type_code (tag_code tag))) (type_cells tag)

pub type_entries : (types : TypeSet) (tag : TypeId) → entries (type_tree types tag) ≡ 0
type_entries types tag = table_entries (taken types (type_code (tag_code tag))) (type_cells tag)

-- no table is missing
pub whole_type : (types : TypeSet) (tag : TypeId) → any lacks_table (type_tree types tag) ≡ false
whole_type types tag = table_passes lacks_table (λ code xs. refl) (taken types (type_code (tag_code tag))) (type_cells tag)

-- nothing is unsupported
pub supported_type : (types : TypeSet) (tag : TypeId) → any is_unsupported (type_tree types tag) ≡ false
supported_type types tag = table_passes is_unsupported (λ code xs. refl) (taken types (type_code (tag_code tag))) (type_cells tag)

there : (opens : Option TableKind) (cells : TableFields) → (is_some opens && not (is_table (laid_tree opens cells))) ≡ false
there None cells = refl
there (Some kind) cells = refl

-- the type's table is there if its code opens one
pub has_type : (types : TypeSet) (tag : TypeId) → (is_some (type_table types (tag_code tag)) && not (is_table (type_tree types tag))) ≡ false
has_type types tag = there (type_table types (tag_code tag)) (type_cells tag)

-- The texts of a type's table are not longer than its layout.

cells_reach : (q : ℕ) (cells : TableFields) → q ≤ after_cells q cells
cells_reach q last = omega arith
cells_reach q (gap rest) = cells_reach q rest
cells_reach q (scalar w n rest) = cells_reach q rest
cells_reach q (offset node rest) = omega (arith, reaches q node, cells_reach (after q node) rest)

node_long : (q : ℕ) (node : Node) → q + text_length (node_leaf node) ≤ after q node
node_long q (laid.text s) = omega arith
node_long q node = omega (arith, reaches q node)

cells_long : (q : ℕ) (fs : List FieldForm) (cells : TableFields) → q + text_bytes_all (cell_trees fs cells) ≤ after_cells q cells
cells_long q [] cells = omega (arith, cells_reach q cells)
cells_long q (f ∷ fs) last = omega (arith, cells_long q fs last)
cells_long q (f ∷ fs) (gap rest) = omega (arith, cells_long q fs rest)
cells_long q (f ∷ fs) (scalar w n rest) = omega (arith, cells_long q fs rest)
cells_long q (f ∷ fs) (offset node rest) = omega (arith, node_long q node, cells_long (after q node) fs rest)

table_long : (q : ℕ) (opens : Option TableKind) (cells : TableFields) → q + text_bytes (laid_tree opens cells) ≤ after q (laid.table cells)
table_long q None cells = omega (arith, reaches q (laid.table cells))
table_long q (Some kind) cells = omega (arith, cells_long (cells_place q cells) (forms_of kind) cells)

pub type_long : (types : TypeSet) (q : ℕ) (tag : TypeId) → q + text_bytes (type_tree types tag) ≤ after q (laid.table (type_cells tag))
type_long types q tag = table_long q (type_table types (tag_code tag)) (type_cells tag)

-- A type that a set leaves out opens no table; each other type opens the one that the set of all types opens.

named : (tag : TypeId) → type_code (tag_code tag) ≡ Some (code_of tag)
named tags.null = refl
named tag = refl

-- a type is late by its row if it is late
late_by_row : (tag : TypeId) → is_late ((type_row (code_of tag)).tag none) ≡ is_late tag
late_by_row tags.null = refl
late_by_row tag = refl

none_taken : (out : Bool) (code : TypeCode) → is_none (if out then None else Some code) ≡ out
none_taken true code = refl
none_taken false code = refl

-- a type that a set leaves out is not taken
pub known_type : (types : TypeSet) (tag : TypeId) → is_none (taken types (type_code (tag_code tag))) ≡ leaves_out types tag
known_type types tag =
    ap (λ code. is_none (taken types code)) (named tag) ∙ none_taken (leaves_out types ((type_row (code_of tag)).tag none)) (code_of tag)
    ∙ ap (λ late. late && is_core types) (late_by_row tag)

left : (types : TypeSet) (code : TypeCode) → leaves_out types ((type_row code).tag none) ≡ true → taken types (Some code) ≡ None
left types code h = ap (λ (out : Bool). if out then None else Some code) h

had : (types : TypeSet) (code : TypeCode) → leaves_out types ((type_row code).tag none) ≡ false → taken types (Some code) ≡ Some code
had types code h = ap (λ (out : Bool). if out then None else Some code) h

-- nothing is outside of all types
none_outside : (tag : TypeId) → leaves_out All tag ≡ false
none_outside tag = and_right (is_late tag) false refl

as_all : (types : TypeSet) (code : TypeCode) → (taken types (Some code) ≡ None) ⊎ (taken types (Some code) ≡ taken All (Some code))
as_all types code =
    let tag = (type_row code).tag none in
    elim (cases_Bool (leaves_out types tag)) [
      | inl out ↦ inl (left types code out)
      | inr kept ↦ inr (had types code kept ∙ sym (had All code (none_outside tag)))
    ]

-- the tree of a type is absent, or the one that the set of all types opens
pub opened_or_none : (types : TypeSet) (tag : TypeId) → (type_tree types tag ≡ leaf absent) ⊎ (type_tree types tag ≡ type_tree All tag)
opened_or_none types tag =
    let tree : Option TypeCode → Tree = λ code. laid_tree (table_of code) (type_cells tag) in
    let own = ap (taken types) (named tag) in
    let all = ap (taken All) (named tag) in
    elim (as_all types (code_of tag)) [
      | inl nothing ↦ inl (ap tree (own ∙ nothing))
      | inr same ↦ inr (ap tree (own ∙ same ∙ sym all))
    ]

-- the tree of a type of the set is the one that the set of all types opens
pub opened_in : (types : TypeSet) (tag : TypeId) → leaves_out types tag ≡ false → type_tree types tag ≡ type_tree All tag
opened_in types tag within =
    let code = code_of tag in
    let tree : Option TypeCode → Tree = λ code. laid_tree (table_of code) (type_cells tag) in
    let kept : leaves_out types ((type_row code).tag none) ≡ false = ap (λ late. late && is_core types) (late_by_row tag) ∙ within in
    ap tree (ap (taken types) (named tag) ∙ had types code kept ∙ sym (had All code (none_outside ((type_row code).tag none))) ∙ sym (ap (taken All) (named tag)))

-- The layout of a type matches its tree.

-- whether a field of this form holds a number of this width
abbrev is_form : Width → FieldForm → Bool
is_form One forms.Byte = true
is_form Two forms.Short = true
is_form Four forms.Int = true
is_form Eight forms.Long = true
is_form width form = false

-- whether cells hold what fields of these forms do; the fields after the last cell are absent
abbrev are_laid : List FieldForm → TableFields → Bool
are_laid [] cells = true
are_laid (f ∷ fs) last = true
are_laid (f ∷ fs) (gap rest) = are_laid fs rest
are_laid (f ∷ fs) (scalar w n rest) = is_form w f && are_laid fs rest
are_laid (forms.Text ∷ fs) (offset (laid.text s) rest) = are_laid fs rest
are_laid (f ∷ fs) (offset node rest) = false

form_is : (w : Width) (f : FieldForm) → is_form w f ≡ true → f ≡ form_of w
form_is One forms.Byte h = refl
form_is Two forms.Short h = refl
form_is Four forms.Int h = refl
form_is Eight forms.Long h = refl
form_is w f h = absurd (true≢false (sym h))

-- a table that a code would open, in a field that is absent
absent_opened : (b : List ℕ) (opens : Option TableKind) (place : Option ℕ) → place ≡ None → PlacedAligned b (opened opens place) (leaf absent)
absent_opened b None place e = absent_spot b forms.Presence None refl
absent_opened b (Some kind) place e = absent_spot b (forms.Table kind) place e

-- a field that is absent, of any form
absent_field : (b : List ℕ) (p i : ℕ) (f : FieldForm) → field_place (at b p) i ≡ None → PlacedAligned b (spot f (at b p) i) (leaf absent)
absent_field b p i (forms.Header types) e = absent_opened b (header_table types (code_at (at b p) (i - 1))) (field_place (at b p) i) e
absent_field b p i (forms.Type types) e = absent_opened b (type_table types (code_at (at b p) (i - 1))) (field_place (at b p) i) e
absent_field b p i f e = absent_spot b f (field_place (at b p) i) e

-- the cells of field i and those after it
cells_from : (b : List ℕ) (p i : ℕ) (cells : TableFields) → CellsPlaced b p (suc i) cells → CellsPlaced b p (i + 1) cells
cells_from b p i cells h = let next : suc i ≡ i + 1 = omega arith in subst (λ n. CellsPlaced b p n cells) next h

none_placed : (b : List ℕ) (p : ℕ) (fs : List FieldForm) (i : ℕ) → CellsPlaced b p i last → AllAligned b (spots_from fs (at b p) i) (cell_trees fs last)
none_placed b p [] i h = tt
none_placed b p (f ∷ fs) i h = (absent_field b p i f (h i (omega arith)), none_placed b p fs (i + 1) (λ j after. h j (omega (arith, after))))

cells_placed : (b : List ℕ) (p : ℕ) (fs : List FieldForm) (cells : TableFields) (i : ℕ) → are_laid fs cells ≡ true → CellsPlaced b p i cells → AllAligned b (spots_from fs (at b p) i) (cell_trees fs cells)
cells_placed b p [] cells i fit h = tt
cells_placed b p (f ∷ fs) last i fit h = none_placed b p (f ∷ fs) i h
cells_placed b p (f ∷ fs) (gap rest) i fit h = (absent_field b p i f h.0, cells_placed b p fs rest (i + 1) fit (cells_from b p i rest h.1))
cells_placed b p (f ∷ fs) (scalar w n rest) i fit h =
    let both = and_parts (is_form w f) (are_laid fs rest) fit in
    let P : FieldForm → Type 0 = λ form. PlacedAligned b (spot form (at b p) i) (leaf (number n)) in
    (subst P (sym (form_is w f both.0)) (number_field w b p i n h.0), cells_placed b p fs rest (i + 1) both.1 (cells_from b p i rest h.1))
cells_placed b p (forms.Text ∷ fs) (offset (laid.text s) rest) i fit h =
    (text_field b p i h.0 s h.1 h.2, cells_placed b p fs rest (i + 1) fit (cells_from b p i rest h.3))
cells_placed b p (f ∷ fs) (offset node rest) i fit h = absurd (true≢false (sym fit))

-- each type is laid out as its row says
laid_by_row : (tag : TypeId) → are_laid (type_row (code_of tag)).fields (type_cells tag) ≡ true
laid_by_row (tags.timestamp unit None) = refl
laid_by_row (tags.timestamp unit (Some zone)) = refl
laid_by_row tag = refl

opened_placed : (b : List ℕ) (p r : ℕ) (opens : Option TableKind) (code : TypeCode) (fs : List FieldForm) (cells : TableFields) → opens ≡ opened_of code fs → are_laid (type_row code).fields cells ≡ true
    → SlotPlaced (at b p) 3 (Target r) → NodePlaced b r (laid.table cells) → PlacedAligned b (opened opens (field_place (at b p) 3)) (laid_tree (opened_of code fs) cells)
opened_placed b p r opens code [] cells e fit h k = closed_spot b opens (field_place (at b p) 3) e
opened_placed b p r opens code (f ∷ fs) cells e fit h k =
    opened_field b p 3 r opens (kinds.Type code) (cell_trees (type_row code).fields cells) e h k.0 (cells_placed b r (type_row code).fields cells 0 fit k.1)

table_placed : (b : List ℕ) (p r : ℕ) (opens : Option TableKind) (found : Option TypeCode) (tag : TypeId) → opens ≡ table_of found → (found ≡ None) ⊎ (found ≡ Some (code_of tag))
    → SlotPlaced (at b p) 3 (Target r) → NodePlaced b r (laid.table (type_cells tag)) → PlacedAligned b (opened opens (field_place (at b p) 3)) (laid_tree (table_of found) (type_cells tag))
table_placed b p r opens found tag e which h k =
    let P : Option TypeCode → Type 0 = λ code. opens ≡ table_of code → PlacedAligned b (opened opens (field_place (at b p) 3)) (laid_tree (table_of code) (type_cells tag)) in
    let one : P (Some (code_of tag)) = λ e. opened_placed b p r opens (code_of tag) (type_row (code_of tag)).fields (type_cells tag) e (laid_by_row tag) h k in
    let nothing : P None = λ e. closed_spot b opens (field_place (at b p) 3) e in
    elim which [
      | inl is ↦ subst P (sym is) nothing e
      | inr is ↦ subst P (sym is) one e
    ]

taken_or_none : (types : TypeSet) (tag : TypeId) → (taken types (type_code (tag_code tag)) ≡ None) ⊎ (taken types (type_code (tag_code tag)) ≡ Some (code_of tag))
taken_or_none types tag =
    let own = ap (taken types) (named tag) in
    elim (cases_Bool (leaves_out types ((type_row (code_of tag)).tag none))) [
      | inl out ↦ inl (own ∙ left types (code_of tag) out)
      | inr kept ↦ inr (own ∙ had types (code_of tag) kept)
    ]

-- a type's table, where a reader opens it
pub type_placed : (types : TypeSet) (b : List ℕ) (p r : ℕ) (tag : TypeId) → code_at (at b p) 2 ≡ tag_code tag → SlotPlaced (at b p) 3 (Target r) → NodePlaced b r (laid.table (type_cells tag)) → PlacedAligned b (spot (forms.Type types) (at b p) 3) (type_tree types tag)
type_placed types b p r tag e h k =
    table_placed b p r (type_table types (code_at (at b p) 2)) (taken types (type_code (tag_code tag))) tag (ap (type_table types) e) (taken_or_none types tag) h k
