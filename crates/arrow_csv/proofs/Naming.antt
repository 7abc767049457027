-- Columns that are chosen by their names.
use Rattle.std.proofs.Common.{◌≡◌, ◌≤◌, ◌<◌, ◌+◌, ℕ, zero, suc, List, [], ◌∷◌, ◌++◌, length, map, take, drop, Option, None, Some, option_map, Bool, true, false, if◌then◌else◌, slice_index_or, is_some, refl, sym, ap, ◌∙◌, subst, arith}
use Rattle.std.proofs.lemmas.Bool.{false≢true}
use Rattle.std.specs.Borrow.{Bor}
use Rattle.std.specs.Str.{bytes_eq}
use Rattle.arrow_types.specs.Field.{FieldTree, none, more}
use Rattle.arrow_types.specs.View.{field_view, fields_view}
use Rattle.arrow_types.specs.declared.field.Field.{Field}
use Rattle.arrow_data.specs.Batch.{Table, HaveRows}
use Rattle.arrow_data.specs.Column.{Column}
use Rattle.arrow_csv.specs.Named.{Choice, HaveSlots, chosen, column_at, columns_named, field_before, fields_named, lacking, lacking_by, place_named, with_field}
use Rattle.arrow_csv.specs.Records.{names}

-- the column at an index has its slots
slots_taken : (n k : ℕ) (cs : List Column) → HaveSlots n cs → HaveSlots n (take 1 (drop k cs))
slots_taken n zero [] h = tt
slots_taken n zero (c ∷ cs) h = (h.0, tt)
slots_taken n (suc k) [] h = tt
slots_taken n (suc k) (c ∷ cs) h = slots_taken n k cs h.1

slots_at : (n : ℕ) (place : Option ℕ) (cs : List Column) → HaveSlots n cs → HaveSlots n (column_at place cs)
slots_at n None cs h = tt
slots_at n (Some place) cs h = slots_taken n place cs h

slots_joined : (n : ℕ) (cs ds : List Column) → HaveSlots n cs → HaveSlots n ds → HaveSlots n (cs ++ ds)
slots_joined n [] ds h g = g
slots_joined n (c ∷ cs) ds h g = (h.0, slots_joined n cs ds h.1 g)

slots_named : (n : ℕ) (names : List (List ℕ)) (fields : FieldTree) (cs : List Column) → HaveSlots n cs → HaveSlots n (columns_named names fields cs)
slots_named n [] fields cs h = tt
slots_named n (name ∷ names) fields cs h = slots_joined n (column_at (place_named name fields) cs) (columns_named names fields cs) (slots_at n (place_named name fields) cs h) (slots_named n names fields cs h)

slots_of_rows : (n rows : ℕ) (cs : List Column) → n ≤ rows → HaveRows rows cs → HaveSlots n cs
slots_of_rows n rows [] h long = tt
slots_of_rows n rows (c ∷ cs) h long = (omega (arith, h, long.0), slots_of_rows n rows cs h long.1)

-- chosen columns have a slot for each row
pub chosen_slots : (n : ℕ) (choice : Choice) (t : Table) → n ≤ (chosen choice t).rows → HaveRows t.rows t.columns → HaveSlots n (chosen choice t).columns
chosen_slots n None t h long = slots_of_rows n t.rows t.columns h long
chosen_slots n (Some names) t h long = slots_named n names t.schema.fields t.columns (slots_of_rows n t.rows t.columns h long)

-- ---- fields looked for one after another

abbrev name_at : List Field → ℕ → Field → List ℕ
name_at fs k f = (field_view (slice_index_or fs k f)).head.name

none_by : (b : Bool) (p : Option ℕ) → (if b then Some 0 else option_map suc p) ≡ None → (b ≡ false) × (p ≡ None)
none_by true p e = absurd (cc)
none_by false None e = (refl, refl)
none_by false (Some k) e = absurd (cc)

-- the first field of the name
pub found_here : (name : List ℕ) (fs : List Field) (k : ℕ) (f : Field) → k < length fs → place_named name (fields_view (take k fs)) ≡ None → bytes_eq (name_at fs k f) name ≡ true → place_named name (fields_view fs) ≡ Some k
found_here name [] k f h before is = absurd (omega arith)
found_here name (g ∷ fs) zero f h before is = rw is refl
found_here name (g ∷ fs) (suc k) f h before is =
    let w = none_by (bytes_eq (field_view g).head.name name) (place_named name (fields_view (take k fs))) before in
    rw w.0 (ap (option_map suc) (found_here name fs k f (omega (arith, h)) w.1 is))

-- one more field that does not have the name
pub none_more : (name : List ℕ) (fs : List Field) (k : ℕ) (f : Field) → k < length fs → place_named name (fields_view (take k fs)) ≡ None → bytes_eq (name_at fs k f) name ≡ false → place_named name (fields_view (take (suc k) fs)) ≡ None
none_more name [] k f h before is = absurd (omega arith)
none_more name (g ∷ fs) zero f h before is = rw is refl
none_more name (g ∷ fs) (suc k) f h before is =
    let w = none_by (bytes_eq (field_view g).head.name name) (place_named name (fields_view (take k fs))) before in
    rw w.0 (ap (option_map suc) (none_more name fs k f (omega (arith, h)) w.1 is))

-- the field at an index has its name
pub name_before : (fs : List Field) (k : ℕ) (f : Field) (others : FieldTree) → k < length fs → names (field_before k (fields_view fs) others) ≡ name_at fs k f ∷ names others
name_before [] k f others h = absurd (omega arith)
name_before (g ∷ fs) zero f others h = refl
name_before (g ∷ fs) (suc k) f others h = name_before fs k f others (omega (arith, h))

-- the field at an index, and others after it
pub name_then : (place : Option ℕ) (fields others : FieldTree) → names (with_field place fields none) ++ names others ≡ names (with_field place fields others)
name_then None fields others = refl
name_then (Some place) fields others = by place fields
  where
    by : (k : ℕ) (fs : FieldTree) → names (field_before k fs none) ++ names others ≡ names (field_before k fs others)
    by k none = refl
    by zero (more head children rest) = refl
    by (suc k) (more head children rest) = by k rest

-- ---- names looked for one after another

abbrev texts : List (Bor (List ℕ)) → List (List ℕ)
texts ns = map (λ n. n.now) ns

none_of : (p q : Option ℕ) → lacking_by p q ≡ None → ((k : ℕ) × (p ≡ Some k)) × (q ≡ None)
none_of None q e = absurd (cc)
none_of (Some k) None e = ((k, refl), refl)
none_of (Some k) (Some j) e = absurd (cc)

pub none_or_some : (p : Option ℕ) (b : Bool) → is_some p ≡ b → b ≡ true → (k : ℕ) × (p ≡ Some k)
none_or_some None b e t = absurd (false≢true (e ∙ t))
none_or_some (Some k) b e t = (k, refl)

pub none_by_test : (p : Option ℕ) → is_some p ≡ false → p ≡ None
none_by_test None e = refl
none_by_test (Some k) e = absurd (false≢true (sym e))

-- the first name that no field has
pub lacks_here : (ns : List (Bor (List ℕ))) (fields : FieldTree) (k : ℕ) (n : Bor (List ℕ)) → k < length ns → lacking (texts (take k ns)) fields ≡ None → place_named (slice_index_or ns k n).now fields ≡ None → lacking (texts ns) fields ≡ Some k
lacks_here [] fields k n h before is = absurd (omega arith)
lacks_here (m ∷ ns) fields zero n h before is = ap (λ p. lacking_by p (lacking (texts ns) fields)) is
lacks_here (m ∷ ns) fields (suc k) n h before is =
    let w = none_of (place_named m.now fields) (lacking (texts (take k ns)) fields) before in
    ap (λ q. lacking_by (place_named m.now fields) q) (lacks_here ns fields k n (omega (arith, h)) w.1 is) ∙ ap (λ p. lacking_by p (Some k)) w.0.1

-- one more name that a field has
pub lacks_none : (ns : List (Bor (List ℕ))) (fields : FieldTree) (k : ℕ) (n : Bor (List ℕ)) (j : ℕ) → k < length ns → lacking (texts (take k ns)) fields ≡ None → place_named (slice_index_or ns k n).now fields ≡ Some j
    → lacking (texts (take (suc k) ns)) fields ≡ None
lacks_none [] fields k n j h before is = absurd (omega arith)
lacks_none (m ∷ ns) fields zero n j h before is = ap (λ p. lacking_by p None) is
lacks_none (m ∷ ns) fields (suc k) n j h before is =
    let w = none_of (place_named m.now fields) (lacking (texts (take k ns)) fields) before in
    ap (λ q. lacking_by (place_named m.now fields) q) (lacks_none ns fields k n j (omega (arith, h)) w.1 is) ∙ ap (λ p. lacking_by p None) w.0.1

-- the fields of the names from one on are the field of that name and those of the names after it
pub names_next : (ns : List (Bor (List ℕ))) (fields : FieldTree) (i : ℕ) (n : Bor (List ℕ)) → i < length ns
    → names (fields_named (texts (drop i ns)) fields) ≡ names (with_field (place_named (slice_index_or ns i n).now fields) fields none) ++ names (fields_named (texts (drop (i + 1) ns)) fields)
names_next ns fields i n h = subst (λ j. names (fields_named (texts (drop i ns)) fields) ≡ names (with_field (place_named (slice_index_or ns i n).now fields) fields none) ++ names (fields_named (texts (drop j ns)) fields)) one (by ns i h)
  where
    one : suc i ≡ i + 1
    one = omega arith

    by : (ms : List (Bor (List ℕ))) (k : ℕ) → k < length ms
        → names (fields_named (texts (drop k ms)) fields) ≡ names (with_field (place_named (slice_index_or ms k n).now fields) fields none) ++ names (fields_named (texts (drop (suc k) ms)) fields)
    by [] k less = absurd (omega arith)
    by (m ∷ ms) zero less = sym (name_then (place_named m.now fields) fields (fields_named (texts ms) fields))
    by (m ∷ ms) (suc k) less = by ms k (omega (arith, less))
