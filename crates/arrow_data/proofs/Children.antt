-- The children of lists and structs.
use Rattle.std.proofs.Common.{◌≡◌, ℕ, zero, suc, ◌+◌, ◌*◌, ◌<◌, ◌≤◌, Bool, true, false, List, [], ◌∷◌, ◌++◌, length, map, take, drop, get_or, Option, Some, None, slice_get, refl, sym, ap, ◌∙◌, subst, arith, Bor, MatchOption, true≢false, if◌then◌else◌}
use Rattle.std.specs.List.{AllByRecursion, HoldsAt}
use Rattle.std.specs.Prelude.{IfSome, option_map}
use Rattle.std.proofs.lemmas.List.Elements.{All-from_recursion}
use Rattle.std.proofs.Math.Seq.{take-append_seam, drop-append_seam}
use Rattle.std.proofs.lemmas.List.{length-map}
use Rattle.std.proofs.lemmas.List.FromFn.{get_or-map-range_with_len, length-map-range_with_len}
use Rattle.std.proofs.lemmas.Option.{get_or_from_slice_get, slice_get-map, slice_get_read, slice_get_within}
use Rattle.arrow_bits.proofs.Rising.{numbers_from_offsets, offsets_inside}
use Rattle.arrow_types.specs.Field.{FieldTree, FieldHeader, none, more, TypeShape}
use Rattle.arrow_layout.specs.PlainValue.{PlainValue, value_at, null_value, is_null_value, list_value, struct_value, values_of, field_value, nth_value}
use Rattle.arrow_data.specs.Column.{Column, AreOf, HasChild, HasField, HasItems, IsColumn, column_dictionaries, dictionaries_of_field, field_of_listed, listed_of, slots_of, type_of_field, struct_fields, struct_fields_of}
use Rattle.arrow_layout.specs.Form.{IsLists, form_of, offset_bytes}
use Rattle.arrow_layout.specs.Slots.{slots, item_place, item_places, items_at, list_slot, struct_slot, is_valid_at, place_of, HasItemPlaces, HasOffsets}
use Rattle.arrow_layout.specs.declared.form.Form.TheVariants as forms
use Rattle.arrow_layout.specs.declared.form.ListForm.{ListForm}
use Rattle.arrow_layout.specs.declared.form.ListForm.TheVariants.{Offsets, Fixed}
use Rattle.arrow_layout.specs.declared.form.OffsetWidth.{OffsetWidth}
use Rattle.arrow_data.proofs.Shown.{length_slots, at_slots, row_same}
use Rattle.arrow_layout.proofs.Widths.{items_inside}

-- a slot that is not null is valid
valid_from_value : (b : Bool) (x : PlainValue) → is_null_value (if b then x else null_value) ≡ false → b ≡ true
valid_from_value true x h = refl
valid_from_value false x h = absurd (true≢false h)

-- the value in a valid slot
value_of_valid : (b : Bool) (x : PlainValue) → b ≡ true → (if b then x else null_value) ≡ x
value_of_valid true x h = refl
value_of_valid false x h = absurd (true≢false (sym h))

-- the column of a node of lists, and that of a node of structs
abbrev lists : TypeShape → ListForm → ℕ → List ℕ → List ℕ → Column → Column
lists t w n v o child = record {
  data_type = t;
  encoding = None;
  raw = slots n (list_slot w v o child.raw);
  resolved = slots n (list_slot w v o child.resolved);
  dictionaries = child.dictionaries;
  offsets = item_places w n o;
  below = slots_of child ∷ [];
}

abbrev structs : TypeShape → ℕ → List ℕ → List Column → Column
structs t n v cs = record {
  data_type = t;
  encoding = None;
  raw = slots n (struct_slot v (map (λ (x : Column). x.raw) cs));
  resolved = slots n (struct_slot v (map (λ (x : Column). x.resolved) cs));
  dictionaries = listed_of cs;
  offsets = [];
  below = map slots_of cs;
}

-- an offset among those of a column of lists
at_offsets : (w : OffsetWidth) (n : ℕ) (o : List ℕ) (j : ℕ) → j ≤ n → get_or (item_places (Offsets w) n o) j 0 ≡ place_of w o j
at_offsets w n o j h = get_or-map-range_with_len (place_of w o) 0 (n + 1) j j 0 (omega (arith, h)) (omega arith)

-- where the items of a list of such a column begin
at_places : (w : ListForm) (n : ℕ) (o : List ℕ) (j : ℕ) → j ≤ n → get_or (item_places w n o) j 0 ≡ item_place w o j
at_places (Offsets w) n o j h = at_offsets w n o j h
at_places (Fixed size) n o j h = get_or-map-range_with_len (λ k. size * k) 0 (n + 1) j j 0 (omega (arith, h)) (omega arith)

-- offsets do not decrease and stay within the top
offsets_known : (w : OffsetWidth) (n top : ℕ) (o : List ℕ) (j : ℕ) → ((i : ℕ) → get_or o i 0 < 256) → HasOffsets w n top o → j < n
    → (place_of w o j ≤ place_of w o (j + 1)) × (place_of w o (j + 1) ≤ top)
offsets_known w n top o j small rising h =
    let offsets = rising (omega (arith, h)) in
    let long = length-map-range_with_len (place_of w o) 0 (n + 1) in (
      (numbers_from_offsets (offset_bytes w) o n top small offsets).never j (omega arith) h,
      subst (λ x. x ≤ top) (at_offsets w n o (j + 1) (omega (arith, h))) (offsets_inside (offset_bytes w) o n top small offsets (j + 1) 0 (omega (arith, long, h))),
    )

-- nor do the indices at which items begin
pub places_known : (w : ListForm) (n top : ℕ) (o : List ℕ) (j : ℕ) → ((i : ℕ) → get_or o i 0 < 256) → HasItemPlaces w n top o → j < n
    → (item_place w o j ≤ item_place w o (j + 1)) × (item_place w o (j + 1) ≤ top)
places_known (Offsets w) n top o j small rising h = offsets_known w n top o j small rising h
places_known (Fixed size) n top o j small long h = items_inside size j n top h long

-- the value that a valid slot of lists shows
pub items_shown : (t : TypeShape) (w : ListForm) (n : ℕ) (v o : List ℕ) (child : Column) (i : ℕ) → AreOf t.children (child ∷ []) → IsColumn child → i < n → is_valid_at v i ≡ true
    → item_place w o i ≤ item_place w o (i + 1) → item_place w o (i + 1) ≤ length child.raw → HasItems (lists t w n v o child) i (item_place w o i) (item_place w o (i + 1)) child
items_shown t w n v o child i typed known inside valid order within =
    let raw = list_slot w v o child.raw in
    let resolved = list_slot w v o child.resolved in
    record {
      typed = typed;
      whole = refl;
      listed = refl;
      starts = sym (at_places w n o i (omega (arith, inside)));
      stops = sym (at_places w n o (i + 1) (omega (arith, inside)));
      ordered = order;
      inside = within;
      long = known.long;
      same = at_slots n (λ j. raw j) i inside ∙ value_of_valid (is_valid_at v i) (list_value (values_of (items_at w o child.raw i))) valid;
      same_resolved = at_slots n (λ j. resolved j) i inside ∙ value_of_valid (is_valid_at v i) (list_value (values_of (items_at w o child.resolved i))) valid;
    }

-- the same for a column that is known to be one of lists
pub items_of_column : (c : Column) (t : TypeShape) (w : ListForm) (n : ℕ) (v o : List ℕ) (child : Column) (i start stop : ℕ) → c ≡ lists t w n v o child → AreOf t.children (child ∷ []) → IsColumn child → i < n
    → is_valid_at v i ≡ true → start ≡ item_place w o i → stop ≡ item_place w o (i + 1) → start ≤ stop → stop ≤ length child.raw → HasItems c i start stop child
items_of_column c t w n v o child i start stop is typed known inside valid low high order within =
    rw (is, low, high) (items_shown t w n v o child i typed known inside valid (omega (arith, low, high, order)) (omega (arith, high, within)))

-- the child of a column of lists
pub child_shown : (c : Column) (t : TypeShape) (w : ListForm) (n : ℕ) (v o : List ℕ) (child : Column) → c ≡ lists t w n v o child → form_of t.tag ≡ forms.Lists w → AreOf t.children (child ∷ []) → IsColumn child
    → ((i : ℕ) → get_or o i 0 < 256) → HasItemPlaces w n (length child.raw) o → HasChild c child
child_shown c t w n v o child is form typed known small rising =
    let raw = list_slot w v o child.raw in
    let shown : HasChild (lists t w n v o child) child = record {
      is_list = subst IsLists (sym form) tt;
      typed = typed;
      whole = refl;
      listed = refl;
      same = λ i h full.
          let inside : i < n = omega (arith, length_slots n (λ j. raw j), h) in
          let here = at_slots n (λ j. raw j) i inside in
          let valid = valid_from_value (is_valid_at v i) (list_value (values_of (items_at w o child.raw i))) (ap is_null_value (sym here) ∙ full) in
          let places = places_known w n (length child.raw) o i small rising inside in
          let own = items_shown t w n v o child i typed known inside valid places.0 places.1 in
          rw (at_places w n o i (omega (arith, inside)), at_places w n o (i + 1) (omega (arith, inside))) own;
    } in
    subst (λ x. HasChild x child) (sym is) shown

-- value k of a row is that of column k
nth_row : (of : Column → List PlainValue) (cs : List Column) (k i : ℕ) (a : Column) → slice_get cs k ≡ Some a → nth_value k (values_of (map (λ (c : Column). value_at (of c) i) cs)) ≡ value_at (of a) i
nth_row of [] k i a e = cc
nth_row of (c ∷ cs) zero i a e =
    let same : c ≡ a = cc in
    ap (λ (x : Column). value_at (of x) i) same
nth_row of (c ∷ cs) (suc k) i a e = nth_row of cs k i a e

-- a property of all columns holds of the one that is found
holds_of_found : (P : Column → Type 0) (cs : List Column) (k : ℕ) (a : Column) → AllByRecursion P cs → slice_get cs k ≡ Some a → P a
holds_of_found P cs k a all is = subst P (get_or_from_slice_get cs k a a is) (All-from_recursion P cs all k a (slice_get_within cs k a is))

-- the type of the column of field k
type_found : (fields : FieldTree) (cs : List Column) (k : ℕ) (a : Column) → AreOf fields cs → slice_get cs k ≡ Some a → type_of_field fields k ≡ Some (a.data_type, a.encoding)
type_found none [] k a h e = absurd cc
type_found none (c ∷ cs) k a h e = absurd h
type_found (more x b rest) [] k a h e = absurd h
type_found (more x b rest) (c ∷ cs) zero a h e =
    let same : c ≡ a = cc in
    (λ i. Some (sym h.0 i, sym h.1 i)) ∙ ap (λ (y : Column). Some (y.data_type, y.encoding)) same
type_found (more x b rest) (c ∷ cs) (suc k) a h e = type_found rest cs k a h.2 e

-- a column lists as many dictionaries as its field refers to
count_listed : (head : FieldHeader) (children : FieldTree) (c : Column) → c.data_type ≡ record { tag = head.tag; children = children } → c.encoding ≡ head.encoding → IsColumn c
    → length (column_dictionaries head.encoding (record { tag = head.tag; children = children })) ≡ length c.dictionaries
count_listed head children c typed encoded known =
    ap length ((λ i. column_dictionaries (sym encoded i) (sym typed i)) ∙ sym known.lists) ∙ length-map c.dictionaries field_of_listed

-- the dictionaries of the column of field k are those that are listed for it
listed_found : (fields : FieldTree) (cs : List Column) (k : ℕ) (a : Column) → AreOf fields cs → AllByRecursion IsColumn cs → slice_get cs k ≡ Some a → a.dictionaries ≡ dictionaries_of_field fields k (listed_of cs)
listed_found none [] k a h known e = absurd cc
listed_found none (c ∷ cs) k a h known e = absurd h
listed_found (more x b rest) [] k a h known e = absurd h
listed_found (more x b rest) (c ∷ cs) zero a h known e =
    let same : c ≡ a = cc in
    let long = count_listed x b c h.0 h.1 known.0 in
    ap (λ (y : Column). y.dictionaries) (sym same) ∙ sym (ap (λ n. take n (c.dictionaries ++ listed_of cs)) long ∙ take-append_seam c.dictionaries (listed_of cs))
listed_found (more x b rest) (c ∷ cs) (suc k) a h known e =
    let long = count_listed x b c h.0 h.1 known.0 in
    listed_found rest cs k a h.2 known.1 e ∙ ap (dictionaries_of_field rest k) (sym (ap (λ n. drop n (c.dictionaries ++ listed_of cs)) long ∙ drop-append_seam c.dictionaries (listed_of cs)))

-- past the last column there is no field
type_past : (fields : FieldTree) (cs : List Column) (k : ℕ) → AreOf fields cs → length cs ≤ k → type_of_field fields k ≡ None
type_past none cs k h l = refl
type_past (more x b rest) [] k h l = absurd h
type_past (more x b rest) (c ∷ cs) zero h l = absurd (omega (arith, l))
type_past (more x b rest) (c ∷ cs) (suc k) h l = type_past rest cs k h.2 (omega (arith, l))

-- the result of `get` on a slice
pub found_from_lookup : (cs : List Column) (n : ℕ) (r : Option (Bor Column)) → IfSome r (λ x. x.now ≡ get_or cs n x.now) → MatchOption r (length cs ≤ n) (λ x. (n < length cs) × HoldsAt (λ y. x.now ≡ y) cs n)
    → MatchOption r (length cs ≤ n) (λ b. slice_get cs n ≡ Some b.now)
found_from_lookup cs n None h g = g
found_from_lookup cs n (Some a) h g = slice_get_read cs (length cs) n a.now refl g.0 h

-- the child of a struct that is at field k
part_shown : (t : TypeShape) (n : ℕ) (v : List ℕ) (cs : List Column) (k : ℕ) (a : Column)
    → form_of t.tag ≡ forms.Structs → AreOf t.children cs → AllByRecursion IsColumn cs → AllByRecursion (λ (d : Column). n ≤ length d.raw) cs → slice_get cs k ≡ Some a
    → HasField (structs t n v cs) k a
part_shown t n v cs k a tag typed known longer is =
    let fields : struct_fields (structs t n v cs) ≡ t.children = ap (λ g. struct_fields_of g t.children) tag in
    let raw = struct_slot v (map (λ (x : Column). x.raw) cs) in
    let resolved = struct_slot v (map (λ (x : Column). x.resolved) cs) in
    let long : length (slots n (λ j. raw j)) ≡ n = length_slots n (λ j. raw j) in
    record {
      typed = ap (λ f. type_of_field f k) fields ∙ type_found t.children cs k a typed is;
      whole = slice_get-map slots_of cs k ∙ ap (option_map slots_of) is;
      listed = listed_found t.children cs k a typed known is ∙ ap (λ f. dictionaries_of_field f k (listed_of cs)) (sym fields);
      longer = omega (arith, long, holds_of_found (λ (x : Column). n ≤ length x.raw) cs k a longer is);
      same = λ i h full.
          let inside : i < n = omega (arith, h, long) in
          let here = at_slots n (λ j. raw j) i inside in
          let parts = struct_value (values_of (map (λ values. value_at values i) (map (λ (x : Column). x.raw) cs))) in
          let valid = valid_from_value (is_valid_at v i) parts (ap is_null_value (sym here) ∙ full) in (
            ap (field_value k) (here ∙ value_of_valid (is_valid_at v i) parts valid) ∙ ap (λ vs. nth_value k (values_of vs)) (row_same (λ (x : Column). x.raw) cs i) ∙ nth_row (λ (x : Column). x.raw) cs k i a is,
            ap (field_value k) (at_slots n (λ j. resolved j) i inside ∙ value_of_valid (is_valid_at v i) (struct_value (values_of (map (λ values. value_at values i) (map (λ (x : Column). x.resolved) cs)))) valid)
                ∙ ap (λ vs. nth_value k (values_of vs)) (row_same (λ (x : Column). x.resolved) cs i) ∙ nth_row (λ (x : Column). x.resolved) cs k i a is,
          );
    }

-- the same for a column that is known to be one of structs
pub part_of_column : (c : Column) (t : TypeShape) (n : ℕ) (v : List ℕ) (cs : List Column) (k : ℕ) (a : Column)
    → c ≡ structs t n v cs → form_of t.tag ≡ forms.Structs → AreOf t.children cs → AllByRecursion IsColumn cs → AllByRecursion (λ (d : Column). n ≤ length d.raw) cs → slice_get cs k ≡ Some a
    → HasField c k a
part_of_column c t n v cs k a is tag typed known longer found = subst (λ x. HasField x k a) (sym is) (part_shown t n v cs k a tag typed known longer found)

-- the child of a struct at field k, or that there is none
field_shown : (t : TypeShape) (n : ℕ) (v : List ℕ) (cs : List Column) (k : ℕ) (r : Option (Bor Column))
    → form_of t.tag ≡ forms.Structs → AreOf t.children cs → AllByRecursion IsColumn cs → AllByRecursion (λ (d : Column). n ≤ length d.raw) cs
    → MatchOption r (length cs ≤ k) (λ b. slice_get cs k ≡ Some b.now)
    → MatchOption r (type_of_field (struct_fields (structs t n v cs)) k ≡ None) (λ a. HasField (structs t n v cs) k a.now)
field_shown t n v cs k None tag typed known longer is =
    let fields : struct_fields (structs t n v cs) ≡ t.children = ap (λ g. struct_fields_of g t.children) tag in
    ap (λ f. type_of_field f k) fields ∙ type_past t.children cs k typed is
field_shown t n v cs k (Some a) tag typed known longer is = part_shown t n v cs k a.now tag typed known longer is

-- the same for a column that is known to be one of structs
pub field_of_column : (c : Column) (t : TypeShape) (n : ℕ) (v : List ℕ) (cs : List Column) (k : ℕ) (r : Option (Bor Column))
    → c ≡ structs t n v cs → form_of t.tag ≡ forms.Structs → AreOf t.children cs → AllByRecursion IsColumn cs → AllByRecursion (λ (d : Column). n ≤ length d.raw) cs
    → MatchOption r (length cs ≤ k) (λ b. slice_get cs k ≡ Some b.now)
    → MatchOption r (type_of_field (struct_fields c) k ≡ None) (λ a. HasField c k a.now)
field_of_column c t n v cs k r is tag typed known longer found =
    subst (λ x. MatchOption r (type_of_field (struct_fields x) k ≡ None) (λ a. HasField x k a.now)) (sym is) (field_shown t n v cs k r tag typed known longer found)
