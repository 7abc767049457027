-- One canonical node holds exactly the stored form of its values.
use Rattle.std.proofs.Common.{◌≡◌, ℕ, zero, suc, ◌+◌, ◌*◌, ◌-◌, ◌<◌, ◌≤◌, false, List, [], ◌∷◌, ◌++◌, length, map, take, drop, get_or, refl, ap, ◌∙◌, sym, subst, arith, length-take, length-drop}
use Rattle.std.specs.Prelude.{replicate}
use Rattle.std.specs.List.{AllByRecursion, flat_map}
use Rattle.std.proofs.Math.Nat.{mul-suc}
use Rattle.std.proofs.lemmas.List.{drop-drop, get_or-drop, get_or-map, get_or-replicate, get_or-take, length-map, length-replicate, same_lists, take-append-drop}
use Rattle.std.proofs.lemmas.List.FromFn.{get_or-map-range_with_len, length-map-range_with_len}
use Rattle.arrow_types.specs.Field.{FieldTree, width}
use Rattle.arrow_layout.specs.Form.{buffers_of}
use Rattle.arrow_layout.specs.Layout.{HoldsSlots, buffer, child_count}
use Rattle.arrow_layout.specs.ByteRanges.{AreBytes}
use Rattle.arrow_data.specs.Parts.{value_slot}
use Rattle.arrow_layout.specs.PlainValue.{PlainValue, null_value, binary_value, utf8_value, list_value, struct_value, values_of, value_at, is_null_value, field_value, nth_value}
use Rattle.arrow_layout.specs.Slots.{HasOffsets, is_valid_at, or_null, slots}
use Rattle.arrow_layout.specs.declared.form.Form.{Form}
use Rattle.arrow_layout.specs.declared.form.Form.TheVariants as forms
use Rattle.arrow_layout.specs.declared.form.ListForm.TheVariants as lists
use Rattle.arrow_layout.specs.declared.form.OffsetWidth.{OffsetWidth}
use Rattle.arrow_data.proofs.Lists.{list_again}
use Rattle.arrow_layout.proofs.Widths.{items_inside}
use Rattle.arrow_body_laws.specs.Raws.{bytes_in_value, items_in_value, raws_below}
use Rattle.arrow_body_laws.specs.Stored.{own_chunks, validity_bytes}
use Rattle.arrow_body_laws.specs.Canonical.{BelowNulls, IsSpare, IsCanonicalLayout, IsCanonicalOffsets, IsCanonicalValidity}
use Rattle.arrow_body_laws.proofs.Joined.{no_elements}
use Rattle.arrow_body_laws.proofs.Reranged.{AreRanged, offsets_again, ranges_again}
use Rattle.arrow_body_laws.proofs.Reslotted.{AreShown, are_shown, are_valid, bools_again, fixed_again, ints_again, slot_by, validity_again}
use Rattle.arrow_body_laws.proofs.Slotted.{any_default}

-- slot j of each column is null
abbrev pub AreNullAt : ℕ → List (List PlainValue) → Type 0
AreNullAt j raws = AllByRecursion (λ values. value_at values j ≡ null_value) raws

-- The properties of a canonical node that holds these values, in terms of its buffers and the values below it.
pub record IsKept (form : Form) (c : FieldTree) (vs : List PlainValue) (b : List (List ℕ)) (below : List (List PlainValue)) : Type 0 where
  pub read : slots (length vs) (value_slot form b below) ≡ vs
  pub many : length b ≡ buffers_of form
  pub small : (k : ℕ) → AreBytes (buffer b k)
  pub validity : IsCanonicalValidity (length vs) (buffer b 0)
  pub spare : IsSpare (length vs) (buffer b 0)
  pub layout : IsCanonicalLayout form (length vs) b (map length below)
  pub laid : HoldsSlots form (length vs) b (map length below)
  pub hidden : BelowNulls form (length vs) (buffer b 0) (λ j. AreNullAt j below)
  pub long : length below ≡ length (raws_below form c vs)

-- a list of one list is its first element
one_of : {A : Type 0} (xs : List (List A)) → length xs ≡ 1 → xs ≡ get_or xs 0 [] ∷ []
one_of [] long = absurd (omega (arith, long))
one_of (x ∷ xs) long = ap (λ ys. x ∷ ys) (no_elements xs (omega (arith, long)))

two_of : (xs : List (List ℕ)) → length xs ≡ 2 → xs ≡ buffer xs 0 ∷ buffer xs 1 ∷ []
two_of [] long = absurd (omega (arith, long))
two_of (x ∷ xs) long = ap (λ ys. x ∷ ys) (one_of xs (omega (arith, long)))

three_of : (xs : List (List ℕ)) → length xs ≡ 3 → xs ≡ buffer xs 0 ∷ buffer xs 1 ∷ buffer xs 2 ∷ []
three_of [] long = absurd (omega (arith, long))
three_of (x ∷ xs) long = ap (λ ys. x ∷ ys) (two_of xs (omega (arith, long)))

-- the bitmap of a node whose slots are these values or null
bitmap_kept : (form : Form) (c : FieldTree) (vs : List PlainValue) (b : List (List ℕ)) (below : List (List PlainValue)) (payload : ℕ → PlainValue) → IsKept form c vs b below
    → ((j : ℕ) → is_null_value (payload j) ≡ false) → AreShown vs (λ j. or_null (buffer b 0) j (payload j)) → buffer b 0 ≡ validity_bytes vs
bitmap_kept form c vs b below payload k full shown = validity_again vs (buffer b 0) (are_valid vs (buffer b 0) payload full shown) (k.small 0) k.validity k.spare

-- the values below a list are those of its one child
child_long : (below : List (List PlainValue)) → length below ≡ 1 → child_count (map length below) ≡ length (get_or below 0 [])
child_long below long = get_or-map length below 0 [] 0 (omega (arith, long))

ranged_lists : (w : OffsetWidth) (c : FieldTree) (vs : List PlainValue) (b : List (List ℕ)) (below : List (List PlainValue)) → IsKept (forms.Lists (lists.Offsets w)) c vs b below
    → AreRanged w (items_in_value 0) (λ ys. list_value (values_of ys)) vs (buffer b 0) (buffer b 1) (get_or below 0 [])
ranged_lists w c vs b below k =
    let count = child_long below k.long in
    record {
      shown = are_shown vs (value_slot (forms.Lists (lists.Offsets w)) b below) k.read;
      read = list_again;
      nothing = refl;
      small = k.small 1;
      canonical = subst (λ n. IsCanonicalOffsets w (length vs) (buffer b 0) (buffer b 1) n) count k.layout;
      rising = subst (λ n. HasOffsets w (length vs) n (buffer b 1)) count k.laid.rising;
    }

ranged_strings : (w : OffsetWidth) (c : FieldTree) (vs : List PlainValue) (b : List (List ℕ)) (below : List (List PlainValue)) → IsKept (forms.Bytes w) c vs b below
    → AreRanged w bytes_in_value binary_value vs (buffer b 0) (buffer b 1) (buffer b 2)
ranged_strings w c vs b below k = record {
  shown = are_shown vs (value_slot (forms.Bytes w) b below) k.read;
  read = λ ys. refl;
  nothing = refl;
  small = k.small 1;
  canonical = k.layout;
  rising = k.laid.rising;
}

ranged_texts : (w : OffsetWidth) (c : FieldTree) (vs : List PlainValue) (b : List (List ℕ)) (below : List (List PlainValue)) → IsKept (forms.Texts w) c vs b below
    → AreRanged w bytes_in_value utf8_value vs (buffer b 0) (buffer b 1) (buffer b 2)
ranged_texts w c vs b below k = record {
  shown = are_shown vs (value_slot (forms.Texts w) b below) k.read;
  read = λ ys. refl;
  nothing = refl;
  small = k.small 1;
  canonical = k.layout;
  rising = k.laid.rising;
}

-- the buffers of a node are the stored ones
pub kept_chunks : (form : Form) (c : FieldTree) (vs : List PlainValue) (b : List (List ℕ)) (below : List (List PlainValue)) → IsKept form c vs b below → b ≡ own_chunks form vs
kept_chunks forms.Nulls c vs b below k = no_elements b k.many
kept_chunks forms.Bits c vs b below k =
    let shown = are_shown vs (value_slot forms.Bits b below) k.read in
    let first = bitmap_kept forms.Bits c vs b below _ k (λ j. refl) shown in
    let second = bools_again vs (buffer b 0) (buffer b 1) shown (k.small 1) k.layout in
    two_of b k.many ∙ (λ i. first i ∷ second i ∷ [])
kept_chunks (forms.Numbers number) c vs b below k =
    let shown = are_shown vs (value_slot (forms.Numbers number) b below) k.read in
    let first = bitmap_kept (forms.Numbers number) c vs b below _ k (λ j. refl) shown in
    let second = ints_again number vs (buffer b 0) (buffer b 1) shown (k.small 1) k.layout in
    two_of b k.many ∙ (λ i. first i ∷ second i ∷ [])
kept_chunks (forms.Bytes w) c vs b below k =
    let r = ranged_strings w c vs b below k in
    let first = bitmap_kept (forms.Bytes w) c vs b below _ k (λ j. refl) r.shown in
    let second = offsets_again w bytes_in_value binary_value vs (buffer b 0) (buffer b 1) (buffer b 2) r in
    let third = ranges_again w bytes_in_value binary_value vs (buffer b 0) (buffer b 1) (buffer b 2) r in
    three_of b k.many ∙ (λ i. first i ∷ second i ∷ third i ∷ [])
kept_chunks (forms.Texts w) c vs b below k =
    let r = ranged_texts w c vs b below k in
    let first = bitmap_kept (forms.Texts w) c vs b below _ k (λ j. refl) r.shown in
    let second = offsets_again w bytes_in_value utf8_value vs (buffer b 0) (buffer b 1) (buffer b 2) r in
    let third = ranges_again w bytes_in_value utf8_value vs (buffer b 0) (buffer b 1) (buffer b 2) r in
    three_of b k.many ∙ (λ i. first i ∷ second i ∷ third i ∷ [])
kept_chunks (forms.FixedBytes w) c vs b below k =
    let shown = are_shown vs (value_slot (forms.FixedBytes w) b below) k.read in
    let first = bitmap_kept (forms.FixedBytes w) c vs b below _ k (λ j. refl) shown in
    let second = fixed_again w vs (buffer b 0) (buffer b 1) shown k.layout in
    two_of b k.many ∙ (λ i. first i ∷ second i ∷ [])
kept_chunks (forms.Lists (lists.Fixed size)) c vs b below k =
    let shown = are_shown vs (value_slot (forms.Lists (lists.Fixed size)) b below) k.read in
    let first = bitmap_kept (forms.Lists (lists.Fixed size)) c vs b below _ k (λ j. refl) shown in
    one_of b k.many ∙ (λ i. first i ∷ [])
kept_chunks (forms.Lists (lists.Offsets w)) c vs b below k =
    let r = ranged_lists w c vs b below k in
    let first = bitmap_kept (forms.Lists (lists.Offsets w)) c vs b below _ k (λ j. refl) r.shown in
    let second = offsets_again w (items_in_value 0) (λ ys. list_value (values_of ys)) vs (buffer b 0) (buffer b 1) (get_or below 0 []) r in
    two_of b k.many ∙ (λ i. first i ∷ second i ∷ [])
kept_chunks forms.Structs c vs b below k =
    let shown = are_shown vs (value_slot forms.Structs b below) k.read in
    let first = bitmap_kept forms.Structs c vs b below _ k (λ j. refl) shown in
    one_of b k.many ∙ (λ i. first i ∷ [])

-- a property of all values is one of each
all_at : {A : Type 0} (P : A → Type 0) (xs : List A) (i : ℕ) (d : A) → i < length xs → AllByRecursion P xs → P (get_or xs i d)
all_at P [] i d h all = absurd (omega (arith, h))
all_at P (x ∷ xs) zero d h all = all.0
all_at P (x ∷ xs) (suc i) d h all = all_at P xs i d (omega (arith, h)) all.1

-- value k of values that are given one by one
nth_of : (xs : List PlainValue) (k : ℕ) → nth_value k (values_of xs) ≡ get_or xs k null_value
nth_of [] k = refl
nth_of (x ∷ xs) zero = refl
nth_of (x ∷ xs) (suc k) = nth_of xs k

-- the children of a struct have its values, null under a null
part_kept : (c : FieldTree) (vs : List PlainValue) (b : List (List ℕ)) (below : List (List PlainValue)) → IsKept forms.Structs c vs b below → (n j : ℕ) → n < length below → j < length vs
    → value_at (get_or below n []) j ≡ field_value n (value_at vs j)
part_kept c vs b below k n j h there =
    let row = map (λ values. value_at values j) below in
    slot_by (field_value n) (is_valid_at (buffer b 0) j) (struct_value (values_of row)) (value_at vs j) (value_at (get_or below n []) j)
    (are_shown vs (value_slot forms.Structs b below) k.read j there)
    (λ valid. sym (nth_of row n ∙ get_or-map (λ values. value_at values j) below n [] null_value h))
    (λ null. all_at (λ values. value_at values j ≡ null_value) below n [] h (k.hidden j there null))

parts_kept : (c : FieldTree) (vs : List PlainValue) (b : List (List ℕ)) (below : List (List PlainValue)) → IsKept forms.Structs c vs b below → (n : ℕ) → n < length below
    → get_or below n [] ≡ map (field_value n) vs
parts_kept c vs b below k n h =
    let part = get_or below n [] in
    let many = length-map below length in
    let long : length part ≡ length vs =
    sym (get_or-map length below n [] 0 h) ∙ all_at (λ count. count ≡ length vs) (map length below) n 0 (omega (arith, h, many)) k.layout in
    same_lists part (map (field_value n) vs) (long ∙ sym (length-map vs (field_value n)))
    (λ j d at. let there : j < length vs = omega (arith, at, long) in
    any_default part j d null_value at ∙ part_kept c vs b below k n j h there ∙ sym (get_or-map (field_value n) vs j null_value d there))

structs_kept : (c : FieldTree) (vs : List PlainValue) (b : List (List ℕ)) (below : List (List PlainValue)) → IsKept forms.Structs c vs b below → below ≡ raws_below forms.Structs c vs
structs_kept c vs b below k =
    let column : ℕ → List PlainValue = λ n. map (field_value n) vs in
    let many = length-map-range_with_len column 0 (width c) in
    same_lists below (raws_below forms.Structs c vs) k.long
    (λ n d at. any_default below n d [] at ∙ parts_kept c vs b below k n at
    ∙ sym (get_or-map-range_with_len column 0 (width c) n n d (omega (arith, at, k.long, many)) (omega arith)))

-- a range of a list whose elements are all null
pub nulls_taken : (n a : ℕ) (xs : List PlainValue) → a + n ≤ length xs → ((k : ℕ) → k < n → value_at xs (a + k) ≡ null_value) → take n (drop a xs) ≡ replicate n null_value
nulls_taken n a xs inside nulls =
    let long : length (take n (drop a xs)) ≡ n = omega (arith, length-take n (drop a xs), length-drop a xs, inside) in
    same_lists (take n (drop a xs)) (replicate n null_value) (long ∙ sym (length-replicate n null_value))
    (λ k d at. let here : k < n = omega (arith, at, long) in
    get_or-take n (drop a xs) k d here ∙ get_or-drop a xs k d ∙ any_default xs (a + k) d null_value (omega (arith, inside, here)) ∙ nulls k here ∙ sym (get_or-replicate n k null_value d here))

-- a list is its parts of equal length, one after another
parts_joined : (n : ℕ) (g : PlainValue → List PlainValue) (vs xs : List PlainValue) → length xs ≡ n * length vs
    → ((j : ℕ) → j < length vs → take n (drop (n * j) xs) ≡ g (value_at vs j)) → xs ≡ flat_map g vs
parts_joined n g [] xs long each = no_elements xs (omega (arith, long))
parts_joined n g (v ∷ vs) xs long each =
    let more = mul-suc n (length vs) in
    let nothing : n * 0 ≡ 0 = omega arith in
    let first : take n xs ≡ g v = ap (λ k. take n (drop k xs)) (sym nothing) ∙ each 0 (omega arith) in
    let rest = parts_joined n g vs (drop n xs) (omega (arith, length-drop n xs, long, more))
    (λ j h. let on : n + n * j ≡ n * suc j = omega (arith, mul-suc n j) in
    ap (take n) (drop-drop (n * j) n xs ∙ ap (λ k. drop k xs) on) ∙ each (suc j) (omega (arith, h))) in
    sym (take-append-drop n xs) ∙ (λ i. first i ++ rest i)

-- the child of fixed-size lists has their items, nulls under a null
part_of_lists : (size : ℕ) (c : FieldTree) (vs : List PlainValue) (b : List (List ℕ)) (below : List (List PlainValue)) → IsKept (forms.Lists (lists.Fixed size)) c vs b below
    → length (get_or below 0 []) ≡ size * length vs → (j : ℕ) → j < length vs → take size (drop (size * j) (get_or below 0 [])) ≡ items_in_value size (value_at vs j)
part_of_lists size c vs b below k many j h =
    let child = get_or below 0 [] in
    let wide : size * (j + 1) - size * j ≡ size = omega arith in
    let inside = items_inside size j (length vs) (length child) h (omega (arith, many)) in
    let next : size * j + size ≡ size * (j + 1) = omega arith in
    let items = take (size * (j + 1) - size * j) (drop (size * j) child) in
    slot_by (items_in_value size) (is_valid_at (buffer b 0) j) (list_value (values_of items)) (value_at vs j) (take size (drop (size * j) child))
    (are_shown vs (value_slot (forms.Lists (lists.Fixed size)) b below) k.read j h)
    (λ valid. ap (λ n. take n (drop (size * j) child)) (sym wide) ∙ sym (list_again items))
    (λ null. nulls_taken size (size * j) child (omega (arith, next, inside.1))
    (λ n small. all_at (λ values. value_at values (size * j + n) ≡ null_value) below 0 [] (omega (arith, k.long)) (k.hidden j h null n small)))

fixed_lists_kept : (size : ℕ) (c : FieldTree) (vs : List PlainValue) (b : List (List ℕ)) (below : List (List PlainValue)) → IsKept (forms.Lists (lists.Fixed size)) c vs b below
    → get_or below 0 [] ≡ flat_map (items_in_value size) vs
fixed_lists_kept size c vs b below k =
    let many : length (get_or below 0 []) ≡ size * length vs =
    sym (child_long below k.long) ∙ all_at (λ count. count ≡ size * length vs) (map length below) 0 0 (omega (arith, length-map below length, k.long)) k.layout in
    parts_joined size (items_in_value size) vs (get_or below 0 []) many (part_of_lists size c vs b below k many)

-- and the values below it are those that are stored there
pub kept_below : (form : Form) (c : FieldTree) (vs : List PlainValue) (b : List (List ℕ)) (below : List (List PlainValue)) → IsKept form c vs b below → below ≡ raws_below form c vs
kept_below forms.Nulls c vs b below k = no_elements below k.long
kept_below forms.Bits c vs b below k = no_elements below k.long
kept_below (forms.Numbers number) c vs b below k = no_elements below k.long
kept_below (forms.Bytes w) c vs b below k = no_elements below k.long
kept_below (forms.Texts w) c vs b below k = no_elements below k.long
kept_below (forms.FixedBytes w) c vs b below k = no_elements below k.long
kept_below (forms.Lists (lists.Fixed size)) c vs b below k = one_of below k.long ∙ ap (λ xs. xs ∷ []) (fixed_lists_kept size c vs b below k)
kept_below (forms.Lists (lists.Offsets w)) c vs b below k =
    one_of below k.long ∙ ap (λ xs. xs ∷ []) (ranges_again w (items_in_value 0) (λ ys. list_value (values_of ys)) vs (buffer b 0) (buffer b 1) (get_or below 0 []) (ranged_lists w c vs b below k))
kept_below forms.Structs c vs b below k = structs_kept c vs b below k
