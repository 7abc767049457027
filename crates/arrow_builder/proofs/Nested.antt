-- Columns below a node: cut to some slots, and each with its part of a struct.
use Rattle.std.proofs.Common.{◌≡◌, ℕ, zero, suc, ◌+◌, ◌<◌, ◌≤◌, List, [], ◌∷◌, ◌++◌, length, map, take, get_or, set, refl, ap, sym, ◌∙◌, arith, length-take, length-append}
use Rattle.std.specs.List.{AllByRecursion}
use Rattle.std.proofs.lemmas.List.{take-append-le, take-take}
use Rattle.arrow_types.specs.Field.{more, levels}
use Rattle.arrow_layout.specs.Fits.{Fits, PartsFit}
use Rattle.arrow_layout.specs.PlainValue.{PlainValue, PlainValues, null_value, bool_value, int_value, binary_value, utf8_value, list_value, struct_value, no_values, more_values, field_value, nth_value, value_at, values_of}
use Rattle.arrow_layout.specs.declared.form.Form.TheVariants as forms
use Rattle.arrow_builder.specs.Built.{Built, HaveSlots, built_size, counts_in, cut_to, fields_in, raws_in, with_parts, with_value, with_values}
use Rattle.arrow_builder.specs.Fields.{FitsField}

-- the first n columns have their part of the value, the others are unchanged
abbrev pub begun : ℕ → ℕ → ℕ → List Built → PlainValue → List Built
begun zero k at bs v = bs
begun (suc n) k at [] v = []
begun (suc n) k at (b ∷ bs) v = with_value (cut_to at b) (field_value k v) ∷ begun n (k + 1) at bs v

-- there are as many columns as before
pub begun_length : (n k at : ℕ) (bs : List Built) (v : PlainValue) → length (begun n k at bs v) ≡ length bs
begun_length zero k at bs v = refl
begun_length (suc n) k at [] v = refl
begun_length (suc n) k at (b ∷ bs) v = ap suc (begun_length n (k + 1) at bs v)

-- the next column is unchanged
pub begun_next : (n k at : ℕ) (bs : List Built) (v : PlainValue) (d : Built) → get_or (begun n k at bs v) n d ≡ get_or bs n d
begun_next zero k at bs v d = refl
begun_next (suc n) k at [] v d = refl
begun_next (suc n) k at (b ∷ bs) v d = begun_next n (k + 1) at bs v d

-- after it has its part, one more column has
pub begun_more : (n k at : ℕ) (bs : List Built) (v : PlainValue) (d : Built) → n < length bs
    → set (begun n k at bs v) n (with_value (cut_to at (get_or bs n d)) (field_value (k + n) v)) ≡ begun (suc n) k at bs v
begun_more zero k at [] v d h = absurd (omega (arith, h))
begun_more zero k at (b ∷ bs) v d h = let here : k + 0 ≡ k = omega arith in ap (λ j. with_value (cut_to at b) (field_value j v) ∷ bs) here
begun_more (suc n) k at [] v d h = absurd (omega (arith, h))
begun_more (suc n) k at (b ∷ bs) v d h =
    let there : k + suc n ≡ k + 1 + n = omega arith in
    ap (λ j. with_value (cut_to at b) (field_value k v) ∷ set (begun n (k + 1) at bs v) n (with_value (cut_to at (get_or bs n d)) (field_value j v))) there
    ∙ ap (λ cs. with_value (cut_to at b) (field_value k v) ∷ cs) (begun_more n (k + 1) at bs v d (omega (arith, h)))

-- at the end all columns have their part
pub begun_all : (n k at : ℕ) (bs : List Built) (v : PlainValue) → length bs ≤ n → begun n k at bs v ≡ with_parts k at bs v
begun_all zero k at [] v h = refl
begun_all zero k at (b ∷ bs) v h = absurd (omega (arith, h))
begun_all (suc n) k at [] v h = refl
begun_all (suc n) k at (b ∷ bs) v h = ap (λ cs. with_value (cut_to at b) (field_value k v) ∷ cs) (begun_all n (k + 1) at bs v (omega (arith, h)))

-- the first values are the first ones of more
pub take_front : (at : ℕ) (xs ys : List PlainValue) → at ≤ length xs → take at (take at xs ++ ys) ≡ take at xs
take_front at xs ys h =
    let long : length (take at xs) ≡ at = grind (arith, length-take) in
    take-append-le at (take at xs) ys (omega (arith, long)) ∙ take-take at at xs (omega arith)

-- a column is the same up to a slot if more values were put after that slot
pub cut_more : (at : ℕ) (b : Built) (vs : List PlainValue) → at ≤ length b.raw → cut_to at (with_values (cut_to at b) vs) ≡ cut_to at b
cut_more at b vs h = ap (λ raw. record { field = b.field; raw = raw }) (take_front at b.raw vs h)

-- cutting twice is the same as cutting once
pub cut_twice : (at : ℕ) (b : Built) → cut_to at (cut_to at b) ≡ cut_to at b
cut_twice at b = ap (λ raw. record { field = b.field; raw = raw }) (take-take at at b.raw (omega arith))

-- all columns are the same up to the slot
pub begun_cut : (n k at : ℕ) (bs : List Built) (v : PlainValue) → HaveSlots at bs → map (cut_to at) (begun n k at bs v) ≡ map (cut_to at) bs
begun_cut zero k at bs v h = refl
begun_cut (suc n) k at [] v h = refl
begun_cut (suc n) k at (b ∷ bs) v h = (λ i. cut_more at b (field_value k v ∷ []) h.0 i ∷ begun_cut n (k + 1) at bs v h.1 i)

-- also if the next column is the same only up to the slot
pub begun_broken : (n k at : ℕ) (bs : List Built) (v : PlainValue) (d : Built) → HaveSlots at bs → map (cut_to at) (set (begun n k at bs v) n (cut_to at (get_or bs n d))) ≡ map (cut_to at) bs
begun_broken zero k at [] v d h = refl
begun_broken zero k at (b ∷ bs) v d h = ap (λ c. c ∷ map (cut_to at) bs) (cut_twice at b)
begun_broken (suc n) k at [] v d h = refl
begun_broken (suc n) k at (b ∷ bs) v d h = (λ i. cut_more at b (field_value k v ∷ []) h.0 i ∷ begun_broken n (k + 1) at bs v d h.1 i)

-- all parts are put after the slots that stay
pub parts_cut : (k at : ℕ) (bs : List Built) (v : PlainValue) → HaveSlots at bs → map (cut_to at) (with_parts k at bs v) ≡ map (cut_to at) bs
parts_cut k at [] v h = refl
parts_cut k at (b ∷ bs) v h = (λ i. cut_more at b (field_value k v ∷ []) h.0 i ∷ parts_cut (k + 1) at bs v h.1 i)

-- the head and the rest of a list
abbrev head_or : Built → List Built → Built
head_or d [] = d
head_or d (b ∷ bs) = b

abbrev rest_of : List Built → List Built
rest_of [] = []
rest_of (b ∷ bs) = bs

-- a column has the slots if one that is the same up to there has them
pub long_by_cut : (at : ℕ) (new old : Built) → cut_to at new ≡ cut_to at old → at ≤ length old.raw → at ≤ length new.raw
long_by_cut at new old same h =
    let kept : length (take at old.raw) ≡ at = grind (arith, length-take) in
    let e : length (take at new.raw) ≡ length (take at old.raw) = ap (λ (b : Built). length b.raw) same in
    omega (arith, kept, e, length-take at new.raw)

-- the same for all columns
pub slots_by_cut : (at : ℕ) (new old : List Built) → map (cut_to at) new ≡ map (cut_to at) old → HaveSlots at old → HaveSlots at new
slots_by_cut at [] old same h = tt
slots_by_cut at (n ∷ new) [] same h = absurd (cc)
slots_by_cut at (n ∷ new) (o ∷ old) same h = (long_by_cut at n o (ap (head_or o) same) h.0, slots_by_cut at new old (ap rest_of same) h.1)

-- the fields are the same
fields_of_cut : (at : ℕ) (bs : List Built) → fields_in (map (cut_to at) bs) ≡ fields_in bs
fields_of_cut at [] = refl
fields_of_cut at (b ∷ bs) = ap (more b.field.head b.field.children) (fields_of_cut at bs)

pub fields_by_cut : (at : ℕ) (new old : List Built) → map (cut_to at) new ≡ map (cut_to at) old → fields_in new ≡ fields_in old
fields_by_cut at new old same = sym (fields_of_cut at new) ∙ ap fields_in same ∙ fields_of_cut at old

-- the values before the cut are the same
value_before : (at j : ℕ) (xs : List PlainValue) → j < at → value_at (take at xs) j ≡ value_at xs j
value_before zero j xs h = absurd (omega (arith, h))
value_before (suc at) j [] h = refl
value_before (suc at) zero (x ∷ xs) h = refl
value_before (suc at) (suc j) (x ∷ xs) h = value_before at j xs (omega (arith, h))

row_of_cut : (at j : ℕ) (bs : List Built) → j < at → map (λ values. value_at values j) (raws_in (map (cut_to at) bs)) ≡ map (λ values. value_at values j) (raws_in bs)
row_of_cut at j [] h = refl
row_of_cut at j (b ∷ bs) h = (λ i. value_before at j b.raw h i ∷ row_of_cut at j bs h i)

pub row_by_cut : (at j : ℕ) (new old : List Built) → map (cut_to at) new ≡ map (cut_to at) old → j < at
    → map (λ values. value_at values j) (raws_in new) ≡ map (λ values. value_at values j) (raws_in old)
row_by_cut at j new old same h = sym (row_of_cut at j new h) ∙ ap (λ bs. map (λ values. value_at values j) (raws_in bs)) same ∙ row_of_cut at j old h

-- each column has at least that many slots
pub counts_long : (at : ℕ) (bs : List Built) → HaveSlots at bs → AllByRecursion (λ count. at ≤ count) (counts_in bs)
counts_long at [] h = tt
counts_long at (b ∷ bs) h = (h.0, counts_long at bs h.1)

pub long_counts : (at : ℕ) (bs : List Built) → AllByRecursion (λ count. at ≤ count) (counts_in bs) → HaveSlots at bs
long_counts at [] h = tt
long_counts at (b ∷ bs) h = (h.0, long_counts at bs h.1)

-- and one more slot with its part
pub parts_long : (k at : ℕ) (bs : List Built) (v : PlainValue) → HaveSlots at bs → AllByRecursion (λ count. at + 1 ≤ count) (counts_in (with_parts k at bs v))
parts_long k at [] v h = tt
parts_long k at (b ∷ bs) v h =
    let kept : length (take at b.raw) ≡ at = grind (arith, length-take, h.0) in
    (omega (arith, kept, length-append (take at b.raw) (field_value k v ∷ [])), parts_long (k + 1) at bs v h.1)

-- the value after the first ones
value_after : (at : ℕ) (xs : List PlainValue) (v : PlainValue) → at ≤ length xs → value_at (take at xs ++ v ∷ []) at ≡ v
value_after zero xs v h = refl
value_after (suc at) [] v h = absurd (omega (arith, h))
value_after (suc at) (x ∷ xs) v h = value_after at xs v (omega (arith, h))

-- the row of the parts
pub row_of_parts : (k at : ℕ) (bs : List Built) (v : PlainValue) (ws : PlainValues) → ((i : ℕ) → field_value (k + i) v ≡ nth_value i ws) → PartsFit (fields_in bs) ws → HaveSlots at bs
    → values_of (map (λ values. value_at values at) (raws_in (with_parts k at bs v))) ≡ ws
row_of_parts k at [] v no_values is fit h = refl
row_of_parts k at [] v (more_values w ws) is fit h = absurd fit
row_of_parts k at (b ∷ bs) v no_values is fit h = absurd fit
row_of_parts k at (b ∷ bs) v (more_values w ws) is fit h =
    let here : k + 0 ≡ k = omega arith in
    let own : value_at (take at b.raw ++ field_value k v ∷ []) at ≡ w = value_after at b.raw (field_value k v) h.0 ∙ ap (λ j. field_value j v) (sym here) ∙ is 0 in
    (λ i. more_values (own i) (row_of_parts (k + 1) at bs v ws (λ j. let there : k + 1 + j ≡ k + suc j = omega arith in ap (λ m. field_value m v) there ∙ is (suc j)) fit.1 h.1 i))

-- a part fits its column
part_fits : (bs : List Built) (ws : PlainValues) (n : ℕ) (d : Built) → n < length bs → PartsFit (fields_in bs) ws → FitsField (get_or bs n d).field (nth_value n ws)
part_fits [] ws n d h fit = absurd (omega (arith, h))
part_fits (b ∷ bs) no_values n d h fit = absurd fit
part_fits (b ∷ bs) (more_values w ws) zero d h fit = fit.0
part_fits (b ∷ bs) (more_values w ws) (suc n) d h fit = part_fits bs ws n d (omega (arith, h)) fit.1

-- each part of a value that fits structs does
pub field_fits : (bs : List Built) (v : PlainValue) (n : ℕ) (d : Built) → n < length bs → Fits forms.Structs (fields_in bs) v → FitsField (get_or bs n d).field (field_value n v)
field_fits bs null_value n d h fit = tt
field_fits bs (bool_value b) n d h fit = absurd (cc)
field_fits bs (int_value z) n d h fit = absurd fit
field_fits bs (binary_value b) n d h fit = absurd fit
field_fits bs (utf8_value b) n d h fit = absurd fit
field_fits bs (list_value vs) n d h fit = absurd fit.0
field_fits bs (struct_value ws) n d h fit = part_fits bs ws n d h fit.1

-- each column is less deep than the levels of the fields
pub size_below : (bs : List Built) (n : ℕ) (d : Built) → n < length bs → built_size (get_or bs n d) + 1 ≤ levels (fields_in bs)
size_below [] n d h = absurd (omega (arith, h))
size_below (b ∷ bs) zero d h = omega arith
size_below (b ∷ bs) (suc n) d h = omega (arith, size_below bs n d (omega (arith, h)))

-- each column has the first slots
pub slot_below : (at : ℕ) (bs : List Built) (n : ℕ) (d : Built) → n < length bs → HaveSlots at bs → at ≤ length (get_or bs n d).raw
slot_below at [] n d h there = absurd (omega (arith, h))
slot_below at (b ∷ bs) zero d h there = there.0
slot_below at (b ∷ bs) (suc n) d h there = slot_below at bs n d (omega (arith, h)) there.1

-- there are as many columns
length_of_cut : (at : ℕ) (bs : List Built) → length (map (cut_to at) bs) ≡ length bs
length_of_cut at [] = refl
length_of_cut at (b ∷ bs) = ap suc (length_of_cut at bs)

pub length_by_cut : (at : ℕ) (new old : List Built) → map (cut_to at) new ≡ map (cut_to at) old → length new ≡ length old
length_by_cut at new old same = sym (length_of_cut at new) ∙ ap (λ bs. length bs) same ∙ length_of_cut at old
