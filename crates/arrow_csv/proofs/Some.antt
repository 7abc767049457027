-- Records of rows one after the other, and that there are some.
use Rattle.std.proofs.Common.{◌≡◌, ◌≤◌, ◌+◌, ◌-◌, ◌%◌, ◌^◌, ℕ, ℤ, zero, suc, List, [], ◌∷◌, ◌++◌, true, false, codes, refl, sym, ap, ap₂, ◌∙◌, subst, arith, T}
use Rattle.std.specs.Float.{binary32, binary64}
use Rattle.std.specs.Float.Ieee.{fits}
use Rattle.std.specs.Fmt.{decimal, signed_decimal}
use Rattle.std.specs.List.{range_with_len}
use Rattle.std.proofs.lemmas.Grind.{flat_map-append}
use Rattle.arrow_types.specs.DataType.{TypeId}
use Rattle.arrow_types.specs.DataType as tags
use Rattle.arrow_types.specs.declared.data_type.Precision.{Precision}
use Rattle.arrow_types.specs.declared.data_type.Precision.TheVariants.{Half, Single, Double}
use Rattle.arrow_types.specs.Field.{FieldTree, none, more, TypeShape}
use Rattle.arrow_data.specs.Batch.{Table}
use Rattle.arrow_data.specs.Column.{Column}
use Rattle.arrow_layout.specs.PlainValue.{PlainValue, PlainValues, null_value, bool_value, int_value, binary_value, utf8_value, list_value, struct_value, no_values, more_values, value_at}
use Rattle.arrow_layout.specs.Floats.{bits_in, number_of}
use Rattle.arrow_csv.specs.Floats.{IsFloatText, IsNumberText, text_format}
use Rattle.arrow_csv.proofs.FloatTexts.{bits_fit, float_text, half_fits}
use Rattle.arrow_csv.specs.Decimals.{decimal_text}
use Rattle.arrow_csv.specs.Intervals.{bytes_text, months_text}
use Rattle.arrow_csv.specs.Layouts.{Form, first_field}
use Rattle.arrow_csv.specs.Records.{AreBatchRows, AreColumnTexts, AreRows, record_of, rows_text}
use Rattle.arrow_csv.specs.Texts.{AreItemTexts, ArePartTexts, Each, IsText, joined}

-- two pairs of lists, one after the other
each_joined : {A B : Type 0} (R : A → B → Type 0) (xs us : List A) (ys vs : List B) → Each R xs ys → Each R us vs → Each R (xs ++ us) (ys ++ vs)
each_joined R [] us [] vs h g = g
each_joined R [] us (y ∷ ys) vs h g = absurd h
each_joined R (x ∷ xs) us [] vs h g = absurd h
each_joined R (x ∷ xs) us (y ∷ ys) vs h g = (h.0, each_joined R xs us ys vs h.1 g)

range_joined : (a n m : ℕ) → range_with_len a (n + m) ≡ range_with_len a n ++ range_with_len (a + n) m
range_joined a zero m =
    let count : 0 + m ≡ m = omega arith in
    let place : a ≡ a + 0 = omega arith in
    ap (range_with_len a) count ∙ ap (λ k. range_with_len k m) place
range_joined a (suc n) m =
    let count : suc n + m ≡ suc (n + m) = omega arith in
    let place : (a + 1) + n ≡ a + suc n = omega arith in
    ap (range_with_len a) count ∙ ap (λ ks. a ∷ ks) (range_joined (a + 1) n m ∙ ap (λ k. range_with_len (a + 1) n ++ range_with_len k m) place)

-- records of two ranges of rows, one after the other
pub rows_join : (form : Form) (number : ℕ) (batch : Table) (start mid end : ℕ) (first second : List ℕ) → start ≤ mid → mid ≤ end → AreBatchRows form number batch start mid first → AreBatchRows form number batch mid end second
    → AreBatchRows form number batch start end (first ++ second)
rows_join form number batch start mid end first second low high reported later =
    let head = first_field form.numbered (decimal number) in
    let n = mid - start in
    let m = end - mid in
    let count : n + m ≡ end - start = omega (arith, low, high) in
    let place : start + n ≡ mid = omega (arith, low) in
    let R : ℕ → List (List ℕ) → Type 0 = λ i texts. AreColumnTexts form.null i batch.columns texts in
    let after = subst (λ k. Each R (range_with_len k m) later.0) (sym place) later.1 in
    let each = subst (λ ks. Each R ks (reported.0 ++ later.0)) (sym (range_joined start n m)) (each_joined R (range_with_len start n) (range_with_len (start + n) m) reported.0 later.0 reported.1 after) in
    let f : List (List ℕ) → List ℕ = λ texts. record_of (head ++ texts) in
    let text : first ++ second ≡ rows_text head (reported.0 ++ later.0) = ap₂ (λ a b. a ++ b) reported.2 later.2 ∙ sym (flat_map-append f reported.0 later.0) in
    let all : AreRows head form.null batch.columns start (n + m) (first ++ second) = (reported.0 ++ later.0, each, text) in
    subst (λ k. AreRows head form.null batch.columns start k (first ++ second)) count all

-- ---- each value has a text, and each range of rows

-- the number of any bits is one of the format in which its texts are parsed
float_fits : (precision : Precision) (bits : ℕ) → T (fits (text_format precision) (number_of precision bits))
float_fits Half bits = half_fits (bits % 2 ^ 16)
float_fits Single bits = bits_fit binary32 (bits % 2 ^ 32)
float_fits Double bits = bits_fit binary64 bits

-- so it has a text
some_float : (precision : Precision) (bits : ℕ) → (text : List ℕ) × IsFloatText precision bits text
some_float precision bits = float_text (text_format precision) (number_of precision bits) (float_fits precision bits)

-- each number has a text
some_number : (tag : TypeId) (z : ℤ) → (text : List ℕ) × IsNumberText tag z text
some_number (tags.floating_point precision) z = some_float precision (bits_in z)
some_number (tags.decimal _ _ scale) z = (decimal_text scale z, refl)
some_number (tags.interval _) z = (months_text z, refl)
some_number _ z = (signed_decimal z, refl)

-- each value has a text: lists and structs by the texts of their items and fields
mutual
  pub some_text : (empty : List ℕ) (type : TypeShape) (value : PlainValue) → (text : List ℕ) × IsText empty type value text
  some_text empty type null_value = (empty, refl)
  some_text empty type (bool_value true) = (codes "true", refl)
  some_text empty type (bool_value false) = (codes "false", refl)
  some_text empty type (int_value z) = some_number type.tag z
  some_text empty type (binary_value bytes) = (bytes_text type.tag bytes, refl)
  some_text empty type (utf8_value bytes) = (bytes, refl)
  some_text empty type (list_value items) = let w = some_items type.children items in (codes "[" ++ joined w.0 ++ codes "]", (w.0, w.1, refl))
  some_text empty type (struct_value parts) = let w = some_parts type.children parts in (codes "{" ++ joined w.0 ++ codes "}", (w.0, w.1, refl))

  some_items : (fields : FieldTree) (items : PlainValues) → (texts : List (List ℕ)) × AreItemTexts fields items texts
  some_items none items = ([], refl)
  some_items (more head children rest) no_values = ([], refl)
  some_items (more head children rest) (more_values item items) =
      let one = some_text (codes "null") (record { tag = head.tag; children = children }) item in
      let others = some_items (more head children rest) items in
      (one.0 ∷ others.0, (one.1, others.1))

  some_parts : (fields : FieldTree) (parts : PlainValues) → (texts : List (List ℕ)) × ArePartTexts fields parts texts
  some_parts none parts = ([], refl)
  some_parts (more head children rest) no_values = ([], refl)
  some_parts (more head children rest) (more_values part parts) =
      let one = some_text (codes "null") (record { tag = head.tag; children = children }) part in
      let others = some_parts rest parts in
      ((head.name ++ codes "=" ++ one.0) ∷ others.0, ((one.0, one.1, refl), others.1))

-- if each element has a partner in the relation, each list has a partner
some_each : {A B : Type 0} (R : A → B → Type 0) → ((x : A) → (y : B) × R x y) → (xs : List A) → (ys : List B) × Each R xs ys
some_each R all [] = ([], tt)
some_each R all (x ∷ xs) = let w = some_each R all xs in ((all x).0 ∷ w.0, ((all x).1, w.1))

-- and the rows of these columns have a text
pub some_rows : (first : List (List ℕ)) (null : List ℕ) (columns : List Column) (start count : ℕ) → (text : List ℕ) × AreRows first null columns start count text
some_rows first null columns start count =
    let row : (i : ℕ) → (texts : List (List ℕ)) × AreColumnTexts null i columns texts = λ i. some_each (λ (c : Column) text. IsText null c.data_type (value_at c.resolved i) text) (λ c. some_text null c.data_type (value_at c.resolved i)) columns in
    let w = some_each (λ i texts. AreColumnTexts null i columns texts) row (range_with_len start count) in
    (rows_text first w.0, (w.0, w.1, refl))

-- and so have the rows of a batch
pub some_batch_rows : (form : Form) (number : ℕ) (batch : Table) (start end : ℕ) → (text : List ℕ) × AreBatchRows form number batch start end text
some_batch_rows form number batch start end = some_rows (first_field form.numbered (decimal number)) form.null batch.columns start (end - start)
