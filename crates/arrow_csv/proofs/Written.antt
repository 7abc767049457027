-- Rows that are written one by one.
use Rattle.std.proofs.Common.{◌≡◌, ◌==◌, ◌<◌, ◌≤◌, ◌+◌, ◌-◌, ◌^◌, ◌++◌, ◌∷◌, [], ℕ, zero, suc, Option, None, Some, Result, Ok, Err, Bool, true, false, List, length, take, drop, get_or, codes, if◌then◌else◌, refl, sym, ap, ap₂, ◌∙◌, subst, arith, append-nil, append_assoc, ne_eqb}
use Rattle.std.specs.Fmt.{decimal}
use Rattle.std.specs.List.{flat_map, range_with_len}
use Rattle.std.proofs.Math.Seq.{take-append_seam, drop-append_seam}
use Rattle.std.specs.Borrow.{Bor}
use Rattle.std.specs.Prelude.{OnOk}
use Rattle.std.specs.Result.{is_ok}
use Rattle.std.proofs.lemmas.Fmt.{decimal_nonempty}
use Rattle.std.proofs.lemmas.List.{length-append}
use Rattle.std.proofs.lemmas.Grind.{flat_map-append}
use Rattle.std.proofs.Math.Seq.{take-suc}
use Rattle.csv.specs.Writing.{default_writer, field_text, fields_text, is_blank, needs_quotes, row_body}
use Rattle.arrow_data.specs.Column.{Column}
use Rattle.arrow_data.specs.Same.{HaveSlot}
use Rattle.arrow_types.specs.Field.{TypeShape}
use Rattle.arrow_layout.specs.PlainValue.{PlainValue, null_value, value_at}
use Rattle.arrow_csv.specs.Records.{AreColumnTexts, AreFieldsAfter, AreFieldsJoined, AreRows, IsBareRow, IsHead, IsRowAfter, IsRowPast, first_of, record_of, rows_text}
use Rattle.arrow_csv.specs.Texts.{Appends, Each, IsFieldOf, IsSomeField, IsText}
use Rattle.arrow_csv.proofs.Digits.{digits_plain}
use Rattle.arrow_csv.proofs.Joining.{each_more}

some_if : (b : Bool) (q : ℕ) (qs f : List ℕ) → 0 < length f → (length (if b then q ∷ qs else f) == 0) ≡ false
some_if true q qs f h = ne_eqb (suc (length qs)) 0 (λ z. cc z)
some_if false q qs [] h = absurd (omega arith)
some_if false q qs (x ∷ xs) h = ne_eqb (suc (length xs)) 0 (λ z. cc z)

-- a record that begins with a field of some bytes is not blank
not_blank : (f : List ℕ) (texts : List (List ℕ)) → 0 < length f → is_blank default_writer (f ∷ texts) ≡ false
unfolding is_blank
not_blank f [] h = some_if (needs_quotes default_writer f) 34 _ f h
not_blank f (x ∷ xs) h = refl

-- a record without a byte gets two quotes, and one with some bytes none
no_byte : (n m : ℕ) → n + m ≡ 0 → (n == 0) ≡ true
no_byte zero m h = refl
no_byte (suc n) m h = absurd (omega (arith, h))

some_byte : (n : ℕ) → (n ≡ 0 → ⊥) → (n == 0) ≡ false
some_byte zero h = absurd (h refl)
some_byte (suc n) h = ne_eqb (suc n) 0 (λ z. cc z)

pub bare_blank : (texts : List (List ℕ)) → length (row_body default_writer texts) ≡ 0 → record_of texts ≡ row_body default_writer texts ++ codes "\"\"\n"
unfolding is_blank fields_text
bare_blank [] h = refl
bare_blank (f ∷ []) h = rw (no_byte (length (field_text default_writer f)) 0 (omega (arith, h, length-append (field_text default_writer f) []))) refl
bare_blank (f ∷ g ∷ texts) h = absurd (omega (arith, h, length-append (field_text default_writer f) (fields_text default_writer (g ∷ texts))))

pub bare_some : (texts : List (List ℕ)) → (length (row_body default_writer texts) ≡ 0 → ⊥) → record_of texts ≡ row_body default_writer texts ++ codes "\n"
unfolding is_blank fields_text
bare_some [] h = absurd (h refl)
bare_some (f ∷ []) h = rw (some_byte (length (field_text default_writer f)) (λ q. h (omega (arith, q, length-append (field_text default_writer f) [])))) refl
bare_some (f ∷ g ∷ texts) h = refl

-- the record of a number and texts, written in one step
pub row_plain : (number : ℕ) (texts : List (List ℕ)) → number < 2 ^ 64 → record_of (decimal number ∷ texts) ≡ field_text default_writer (decimal number) ++ (fields_text default_writer texts ++ (10 ∷ []))
row_plain number texts h =
    rw (not_blank (decimal number) texts (decimal_nonempty number h)) (append_assoc (field_text default_writer (decimal number)) (fields_text default_writer texts) (10 ∷ []))

-- the field of a text that follows another one
pub field_after : (old text whole : List ℕ) (place : ℕ) → place ≡ length old → whole ≡ old ++ text → take place whole ++ field_text default_writer (drop place whole) ≡ old ++ field_text default_writer text
field_after old text whole place long is =
    let before = ap₂ take long is ∙ take-append_seam old text in
    let after = ap₂ drop long is ∙ drop-append_seam old text in
    ap₂ (λ a b. a ++ field_text default_writer b) before after

-- a text of a value, whatever the text of a null is
abbrev pub IsSomeText : TypeShape → PlainValue → List ℕ → Type 0
IsSomeText type value text = (null : List ℕ) → IsText null type value text

-- a text that needs no quotes is a field as it is
pub plain_field : (type : TypeShape) (value : PlainValue) (text : List ℕ) → IsSomeText type value text → needs_quotes default_writer text ≡ false → IsSomeField type value text
plain_field type value text is plain null = (text, is null, rw plain refl)

-- the text that was appended if nothing failed
pub on_appended : {E P : Type 0} (r : Result (Unit {0}) E) (old text new : List ℕ) → new ≡ (if is_ok r then old ++ text else old) → (new ≡ old ++ text → P) → OnOk r P
on_appended (Ok done) old text new h f = f h
on_appended (Err e) old text new h f = tt

-- a null shows as the given text
pub null_field : (null : List ℕ) (type : TypeShape) (value : PlainValue) (old new : List ℕ) → value ≡ null_value → new ≡ old ++ field_text default_writer null → Appends (IsFieldOf null type value) old new
null_field null type value old new none is = (field_text default_writer null, (null, subst (λ v. IsText null type v null) (sym none) refl, refl), is)

-- a field between quotes if it needs them
pub field_appended : (type : TypeShape) (value : PlainValue) (old whole new : List ℕ) (place : ℕ) → place ≡ length old → Appends (IsSomeText type value) old whole → new ≡ take place whole ++ field_text default_writer (drop place whole)
    → Appends (IsSomeField type value) old new
field_appended type value old whole new place long text quoted =
    (field_text default_writer text.0, λ null. (text.0, text.1 null, refl), quoted ∙ field_after old text.0 whole place long text.2)

-- ---- rows

-- texts of the first columns follow the old text, each after a comma
abbrev pub FieldsWritten : List ℕ → List Column → ℕ → ℕ → List ℕ → List ℕ → Type 0
FieldsWritten null columns i k old out = (texts : List (List ℕ)) × AreColumnTexts null i (take k columns) texts × (out ≡ old ++ fields_text default_writer texts)

fields_next : (texts : List (List ℕ)) (text : List ℕ) → fields_text default_writer (texts ++ text ∷ []) ≡ fields_text default_writer texts ++ (44 ∷ []) ++ field_text default_writer text
unfolding fields_text
fields_next [] text = ap (λ t. 44 ∷ t) (append-nil (field_text default_writer text))
fields_next (t ∷ texts) text =
    let rest = fields_text default_writer texts in
    ap (λ u. 44 ∷ (field_text default_writer t ++ u)) (fields_next texts text)
    ∙ ap (λ u. 44 ∷ u) (sym (append_assoc (field_text default_writer t) (rest ++ (44 ∷ [])) (field_text default_writer text)) ∙ ap (λ u. u ++ field_text default_writer text) (sym (append_assoc (field_text default_writer t) rest (44 ∷ []))))

pub fields_none : (null : List ℕ) (columns : List Column) (i : ℕ) (old : List ℕ) → FieldsWritten null columns i 0 old old
unfolding fields_text
fields_none null columns i old = ([], tt, sym (append-nil old))

pub fields_more : (null : List ℕ) (columns : List Column) (i k : ℕ) (c : Column) (old out before new : List ℕ) → k < length columns → c ≡ get_or columns k c → FieldsWritten null columns i k old out → before ≡ out ++ 44 ∷ []
    → Appends (IsFieldOf null c.data_type (value_at c.resolved i)) before new → FieldsWritten null columns i (k + 1) old new
fields_more null columns i k c old out before new less is standing_text parted more =
    let texts = standing_text.0 in
    let text = more.1.0 in
    let next : suc k ≡ k + 1 = omega arith in
    let seen : take (suc k) columns ≡ take k columns ++ c ∷ [] = take-suc columns k c less ∙ ap (λ (d : Column). take k columns ++ d ∷ []) (sym is) in
    let own = each_more (λ (d : Column) t. IsText null d.data_type (value_at d.resolved i) t) (take k columns) texts c text standing_text.1 more.1.1 in
    let all = subst (λ cs. AreColumnTexts null i cs (texts ++ text ∷ [])) (sym seen ∙ ap (λ n. take n columns) next) own in
    let f = fields_text default_writer texts in (
      texts ++ text ∷ [],
      all,
      more.2 ∙ ap₂ (λ a b. a ++ b) (parted ∙ ap (λ t. t ++ 44 ∷ []) standing_text.2 ∙ append_assoc old f (44 ∷ [])) more.1.2 ∙ append_assoc old (f ++ 44 ∷ []) (field_text default_writer text)
          ∙ ap (λ t. old ++ t) (sym (fields_next texts text)),
    )

pub fields_done : (null : List ℕ) (columns : List Column) (i k : ℕ) (old out : List ℕ) → take k columns ≡ columns → FieldsWritten null columns i k old out → Appends (AreFieldsAfter null columns i) old out
fields_done null columns i k old out whole standing_text = (fields_text default_writer standing_text.0, (standing_text.0, subst (λ cs. AreColumnTexts null i cs standing_text.0) whole standing_text.1, refl), standing_text.2)

-- a row whose first field has this text
pub row_after : (head null : List ℕ) (columns : List Column) (i : ℕ) (old out all new : List ℕ) → out ≡ old ++ head → Appends (AreFieldsAfter null columns i) out all → new ≡ all ++ codes "\n" → Appends (IsRowPast head null columns i) old new
row_after head null columns i old out all new first fields last =
    let texts = fields.1.0 in
    let f = fields_text default_writer texts in
    let standing_text : all ≡ old ++ (head ++ f) = fields.2 ∙ ap₂ (λ a b. a ++ b) first fields.1.2 ∙ append_assoc old head f in (
      head ++ (f ++ codes "\n"),
      (texts, fields.1.1, refl),
      last ∙ ap (λ t. t ++ codes "\n") standing_text ∙ append_assoc old (head ++ f) (codes "\n") ∙ ap (λ t. old ++ t) (append_assoc head f (codes "\n")),
    )

-- the first field, and the others after commas
pub joined_more : (null : List ℕ) (columns : List Column) (c : Column) (others : List Column) (i : ℕ) (old out new : List ℕ) → columns ≡ c ∷ others → Appends (IsFieldOf null c.data_type (value_at c.resolved i)) old out
    → Appends (AreFieldsAfter null others i) out new → Appends (AreFieldsJoined null columns i) old new
joined_more null columns c others i old out new is first fields =
    let texts = first.1.0 ∷ fields.1.0 in (
      first.0 ++ fields.0,
      (texts, subst (λ cs. AreColumnTexts null i cs texts) (sym is) (first.1.1, fields.1.1), ap₂ (λ a b. a ++ b) first.1.2 fields.1.2),
      fields.2 ∙ ap (λ t. t ++ fields.0) first.2 ∙ append_assoc old first.0 fields.0,
    )

pub joined_none : (null : List ℕ) (columns : List Column) (i : ℕ) (old : List ℕ) → length columns ≡ 0 → Appends (AreFieldsJoined null columns i) old old
joined_none null [] i old h = ([], ([], tt, refl), sym (append-nil old))
joined_none null (c ∷ cs) i old h = absurd (omega (arith, h))

-- a row of only the columns' fields: if it has no byte it gets two quotes
pub bare_row_blank : (null : List ℕ) (columns : List Column) (i : ℕ) (old out new : List ℕ) → Appends (AreFieldsJoined null columns i) old out → length out ≡ length old → new ≡ out ++ codes "\"\"\n" → Appends (IsBareRow null columns i) old new
bare_row_blank null columns i old out new fields same last =
    let texts = fields.1.0 in
    let none : length (row_body default_writer texts) ≡ 0 = omega (arith, same, ap length fields.2, length-append old fields.0, ap length fields.1.2) in (
      fields.0 ++ codes "\"\"\n",
      (texts, fields.1.1, ap (λ t. t ++ codes "\"\"\n") fields.1.2 ∙ sym (bare_blank texts none)),
      last ∙ ap (λ t. t ++ codes "\"\"\n") fields.2 ∙ append_assoc old fields.0 (codes "\"\"\n"),
    )

pub bare_row_some : (null : List ℕ) (columns : List Column) (i : ℕ) (old out new : List ℕ) → Appends (AreFieldsJoined null columns i) old out → (length out ≡ length old → ⊥) → new ≡ out ++ codes "\n" → Appends (IsBareRow null columns i) old new
bare_row_some null columns i old out new fields other last =
    let texts = fields.1.0 in
    let some = λ (q : length (row_body default_writer texts) ≡ 0). other (omega (arith, q, ap length fields.2, length-append old fields.0, ap length fields.1.2)) in (
      fields.0 ++ codes "\n",
      (texts, fields.1.1, ap (λ t. t ++ codes "\n") fields.1.2 ∙ sym (bare_some texts some)),
      last ∙ ap (λ t. t ++ codes "\n") fields.2 ∙ append_assoc old fields.0 (codes "\n"),
    )

-- the columns after one have the slot too
pub slot_next : (i : ℕ) (columns : List Column) (k : ℕ) → HaveSlot i (drop k columns) → HaveSlot i (drop (k + 1) columns)
slot_next i columns k h = let next : suc k ≡ k + 1 = omega arith in subst (λ n. HaveSlot i (drop n columns)) next (by columns k h)
  where
    by : (cs : List Column) (j : ℕ) → HaveSlot i (drop j cs) → HaveSlot i (drop (suc j) cs)
    by [] j h = tt
    by (c ∷ cs) zero h = h.1
    by (c ∷ cs) (suc j) h = by cs j h

range_next : (a n : ℕ) → range_with_len a (suc n) ≡ range_with_len a n ++ (a + n) ∷ []
range_next a zero = let e : a ≡ a + 0 = omega arith in ap (λ k. k ∷ []) e
range_next a (suc n) = let e : (a + 1) + n ≡ a + suc n = omega arith in ap (λ ks. a ∷ ks) (range_next (a + 1) n ∙ ap (λ k. range_with_len (a + 1) n ++ k ∷ []) e)

-- records of rows follow the old text
pub rows_none : (first : List (List ℕ)) (null : List ℕ) (columns : List Column) (start : ℕ) (old : List ℕ) → Appends (AreRows first null columns start (start - start)) old old
rows_none first null columns start old =
    let none : 0 ≡ start - start = omega arith in
    ([], subst (λ n. AreRows first null columns start n []) none ([], tt, refl), sym (append-nil old))

rows_reported : (first : List (List ℕ)) (rows : List (List (List ℕ))) (texts : List (List ℕ)) → rows_text first (rows ++ texts ∷ []) ≡ rows_text first rows ++ record_of (first ++ texts)
rows_reported first rows texts =
    let f : List (List ℕ) → List ℕ = λ ts. record_of (first ++ ts) in
    flat_map-append f rows (texts ∷ []) ∙ ap (λ t. flat_map f rows ++ t) (append-nil (f texts))

-- a row with a first field, or without one
row_of : (number : Option ℕ) (head : Option (Bor (List ℕ))) (null : List ℕ) (columns : List Column) (i : ℕ) (text : List ℕ) → IsHead number head → IsRowAfter head null columns i text
    → (texts : List (List ℕ)) × AreColumnTexts null i columns texts × (text ≡ record_of (first_of number ++ texts))
row_of None None null columns i text fits row = row
row_of None (Some head) null columns i text fits row = absurd fits
row_of (Some number) None null columns i text fits row = absurd fits
row_of (Some number) (Some head) null columns i text fits row =
    let texts = row.0 in
    let plain = digits_plain number (omega (arith, fits.0)) in
    let first : head.now ≡ field_text default_writer (decimal number) = rw plain fits.1 in
    (texts, row.1, row.2 ∙ ap (λ h. h ++ (fields_text default_writer texts ++ codes "\n")) first ∙ sym (row_plain number texts fits.0))

-- one more row
pub rows_more : (number : Option ℕ) (head : Option (Bor (List ℕ))) (null : List ℕ) (columns : List Column) (start i : ℕ) (old out new : List ℕ) → IsHead number head → start ≤ i → Appends (AreRows (first_of number) null columns start (i - start)) old out
    → Appends (IsRowAfter head null columns i) out new → Appends (AreRows (first_of number) null columns start (i + 1 - start)) old new
rows_more number head null columns start i old out new fits low standing_text row =
    let first = first_of number in
    let own = row_of number head null columns i row.0 fits row.1 in
    let n = i - start in
    let next : suc n ≡ i + 1 - start = omega (arith, low) in
    let place : start + n ≡ i = omega (arith, low) in
    let rows = standing_text.1.0 in
    let texts = own.0 in
    let here = subst (λ j. AreColumnTexts null j columns texts) (sym place) own.1 in
    let each = subst (λ ks. Each (λ j ts. AreColumnTexts null j columns ts) ks (rows ++ texts ∷ [])) (sym (range_next start n)) (each_more (λ j ts. AreColumnTexts null j columns ts) (range_with_len start n) rows (start + n) texts standing_text.1.1 here) in
    let text = standing_text.0 ++ row.0 in
    let both : text ≡ rows_text first (rows ++ texts ∷ []) = ap₂ (λ a b. a ++ b) standing_text.1.2 own.2 ∙ sym (rows_reported first rows texts) in
    let all : AreRows first null columns start (suc n) text = (rows ++ texts ∷ [], each, both) in
    (text, subst (λ m. AreRows first null columns start m text) next all, row.2 ∙ ap (λ t. t ++ row.0) standing_text.2 ∙ append_assoc old standing_text.0 row.0)
