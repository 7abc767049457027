-- Fields of a dictionary's values, made one by one.
use Rattle.std.proofs.Common.{◌≡◌, ◌<◌, ◌≤◌, ◌+◌, ◌-◌, ℕ, List, [], ◌∷◌, ◌++◌, zero, suc, refl, inl, inr, length, take, get_or, slice_range, sym, ap, ◌∙◌, subst, arith}
use Rattle.std.specs.Global.{Box}
use Rattle.std.proofs.Math.Seq.{take-append_seam, drop-append_seam, get_or-append_seam}
use Rattle.std.proofs.lemmas.Bool.{cases_lt}
use Rattle.std.proofs.lemmas.List.{get_or_append_left, length-append, take_all}
use Rattle.bytes.proofs.Ranges.{slice_range_front}
use Rattle.arrow_types.specs.Schema.{has_encoding}
use Rattle.arrow_data.specs.Column.{Column, HasDictionary, HasValue, IsColumn, IsValueList, ValueList}
use Rattle.arrow_layout.specs.PlainValue.{value_at}
use Rattle.arrow_data.specs.View.{RefersTo}
use Rattle.arrow_csv.specs.Made.{AreFirst, IsEntryField, IsField, IsPreparedBy, IsPreparedFor}
use Rattle.arrow_csv.specs.Texts.{Appends, IsFieldOf, IsSomeField}
use Rattle.arrow_csv.specs.declared.column_text.DictionaryTexts.{DictionaryTexts}
use Rattle.arrow_csv.specs.declared.column_text.Prepared.{Prepared}
use Rattle.arrow_csv.specs.declared.column_text.Prepared.TheVariants.{Nothing, Entries, Items, Parts}

-- a field that was there is still there after more was appended
kept : (d : ValueList) (bytes places field : List ℕ) (place n : ℕ) → n + 1 < length places → IsField d bytes places n → IsField d (bytes ++ field) (places ++ place ∷ []) n
kept d bytes places field place n h f =
    let from = get_or_append_left places (place ∷ []) 0 n (omega (arith, h)) in
    let to = get_or_append_left places (place ∷ []) 0 (n + 1) h in
    let long = length-append bytes field in
    let start = get_or places n 0 in
    let end = get_or places (n + 1) 0 in
    record {
      ordered = rw (from, to) f.ordered;
      inside = rw to (omega (arith, long, f.inside));
      same = rw (from, to) (subst (IsEntryField d n) (slice_range_front bytes (bytes ++ field) start end (length bytes) (take-append_seam bytes field) f.inside) f.same);
    }

-- the bytes appended to a list are its end
seam : (bytes field : List ℕ) → slice_range (bytes ++ field) (length bytes) (length (bytes ++ field)) ≡ field
seam bytes field =
    let long : length field ≤ length (bytes ++ field) - length bytes = omega (arith, length-append bytes field) in
    ap (take (length (bytes ++ field) - length bytes)) (drop-append_seam bytes field) ∙ take_all (length (bytes ++ field) - length bytes) field long

-- one more field
pub first_more : (d : ValueList) (bytes places field : List ℕ) (count : ℕ) → AreFirst d bytes places count → IsEntryField d count field
    → AreFirst d (bytes ++ field) (places ++ length (bytes ++ field) ∷ []) (count + 1)
first_more d bytes places field count h is =
    let place = length (bytes ++ field) in
    let at : length places ≡ count + 1 = h.long in
    let last : get_or (places ++ place ∷ []) (count + 1) 0 ≡ place = ap (λ k. get_or (places ++ place ∷ []) k 0) (sym at) ∙ get_or-append_seam places place [] 0 in
    let before : get_or (places ++ place ∷ []) count 0 ≡ length bytes = get_or_append_left places (place ∷ []) 0 count (omega (arith, at)) ∙ h.last in
    let new : IsField d (bytes ++ field) (places ++ place ∷ []) count = record {
      ordered = rw (before, last) (omega (arith, length-append bytes field));
      inside = rw last (omega arith);
      same = rw (before, last) (subst (IsEntryField d count) (sym (seam bytes field)) is);
    } in
    let each : (n : ℕ) → n < count + 1 → IsField d (bytes ++ field) (places ++ place ∷ []) n = λ n less. elim (cases_lt n count) [
      | inl lower ↦ kept d bytes places field place n (omega (arith, at, lower)) (h.each n lower)
      | inr upper ↦ subst (IsField d (bytes ++ field) (places ++ place ∷ [])) (omega (arith, less, upper)) new
    ] in
    record {
      long = length-append places (place ∷ []) ∙ omega (arith, at);
      last = last;
      each = each;
    }

-- before the first value there are no fields
pub none_yet : (d : ValueList) → AreFirst d [] (0 ∷ []) 0
none_yet d = record { long = omega arith; last = omega arith; each = λ n h. absurd (omega (arith, h)) }

-- a field of the slot that holds a value is a field of the value
pub entry_field : (d : ValueList) (n : ℕ) (values : Column) (place : ℕ) (field : List ℕ) → IsValueList d → IsColumn values → HasValue d n values place
    → IsSomeField values.data_type (value_at values.resolved place) field → IsEntryField d n field
entry_field d n values place field known column has is =
    let children = ap (λ t. t.children) has.typed in
    let plain = column.plain has.plain (ap has_encoding children ∙ known.flat) in
    let value : value_at values.resolved place ≡ value_at d.values n = ap (λ vs. value_at vs place) plain ∙ sym has.same in
    subst (λ type. IsSomeField type (value_at d.values n) field) has.typed (subst (λ v. IsSomeField values.data_type v field) value is)

-- an element that is there does not depend on the default
at_place : (xs : List ℕ) (n a b : ℕ) → n < length xs → get_or xs n a ≡ get_or xs n b
at_place [] n a b h = absurd (omega arith)
at_place (x ∷ xs) zero a b h = refl
at_place (x ∷ xs) (suc n) a b h = at_place xs n a b (omega (arith, h))

-- the field made of the value to which a slot refers is a field of the slot
pub copied_field : (null : List ℕ) (c : Column) (fields : Box DictionaryTexts) (i n from to : ℕ) (old bytes new : List ℕ) → IsPreparedFor c (Entries fields) → RefersTo c i n
    → from ≡ get_or fields.value.places.items n from → to ≡ get_or fields.value.places.items (n + 1) to → bytes ≡ fields.value.bytes.items → new ≡ old ++ slice_range bytes from to → Appends (IsFieldOf null c.data_type (value_at c.resolved i)) old new
copied_field null c fields i n from to old bytes new has refers first last same all =
    let d = has.0 in
    let places = fields.value.places.items in
    let value = refers.2 d has.1 in
    let field = (has.2.each n value.0).same null in
    let start : get_or places n 0 ≡ from = at_place places n 0 from (omega (arith, has.2.long, value.0)) ∙ sym first in
    let end : get_or places (n + 1) 0 ≡ to = at_place places (n + 1) 0 to (omega (arith, has.2.long, value.0)) ∙ sym last in
    let text = slice_range bytes from to in
    let is : slice_range fields.value.bytes.items (get_or places n 0) (get_or places (n + 1) 0) ≡ text = ap (λ k. slice_range fields.value.bytes.items k (get_or places (n + 1) 0)) start ∙ ap (λ k. slice_range fields.value.bytes.items from k) end ∙ ap (λ b. slice_range b from to) (sym same) in
    let typed = subst (λ type. IsFieldOf null type (value_at d.values n) text) has.1.typed (subst (IsFieldOf null d.data_type (value_at d.values n)) is field) in
    (text, subst (λ v. IsFieldOf null c.data_type v text) (sym value.1) typed, all)

-- what was made for a column's dictionary is made for the column
pub prepared_by : (c : Column) (d : ValueList) (made : Prepared) → HasDictionary c d → IsPreparedBy d made → IsPreparedFor c made
prepared_by c d Nothing has is = tt
prepared_by c d (Entries fields) has is = (d, has, is)
prepared_by c d (Items lists) has is = absurd is
prepared_by c d (Parts structs) has is = absurd is
