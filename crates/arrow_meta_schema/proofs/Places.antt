-- One step of the scan over the dictionary-encoded fields of a tree, from the current field and the result of the
-- map's lookup.
use Rattle.std.proofs.Common.{◌≡◌, ℕ, ◌+◌, ◌<◌, ◌≤◌, ℤ, true, false, not, cond, List, [], ◌∷◌, ◌++◌, length, take, drop, get_or, Option, Some, None, option_map, slice_get, ap, subst, ◌∙◌, sym, refl, arith}
use Rattle.std.specs.Ordering.{int_eq}
use Rattle.std.proofs.lemmas.Bool.{not-true, not-false, both_ways}
use Rattle.std.proofs.lemmas.List.{map-append, length-map, length-take-le, take_more, take-append-drop, get_or-take}
use Rattle.std.proofs.lemmas.Option.{slice_get_read, slice_get-map}
use Rattle.std.proofs.Math.Seq.{take-length}
use Rattle.arrow_types.proofs.Places.{placed}
use Rattle.arrow_types.proofs.Scan.{Scanned, scanned_new, scanned_old, scanned_clash}
use Rattle.arrow_types.specs.Equality.{is_equal, is_equal_decides}
use Rattle.arrow_types.specs.Schema.{DictionaryField, types_differ}
use Rattle.arrow_types.specs.Stored.{type_code}
use Rattle.arrow_meta_schema.specs.Sharing.{encoded_view, encoded_views}
use Rattle.arrow_meta_schema.specs.declared.dictionary_types.EncodedField.{EncodedField}

-- the dictionaries of the first i fields
abbrev pub so_far : ℕ → List EncodedField → List DictionaryField
so_far i es = encoded_views (take i es)

-- The first index of each id of the fields so far is known, and no two of these fields differ.
abbrev pub IsLooked : ℕ → List EncodedField → (ℤ → Option ℕ) → Type 0
IsLooked i es places = (ids : List ℤ) × Scanned (so_far i es) ids places

-- there are i of them
length_so_far : (i : ℕ) (es : List EncodedField) → i ≤ length es → length (so_far i es) ≡ i
length_so_far i es h = length-map (take i es) encoded_view ∙ length-take-le i es h

-- one more
next : (i : ℕ) (es : List EncodedField) (d : EncodedField) → i < length es → d ≡ get_or es i d → so_far (i + 1) es ≡ so_far i es ++ encoded_view d ∷ []
next i es d h at =
    ap encoded_views (take_more es i d h ∙ ap (λ e. take i es ++ e ∷ []) (sym at)) ∙ map-append encoded_view (take i es) (d ∷ [])

-- the index of a known id lies before the current field
pub known_below : (i : ℕ) (es : List EncodedField) (places : ℤ → Option ℕ) (q : ℤ) (j : ℕ) →
    IsLooked i es places → i ≤ length es → Some j ≡ places q → j < i
known_below i es places q j looked h found =
    omega (arith, (placed q (so_far i es) j (sym (looked.1.found q) ∙ sym found)).below, length_so_far i es h)

-- the field at that index
known_at : (i j : ℕ) (es : List EncodedField) (e : EncodedField) → i ≤ length es → j < i → e ≡ get_or es j e → slice_get (so_far i es) j ≡ Some (encoded_view e)
known_at i j es e h below at =
    slice_get-map encoded_view (take i es) j
    ∙ ap (λ o. option_map encoded_view o) (slice_get_read (take i es) (length (take i es)) j e refl
    (let long : length (take i es) ≡ i = length-take-le i es h in omega arith)
    (at ∙ sym (get_or-take i es j e below)))

-- a field of a known id and its type
pub look_same : (i j : ℕ) (es : List EncodedField) (d e : EncodedField) (places : ℤ → Option ℕ) →
    IsLooked i es places → i < length es → d ≡ get_or es i d → Some j ≡ places d.id → e ≡ get_or es j e →
    not (is_equal type_code (encoded_view e).value_type (encoded_view d).value_type) ≡ false →
    IsLooked (i + 1) es places
look_same i j es d e places looked h at found at_j same =
    let reached : i ≤ length es = omega arith in
    let below = known_below i es places d.id j looked reached found in
    let P : List DictionaryField → Type 0 = λ ds. Scanned ds looked.0 places in (
      looked.0,
      subst P (sym (next i es d h at))
          (scanned_old (so_far i es) looked.0 places (encoded_view d) (encoded_view e) j looked.1 (sym found) (known_at i j es e reached below at_j)
          ((is_equal_decides type_code (encoded_view e).value_type (encoded_view d).value_type).0 (not-false _ same))),
    )

-- a field of a known id and another type
pub look_other : (i j : ℕ) (es : List EncodedField) (d e : EncodedField) (places : ℤ → Option ℕ) →
    IsLooked i es places → i < length es → d ≡ get_or es i d → Some j ≡ places d.id → e ≡ get_or es j e →
    not (is_equal type_code (encoded_view e).value_type (encoded_view d).value_type) ≡ true →
    types_differ (encoded_views es) ≡ true
look_other i j es d e places looked h at found at_j apart =
    let reached : i ≤ length es = omega arith in
    let below = known_below i es places d.id j looked reached found in
    let whole : encoded_views es ≡ (so_far i es ++ encoded_view d ∷ []) ++ encoded_views (drop (i + 1) es) =
    ap encoded_views (sym (take-append-drop (i + 1) es)) ∙ map-append encoded_view (take (i + 1) es) (drop (i + 1) es)
    ∙ ap (λ ds. ds ++ encoded_views (drop (i + 1) es)) (next i es d h at) in
    ap types_differ whole
    ∙ scanned_clash (so_far i es) (encoded_views (drop (i + 1) es)) looked.0 places (encoded_view d) (encoded_view e) j looked.1 (sym found)
    (known_at i j es e reached below at_j)
    (λ same. both_ways _ (not-true _ apart) ((is_equal_decides type_code (encoded_view e).value_type (encoded_view d).value_type).1 same))

-- a field of a new id
pub look_new : (i : ℕ) (es : List EncodedField) (d : EncodedField) (places later : ℤ → Option ℕ) →
    IsLooked i es places → i < length es → d ≡ get_or es i d → None ≡ places d.id →
    ((q : ℤ) → later q ≡ cond (int_eq d.id q) (Some i) (places q)) →
    IsLooked (i + 1) es later
look_new i es d places later looked h at found step =
    let reached : i ≤ length es = omega arith in
    let P : List DictionaryField → Type 0 = λ ds. Scanned ds (looked.0 ++ d.id ∷ []) later in (
      looked.0 ++ d.id ∷ [],
      subst P (sym (next i es d h at))
          (scanned_new (so_far i es) looked.0 places later (encoded_view d) looked.1 (sym found)
          (λ q. step q ∙ ap (λ n. cond (int_eq d.id q) (Some n) (places q)) (sym (length_so_far i es reached)))),
    )

-- all fields are checked
pub look_done : (i : ℕ) (es : List EncodedField) (places : ℤ → Option ℕ) →
    IsLooked i es places → i ≡ length es → types_differ (encoded_views es) ≡ false
look_done i es places looked done =
    let whole : so_far i es ≡ encoded_views es = ap (λ n. so_far n es) done ∙ ap encoded_views (take-length es) in
    sym (ap types_differ whole) ∙ looked.1.agree
