-- One step of the loop over the encoded fields, from the current field and the result of the map's lookup.
use Rattle.std.proofs.Common.{◌≡◌, ℕ, ◌+◌, ◌<◌, ◌≤◌, ℤ, true, false, not, cond, List, [], ◌∷◌, ◌++◌, length, take, drop, get_or, Option, Some, None, option_map, slice_get, ap, subst, ◌∙◌, sym, refl, arith}
use Rattle.std.specs.Ordering.{int_eq}
use Rattle.std.proofs.lemmas.Bool.{not-true, not-false, both_ways}
use Rattle.std.proofs.lemmas.List.{map-append, length-map, length-take-le, take_more, take-append-drop, get_or-take}
use Rattle.std.proofs.lemmas.Option.{slice_get_read, slice_get-map}
use Rattle.std.proofs.Math.Seq.{take-length}
use Rattle.arrow_types.proofs.Places.{ids_of, placed}
use Rattle.arrow_types.proofs.Scan.{Scanned, scanned_new, scanned_old, scanned_clash}
use Rattle.arrow_types.specs.Dictionaries.{encoded_view, encoded_views}
use Rattle.arrow_types.specs.Equality.{is_equal, is_equal_decides}
use Rattle.arrow_types.specs.Schema.{DictionaryField, AreIdsOfOneType, each_once, types_differ}
use Rattle.arrow_types.specs.Stored.{type_code}
use Rattle.arrow_types.specs.declared.dictionaries.Encoded.{Encoded}

-- what the first i fields say of their dictionaries
abbrev pub so_far : ℕ → List Encoded → List DictionaryField
so_far i es = encoded_views (take i es)

-- there are i of them
pub length_so_far : (i : ℕ) (es : List Encoded) → i ≤ length es → length (so_far i es) ≡ i
length_so_far i es h = length-map (take i es) encoded_view ∙ length-take-le i es h

-- the first i + 1 fields
next : (i : ℕ) (es : List Encoded) (d : Encoded) → i < length es → d ≡ get_or es i d → so_far (i + 1) es ≡ so_far i es ++ encoded_view d ∷ []
next i es d h at =
    ap encoded_views (take_more es i d h ∙ ap (λ e. take i es ++ e ∷ []) (sym at)) ∙ map-append encoded_view (take i es) (d ∷ [])

-- the index of a known id is below the current field's
pub known_below : (i : ℕ) (es : List Encoded) (ids : List ℤ) (places : ℤ → Option ℕ) (q : ℤ) (j : ℕ) →
    Scanned (so_far i es) ids places → i ≤ length es → Some j ≡ places q → j < i
known_below i es ids places q j known h found =
    omega (arith, (placed q (so_far i es) j (sym (known.found q) ∙ sym found)).below, length_so_far i es h)

-- the field at that index
known_at : (i j : ℕ) (es : List Encoded) (e : Encoded) → i ≤ length es → j < i → e ≡ get_or es j e → slice_get (so_far i es) j ≡ Some (encoded_view e)
known_at i j es e h below at =
    slice_get-map encoded_view (take i es) j
    ∙ ap (λ o. option_map encoded_view o) (slice_get_read (take i es) (length (take i es)) j e refl
    (let long : length (take i es) ≡ i = length-take-le i es h in omega arith)
    (at ∙ sym (get_or-take i es j e below)))

-- a field with a known id and that id's type
pub look_same : (i j : ℕ) (es : List Encoded) (d e : Encoded) (ids : List ℤ) (places : ℤ → Option ℕ) →
    Scanned (so_far i es) ids places → i < length es → d ≡ get_or es i d → Some j ≡ places d.id → e ≡ get_or es j e →
    not (is_equal type_code (encoded_view e).value_type (encoded_view d).value_type) ≡ false →
    Scanned (so_far (i + 1) es) ids places
look_same i j es d e ids places known h at found at_j same =
    let reached : i ≤ length es = omega arith in
    let below = known_below i es ids places d.id j known reached found in
    let P : List DictionaryField → Type 0 = λ ds. Scanned ds ids places in
    subst P (sym (next i es d h at))
    (scanned_old (so_far i es) ids places (encoded_view d) (encoded_view e) j known (sym found) (known_at i j es e reached below at_j)
    ((is_equal_decides type_code (encoded_view e).value_type (encoded_view d).value_type).0 (not-false _ same)))

-- a field with a known id and another type
pub look_other : (i j : ℕ) (es : List Encoded) (d e : Encoded) (ids : List ℤ) (places : ℤ → Option ℕ) →
    Scanned (so_far i es) ids places → i < length es → d ≡ get_or es i d → Some j ≡ places d.id → e ≡ get_or es j e →
    not (is_equal type_code (encoded_view e).value_type (encoded_view d).value_type) ≡ true →
    types_differ (encoded_views es) ≡ true
look_other i j es d e ids places known h at found at_j apart =
    let reached : i ≤ length es = omega arith in
    let below = known_below i es ids places d.id j known reached found in
    let whole : encoded_views es ≡ (so_far i es ++ encoded_view d ∷ []) ++ encoded_views (drop (i + 1) es) =
    ap encoded_views (sym (take-append-drop (i + 1) es)) ∙ map-append encoded_view (take (i + 1) es) (drop (i + 1) es)
    ∙ ap (λ ds. ds ++ encoded_views (drop (i + 1) es)) (next i es d h at) in
    ap types_differ whole
    ∙ scanned_clash (so_far i es) (encoded_views (drop (i + 1) es)) ids places (encoded_view d) (encoded_view e) j known (sym found)
    (known_at i j es e reached below at_j)
    (λ same. both_ways _ (not-true _ apart) ((is_equal_decides type_code (encoded_view e).value_type (encoded_view d).value_type).1 same))

-- a field with a new id
pub look_new : (i : ℕ) (es : List Encoded) (d : Encoded) (ids : List ℤ) (places later : ℤ → Option ℕ) →
    Scanned (so_far i es) ids places → i < length es → d ≡ get_or es i d → None ≡ places d.id →
    ((q : ℤ) → later q ≡ cond (int_eq d.id q) (Some i) (places q)) →
    Scanned (so_far (i + 1) es) (ids ++ d.id ∷ []) later
look_new i es d ids places later known h at found step =
    let reached : i ≤ length es = omega arith in
    let P : List DictionaryField → Type 0 = λ ds. Scanned ds (ids ++ d.id ∷ []) later in
    subst P (sym (next i es d h at))
    (scanned_new (so_far i es) ids places later (encoded_view d) known (sym found)
    (λ q. step q ∙ ap (λ n. cond (int_eq d.id q) (Some n) (places q)) (sym (length_so_far i es reached))))

-- all fields have been checked
pub look_done : (i : ℕ) (es : List Encoded) (ids : List ℤ) (places : ℤ → Option ℕ) →
    Scanned (so_far i es) ids places → i ≡ length es → AreIdsOfOneType ids (encoded_views es)
look_done i es ids places known done =
    let whole : so_far i es ≡ encoded_views es = ap (λ n. so_far n es) done ∙ ap encoded_views (take-length es) in
    record {
      once = known.listed ∙ ap (λ ds. each_once (ids_of ds)) whole;
      one_type = sym (ap types_differ whole) ∙ known.agree;
    }
