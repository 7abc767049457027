-- Lists of pairs, and custom metadata of fields, one by one.
use Rattle.std.proofs.Common.{◌≡◌, ◌+◌, ◌<◌, ℕ, zero, suc, List, [], ◌∷◌, length, drop, get_or, ap, sym, ◌∙◌, refl, arith}
use Rattle.std.proofs.lemmas.List.{length-map}
use Rattle.std.specs.declared.alloc.Global.{Global}
use Rattle.std.specs.Prelude.{Vec}
use Rattle.arrow_types.specs.Notes.{KeyValue, Notes, unnoted, noted, pair_view, pairs_view}
use Rattle.arrow_types.specs.View.{field_notes, notes_view}
use Rattle.arrow_types.specs.declared.field.Field.{Field}

-- the number of sibling fields that may have custom metadata
abbrev noted_width : Notes → ℕ
noted_width unnoted = 0
noted_width (noted pairs below rest) = noted_width rest + 1

-- there are as many as the list has fields
noted_width-notes_view : (fs : List Field) → noted_width (notes_view fs) ≡ length fs
noted_width-notes_view [] = refl
noted_width-notes_view (f ∷ fs) = omega (arith, noted_width-notes_view fs)

-- lists of fields with the same custom metadata have the same length
pub length_from_notes : (xs ys : List Field) → notes_view xs ≡ notes_view ys → length xs ≡ length ys
length_from_notes xs ys e = omega (arith, noted_width-notes_view xs, noted_width-notes_view ys, ap noted_width e)

-- lists of equal pairs have the same length
pub length_from_pairs : (xs ys : List (Vec ℕ Global × Vec ℕ Global)) → pairs_view xs ≡ pairs_view ys → length xs ≡ length ys
length_from_pairs xs ys e =
    omega (arith, length-map xs pair_view, length-map ys pair_view, ap (λ (ps : List KeyValue). length ps) e)

-- the custom metadata of the fields from one on
pub notes_from : (fs : List Field) (i : ℕ) (f : Field) → i < length fs → f ≡ get_or fs i f
    → notes_view (drop i fs) ≡ noted (field_notes f).pairs (field_notes f).below (notes_view (drop (i + 1) fs))
notes_from [] i f h is = absurd (omega arith)
notes_from (x ∷ fs) zero f h is = ap (λ (y : Field). noted (field_notes y).pairs (field_notes y).below (notes_view fs)) (sym is)
notes_from (x ∷ fs) (suc i) f h is =
    let next : suc (i + 1) ≡ suc i + 1 = omega arith in
    notes_from fs i f (omega arith) is ∙ ap (λ n. noted (field_notes f).pairs (field_notes f).below (notes_view (drop n (x ∷ fs)))) next
