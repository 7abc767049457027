-- Lists of fields, and the plain fields that are their views.
use Rattle.std.proofs.Common.{◌≡◌, ◌≤◌, ◌<◌, ◌+◌, ℕ, zero, suc, List, [], ◌∷◌, length, drop, get_or, refl, sym, ap, ◌∙◌, arith}
use Rattle.arrow_types.specs.Field.{more, count, width}
use Rattle.arrow_types.specs.View.{field_view, fields_view}
use Rattle.arrow_types.specs.declared.field.Field.{Field}

-- the view of a list has as many sibling fields as the list
pub width-fields_view : (fs : List Field) → width (fields_view fs) ≡ length fs
width-fields_view [] = refl
width-fields_view (f ∷ fs) = omega (arith, width-fields_view fs)

-- lists of equal fields have the same length
pub length_from_same : (xs ys : List Field) → fields_view xs ≡ fields_view ys → length xs ≡ length ys
length_from_same xs ys e = omega (arith, width-fields_view xs, width-fields_view ys, ap width e)

-- the view of the fields from one on: its head, its children and the fields after it
pub fields_from : (fs : List Field) (i : ℕ) (f : Field) → i < length fs → f ≡ get_or fs i f
    → fields_view (drop i fs) ≡ more (field_view f).head (field_view f).children (fields_view (drop (i + 1) fs))
fields_from [] i f h is = absurd (omega arith)
fields_from (x ∷ fs) zero f h is = ap (λ (y : Field). more (field_view y).head (field_view y).children (fields_view fs)) (sym is)
fields_from (x ∷ fs) (suc i) f h is =
    let next : suc (i + 1) ≡ suc i + 1 = omega arith in
    fields_from fs i f (omega arith) is ∙ ap (λ n. more (field_view f).head (field_view f).children (fields_view (drop n (x ∷ fs)))) next

-- the fields from one on are no more than all fields
count_from : (fs : List Field) (i : ℕ) → count (fields_view (drop i fs)) ≤ count (fields_view fs)
count_from fs zero = omega arith
count_from [] (suc i) = omega arith
count_from (x ∷ fs) (suc i) = omega (arith, count_from fs i)

-- the fields below one of them are fewer
pub fewer_below : (fs : List Field) (i : ℕ) (f : Field) → i < length fs → f ≡ get_or fs i f → count (field_view f).children < count (fields_view fs)
fewer_below fs i f h is = omega (arith, count_from fs i, ap count (fields_from fs i f h is))
