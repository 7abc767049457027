-- Nodes without slots.
use Rattle.std.proofs.Common.{◌≡◌, ℕ, zero, suc, ◌+◌, ◌<◌, ◌≤◌, Bool, true, false, List, [], ◌∷◌, length, map, get_or, refl, ap, sym, ◌∙◌, subst, arith, Option, None}
use Rattle.std.specs.Prelude.{◌||◌, ◌&&◌, is_some}
use Rattle.arrow_types.specs.Field.{FieldTree, more, levels}
use Rattle.arrow_types.specs.Schema.{field_is_nested, has_encoding, is_nested}
use Rattle.arrow_types.specs.View.{field_view, fields_view}
use Rattle.arrow_types.specs.declared.field.Encoding.{Encoding}
use Rattle.arrow_types.specs.declared.field.Field.{Field}
use Rattle.arrow_builder.specs.Built.{Built, AreBelow, fields_in, no_values_of}

-- a disjunction of three that is false has three false parts
neither : (a b c : Bool) → (a || b || c) ≡ false → (a ≡ false) × (b ≡ false) × (c ≡ false)
neither false false false h = (refl, refl, refl)
neither true b c h = absurd (cc)
neither false true c h = absurd (cc)
neither false false true h = absurd (cc)

-- one field of fields with no encoding below another
pub field_flat : (fields : List Field) (i : ℕ) (d : Field) → i < length fields → is_nested (fields_view fields) ≡ false → field_is_nested (field_view (get_or fields i d)) ≡ false
field_flat [] i d h flat = absurd (omega (arith, h))
field_flat (f ∷ fields) zero d h flat =
    let both = neither (is_some (field_view f).head.encoding && has_encoding (field_view f).children) (is_nested (field_view f).children) (is_nested (fields_view fields)) flat in
    rw (both.0, both.1) refl
field_flat (f ∷ fields) (suc i) d h flat = field_flat fields i d (omega (arith, h)) (neither (is_some (field_view f).head.encoding && has_encoding (field_view f).children) (is_nested (field_view f).children) (is_nested (fields_view fields)) flat).2

-- it is not as deep
pub field_less_deep : (fields : List Field) (i : ℕ) (d : Field) → i < length fields → levels (field_view (get_or fields i d)).children + 1 ≤ levels (fields_view fields)
field_less_deep [] i d h = absurd (omega (arith, h))
field_less_deep (f ∷ fields) zero d h = omega arith
field_less_deep (f ∷ fields) (suc i) d h = omega (arith, field_less_deep fields i d (omega (arith, h)))

-- the columns without values are those of the fields
pub fields_begun : (fields : List Field) → fields_in (map (λ f. no_values_of (field_view f)) fields) ≡ fields_view fields
fields_begun [] = refl
fields_begun (f ∷ fields) = ap (more (field_view f).head (field_view f).children) (fields_begun fields)

-- so they are below a field without an encoding
pub below_begun : (e : Option Encoding) (children : FieldTree) (fields : List Field) (bs : List Built) → e ≡ None → fields_view fields ≡ children
    → bs ≡ map (λ f. no_values_of (field_view f)) fields → AreBelow e children bs
below_begun e children fields bs plain same built = subst (λ e. AreBelow e children bs) (sym plain) (ap fields_in built ∙ fields_begun fields ∙ same)
