-- Sibling fields of the program.
use Rattle.std.proofs.Common.{◌≡◌, ℕ, zero, suc, List, [], ◌∷◌, slice_get, option_map, refl}
use Rattle.arrow_types.specs.View.{fields_view, notes_view}
use Rattle.arrow_types.specs.declared.field.Field.{Field}
use Rattle.arrowflow_calls.specs.Fields.{nth_field, noted_field}

-- field n of them is that of the list
pub nth_is : (fs : List Field) (n : ℕ) → nth_field (fields_view fs) (notes_view fs) n ≡ option_map noted_field (slice_get fs n)
nth_is [] n = refl
nth_is (f ∷ fs) zero = refl
nth_is (f ∷ fs) (suc n) = nth_is fs n
