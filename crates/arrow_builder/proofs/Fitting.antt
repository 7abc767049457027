-- When values fit.
use Rattle.std.proofs.Common.{◌≡◌, List, [], ◌∷◌, length, refl, ap, suc}
use Rattle.arrow_types.specs.View.{fields_view}
use Rattle.arrow_types.specs.declared.field.Field.{Field}
use Rattle.arrow_layout.specs.Fits.{PartsFit}
use Rattle.arrow_layout.specs.PlainValue.{list_of_values, values_of}
use Rattle.arrow_layout.specs.Value.{values_view}
use Rattle.arrow_layout.specs.declared.value.Value.{Value}

-- a list has as many items as there are values in it
pub items_long : (items : List Value) → length (list_of_values (values_of (values_view items))) ≡ length items
items_long [] = refl
items_long (item ∷ items) = ap suc (items_long items)

-- there are as many parts that fit as there are fields
pub as_many_parts : (fields : List Field) (parts : List Value) → PartsFit (fields_view fields) (values_of (values_view parts))
    → length fields ≡ length parts
as_many_parts [] [] fit = refl
as_many_parts (field ∷ fields) (part ∷ parts) fit = ap suc (as_many_parts fields parts fit.1)
as_many_parts [] (part ∷ parts) fit = absurd fit
as_many_parts (field ∷ fields) [] fit = absurd fit
