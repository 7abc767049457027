-- Values of a list, as a list and back.
use Rattle.std.proofs.Common.{◌≡◌, List, [], ◌∷◌, refl, ap}
use Rattle.arrow_layout.specs.PlainValue.{PlainValue, PlainValues, no_values, more_values, list_of_values, values_of}

-- the values of a list are that list
pub list_again : (values : List PlainValue) → list_of_values (values_of values) ≡ values
list_again [] = refl
list_again (value ∷ values) = ap (λ vs. value ∷ vs) (list_again values)

-- and the other way round
pub values_again : (values : PlainValues) → values_of (list_of_values values) ≡ values
values_again no_values = refl
values_again (more_values value values) = ap (more_values value) (values_again values)
