use Rattle.arrow_types.specs.Equality.{is_equal_by}
use Rattle.arrow_layout.specs.Stored.{value_code}
use Rattle.arrow_layout.proofs.value.ValuePartialEq.eq.Goals as goal

-- the test is true exactly when the views are equal, so it is the model's
pub returns-clause-gives : goal.returns-clause-gives
returns-clause-gives c = is_equal_by value_code _ _ _ c.same_value.ensures
