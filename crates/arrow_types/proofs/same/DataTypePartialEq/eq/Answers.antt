use Rattle.arrow_types.specs.Equality.{is_equal_by}
use Rattle.arrow_types.specs.Stored.{whole_type_code}
use Rattle.arrow_types.proofs.same.DataTypePartialEq.eq.Goals as goal

-- the test is true exactly if the views are equal, so it is the model's test
pub returns-clause-gives : goal.returns-clause-gives
returns-clause-gives c = is_equal_by whole_type_code _ _ _ c.same_type_with_notes.ensures
