use Rattle.arrow_types.specs.Equality.{is_equal_by}
use Rattle.arrow_types.specs.Stored.{whole_field_code}
use Rattle.arrow_types.proofs.same.FieldPartialEq.eq.Goals as goal

-- the test is true exactly if the views are equal, so it is the model's test
pub returns-clause-gives : goal.returns-clause-gives
returns-clause-gives c = is_equal_by whole_field_code _ _ _ c.same_field_with_notes.ensures
