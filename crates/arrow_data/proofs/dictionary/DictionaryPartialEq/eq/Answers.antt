use Rattle.std.specs.Coded.{coded_list}
use Rattle.arrow_types.specs.Equality.{is_equal_by}
use Rattle.arrow_layout.specs.Stored.{value_code}
use Rattle.arrow_data.proofs.dictionary.DictionaryPartialEq.eq.Goals as goal

-- the test is true exactly when the values are equal, so it is the model's
pub returns-clause-gives : goal.returns-clause-gives
returns-clause-gives c = is_equal_by (coded_list value_code) _ _ _ c.have_same_values.ensures
