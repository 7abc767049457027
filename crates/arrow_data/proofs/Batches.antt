-- The number of fields of a schema.
use Rattle.arrow_types.proofs.Fields.{width-fields_view}

-- the rule for the number of fields
pub ruleset batches = (width-fields_view)
