use Rattle.std.proofs.Common.{◌∙◌}
use Rattle.arrow_types.proofs.Pairs.{differ_below}
use Rattle.arrow_types.proofs.differing.types_differ.Goals as goal
use Rattle.arrow_types.specs.View.{fields_view}

-- the pairs are those of the list of all dictionary-encoded fields
pub returns : goal.returns
returns c = c.some_differ.ensures ∙ differ_below (fields_view c.args.fields.now)
