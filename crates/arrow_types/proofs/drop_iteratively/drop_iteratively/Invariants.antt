use Rattle.arrow_types.specs.Field.{count}
use Rattle.arrow_types.specs.View.{fields_view}
use Rattle.arrow_types.proofs.drop_iteratively.drop_iteratively.Given as goal

-- each iteration removes one field
abbrev pub decreases-loop-field : goal.decreases-loop-field
decreases-loop-field l = count (fields_view l.pending.items)
