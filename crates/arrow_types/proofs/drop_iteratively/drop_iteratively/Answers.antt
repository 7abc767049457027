use Rattle.std.proofs.Common.{[], ◌∷◌, ap, arith}
use Rattle.arrow_types.proofs.Counts.{count_append}
use Rattle.arrow_types.specs.Field.{count}
use Rattle.arrow_types.specs.View.{fields_view}
use Rattle.arrow_types.proofs.drop_iteratively.drop_iteratively.Goals as goal

-- a field is removed, and only its children are added
pub loop-field-smaller : goal.loop-field-smaller
loop-field-smaller c =
    omega (arith, ap (λ fs. count (fields_view fs)) c.in-Some.ensures.items, count_append c.pop.new.self.items (c.in-Some.field ∷ []), c.add_children.ensures)
