use Rattle.std.proofs.Common.{◌≡◌, ◌+◌, ◌*◌, map, take}
use Rattle.arrow_types.specs.Field.{levels}
use Rattle.arrow_types.specs.View.{field_view, fields_view}
use Rattle.arrow_builder.specs.Built.{no_values_of}
use Rattle.arrow_builder.proofs.begin.+begin.Given as goal

-- the nodes of the fields so far
abbrev pub invariant-begin_all-loop-field : goal.invariant-begin_all-loop-field
invariant-begin_all-loop-field l = l.nodes.items ≡ map (λ f. no_values_of (field_view f)) (take l.field-index l.fields)

abbrev pub decreases-begin : goal.decreases-begin
decreases-begin l = 3 * levels (field_view l.field.now).children + 2

abbrev pub decreases-begin_below : goal.decreases-begin_below
decreases-begin_below l = 3 * levels (field_view l.field.now).children + 1

abbrev pub decreases-begin_all : goal.decreases-begin_all
decreases-begin_all l = 3 * levels (fields_view l.fields.now)
