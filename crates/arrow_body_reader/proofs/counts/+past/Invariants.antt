use Rattle.std.proofs.Common.{◌≡◌, ◌+◌, ◌*◌, drop}
use Rattle.arrow_types.specs.Field.{count}
use Rattle.arrow_types.specs.View.{field_view, fields_view}
use Rattle.arrow_body_reader.specs.Taken.{below, taken_nodes}
use Rattle.arrow_body_reader.proofs.counts.+past.Given as goal

abbrev pub decreases-past : goal.decreases-past
decreases-past l = 2 * count (fields_view l.fields.now)

abbrev pub decreases-after_one : goal.decreases-after_one
decreases-after_one l = 2 * count (below (field_view l.field.now).head.encoding (field_view l.field.now).children) + 1

-- the nodes left after the remaining fields are the nodes left after all
abbrev pub invariant-past-loop-field : goal.invariant-past-loop-field
invariant-past-loop-field l = drop (taken_nodes (fields_view (drop l.field-index l.fields))) l.rest ≡ drop (taken_nodes (fields_view l.fields)) l.nodes
