use Rattle.std.proofs.Common.{◌≡◌, ◌≤◌, ◌+◌, ◌*◌, drop}
use Rattle.arrow_types.specs.Field.{count}
use Rattle.arrow_types.specs.View.{fields_view, type_view}
use Rattle.arrow_body_reader.specs.Taken.{taken_nodes}
use Rattle.arrow_body_laws.specs.Formed.{AreFormed}
use Rattle.arrow_body_slots.specs.Tally.{capped}
use Rattle.arrow_body_writer.proofs.forms.+counted.Given as goal

-- there are fewer fields below
abbrev pub decreases-count_nodes : goal.decreases-count_nodes
decreases-count_nodes l = 2 * count (fields_view l.fields.now)

abbrev pub decreases-count_below : goal.decreases-count_below
decreases-count_below l = 2 * count (type_view l.data_type.now).children + 1

-- the nodes so far and those of the remaining fields are all nodes; all fields are formed if the remaining ones are
abbrev pub invariant-count_nodes-loop-field : goal.invariant-count_nodes-loop-field
invariant-count_nodes-loop-field l =
    (capped (l.count + taken_nodes (fields_view (drop l.field-index l.fields))) ≡ capped (taken_nodes (fields_view l.fields)))
    × (l.count ≤ 18446744073709551615)
    × (AreFormed (fields_view (drop l.field-index l.fields)) → AreFormed (fields_view l.fields))
