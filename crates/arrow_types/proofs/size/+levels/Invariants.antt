use Rattle.std.proofs.Common.{◌+◌, ◌*◌, ◌≤◌, ◌↔◌, drop}
use Rattle.arrow_types.specs.Field.{count, levels}
use Rattle.arrow_types.specs.View.{field_view, fields_view}
use Rattle.arrow_types.proofs.size.+levels.Given as goal

-- the fields below a field are fewer than with it, and these fewer than all fields of its list
abbrev pub decreases-have_levels : goal.decreases-have_levels
decreases-have_levels l = 2 * count (fields_view l.fields.now)

abbrev pub decreases-has_levels : goal.decreases-has_levels
decreases-has_levels l = 2 * count (field_view l.field.now).children + 1

-- all fields are shallow enough exactly if the remaining ones are
abbrev pub invariant-have_levels-loop-field : goal.invariant-have_levels-loop-field
invariant-have_levels-loop-field l =
    (levels (fields_view (drop l.field-index l.fields)) ≤ l.most) ↔ (levels (fields_view l.fields) ≤ l.most)
