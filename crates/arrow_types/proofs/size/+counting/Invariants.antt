use Rattle.std.proofs.Common.{◌+◌, ◌*◌, ◌≡◌, drop}
use Rattle.arrow_types.specs.Field.{count}
use Rattle.arrow_types.specs.Room.{left_of}
use Rattle.arrow_types.specs.View.{field_view, fields_view}
use Rattle.arrow_types.proofs.size.+counting.Given as goal

-- the fields below a field are fewer than with it, and these fewer than all fields of its list
abbrev pub decreases-after_fields : goal.decreases-after_fields
decreases-after_fields l = 2 * count (fields_view l.fields.now)

abbrev pub decreases-after_field : goal.decreases-after_field
decreases-after_field l = 2 * count (field_view l.field.now).children + 1

-- what is left after the remaining fields is what is left after all
abbrev pub invariant-after_fields-loop-field : goal.invariant-after_fields-loop-field
invariant-after_fields-loop-field l =
    left_of l.left (count (fields_view (drop l.field-index l.fields))) ≡ left_of l.most (count (fields_view l.fields))
