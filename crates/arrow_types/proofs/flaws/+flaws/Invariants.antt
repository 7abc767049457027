use Rattle.arrow_types.specs.Field.{count}
use Rattle.std.proofs.Common.{◌+◌, ◌*◌, ◌≡◌, drop}
use Rattle.arrow_types.specs.Schema.{some_flawed}
use Rattle.arrow_types.specs.View.{field_view, fields_view}
use Rattle.arrow_types.proofs.flaws.+flaws.Given as goal

-- the fields below a field are fewer than with it, and these fewer than all fields of its list
abbrev pub decreases-some_flawed : goal.decreases-some_flawed
decreases-some_flawed l = 2 * count (fields_view l.fields.now)

abbrev pub decreases-field_is_flawed : goal.decreases-field_is_flawed
decreases-field_is_flawed l = 2 * count (field_view l.field.now).children + 1

-- the fault applies to none of the fields so far
abbrev pub invariant-some_flawed-loop-field : goal.invariant-some_flawed-loop-field
invariant-some_flawed-loop-field l =
    some_flawed l.fault (fields_view (drop l.field-index l.fields)) ≡ some_flawed l.fault (fields_view l.fields)
