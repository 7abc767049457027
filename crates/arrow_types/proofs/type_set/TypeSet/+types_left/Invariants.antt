use Rattle.arrow_types.specs.Field.{count}
use Rattle.std.proofs.Common.{◌+◌, ◌*◌, ◌≡◌, drop}
use Rattle.arrow_types.specs.TypeSet.{leaves_some_out}
use Rattle.arrow_types.specs.View.{field_view, fields_view}
use Rattle.arrow_types.proofs.type_set.TypeSet.+types_left.Given as goal

-- the fields below a field are fewer than with it, and these fewer than all fields of its list
abbrev pub decreases-leaves_some_out : goal.decreases-leaves_some_out
decreases-leaves_some_out l = 2 * count (fields_view l.fields.now)

abbrev pub decreases-leaves_field_out : goal.decreases-leaves_field_out
decreases-leaves_field_out l = 2 * count (field_view l.field.now).children + 1

-- none of the fields so far has a type that is left out
abbrev pub invariant-leaves_some_out-loop-field : goal.invariant-leaves_some_out-loop-field
invariant-leaves_some_out-loop-field l =
    leaves_some_out l.self (fields_view (drop l.field-index l.fields)) ≡ leaves_some_out l.self (fields_view l.fields)
