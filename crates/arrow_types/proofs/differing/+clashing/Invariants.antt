use Rattle.arrow_types.specs.Field.{count}
use Rattle.std.proofs.Common.{◌+◌, ◌*◌, ◌≡◌, drop}
use Rattle.arrow_types.specs.Dictionaries.{some_clash}
use Rattle.arrow_types.specs.View.{field_view, fields_view, type_view}
use Rattle.arrow_types.proofs.differing.+clashing.Given as goal

-- the fields below a field are fewer than with it, and these fewer than all fields of its list
abbrev pub decreases-some_clash : goal.decreases-some_clash
decreases-some_clash l = 2 * count (fields_view l.fields.now)

abbrev pub decreases-clashes : goal.decreases-clashes
decreases-clashes l = 2 * count (field_view l.field.now).children + 1

-- none of the fields so far has this dictionary and another value type
abbrev pub invariant-some_clash-loop-field : goal.invariant-some_clash-loop-field
invariant-some_clash-loop-field l =
    some_clash (record { id = l.id; value_type = type_view l.value_type }) (fields_view (drop l.field-index l.fields))
    ≡ some_clash (record { id = l.id; value_type = type_view l.value_type }) (fields_view l.fields)
