use Rattle.arrow_types.specs.Field.{count}
use Rattle.std.proofs.Common.{◌+◌, ◌*◌, ◌≡◌, drop}
use Rattle.arrow_types.specs.Schema.{has_encoding}
use Rattle.arrow_types.specs.View.{field_view, fields_view}
use Rattle.arrow_types.proofs.nesting.+encodings.Given as goal

-- the fields below a field are fewer than with it, and these fewer than all fields of its list
abbrev pub decreases-have_encoding : goal.decreases-have_encoding
decreases-have_encoding l = 2 * count (fields_view l.fields.now)

abbrev pub decreases-has_encoding : goal.decreases-has_encoding
decreases-has_encoding l = 2 * count (field_view l.field.now).children + 1

-- none of the fields so far has an encoding
abbrev pub invariant-have_encoding-loop-field : goal.invariant-have_encoding-loop-field
invariant-have_encoding-loop-field l =
    has_encoding (fields_view (drop l.field-index l.fields)) ≡ has_encoding (fields_view l.fields)
