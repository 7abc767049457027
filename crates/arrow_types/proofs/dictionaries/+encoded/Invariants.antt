use Rattle.arrow_types.specs.Field.{count}
use Rattle.std.proofs.Common.{◌+◌, ◌*◌, ◌≡◌, ◌++◌, drop}
use Rattle.arrow_types.specs.Dictionaries.{encoded_views}
use Rattle.arrow_types.specs.Schema.{dictionary_fields}
use Rattle.arrow_types.specs.View.{field_view, fields_view}
use Rattle.arrow_types.proofs.dictionaries.+encoded.Given as goal

-- the fields below a field are fewer than with it, and these fewer than all fields of its list
abbrev pub decreases-add_fields : goal.decreases-add_fields
decreases-add_fields l = 2 * count (fields_view l.fields.now)

abbrev pub decreases-add_field : goal.decreases-add_field
decreases-add_field l = 2 * count (field_view l.field.now).children + 1

-- what was found so far and what the remaining fields give are what was found before and what all fields give
abbrev pub invariant-add_fields-loop-field : goal.invariant-add_fields-loop-field
invariant-add_fields-loop-field l =
    encoded_views l.found.items ++ dictionary_fields (fields_view (drop l.field-index l.fields))
    ≡ encoded_views l.initial.found.items ++ dictionary_fields (fields_view l.fields)
