use Rattle.std.proofs.Common.{◌++◌, drop}
use Rattle.arrow_types.specs.Field.{count}
use Rattle.arrow_types.specs.Schema.{dictionary_fields}
use Rattle.arrow_types.specs.View.{fields_view}
use Rattle.arrow_dict.specs.ValueTypes.{NameSame}
use Rattle.arrow_dict.proofs.value_fields.+named.Given as goal

abbrev pub decreases-add_fields : goal.decreases-add_fields
decreases-add_fields l = count (fields_view l.fields.now)

-- what was found and the fields to come name the same types as what was there and all fields
abbrev pub invariant-loop-field : goal.invariant-loop-field
invariant-loop-field l =
    NameSame (l.found ++ dictionary_fields (fields_view (drop l.field-index l.fields)))
    (l.initial.found ++ dictionary_fields (fields_view l.fields))
