use Rattle.std.proofs.Common.{◌↔◌, ◌+◌, ◌*◌, drop}
use Rattle.std.specs.List.{AllByRecursion}
use Rattle.arrow_types.specs.Field.{levels}
use Rattle.arrow_types.specs.Schema.{dictionary_fields}
use Rattle.arrow_types.specs.View.{field_view, fields_view}
use Rattle.arrow_builder.specs.Finished.{IsTyped}
use Rattle.arrow_builder.proofs.typed.+typed.Given as goal

-- all are typed if and only if those to come are
abbrev pub invariant-all_typed-loop-field : goal.invariant-all_typed-loop-field
invariant-all_typed-loop-field l =
    AllByRecursion (IsTyped l.dictionaries.entries.now) (dictionary_fields (fields_view (drop l.field-index l.fields)))
    ↔ AllByRecursion (IsTyped l.dictionaries.entries.now) (dictionary_fields (fields_view l.fields))

abbrev pub decreases-are_typed : goal.decreases-are_typed
decreases-are_typed l = 2 * levels (field_view l.field.now).children + 1

abbrev pub decreases-all_typed : goal.decreases-all_typed
decreases-all_typed l = 2 * levels (fields_view l.fields.now)
