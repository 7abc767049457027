use Rattle.std.proofs.Common.{◌≡◌, ◌++◌, drop}
use Rattle.arrow_types.specs.Field.{count}
use Rattle.arrow_types.specs.View.{fields_view}
use Rattle.arrow_layout.specs.Shared.{node_types}
use Rattle.arrow_layout.proofs.shared_type.+types.Given as goal

abbrev pub decreases-push_types : goal.decreases-push_types
decreases-push_types l = count (fields_view l.fields.now)

-- the types so far and those of the remaining fields are all
abbrev pub invariant-loop-field : goal.invariant-loop-field
invariant-loop-field l =
    l.types.items ++ node_types (fields_view (drop l.field-index l.fields)) ≡ l.initial.types.items ++ node_types (fields_view l.fields)
