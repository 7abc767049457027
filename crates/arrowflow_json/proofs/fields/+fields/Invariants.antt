use Rattle.std.proofs.Common.{◌≡◌, ◌+◌, ◌*◌, ◌++◌, drop, None}
use Rattle.std.specs.List.{flat_map}
use Rattle.json.specs.Tree.{json_tokens}
use Rattle.arrow_types.specs.Field.{count}
use Rattle.arrow_types.specs.View.{field_view, fields_view, notes_view}
use Rattle.arrowflow_json.specs.Fields.{fields_json}
use Rattle.arrowflow_json.proofs.fields.+fields.Given as goal

-- the fields below a field are fewer than with it, and these fewer than all fields of its list
abbrev pub decreases-write_fields : goal.decreases-write_fields
decreases-write_fields l = 2 * count (fields_view l.fields.now)

abbrev pub decreases-write_field : goal.decreases-write_field
decreases-write_field l = 2 * count (field_view l.field.now).children + 1

-- the tokens so far and those of the remaining fields are all tokens
abbrev pub invariant-write_fields-loop-field : goal.invariant-write_fields-loop-field
invariant-write_fields-loop-field l =
    (l.writer.tokens ++ flat_map json_tokens (fields_json None (fields_view (drop l.field-index l.fields)) (notes_view (drop l.field-index l.fields)))
    ≡ l.initial.writer.tokens ++ flat_map json_tokens (fields_json None (fields_view l.fields) (notes_view l.fields)))
    × (l.writer.before ≡ l.initial.writer.before)
