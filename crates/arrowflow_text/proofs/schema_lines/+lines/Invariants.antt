use Rattle.std.proofs.Common.{◌≡◌, ◌≤◌, ◌+◌, ◌*◌, ◌++◌, drop, string_bytes}
use Rattle.arrow_types.specs.Field.{count, levels}
use Rattle.arrow_types.specs.View.{field_view, fields_view}
use Rattle.arrowflow_text.specs.SchemaText.{fields_text}
use Rattle.arrowflow_text.proofs.schema_lines.+lines.Given as goal

-- the fields below a field are smaller than the field, and the field is smaller than the list of fields that it is in
abbrev pub decreases-push_fields : goal.decreases-push_fields
decreases-push_fields l = 2 * count (fields_view l.fields.now)

abbrev pub decreases-push_field : goal.decreases-push_field
decreases-push_field l = 2 * count (field_view l.field.now).children + 1

-- no field to come is too deep; the text written so far and the text of the fields to come are the whole text
abbrev pub invariant-push_fields-loop-field : goal.invariant-push_fields-loop-field
invariant-push_fields-loop-field l =
    (l.level + levels (fields_view (drop l.field-index l.fields)) ≤ 32)
    × (string_bytes l.text ++ fields_text l.level (fields_view (drop l.field-index l.fields))
    ≡ string_bytes l.initial.text ++ fields_text l.level (fields_view l.fields))
