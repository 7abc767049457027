use Rattle.std.proofs.Common.{◌≡◌, ◌++◌, drop}
use Rattle.std.specs.List.{flat_map}
use Rattle.arrow_types.specs.View.{fields_view, notes_view}
use Rattle.arrow_json.specs.Lines.{line_of}
use Rattle.arrowflow_json.specs.Fields.{fields_json, name_by, schema_lines}
use Rattle.arrowflow_json.proofs.fields.schema_json_lines.Given as goal

-- the lines so far and those of the remaining columns are all lines
abbrev pub invariant-loop-field : goal.invariant-loop-field
invariant-loop-field l =
    l.text.items ++ flat_map line_of (fields_json (name_by l.file) (fields_view (drop l.field-index l.field-items)) (notes_view (drop l.field-index l.field-items)))
    ≡ schema_lines (name_by l.file) l.schema
