use Rattle.std.proofs.Common.{◌≡◌, ◌++◌, drop, []}
use Rattle.csv.specs.Records.{fields_of, partial_of}
use Rattle.arrow_types.specs.View.{fields_view}
use Rattle.arrow_csv.specs.Records.{names}
use Rattle.arrow_csv.proofs.records.push_names.Given as goal

-- the names in the record, and those to come, are the complete list
abbrev pub invariant-loop-field : goal.invariant-loop-field
invariant-loop-field l =
    (fields_of l.line ++ names (fields_view (drop l.field-index l.fields)) ≡ fields_of l.fn.line ++ names (fields_view l.fields)) × (partial_of l.line ≡ [])
