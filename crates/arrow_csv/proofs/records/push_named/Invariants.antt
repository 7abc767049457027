use Rattle.std.proofs.Common.{◌≡◌, ◌++◌, drop, map, []}
use Rattle.csv.specs.Records.{fields_of, partial_of}
use Rattle.arrow_types.specs.View.{fields_view}
use Rattle.arrow_csv.specs.Named.{fields_named}
use Rattle.arrow_csv.specs.Records.{names}
use Rattle.arrow_csv.proofs.records.push_named.Given as goal

-- the names in the record, and those to come, are the complete list
abbrev pub invariant-loop-name : goal.invariant-loop-name
invariant-loop-name l =
    (fields_of l.line ++ names (fields_named (map (λ name. name.now) (drop l.name-index l.wanted)) (fields_view l.fields)) ≡ fields_of l.fn.line ++ names (fields_named (map (λ name. name.now) l.wanted) (fields_view l.fields)))
    × (partial_of l.line ≡ [])
