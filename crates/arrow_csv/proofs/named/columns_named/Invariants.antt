use Rattle.std.proofs.Common.{◌≡◌, ◌++◌, drop, map}
use Rattle.arrow_types.specs.View.{fields_view}
use Rattle.arrow_csv.specs.Named.{columns_named}
use Rattle.arrow_csv.proofs.named.columns_named.Given as goal

-- the columns that were taken, and those of the names to come, are all
abbrev pub invariant-loop-name : goal.invariant-loop-name
invariant-loop-name l =
    l.columns.items ++ columns_named (map (λ name. name.now) (drop l.name-index l.names)) (fields_view l.fields) l.batch.columns ≡ columns_named (map (λ name. name.now) l.names) (fields_view l.fields) l.batch.columns
