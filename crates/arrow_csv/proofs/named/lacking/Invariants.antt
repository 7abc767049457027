use Rattle.std.proofs.Common.{◌≡◌, take, map, None}
use Rattle.arrow_types.specs.View.{fields_view}
use Rattle.arrow_csv.specs.Named.{lacking}
use Rattle.arrow_csv.proofs.named.lacking.Given as goal

-- each name before has a field
abbrev pub invariant-loop-k : goal.invariant-loop-k
invariant-loop-k l = lacking (map (λ name. name.now) (take l.k l.names)) (fields_view l.fields) ≡ None
