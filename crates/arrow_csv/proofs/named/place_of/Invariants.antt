use Rattle.std.proofs.Common.{◌≡◌, take, None}
use Rattle.arrow_types.specs.View.{fields_view}
use Rattle.arrow_csv.specs.Named.{place_named}
use Rattle.arrow_csv.proofs.named.place_of.Given as goal

-- no field before has the name
abbrev pub invariant-loop-place : goal.invariant-loop-place
invariant-loop-place l = place_named l.name (fields_view (take l.place l.fields)) ≡ None
