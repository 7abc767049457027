use Rattle.std.proofs.Common.{◌≡◌, map, take, string_bytes}
use Rattle.arrowflow_line.proofs.reading.names_of.Given as goal

-- the names before this index are in the list
abbrev pub invariant-loop-name : goal.invariant-loop-name
invariant-loop-name l = map string_bytes l.names.items ≡ map (λ w. w.now) (take l.name-index l.given)
