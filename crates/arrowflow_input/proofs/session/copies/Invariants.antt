use Rattle.std.proofs.Common.{◌≡◌, take}
use Rattle.arrowflow_input.proofs.session.copies.Given as goal

-- the copies so far are the entries so far
abbrev pub invariant-loop-id : goal.invariant-loop-id
invariant-loop-id l = l.copies.items ≡ take l.id-index l.entries
