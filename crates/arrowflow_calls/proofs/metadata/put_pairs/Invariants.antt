use Rattle.std.proofs.Common.{take, flat_map}
use Rattle.arrow_types.specs.Notes.{pairs_view}
use Rattle.arrowflow_calls.specs.Fields.{pair_bytes}
use Rattle.arrowflow_calls.specs.Pens.{Puts}
use Rattle.arrowflow_calls.proofs.metadata.put_pairs.Given as goal

-- the pairs so far were put
abbrev pub invariant-loop-pair : goal.invariant-loop-pair
invariant-loop-pair l = Puts l.fn.room l.fn.pen (flat_map pair_bytes (pairs_view (take l.pair-index l.pairs))) l.pen l.room
