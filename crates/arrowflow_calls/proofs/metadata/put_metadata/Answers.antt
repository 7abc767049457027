use Rattle.std.proofs.Common.{rules, ◌<◌, length, flat_map, arith, subst}
use Rattle.arrow_bits.specs.Numbers.{number_bytes}
use Rattle.arrow_types.specs.Notes.{pairs_view}
use Rattle.arrowflow_calls.specs.Fields.{pair_bytes}
use Rattle.arrowflow_calls.specs.Pens.{Puts}
use Rattle.arrowflow_calls.proofs.Pairing.{metadata_some}
use Rattle.arrowflow_calls.proofs.Writing.{puts_more}
use Rattle.arrowflow_calls.proofs.metadata.put_metadata.Goals as goal

-- the pairs follow their number
pub returns : goal.returns
returns c =
    let pairs = c.args.pairs.now in
    let number = c.put_number-pen in
    let put = c.put_pairs in
    let some : 0 < length pairs = search rules in
    subst (λ text. Puts c.args.room.now c.args.pen text put.result put.new.room) (metadata_some pairs some)
    (puts_more c.args.room.now number.new.room put.new.room c.args.pen number.result put.result (number_bytes 4 (length pairs)) (flat_map pair_bytes (pairs_view pairs))
    (omega (arith, number.ensures.fits)) number.ensures.puts put.ensures)
