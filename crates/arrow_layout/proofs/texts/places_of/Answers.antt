use Rattle.std.proofs.Common.{◌+◌, arith}
use Rattle.arrow_layout.proofs.Cuts.{places_order}
use Rattle.arrow_layout.proofs.texts.places_of.Goals as goal

pub returns-clause-after : goal.returns-clause-after
returns-clause-after c =
    places_order c.args.offsets.width c.args.offsets.bytes.now c.args.offsets.len (c.args.j + 1) c.args.offsets.len c.places_at-end.ensures.rising (omega (arith, c.requires.slot)) (omega arith)
