use Rattle.arrow_data.proofs.Resolving.{array_known}
use Rattle.arrow_data.proofs.SlotValues.{entry_holds}
use Rattle.arrow_data.proofs.array.Array.slot.Goals as goal

pub returns-in-Some : goal.returns-in-Some
returns-in-Some c =
    let known = array_known c.self.inside c.args.self.now c.self.view_is c.self.invariant in
    entry_holds c.args.self.now c.in-Some.values.now c.args.i c.in-Some.place c.own_slot.result known c.own_slot.ensures.column c.in-Some.ensures c.own_slot.ensures.holds
