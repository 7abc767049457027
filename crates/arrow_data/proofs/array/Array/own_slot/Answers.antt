use Rattle.std.proofs.Common.{sym, subst}
use Rattle.arrow_data.specs.Shown.{HoldsValue}
use Rattle.arrow_data.proofs.Resolving.{array_known}
use Rattle.arrow_data.proofs.SlotValues.{shown_holds}
use Rattle.arrow_data.proofs.array.Array.own_slot.Goals as goal

pub returns-clause-holds : goal.returns-clause-holds
returns-clause-holds c =
    subst (HoldsValue c.args.self.now c.args.i) (sym c.at.ensures)
    (shown_holds c.self.inside c.args.self.now c.args.i c.seen.result c.self.view_is c.self.invariant c.requires.inside c.requires.own c.seen.ensures)

pub returns-clause-column : goal.returns-clause-column
returns-clause-column c = array_known c.self.inside c.args.self.now c.self.view_is c.self.invariant
