use Rattle.std.proofs.Common.{subst}
use Rattle.arrow_data.specs.View.{AreBuffersOf, HoldLists}
use Rattle.arrow_body_slots.proofs.Holding.{items_held}
use Rattle.arrow_body_slots.proofs.offsets.lists_of.Goals as goal

-- lists with offsets
pub returns-in-Lists-Offsets-default-default-default : goal.returns-in-Lists-Offsets-default-default-default
returns-in-Lists-Offsets-default-default-default c =
    let found = c.in-Lists-Offsets-default-default-default in
    let a = c.args.array.now in
    let held = subst (λ list. HoldLists a list found.validity.now found.offsets.now found.child.now) found.form-is (subst (AreBuffersOf a) found.is c.buffers.ensures) in
    (found.child.now.raw, items_held found.width found.validity.now found.offsets.now found.child.now.raw a.raw c.of.result c.of.ensures held.1 held.4)
