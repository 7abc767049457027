use Rattle.std.proofs.Common.{refl, arith}
use Rattle.arrow_body_slots.proofs.Marking.{nulls_counted}
use Rattle.arrow_body_slots.specs.declared.tally.ByteTally.{ByteTally}
use Rattle.arrow_body_slots.proofs.tally.ByteTally.add_nulls.Goals as goal

-- each of them is counted, and no offset advances
pub returns : goal.returns
returns c =
    let slice = c.args.slice in
    let new : ByteTally = record { slots = c.saturating_add-self.result; nulls = c.saturating_add-self-2.result; end = c.args.self.now.end } in
    nulls_counted c.args.form slice.array.now.raw slice.start slice.stop c.args.self.now new c.requires.slots.order c.requires.slots.inside c.requires.nulls
    (omega (arith, c.saturating_add-self.ensures)) (omega (arith, c.saturating_add-self-2.ensures)) refl
