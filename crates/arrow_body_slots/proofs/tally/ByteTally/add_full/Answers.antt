use Rattle.std.proofs.Common.{refl, arith}
use Rattle.arrow_data.specs.Column.{values_from}
use Rattle.arrow_data.proofs.Sameness.{length-values_from}
use Rattle.arrow_body_slots.proofs.Running.{full_counted, none_of}
use Rattle.arrow_body_slots.specs.declared.tally.ByteTally.{ByteTally}
use Rattle.arrow_body_slots.proofs.tally.ByteTally.add_full.Goals as goal

-- they are counted, and none of them is null
pub returns : goal.returns
returns c =
    let a = c.args.slice.array.now in
    let vs = values_from a.raw c.args.slice.start c.args.slice.stop in
    let long = length-values_from a.raw c.args.slice.start c.args.slice.stop c.requires.slots.inside in
    let new : ByteTally = record { slots = c.saturating_add-self.result; nulls = c.args.self.now.nulls; end = c.saturating_add-self-2.result } in
    full_counted c.args.form vs c.args.self.now new (none_of a c.args.slice.start c.args.slice.stop c.requires.slots.inside c.requires.full)
    (omega (arith, long, c.saturating_add-self.ensures)) refl (omega (arith, c.saturating_add-self-2.ensures, c.stretch.ensures))
