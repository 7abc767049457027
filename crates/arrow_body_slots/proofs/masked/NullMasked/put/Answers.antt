use Rattle.std.proofs.Common.{rules, arith, ◌*◌, ◌++◌, ap, ◌∙◌}
use Rattle.std.proofs.lemmas.Grind.{common_steps}
use Rattle.std.specs.Prelude.{slice_range}
use Rattle.arrow_body_slots.proofs.Numbering.{last_part}
use Rattle.arrow_body_slots.proofs.masked.NullMasked.put.Goals as goal

-- the bytes of the numbers are appended, and cleared under nulls
pub returns : goal.returns
returns c = λ raw has inside.
    let numbers = slice_range c.args.self.values.now (c.args.self.width * c.args.start) (c.args.self.width * c.args.stop) in
    let appended = c.deref_mut.ensures.value ∙ c.in_ok-extend_from_slice.ensures.items in
    let own = last_part c.deref_mut.result.now c.args.out.now.items numbers c.len-at.result appended (search rules) in
    let cleared = c.clear_nulls.ensures raw has inside own in
    (grind (arith, common_steps)) ∙ ap (λ bytes. c.args.out.now.items ++ bytes) cleared
