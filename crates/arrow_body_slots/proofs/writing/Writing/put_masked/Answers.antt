use Rattle.arrow_body_slots.proofs.Marking.{bits_written}
use Rattle.arrow_body_slots.proofs.Masking.{masked_numbers}
use Rattle.arrow_body_slots.proofs.Numbering.{numbers_written}
use Rattle.arrow_body_slots.specs.declared.masked.NullMasked.{NullMasked}
use Rattle.arrow_body_slots.proofs.writing.Writing.put_masked.Goals as goal

-- the bits are added
pub returns-in_ok-push_range-in-Validity-clause-added : goal.returns-in_ok-push_range-in-Validity-clause-added
returns-in_ok-push_range-in-Validity-clause-added c done raw masked inside =
    let bits = c.args.bits in
    bits_written c.args.part c.args.self.now (record c.args.self.now { out = c.push_range.new.out; pending = c.push_range.new.self }) raw bits.bytes.now bits.start bits.stop
    c.in-Validity.is masked.marks c.requires.bits.order inside c.in_ok-push_range-in-Validity.ensures

-- the numbers are added, cleared under nulls
pub returns-in_ok-put-in-Numbers-clause-added : goal.returns-in_ok-put-in-Numbers-clause-added
returns-in_ok-put-in-Numbers-clause-added c done raw masked inside =
    let bits = c.args.bits in
    let n : NullMasked = record { width = c.width-width.result; values = c.in-Some.values; bits = bits.bytes } in
    numbers_written c.args.part c.in-Numbers.form c.args.self.now (record c.args.self.now { out = c.put.new.out }) n raw bits.start bits.stop
    c.in-Numbers.is c.width-width.ensures.same
    (c.in_ok-put-in-Numbers.ensures raw (masked_numbers n c.args.array.now.raw raw masked c.in-Some.ensures) inside)
