use Rattle.std.proofs.Common.{◌≡◌, ◌+◌, ◌*◌, ◌/◌, ◌++◌, ap, sym, ◌∙◌, subst, arith, append_assoc}
use Rattle.std.proofs.lemmas.Result.{on_ok_weaker}
use Rattle.arrow_body_slots.specs.Marks.{bits_from}
use Rattle.arrow_body_slots.specs.Packing.{IsPacking}
use Rattle.arrow_body_slots.proofs.Bytewise.{byte_bits}
use Rattle.arrow_body_slots.proofs.Marking.{bits_both}
use Rattle.arrow_body_slots.proofs.packing.BitPacker.push_range.Goals as goal

-- the bits of one more byte
pub loop-i-preserved : goal.loop-i-preserved
loop-i-preserved c =
    let bytes = c.args.bits.bytes.now in
    let start = c.args.bits.start in
    let i = c.loop-i.i in
    let more = bits_from bytes (8 * i) (8 * (i + 1)) in
    let byte = byte_bits bytes i (c.type_inv.bytes i).fits in (
      omega (arith, c.loop-i.invariant.0),
      omega (arith, c.loop-i-test.true),
      λ before was p. subst (λ bs. IsPacking before bs c.push_byte.new.self.byte c.push_byte.new.self.weight c.push_byte.new.out.items)
          (append_assoc was (bits_from bytes start (8 * i)) more
          ∙ ap (λ bs. was ++ bs) (sym (bits_both bytes start (8 * i) (8 * (i + 1)) (omega (arith, c.loop-i.invariant.0, c.div_ceil-first.ensures)) (omega arith))))
          (c.in_ok-push_byte.ensures before (was ++ bits_from bytes start (8 * i)) more byte.0 byte.1 (c.loop-i.invariant.2 before was p)),
    )

-- and the bits after the full bytes
pub returns : goal.returns
returns c =
    let bytes = c.args.bits.bytes.now in
    let start = c.args.bits.start in
    let stop = c.args.bits.stop in
    let last = 8 * (stop / 8) in
    let all : c.loop-i.i ≡ stop / 8 = omega (arith, c.loop-i-test.false, c.loop-i.invariant.1) in
    on_ok_weaker c.push_each-3.result
    (λ step before was p. subst (λ bs. IsPacking before bs c.push_each-3.new.self.byte c.push_each-3.new.self.weight c.push_each-3.new.out.items)
    (append_assoc was (bits_from bytes start last) (bits_from bytes last stop)
    ∙ ap (λ bs. was ++ bs) (sym (bits_both bytes start last stop (omega (arith, c.div_ceil-first.ensures, c.if-last-first.false)) (omega arith))))
    (step before (was ++ bits_from bytes start last)
    (subst (λ n. IsPacking before (was ++ bits_from bytes start (8 * n)) c.loop-i.self.byte c.loop-i.self.weight c.loop-i.out.items) all (c.loop-i.invariant.2 before was p))))
    c.push_each-3.ensures
