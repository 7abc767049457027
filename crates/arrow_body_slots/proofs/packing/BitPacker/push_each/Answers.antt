use Rattle.std.proofs.Common.{◌++◌, ◌∷◌, [], sym, ap, ◌∙◌, subst, arith, append_assoc, append-nil}
use Rattle.arrow_body_slots.specs.Marks.{bits_from}
use Rattle.arrow_body_slots.specs.Packing.{IsPacking}
use Rattle.arrow_body_slots.proofs.Marking.{bits_none, bits_next}
use Rattle.arrow_body_slots.proofs.packing.BitPacker.push_each.Goals as goal

-- no bit so far
pub loop-i-init : goal.loop-i-init
loop-i-init c = (
  omega arith,
  c.requires.order,
  λ before was p. subst (λ bs. IsPacking before bs c.args.self.now.byte c.args.self.now.weight c.args.out.now.items)
      (sym (append-nil was) ∙ ap (λ bs. was ++ bs) (sym (bits_none c.args.bits.bytes.now c.args.bits.start))) p,
)

-- one more bit
pub loop-i-preserved : goal.loop-i-preserved
loop-i-preserved c =
    let bytes = c.args.bits.bytes.now in
    let start = c.args.bits.start in
    let i = c.loop-i.i in (
      omega (arith, c.loop-i.invariant.0),
      omega (arith, c.loop-i-test.true),
      λ before was p. subst (λ bs. IsPacking before bs c.push.new.self.byte c.push.new.self.weight c.push.new.out.items)
          (append_assoc was (bits_from bytes start i) (c.bit.result ∷ [])
          ∙ ap (λ bs. was ++ bs) (ap (λ b. bits_from bytes start i ++ b ∷ []) c.bit.ensures ∙ sym (bits_next bytes start i c.loop-i.invariant.0)))
          (c.in_ok-push.ensures before (was ++ bits_from bytes start i) (c.loop-i.invariant.2 before was p)),
    )
