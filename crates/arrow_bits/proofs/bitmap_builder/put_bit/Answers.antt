use Rattle.std.proofs.Common.{◌≡◌, ◌/◌, ◌∷◌, ◌++◌, [], cond, get_or, sym, subst, arith}
use Rattle.std.proofs.lemmas.Grind.{common_steps}
use Rattle.arrow_bits.specs.Bitmap.{PutsBit}
use Rattle.arrow_bits.proofs.OneBit.{puts_byte, puts_set, puts_clear}
use Rattle.arrow_bits.proofs.bitmap_builder.put_bit.Goals as goal

pub returns-in_ok-push-clause-ok : goal.returns-in_ok-push-clause-ok
returns-in_ok-push-clause-ok c =
    let old = c.args.bytes.now.items in
    let items : c.push.new.self.items ≡ old ++ cond c.args.bit 1 0 ∷ [] = grind (arith, common_steps) in
    subst (PutsBit c.args.at c.args.bit old) (sym items) (puts_byte c.args.at c.args.bit old c.requires (grind (arith, common_steps)))

pub returns-then-bit-clause-ok : goal.returns-then-bit-clause-ok
returns-then-bit-clause-ok c =
    let at = c.args.at in
    let old = c.args.bytes.now.items in
    let byte : c.index_mut.result.now ≡ get_or old (at / 8) 0 = grind (arith, common_steps) in
    rw (c.if-bit.true, byte) (puts_set at old c.requires (λ e. grind (arith, common_steps)))

pub returns-else-bit-clause-ok : goal.returns-else-bit-clause-ok
returns-else-bit-clause-ok c =
    let at = c.args.at in
    let old = c.args.bytes.now.items in
    let byte : c.index_mut-else-bit.result.now ≡ get_or old (at / 8) 0 = grind (arith, common_steps) in
    rw (c.if-bit.false, byte) (puts_clear at old c.requires (λ e. grind (arith, common_steps)))
