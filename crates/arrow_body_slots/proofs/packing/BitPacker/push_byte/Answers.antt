use Rattle.std.proofs.Common.{◌≡◌, ◌+◌, ◌*◌, ◌/◌, ◌++◌, subst, sym}
use Rattle.arrow_body_slots.specs.Packing.{IsPacking}
use Rattle.arrow_body_slots.proofs.Bytewise.{eight_more}
use Rattle.arrow_body_slots.proofs.packing.BitPacker.push_byte.Goals as goal

-- one byte becomes full, and as many bits remain as before
pub returns : goal.returns
returns c before was more eight is p =
    let self = c.args.self.now in
    let all = c.from.result + c.from-2.result * c.from-3.result in
    let sum : all ≡ self.byte + c.args.bits * self.weight = cc in
    subst (λ items. IsPacking before (was ++ more) (all / 256) self.weight items) (sym c.in_ok-push.ensures.items)
    (eight_more before was more self.byte self.weight c.args.bits all c.args.out.now.items eight is sum p)
