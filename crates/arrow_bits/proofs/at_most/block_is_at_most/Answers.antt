use Rattle.std.proofs.Common.{◌≡◌, ◌<◌, ◌*◌, ℕ, get_or, ap, arith, w8, w16, w32, w64}
use Rattle.arrow_bits.proofs.Compared.{block_holds}
use Rattle.arrow_bits.proofs.at_most.block_is_at_most.Goals as goal

-- the lanes are the numbers, each compared with the top or the greatest number of the width

pub returns-in-1 : goal.returns-in-1
returns-in-1 c =
    let bytes = c.args.bytes.now in
    let small : (k : ℕ) → get_or bytes k 0 < 256 = λ k. (c.type_inv.bytes k).fits in
    let lanes = c.sixty_four_at.ensures in
    let place : c.args.width * c.args.i ≡ 1 * c.args.i = ap (λ w. w * c.args.i) c.in-1.is in
    rw c.in-1.is (block_holds w8 1 64 bytes c.args.i (c.args.width * c.args.i) c.args.top c.min.result c.sixty_four_at.result small place (omega (arith, c.requires.inside)) (omega arith) (omega (arith, c.min.ensures)) lanes.long lanes.lanes)

pub returns-in-2 : goal.returns-in-2
returns-in-2 c =
    let bytes = c.args.bytes.now in
    let small : (k : ℕ) → get_or bytes k 0 < 256 = λ k. (c.type_inv.bytes k).fits in
    let lanes = c.thirty_two_at.ensures in
    let place : c.args.width * c.args.i ≡ 2 * c.args.i = ap (λ w. w * c.args.i) c.in-2.is in
    rw c.in-2.is (block_holds w16 2 32 bytes c.args.i (c.args.width * c.args.i) c.args.top c.min-in-2.result c.thirty_two_at.result small place (omega (arith, c.requires.inside)) (omega arith) (omega (arith, c.min-in-2.ensures)) lanes.long lanes.lanes)

pub returns-in-4 : goal.returns-in-4
returns-in-4 c =
    let bytes = c.args.bytes.now in
    let small : (k : ℕ) → get_or bytes k 0 < 256 = λ k. (c.type_inv.bytes k).fits in
    let lanes = c.sixteen_at.ensures in
    let place : c.args.width * c.args.i ≡ 4 * c.args.i = ap (λ w. w * c.args.i) c.in-4.is in
    rw c.in-4.is (block_holds w32 4 16 bytes c.args.i (c.args.width * c.args.i) c.args.top c.min-in-4.result c.sixteen_at.result small place (omega (arith, c.requires.inside)) (omega arith) (omega (arith, c.min-in-4.ensures)) lanes.long lanes.lanes)

pub returns-in_default : goal.returns-in_default
returns-in_default c =
    let bytes = c.args.bytes.now in
    let small : (k : ℕ) → get_or bytes k 0 < 256 = λ k. (c.type_inv.bytes k).fits in
    let eight : c.args.width ≡ 8 = omega arith in
    let lanes = c.eight_at.ensures in
    let place : c.args.width * c.args.i ≡ 8 * c.args.i = ap (λ w. w * c.args.i) eight in
    rw eight (block_holds w64 8 8 bytes c.args.i (c.args.width * c.args.i) c.args.top c.args.top c.eight_at.result small place (omega (arith, c.requires.inside)) (omega arith) (omega (arith, c.ranges.top.fits)) lanes.long lanes.lanes)
