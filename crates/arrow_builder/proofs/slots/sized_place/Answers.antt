use Rattle.std.proofs.Common.{◌≤◌, arith}
use Rattle.std.proofs.lemmas.Nat.{mul-le}
use Rattle.arrow_builder.proofs.slots.sized_place.Goals as goal

pub overflow_mul-result : goal.overflow_mul-result
overflow_mul-result c =
    let small : c.args.size ≤ 4294967295 = omega (arith, c.ranges.size.fits) in
    omega (arith, mul-le c.args.size c.args.at 4294967295 2147483647 small c.requires)
