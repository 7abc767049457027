use Rattle.arrow_layout.proofs.ReadBack.{decimal_again, in_16}
use Rattle.arrow_layout.proofs.laws.decimal_comes_back.Goals as goal

pub returns : goal.returns
returns c = record { same = λ precision. decimal_again c.args.scale c.args.high c.args.low (in_16 _ c.ranges.high) c.ranges.low.fits }
