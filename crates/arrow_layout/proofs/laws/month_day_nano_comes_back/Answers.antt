use Rattle.arrow_layout.proofs.ReadBack.{in_4, in_8, month_day_nano_again}
use Rattle.arrow_layout.proofs.laws.month_day_nano_comes_back.Goals as goal

pub returns : goal.returns
returns c = record { same = month_day_nano_again c.args.months c.args.days c.args.nanoseconds (in_4 _ c.ranges.months) (in_4 _ c.ranges.days) (in_8 _ c.ranges.nanoseconds) }
