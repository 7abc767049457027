use Rattle.arrow_layout.proofs.ReadBack.{day_time_again, in_4}
use Rattle.arrow_layout.proofs.laws.day_time_comes_back.Goals as goal

pub returns : goal.returns
returns c = record { same = day_time_again c.args.days c.args.milliseconds (in_4 _ c.ranges.days) (in_4 _ c.ranges.milliseconds) }
