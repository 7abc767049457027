use Rattle.std.proofs.Common.{rules}
use Rattle.arrow_builder.proofs.Fitting.{items_long}
use Rattle.arrow_builder.proofs.fits.holds_list.Goals as goal

pub returns-in-Lists-Fixed : goal.returns-in-Lists-Fixed
returns-in-Lists-Fixed c = rw (items_long c.args.items.now) (search rules)
