use Rattle.std.proofs.Common.{refl, sym}
use Rattle.arrow_dict.proofs.Places.{at_passed, found_at, gap_passed, listed_gap}
use Rattle.arrow_dict.proofs.entries.find.Goals as goal

-- the entry at the index of the id is listed for it
pub returns-in-Ok : goal.returns-in-Ok
returns-in-Ok c =
    let ds = c.args.entries.now in
    let at = at_passed ds ds c.args.id c.in-Ok.at refl c.ranges.id c.in-Ok.ensures in
    sym (found_at ds c.args.id c.in-Ok.at _ c.requires at)

-- in a gap there is none
pub returns-in-Err : goal.returns-in-Err
returns-in-Err c =
    let ds = c.args.entries.now in
    sym (listed_gap ds c.args.id c.in-Err.field-0 (gap_passed ds ds c.args.id c.in-Err.field-0 refl c.ranges.id c.in-Err.ensures))
