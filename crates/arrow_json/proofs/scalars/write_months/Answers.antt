use Rattle.std.proofs.Common.{to_z, of_z}
use Rattle.std.specs.Int.{w128}
use Rattle.std.specs.Str.{IsUtf8}
use Rattle.arrow_csv.specs.Intervals.{months_text}
use Rattle.arrow_json.proofs.Asciis.{in_room, months_utf8}
use Rattle.arrow_json.proofs.scalars.write_months.Goals as goal

-- the text in the scratch buffer is that of the months
pub string-requires : goal.string-requires
string-requires c =
    let months = to_z w128 (of_z w128 c.args.months) in
    in_room IsUtf8 _ _ (months_text months) c.clear.ensures.items c.in_ok-push_months.ensures (months_utf8 months)
