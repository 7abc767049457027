use Rattle.std.specs.Str.{IsUtf8}
use Rattle.arrow_csv.specs.Intervals.{interval_text}
use Rattle.arrow_json.proofs.Asciis.{in_room, interval_utf8}
use Rattle.arrow_json.proofs.scalars.write_interval.Goals as goal

-- the text in the scratch buffer is that of the interval
pub string-requires : goal.string-requires
string-requires c =
    in_room IsUtf8 _ _ (interval_text c.args.interval) c.clear.ensures.items c.in_ok-push_interval.ensures (interval_utf8 c.args.interval)
