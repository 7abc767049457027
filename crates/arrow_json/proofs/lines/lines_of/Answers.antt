use Rattle.std.proofs.Common.{arith}
use Rattle.arrow_json.proofs.Rows.{between_more}
use Rattle.arrow_json.proofs.lines.lines_of.Goals as goal

-- one more row is written
pub loop-i-preserved : goal.loop-i-preserved
loop-i-preserved c =
    let l = c.loop-i.invariant in (
      between_more c.args.batch.now c.args.rows.start c.loop-i.i c.loop-i.text.items c.in_ok-text.field-0-0.items l.1 l.0 c.in_ok-text.ensures,
      omega (arith, l.1),
      omega (arith, c.loop-i-test.true),
    )
