use Rattle.std.proofs.Common.{arith}
use Rattle.arrow_csv.specs.Layouts.{null_by}
use Rattle.arrow_csv.proofs.Written.{rows_more}
use Rattle.arrow_csv.proofs.records.push_records.Goals as goal

-- one more row is written
pub loop-i-preserved : goal.loop-i-preserved
loop-i-preserved c =
    let start = c.args.rows.start in
    let i = c.loop-i.i in
    let held = c.loop-i.invariant in (
      rows_more c.args.number c.head_of-head.result (null_by c.args.columns.null) c.args.columns.texts.now start i c.args.out.now.items c.loop-i.out.items _ c.head_of-head.ensures held.1 held.0 c.in_ok-push_row.ensures,
      omega (arith, held.1),
      omega (arith, c.loop-i-test.true),
      held.3,
    )
