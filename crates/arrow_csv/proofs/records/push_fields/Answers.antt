use Rattle.arrow_csv.specs.Layouts.{null_by}
use Rattle.arrow_csv.proofs.Written.{fields_more, slot_next}
use Rattle.arrow_csv.proofs.records.push_fields.Goals as goal

-- one more field is written
pub loop-column-preserved : goal.loop-column-preserved
loop-column-preserved c =
    let columns = c.args.columns.texts.now in
    let k = c.loop-column.column-index in (
      fields_more (null_by c.args.columns.null) columns c.args.i k c.column-item.result _ c.loop-column.out.items c.push.new.self.items _ c.loop-column-test.true c.column-item.is c.loop-column.invariant.0 c.in_ok-push.ensures.items c.in_ok-push-2.ensures,
      slot_next c.args.i columns k c.loop-column.invariant.1,
    )
