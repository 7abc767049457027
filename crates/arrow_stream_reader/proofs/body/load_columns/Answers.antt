use Rattle.std.proofs.Common.{◌∙◌}
use Rattle.arrow_types.specs.View.{fields_view}
use Rattle.arrow_meta_reader.specs.Means.{batch_view}
use Rattle.arrow_stream_reader.proofs.Holdings.{are_long, fault_holds, not_long, rows_long, sound_holds}
use Rattle.arrow_stream_reader.proofs.body.load_columns.Goals as goal
use Rattle.arrow_stream_reader.proofs.body.load_columns.Goals.{in_default-via-in-Ok+else-have_rows, in_default-via-in-Err+else-check_row_count}

pub returns-in-Ok : goal.returns-in-Ok
returns-in-Ok c =
    let record_batch = batch_view c.args.record_batch.now in
    let fields = fields_view c.args.schema.now.fields.now in
    let rows = rows_long c.args.body.now c.args.schema.now.dictionaries.now fields record_batch c.deref.result.now c.row_count-rows.result c.row_count-rows.ensures.count (c.deref.ensures.value ∙ c.in-Ok.ensures.1) in
    record { held = sound_holds c.in-Ok.columns.items (rows.0 (c.have_rows.ensures.0 c.if-have_rows.true)) c.in-Ok.ensures.0 c.in-Ok.ensures.1 }

pub returns-in-Err : goal.returns-in-Err
returns-in-Err c =
    let record_batch = batch_view c.args.record_batch.now in
    let fields = fields_view c.args.schema.now.fields.now in
    let long = (are_long fields record_batch c.as_slice-nodes.result.now c.row_count-rows.result c.as_slice-nodes.ensures.value c.row_count-rows.ensures.count).0 (c.check_row_count.ensures.0 c.if-check_row_count.true) in
    let held = fault_holds c.args.body.now c.args.schema.now.dictionaries.now fields record_batch c.in-Err.fault long c.in-Err.ensures in
    rw c.into.ensures (record { held = held })

pub returns-in_default : goal.returns-in_default
returns-in_default c =
    let record_batch = batch_view c.args.record_batch.now in
    let fields = fields_view c.args.schema.now.fields.now in
    record {
      held = elim c.in_default.branch [
        | in_default-via-in-Ok+else-have_rows w ↦
            let said = rw w.if-have_rows.false at w.have_rows.ensures in
            let rows = rows_long c.args.body.now c.args.schema.now.dictionaries.now fields record_batch w.deref.result.now c.row_count-rows.result c.row_count-rows.ensures.count (w.deref.ensures.value ∙ w.in-Ok.ensures.1) in
            not_long (λ long. cc (said.1 (rows.1 long)))
        | in_default-via-in-Err+else-check_row_count w ↦
            let said = rw w.if-check_row_count.false at w.check_row_count.ensures in
            not_long (λ long. cc (said.1 ((are_long fields record_batch c.as_slice-nodes.result.now c.row_count-rows.result c.as_slice-nodes.ensures.value c.row_count-rows.ensures.count).1 long)))
      ];
    }
