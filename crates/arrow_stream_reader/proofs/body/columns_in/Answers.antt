use Rattle.std.proofs.Common.{Vec}
use Rattle.std.specs.Global.{Global}
use Rattle.arrow_types.specs.View.{fields_view}
use Rattle.arrow_data.specs.Column.{Column}
use Rattle.arrow_meta_reader.specs.Means.{batch_view}
use Rattle.arrow_stream_reader.proofs.Holdings.{reported_of}
use Rattle.arrow_stream_reader.proofs.body.columns_in.Goals as goal

pub returns-in-Ok : goal.returns-in-Ok
returns-in-Ok c =
    let record_batch = batch_view c.args.record_batch.now in
    reported_of (λ (v : Vec Column Global). v.items) c.load_typed.result c.in-Ok.owned c.args.body.now c.args.schema.now.dictionaries.now (fields_view c.args.schema.now.fields.now) c.deref.result.now record_batch.nodes c.deref-in-Ok.result.now record_batch.buffers
    c.in-Ok.ensures.same c.deref.ensures.value c.deref-in-Ok.ensures.value c.load_typed.ensures
