use Rattle.std.proofs.Common.{refl}
use Rattle.arrow_types.specs.View.{fields_view}
use Rattle.arrow_meta_reader.specs.Means.{batch_view}
use Rattle.arrow_body_reader.specs.Sound.{columns_of}
use Rattle.arrow_stream_reader.proofs.Holdings.{are_long, explains_of, not_long, sound_holds, sound_of}
use Rattle.arrowflow_calls.proofs.Blaming.{not_true, refuses}
use Rattle.arrowflow_calls.proofs.culprit.BatchBody.fault.Goals as goal

pub returns-then-not-check_row_count : goal.returns-then-not-check_row_count
returns-then-not-check_row_count c =
    let fields = fields_view c.args.fields.now in
    let batch = batch_view c.args.self.now.record_batch.now in
    let long = are_long fields batch c.deref.result.now c.row_count.result c.deref.ensures.value c.row_count.ensures in
    (λ e. absurd (cc), not_long (λ l. not_true c.check_row_count.result c.if-not-check_row_count.true (c.check_row_count.ensures.1 (long.1 l))))

pub returns-in-Ok : goal.returns-in-Ok
returns-in-Ok c =
    let fields = fields_view c.args.fields.now in
    let batch = batch_view c.args.self.now.record_batch.now in
    let body = c.args.self.now.bytes.now in
    let ds = c.args.self.now.dictionaries.now in
    let long = are_long fields batch c.deref.result.now c.row_count.result c.deref.ensures.value c.row_count.ensures in
    let sound = sound_of body body ds fields c.deref-2.result.now batch.nodes c.deref-3.result.now batch.buffers refl c.deref-2.ensures.value c.deref-3.ensures.value c.in-Ok.ensures in
    (columns_of body ds fields batch.nodes batch.buffers, sound_holds (columns_of body ds fields batch.nodes batch.buffers) (long.0 (c.check_row_count.ensures.0 c.if-not-check_row_count.false)) sound refl)

pub returns-in-Err : goal.returns-in-Err
returns-in-Err c =
    let fields = fields_view c.args.fields.now in
    let batch = batch_view c.args.self.now.record_batch.now in
    let body = c.args.self.now.bytes.now in
    let ds = c.args.self.now.dictionaries.now in
    let fault = c.in-Err.fault in
    let stated = c.in-Err.ensures in
    let long = are_long fields batch c.deref.result.now c.row_count.result c.deref.ensures.value c.row_count.ensures in
    let explained = explains_of fault body body ds fields batch c.deref-2.result.now c.deref-3.result.now refl c.deref-2.ensures.value c.deref-3.ensures.value stated.1 in
    (stated.0, refuses body ds fields batch fault (long.0 (c.check_row_count.ensures.0 c.if-not-check_row_count.false)) stated.0 explained)
