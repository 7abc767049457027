use Rattle.std.proofs.Common.{Ok, sym, subst, arith, refl}
use Rattle.std.proofs.lemmas.Result.{err_from_is_err_and}
use Rattle.arrow_body_writer.specs.Align.{alignment_of}
use Rattle.arrow_body_writer.specs.Storing.{body_view}
use Rattle.arrow_stream_writer.specs.Framing.{Puts, part_bytes, record_load}
use Rattle.arrow_stream_writer.specs.Terms.{terms_of}
use Rattle.arrow_stream_writer.proofs.Framed.{refuses_record, stored_of}
use Rattle.arrow_stream_writer.proofs.settings.Settings.put_record.Goals as goal

-- the columns were not stored
pub returns-in-Err : goal.returns-in-Err
returns-in-Err c =
    let terms = terms_of c.args.self.now in
    let limit = c.max_rows.ensures.value in
    let ceiling = c.max_rows.ensures.ceiling in
    rw c.not_stored.ensures (refuses_record terms c.args.batch.now c.columns.result.now c.schema.ensures.known c.columns.ensures.same (omega arith) c.in-Err.fault c.in-Err.ensures.large c.args.part.now.bytes.items (part_bytes (record c.args.part.now { body = c.store_in.new.body })))

-- no head was built for what was stored
pub returns-in_err-put_stored : goal.returns-in_err-put_stored
returns-in_err-put_stored c =
    let known = c.in_default.ensures in
    let stored = stored_of (alignment_of c.args.self.now.align) c.args.batch.now c.columns.result.now (body_view c.store_in.new.body) c.schema.ensures.known c.columns.ensures.same known.raws known.represented.small known.same in
    let failed = err_from_is_err_and c.from_residual.result c.from_residual.ensures.1 in
    rw (failed.1, failed.2) (c.in_err-put_stored.ensures (record_load c.args.batch.now) refl (sym c.rows.ensures) stored)

-- the columns were stored
pub returns : goal.returns
returns c =
    let known = c.in_default.ensures in
    let stored = stored_of (alignment_of c.args.self.now.align) c.args.batch.now c.columns.result.now (body_view c.store_in.new.body) c.schema.ensures.known c.columns.ensures.same known.raws known.represented.small known.same in
    subst (Puts (terms_of c.args.self.now) (record_load c.args.batch.now) c.args.part.now.bytes.items (Ok tt)) (sym c.in_ok-append_short_body.ensures)
    (c.in_ok-put_stored.ensures (record_load c.args.batch.now) refl (sym c.rows.ensures) stored)
