use Rattle.std.proofs.Common.{◌≡◌, ◌≤◌, ◌<◌, ◌+◌, ◌^◌, length, sym, ◌∙◌, arith}
use Rattle.std.proofs.lemmas.Result.{err_from_is_err_and}
use Rattle.arrow_types.specs.Equality.{is_equal_decides}
use Rattle.arrow_types.specs.Stored.{schema_code}
use Rattle.arrow_stream_writer.specs.Framing.{part_bytes}
use Rattle.arrow_stream_writer.specs.Terms.{terms_of}
use Rattle.arrow_stream_writer.specs.Updating.{work_of}
use Rattle.arrow_stream_writer.proofs.Closing.{part_of, place_refused, record_refused}
use Rattle.arrow_stream_writer.proofs.parts.PartBuilder.put_frames.Goals as goal

-- the schemas are equal
pub put_updates-requires-clause-schema : goal.put_updates-requires-clause-schema
put_updates-requires-clause-schema c =
    sym c.schema.ensures.same ∙ (is_equal_decides schema_code c.schema.result.now c.deref.result.now).0 (sym c.if-not-same.ensures.gives) ∙ c.deref.ensures

-- the record batch was rejected
pub returns-in_err-put_record-clause-built : goal.returns-in_err-put_record-clause-built
returns-in_err-put_record-clause-built c =
    let terms = terms_of c.args.self.now.settings in
    let t = c.args.batch.now in
    let sent = c.args.self.now.tracker.sent in
    let same : t.schema ≡ terms.shape =
    sym c.schema.ensures.same ∙ (is_equal_decides schema_code c.schema.result.now c.deref.result.now).0 (sym c.if-not-same.ensures.gives) ∙ c.deref.ensures in
    let equal = (is_equal_decides schema_code t.schema terms.shape).1 same in
    let x = c.in_ok-put_updates.ensures in
    let failed = err_from_is_err_and c.from_residual-in_err-put_record.result c.from_residual-in_err-put_record.ensures.1 in
    rw (failed.1, failed.2) (
      record_refused terms c.args.place t sent c.in_err-put_record.field-0.0 c.put_updates.new.part.bytes.items (part_bytes c.put_record.new.part) same equal x.one c.in_err-put_record.ensures,
      x.is_work.sent,
    )

-- the batch messages would end past the last offset
pub returns-then-len-place-clause-built : goal.returns-then-len-place-clause-built
returns-then-len-place-clause-built c =
    let terms = terms_of c.args.self.now.settings in
    let t = c.args.batch.now in
    let sent = c.args.self.now.tracker.sent in
    let same : t.schema ≡ terms.shape =
    sym c.schema.ensures.same ∙ (is_equal_decides schema_code c.schema.result.now c.deref.result.now).0 (sym c.if-not-same.ensures.gives) ∙ c.deref.ensures in
    let equal = (is_equal_decides schema_code t.schema terms.shape).1 same in
    let x = c.in_ok-put_updates.ensures in
    let bytes = part_bytes c.put_record.new.part in
    let long = c.len.ensures in
    let past = c.if-len-place.true in
    let over : 2 ^ 62 < c.args.place + length bytes = omega arith in (
      place_refused terms c.args.place t sent same (work_of c.put_updates.new.part.bytes.items c.put_updates.new.tracker) bytes x.is_work c.in_ok-put_record.ensures equal x.one over,
      x.is_work.sent,
    )

-- the batch messages were built
pub returns-clause-built : goal.returns-clause-built
returns-clause-built c =
    let terms = terms_of c.args.self.now.settings in
    let t = c.args.batch.now in
    let sent = c.args.self.now.tracker.sent in
    let same : t.schema ≡ terms.shape =
    sym c.schema.ensures.same ∙ (is_equal_decides schema_code c.schema.result.now c.deref.result.now).0 (sym c.if-not-same.ensures.gives) ∙ c.deref.ensures in
    let equal = (is_equal_decides schema_code t.schema terms.shape).1 same in
    let x = c.in_ok-put_updates.ensures in
    let bytes = part_bytes c.put_record.new.part in
    let long = c.len.ensures in
    let inside = c.if-len-place.false in
    let place_near = c.requires.near in
    let near : c.args.place + length bytes ≤ 2 ^ 62 = omega arith in
    part_of terms c.args.place t sent same (work_of c.put_updates.new.part.bytes.items c.put_updates.new.tracker) bytes x.is_work c.in_ok-put_record.ensures equal x.one x.known near
