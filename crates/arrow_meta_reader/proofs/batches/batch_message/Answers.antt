use Rattle.std.proofs.Common.{◌≡◌, ◌≤◌, ℕ, Some, sym, rules, arith}
use Rattle.arrow_flatbuf.specs.Place.{past}
use Rattle.arrow_flatbuf.specs.Table.{field_place, table_at}
use Rattle.arrow_meta_reader.specs.Means.{header_view}
use Rattle.arrow_meta_reader.specs.Versions.{metadata_version}
use Rattle.arrow_meta_reader.proofs.Straight.{message_there}
use Rattle.arrow_meta_reader.proofs.batches.batch_message.Goals as goal

pub returns : goal.returns
returns c =
    let bytes = c.args.bytes.now in
    let t = c.in_ok-table.table in
    let inner = c.in-Ok-Some.inner in
    let n = c.in_ok-body_len.body_len in
    let there : (p : ℕ) × (field_place t 2 ≡ Some p) × (past table_at t.bytes p ≡ Some inner) = rw c.in-Ok-Some.field-0-is at c.in-Ok-Some.ensures.answer in
    let same : inner.bytes ≡ t.bytes = rw c.in-Ok-Some.field-0-is at c.in-Ok-Some.ensures.bytes in
    let root : past table_at bytes 0 ≡ Some t = sym c.in_ok-table.ensures.value in
    let read : metadata_version c.in_ok-number.number ≡ Some c.in_ok-version.version = search rules in
    let high : n ≤ c.args.limits.now.max_body = search rules in
    let low : n ≤ 9223372036854775807 = omega (arith, high, c.max_body.ensures.value, c.max_body.ensures.ceiling) in
    let of = c.in_ok-batch_header.ensures in
    record {
      means = message_there c.args.limits.now bytes t inner there.0 c.in_ok-number.number c.in_ok-code.code n c.in_ok-version.version of.0 (header_view c.in_ok-batch_header.field-0) root c.in_ok-table.ensures.bytes c.in_ok-number.ensures read c.in_ok-code.ensures c.in_ok-body_len.ensures there.1 there.2 same of.1 of.2 low high;
      length = high;
    }
