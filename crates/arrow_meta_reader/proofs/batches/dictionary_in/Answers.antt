use Rattle.std.proofs.Common.{◌≡◌, ℕ, Some, rules}
use Rattle.arrow_flatbuf.specs.Place.{past}
use Rattle.arrow_flatbuf.specs.Table.{field_place, table_at}
use Rattle.arrow_meta_reader.specs.Means.{batch_view}
use Rattle.arrow_meta_reader.proofs.Straight.{dictionary_there}
use Rattle.arrow_meta_reader.proofs.batches.dictionary_in.Goals as goal

pub returns : goal.returns
returns c =
    let t = c.args.table.now in
    let rows = c.in-Ok-Some.data in
    let there : (p : ℕ) × (field_place t 1 ≡ Some p) × (past table_at t.bytes p ≡ Some rows) = rw c.in-Ok-Some.field-0-is at c.in-Ok-Some.ensures.answer in
    let same : rows.bytes ≡ t.bytes = rw c.in-Ok-Some.field-0-is at c.in-Ok-Some.ensures.bytes in
    dictionary_there t rows (batch_view c.in_ok-batch_in.field-0) there.0 c.in_ok-number_in.field-0 c.in_ok-is_delta.field-0 _ _ c.in_ok-number_in.ensures c.in_ok-is_delta.ensures there.1 there.2 same c.in_ok-batch_in.ensures (search rules) (search rules)
