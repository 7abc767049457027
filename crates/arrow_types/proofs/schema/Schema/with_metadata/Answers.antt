use Rattle.std.proofs.Common.{◌≡◌, ◌≤◌, false, rules}
use Rattle.arrow_types.proofs.Schemas.{flawless, schema_kept}
use Rattle.arrow_types.specs.Notes.{pair_count, pairs_view}
use Rattle.arrow_types.specs.Schema.{IsBounded, some_flawed}
use Rattle.arrow_types.specs.declared.fault.SchemaFault.TheVariants.{ByteWidth, MapEntries, DecimalRange}
use Rattle.arrow_types.specs.View.{fields_view, schema_view}
use Rattle.arrow_types.proofs.schema.Schema.with_metadata.Goals as goal

-- fields and pairs that pass all tests satisfy the invariant of a schema
pub invariant_of-result : goal.invariant_of-result
invariant_of-result c =
    let shape = schema_view c.args.fields.items (pairs_view c.args.metadata.items) in
    let fields = fields_view c.args.fields.items in
    let narrow : some_flawed ByteWidth fields ≡ false = search rules in
    let mapped : some_flawed MapEntries fields ≡ false = search rules in
    let decimal : some_flawed DecimalRange fields ≡ false = search rules in
    let kept = flawless fields narrow mapped decimal in
    let bounded : IsBounded fields = search rules in
    let few : pair_count shape ≤ 65536 = search rules in
    schema_kept shape c.in-Ok-Some.dictionary_ids.items bounded (rw (c.in-Ok-Some.field-0-is, c.deref-4.ensures.value) at c.in-Ok-Some.ensures.gives) few
