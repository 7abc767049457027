use Rattle.std.proofs.Common.{◌≡◌, rules, Some, string_bytes, sym, ap, subst, ◌∙◌}
use Rattle.std.specs.Str.{is_utf8}
use Rattle.std.proofs.lemmas.Str.{is_utf8-from_IsUtf8}
use Rattle.arrow_types.specs.DataType.{TypeId, timestamp}
use Rattle.arrow_types.specs.View.{type_view}
use Rattle.arrow_types.specs.declared.field.DataType.{the_lemmas}
use Rattle.arrow_meta_writer.specs.Writable.{HasTextZone}
use Rattle.arrow_meta_writer.proofs.types.zone_of.Goals as goal

pub returns-in-Timestamp-default-Some-clause-typed : goal.returns-in-Timestamp-default-Some-clause-typed
returns-in-Timestamp-default-Some-clause-typed c =
    let tag : TypeId = (type_view c.args.data_type.now).tag in
    let it = c.in-Timestamp-default-Some in
    let is : tag ≡ timestamp it.field-0 (Some (string_bytes it.zone)) = search (rules, the_lemmas) in
    let text = ap (λ s. is_utf8 s) (sym c.as_str.ensures.value) ∙ is_utf8-from_IsUtf8 _ c.as_str.utf8 in
    subst HasTextZone (sym is) text
