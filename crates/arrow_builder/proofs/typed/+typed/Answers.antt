use Rattle.std.proofs.Common.{◌<◌, length, ap, sym, ◌∙◌, arith}
use Rattle.std.proofs.lemmas.Grind.{common_steps}
use Rattle.std.proofs.lemmas.Bool.{false≢true}
use Rattle.arrow_types.specs.Field.{levels}
use Rattle.arrow_types.specs.View.{field_view}
use Rattle.arrow_builder.proofs.Beginning.{field_less_deep}
use Rattle.arrow_builder.proofs.Typing.{typed_from}
use Rattle.arrow_builder.proofs.typed.+typed.Goals as goal

pub all_typed-are_typed-requires : goal.all_typed-are_typed-requires
all_typed-are_typed-requires t c =
    let d = c.field-item.result in
    let inside : c.loop-field.field-index < length c.args.fields.now = grind (arith, common_steps) in
    (omega (arith, c.decreases, field_less_deep c.args.fields.now c.loop-field.field-index d inside, ap (λ f. levels (field_view f).children) c.field-item.is), tt)

pub all_typed-returns-then-not-are_typed : goal.all_typed-returns-then-not-are_typed
all_typed-returns-then-not-are_typed t c =
    let inside : c.loop-field.field-index < length c.args.fields.now = grind (arith, common_steps) in
    let step = typed_from c.args.dictionaries.entries.now c.args.fields.now c.loop-field.field-index c.field-item.result inside c.field-item.is in
    let typed = c.are_typed.ensures in
    (λ no. absurd (false≢true no), λ all. sym c.if-not-are_typed.true ∙ typed.1 (step.0 (c.loop-field.invariant.1 all)).0)

pub all_typed-loop-field-preserved : goal.all_typed-loop-field-preserved
all_typed-loop-field-preserved t c =
    let inside : c.loop-field.field-index < length c.args.fields.now = grind (arith, common_steps) in
    let step = typed_from c.args.dictionaries.entries.now c.args.fields.now c.loop-field.field-index c.field-item.result inside c.field-item.is in
    let typed = c.are_typed.ensures in
    (λ rest. c.loop-field.invariant.0 (step.1 (typed.0 c.if-not-are_typed.false, rest)), λ all. (step.0 (c.loop-field.invariant.1 all)).1)
