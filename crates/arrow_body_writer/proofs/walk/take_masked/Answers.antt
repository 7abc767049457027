use Rattle.std.proofs.Common.{map, sym, subst, arith}
use Rattle.std.proofs.lemmas.Result.{IfOk-weaker}
use Rattle.std.specs.Prelude.{IsTrue}
use Rattle.arrow_layout.specs.PlainValue.{field_value}
use Rattle.arrow_body_slots.proofs.Masking.{as_many_fields, bits_inside, field_range}
use Rattle.arrow_body_slots.specs.Slice.{values_in}
use Rattle.arrow_body_writer.specs.Sent.{sent_along}
use Rattle.arrow_body_writer.specs.declared.steps.ChildPath.{ChildPath}
use Rattle.arrow_body_writer.proofs.walk.take_masked.Goals as goal

-- the bitmap has a bit for each of the structs
pub take_masked-requires-clause-bits : goal.take_masked-requires-clause-bits
take_masked-requires-clause-bits g c = record {
  order = c.requires.order;
  inside = bits_inside c.in-Here-Some.child.now.raw c.args.structs.array.now.raw c.in-Some.bytes.now c.args.k c.args.structs.stop (c.in-Some.ensures c.args.k c.in-Here-Some.ensures) c.requires.inside;
}

-- and the child has as many slots
pub take_masked-requires-clause-slots : goal.take_masked-requires-clause-slots
take_masked-requires-clause-slots g c = omega (arith, c.requires.inside, c.in-Here-Some.ensures.longer)

-- the values of the field are taken
pub returns-clause-taken : goal.returns-clause-taken
returns-clause-taken g c =
    let structs = c.args.structs in
    let raw = structs.array.now.raw in
    let k = c.args.k in
    let masked = c.in-Some.ensures k c.in-Here-Some.ensures in
    let T : ChildPath → Type 0 = λ steps. g.V.SlotVisitor.takes c.args.visitor.now c.take_masked.new.self (sent_along steps (map (field_value k) (values_in structs))) in
    IfOk-weaker c.take_masked.result _ (λ done. IsTrue done → T c.args.steps.now)
    (λ _ added done. subst T (sym c.in-Here-Some.is-0)
    (subst (g.V.SlotVisitor.takes c.args.visitor.now c.take_masked.new.self) (sym (field_range k raw structs.start structs.stop))
    (added done (map (field_value k) raw) masked (as_many_fields k raw structs.stop c.requires.inside))))
    c.take_masked.ensures.taken
