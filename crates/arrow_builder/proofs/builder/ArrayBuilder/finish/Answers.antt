use Rattle.std.proofs.Common.{◌≡◌, ap, sym, ◌∙◌, subst, arith}
use Rattle.std.proofs.lemmas.List.{take_all}
use Rattle.arrow_types.specs.Schema.{field_dictionaries}
use Rattle.arrow_data.specs.Column.{Agree}
use Rattle.arrow_data.specs.Listed.{values_by}
use Rattle.arrow_builder.specs.Built.{Built, cut_to}
use Rattle.arrow_builder.specs.Finished.{AreIndexed, AreTyped, IsArrayOf}
use Rattle.arrow_builder.specs.declared.builder.ArrayBuilder.TheInside.{Inside}
use Rattle.arrow_builder.proofs.Arrays.{agrees}
use Rattle.arrow_builder.proofs.builder.ArrayBuilder.finish.Goals as goal

pub returns : goal.returns
returns c =
    let node = c.self.inside.node in
    let ds = c.args.dictionaries.now in
    let reported = c.new-listed.result.entries.now in
    let are : reported ≡ ds = c.new-listed.ensures in
    let all : cut_to c.len-len.result node ≡ node = ap (λ raw. record { field = node.field; raw = raw }) (take_all c.len-len.result node.raw (omega (arith, c.len-len.ensures))) in
    let same : node ≡ c.args.self.now = c.self.view_is in
    let whole = all ∙ same in
    let typed = subst (λ (b : Built). AreTyped reported b.field) same (subst (λ (s : Inside). AreTyped reported s.node.field) c.self-inside.view_is (c.are_typed.ensures.0 c.if-not-are_typed.false)) in
    let indexed = subst (AreIndexed reported) whole (c.are_indexed.ensures.0 c.if-not-are_indexed.false) in
    let array = subst (λ d. IsArrayOf d c.args.self.now c.in-Ok.array) are (subst (λ b. IsArrayOf reported b c.in-Ok.array) whole c.in-Ok.ensures) in
    let agree = subst (λ listed. Agree listed (values_by ds)) (sym array.listed) (agrees ds (field_dictionaries c.args.self.now.field)) in
    (subst (λ d. AreTyped d c.args.self.now.field) are typed, subst (λ d. AreIndexed d c.args.self.now) are indexed, array, c.len.ensures.known.resolves (values_by ds) agree)
