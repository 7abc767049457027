use Rattle.std.proofs.Common.{◌≡◌, ◌+◌, suc, None, map, take, sym, ap, ◌∙◌, subst, refl, arith}
use Rattle.arrow_types.specs.View.{fields_view}
use Rattle.arrow_csv.specs.Named.{lacking}
use Rattle.arrow_csv.proofs.Naming.{lacks_here, lacks_none, none_by_test, none_or_some}
use Rattle.arrow_csv.proofs.named.lacking.Goals as goal

-- no field has the name there, and each has one before
pub returns-then-is_none : goal.returns-then-is_none
returns-then-is_none c =
    let ns = c.args.names.now in
    let none = sym c.place_of.ensures.place ∙ none_by_test c.place_of.result c.if-is_none.ensures in
    sym (ap (λ fs. lacking (map (λ name. name.now) ns) fs) (sym c.fields-fields.ensures.same) ∙ lacks_here ns (fields_view c.fields-fields.result.now) c.loop-k.k _ c.loop-k-test.true c.loop-k.invariant none)

-- a field has it
pub loop-k-preserved : goal.loop-k-preserved
loop-k-preserved c =
    let ns = c.args.names.now in
    let k = c.loop-k.k in
    let fields = fields_view c.fields-fields.result.now in
    let some = none_or_some c.place_of.result _ c.if-is_none.ensures refl in
    let next : suc k ≡ k + 1 = omega arith in
    subst (λ m. lacking (map (λ name. name.now) (take m ns)) fields ≡ None) next (lacks_none ns fields k _ some.0 c.loop-k-test.true c.loop-k.invariant (sym c.place_of.ensures.place ∙ some.1))
