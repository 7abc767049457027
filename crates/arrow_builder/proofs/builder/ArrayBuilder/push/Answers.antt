use Rattle.std.proofs.Common.{◌∷◌, [], ◌++◌, true, false, sym, subst}
use Rattle.arrow_layout.specs.Value.{value_view}
use Rattle.arrow_builder.specs.Built.{Built}
use Rattle.arrow_builder.specs.Columns.{AllNodes}
use Rattle.arrow_builder.specs.Faults.{TakesValue}
use Rattle.arrow_builder.specs.Fields.{FitsField}
use Rattle.arrow_builder.specs.Tally.{IsCounted}
use Rattle.arrow_builder.specs.Within.{IsShortNode}
use Rattle.arrow_builder.specs.declared.builder.ArrayBuilder.TheInside.{Inside}
use Rattle.arrow_builder.proofs.Counting.{counted_within}
use Rattle.arrow_builder.proofs.builder.ArrayBuilder.push.Goals as goal
use Rattle.arrow_builder.proofs.builder.ArrayBuilder.push.Goals.{After-push_value}

-- a value that fits and was counted can be put
takes : (c : After-push_value) → TakesValue c.args.self.now (value_view c.args.value.now)
takes c =
    let v = value_view c.args.value.now in
    let node = c.self.inside.node in
    let fits = subst (λ (b : Built). FitsField b.field v) c.self.view_is (subst (λ (s : Inside). FitsField s.node.field v) c.self-inside.view_is (c.fits.ensures.0 c.if-not-fits.false)) in
    let held = subst (λ (s : Inside). IsCounted false node.field node.raw s.tally) (sym c.self-inside.view_is) c.self.invariant in
    let settled = c.settle.ensures node.field node.raw held in
    let counted = c.add.ensures.next c.if-not-add.false node.field node.raw settled.1 in
    let within = counted_within true node.field (node.raw ++ v ∷ []) c.add.new.tally counted in
    (fits, subst (λ (b : Built). AllNodes IsShortNode b.field (b.raw ++ v ∷ [])) c.self.view_is within)

pub returns-in_default-clause-why : goal.returns-in_default-clause-why
returns-in_default-clause-why c = takes (goal.at.returns-in_default-clause-why c).After-push_value

pub returns-clause-why : goal.returns-clause-why
returns-clause-why c = takes (goal.at.returns-clause-why c).After-push_value
