use Rattle.std.proofs.Common.{rules, ◌≡◌, ◌∙◌, ap, sym, subst, nat_abs, to_z, of_z}
use Rattle.std.specs.Int.{w128}
use Rattle.arrow_data.specs.Column.{HasValue}
use Rattle.arrow_data.specs.Node.{int_at}
use Rattle.arrow_data.proofs.Viewing.{entry_shown}
use Rattle.arrow_data.proofs.array.Array.resolved.Goals as goal

-- the index leads to its value
pub returns-in_ok-index-in-Indices : goal.returns-in_ok-index-in-Indices
returns-in_ok-index-in-Indices c =
    let i = c.in-Indices in
    let z = c.in_ok-index-in-Indices in
    let d = c.deref.result.now in
    let r = c.value.result in
    let number = ap (λ body. int_at body i.ints c.args.i) (sym c.as_slice.ensures) ∙ z.ensures in
    let same : to_z w128 (of_z w128 z.index) ≡ z.index = search rules in
    let value : HasValue d (nat_abs z.index) r.0.now r.1 = subst (λ n. HasValue d (nat_abs n) r.0.now r.1) same c.value.ensures in
    entry_shown c.self.inside c.args.self.now i.ints i.dictionary c.args.i z.index r.0.now r.1 c.self.view_is c.self.invariant i.is c.requires number (subst (λ x. HasValue x (nat_abs z.index) r.0.now r.1) c.deref.ensures value)
