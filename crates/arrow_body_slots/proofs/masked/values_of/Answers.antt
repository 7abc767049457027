use Rattle.std.proofs.Common.{subst}
use Rattle.std.proofs.lemmas.Option.{IfSome_then}
use Rattle.arrow_data.specs.View.{AreBuffersOf}
use Rattle.arrow_body_slots.proofs.Numbering.{numbers_found}
use Rattle.arrow_body_slots.proofs.masked.values_of.Goals as goal

-- numbers
pub returns-in-Numbers : goal.returns-in-Numbers
returns-in-Numbers c =
    let of = c.in-Numbers.of in
    let held = subst (AreBuffersOf c.args.array.now) c.in-Numbers.is c.buffers.ensures in
    IfSome_then c.of_width.result c.of_width.ensures
    (λ found same. numbers_found c.args.array.now of.width c.args.width of.signed of.validity.now of.values.now found.now same held.1.whole held.2 held.3)

-- indices
pub returns-in-Indices : goal.returns-in-Indices
returns-in-Indices c =
    let of = c.in-Indices.of in
    let held = subst (AreBuffersOf c.args.array.now) c.in-Indices.is c.buffers.ensures in
    IfSome_then c.of_width-in-Indices.result c.of_width-in-Indices.ensures
    (λ found same. numbers_found c.args.array.now of.width c.args.width of.signed of.validity.now of.values.now found.now same held.0.whole held.1 held.5)
