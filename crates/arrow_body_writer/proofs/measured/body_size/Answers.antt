use Rattle.std.proofs.Common.{◌≡◌, ◌+◌, MatchOption, drop, sym, subst, arith}
use Rattle.arrow_body_laws.specs.Laws.{raws_of}
use Rattle.arrow_body_laws.specs.Raws.{AreRaws}
use Rattle.arrow_body_laws.specs.Stored.{fields_of_columns}
use Rattle.arrow_body_writer.proofs.Measures.{IsMeasured, allowed_size, columns_from, if_allowed, measured_all, measured_next, measured_none, none_left, raws_both, represented_one}
use Rattle.arrow_body_writer.specs.Align.{alignment_of}
use Rattle.arrow_body_writer.specs.Storable.{AreRepresentable, CanBeStored, columns_size}
use Rattle.arrow_body_writer.proofs.measured.body_size.Goals as goal

-- nothing is measured yet
pub loop-array-init : goal.loop-array-init
loop-array-init c = (measured_none (alignment_of c.args.align) c.args.arrays.now, λ are. are)

-- a column has too many nodes
pub returns-then-nodes_in-clause-size : goal.returns-then-nodes_in-clause-size
returns-then-nodes_in-clause-size c = λ stored.
    let i = c.loop-array.array-index in
    let a = c.array-item.result in
    let from = columns_from c.args.arrays.now i a c.loop-array-test.true c.array-item.is in
    let represented = represented_one a (drop (i + 1) c.args.arrays.now) (subst AreRepresentable from (c.loop-array.invariant.0.unrepresented stored.represented)) in
    omega (arith, represented.counted.0, c.nodes_in.ensures.count, c.if-nodes_in.true)

-- a column is not representable
pub returns-in_err-column-clause-size : goal.returns-in_err-column-clause-size
returns-in_err-column-clause-size c =
    let i = c.loop-array.array-index in
    let a = c.array-item.result in
    let all = c.args.arrays.now in
    let from = columns_from all i a c.loop-array-test.true c.array-item.is in
    subst (λ r. MatchOption r (CanBeStored (alignment_of c.args.align) all → ⊥) (λ size. CanBeStored (alignment_of c.args.align) all × (size ≡ columns_size (alignment_of c.args.align) all))) (sym c.from_residual.ensures)
    (λ stored. c.in_err-column.ensures (represented_one a (drop (i + 1) all) (subst AreRepresentable from (c.loop-array.invariant.0.unrepresented stored.represented))))

-- one more column
pub loop-array-preserved : goal.loop-array-preserved
loop-array-preserved c =
    let align = alignment_of c.args.align in
    let i = c.loop-array.array-index in
    let a = c.array-item.result in
    let all = c.args.arrays.now in
    let rest = drop (i + 1) all in
    let from = columns_from all i a c.loop-array-test.true c.array-item.is in
    let own = c.in_ok-column.ensures in (
      measured_next align all rest a c.loop-array.size c.in_ok-column.column c.saturating_add-size.result (subst (λ cs. IsMeasured align all cs c.loop-array.size) from c.loop-array.invariant.0) own.0 own.1 (omega (arith, c.saturating_add-size.ensures)),
      λ are. c.loop-array.invariant.1 (subst (λ cs. AreRaws (fields_of_columns cs) (raws_of cs)) (sym from) (raws_both a rest c.nodes_in.ensures.raws are)),
    )

-- all columns
pub returns-clause-size : goal.returns-clause-size
returns-clause-size c =
    let align = alignment_of c.args.align in
    let all = c.args.arrays.now in
    let measured = measured_all align all (drop c.loop-array.array-index all) c.loop-array.size c.loop-array.invariant.0 (none_left all c.loop-array.array-index c.loop-array-test.false) in
    allowed_size align all c.allowed.result c.loop-array.size measured.0 measured.1 c.allowed.ensures

-- all raw values can be stored
pub returns-clause-raws : goal.returns-clause-raws
returns-clause-raws c =
    let none = none_left c.args.arrays.now c.loop-array.array-index c.loop-array-test.false in
    if_allowed (AreRaws (fields_of_columns c.args.arrays.now) (raws_of c.args.arrays.now)) c.allowed.result
    (c.loop-array.invariant.1 (subst (λ cs. AreRaws (fields_of_columns cs) (raws_of cs)) (sym none) tt))
