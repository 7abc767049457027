use Rattle.std.proofs.Common.{◌+◌, drop, sym, ap, subst, arith}
use Rattle.arrow_body_reader.specs.Taken.{taken_nodes}
use Rattle.arrow_body_laws.specs.Laws.{raws_of}
use Rattle.arrow_body_laws.specs.Raws.{AreRaws}
use Rattle.arrow_body_laws.specs.Stored.{fields_of_columns}
use Rattle.arrow_body_writer.proofs.Measures.{columns_from, none_left, raws_both}
use Rattle.arrow_body_writer.proofs.forms.nodes_in_all.Goals as goal

-- one more column
pub loop-array-preserved : goal.loop-array-preserved
loop-array-preserved c =
    let i = c.loop-array.array-index in
    let a = c.array-item.result in
    let rest = drop (i + 1) c.args.arrays.now in
    let columns = columns_from c.args.arrays.now i a c.loop-array-test.true c.array-item.is in
    let from = ap (λ cs. taken_nodes (fields_of_columns cs)) columns in (
      omega (arith, c.loop-array.invariant.0, from, c.nodes_in.ensures.count, c.saturating_add-count.ensures),
      omega (arith, c.saturating_add-count.ensures),
      λ are. c.loop-array.invariant.2 (subst (λ cs. AreRaws (fields_of_columns cs) (raws_of cs)) (sym columns) (raws_both a rest c.nodes_in.ensures.raws are)),
    )

-- all columns
pub returns-clause-count : goal.returns-clause-count
returns-clause-count c =
    let none = ap (λ cs. taken_nodes (fields_of_columns cs)) (none_left c.args.arrays.now c.loop-array.array-index c.loop-array-test.false) in
    omega (arith, c.loop-array.invariant.0, c.loop-array.invariant.1, none)

-- all raw values can be stored
pub returns-clause-raws : goal.returns-clause-raws
returns-clause-raws c =
    let none = none_left c.args.arrays.now c.loop-array.array-index c.loop-array-test.false in
    c.loop-array.invariant.2 (subst (λ cs. AreRaws (fields_of_columns cs) (raws_of cs)) (sym none) tt)
