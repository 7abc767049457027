use Rattle.std.proofs.Common.{◌≡◌, ◌<◌, ◌+◌, [], ◌∷◌, drop, sym, ◌∙◌, subst, arith, MatchOption}
use Rattle.std.specs.List.{AllByRecursion}
use Rattle.arrow_data.specs.Column.{Column}
use Rattle.arrow_body_laws.specs.Laws.{raws_of}
use Rattle.arrow_body_laws.specs.Raws.{AreRaws}
use Rattle.arrow_body_laws.specs.Stored.{fields_of_columns}
use Rattle.arrow_body_writer.proofs.Measures.{IsMeasured, columns_from, measured_next, measured_none, raws_one, raws_others, represented_one}
use Rattle.arrow_body_writer.proofs.Children.{child_below, found_column}
use Rattle.arrow_body_writer.proofs.Sending.{sent_whole}
use Rattle.arrow_body_writer.proofs.Wholes.{sized_whole, whole_counted, whole_raws, whole_smaller, whole_represented}
use Rattle.arrow_body_writer.specs.Align.{alignment_of}
use Rattle.arrow_body_writer.specs.Sent.{nodes_of_column, visible_children}
use Rattle.arrow_body_writer.specs.Source.{column_in}
use Rattle.arrow_body_writer.specs.Storable.{AreRepresentable, columns_size}
use Rattle.arrow_body_slots.specs.Tally.{capped}
use Rattle.arrow_body_writer.proofs.measured.+size.Goals as goal
use Rattle.arrow_body_writer.proofs.measured.+size.Goals.{column_size-in-Some+in_ok-below-in-Some, column_size-in-None+in_ok-below-in-None}

-- children that are sent unsliced are smaller than the column
pub column_size-whole_size-requires : goal.column_size-whole_size-requires
column_size-whole_size-requires t c =
    let a = column_in c.args.source.now in
    let children = c.in-Some.children.now in
    let whole = c.in-Some.ensures in
    (omega (arith, c.decreases, whole_smaller a children whole), (whole_counted a children 18446744073709551615 whole c.requires.counted, whole_raws a children whole c.requires.raws))

-- a child is not representable
pub column_size-returns-in_err-below-in-Some : goal.column_size-returns-in_err-below-in-Some
column_size-returns-in_err-below-in-Some t c =
    let a = column_in c.args.source.now in
    subst (λ r. MatchOption r (AreRepresentable (a ∷ []) → ⊥) (λ size. AreRepresentable (a ∷ []) × (size ≡ capped (columns_size (alignment_of c.args.align) (a ∷ []))))) (sym c.from_residual-in_err-below-in-Some.ensures)
    (λ represented. c.in_err-below-in-Some.ensures (whole_represented a c.in-Some.children.now c.in-Some.ensures represented))

-- so are the columns that are sent below it
pub column_size-size_below-requires : goal.column_size-size_below-requires
column_size-size_below-requires t c =
    let a = column_in c.args.source.now in
    (omega (arith, c.decreases, whole_smaller a (visible_children a) (sent_whole a c.requires.raws)), (c.requires.source, (c.requires.counted, c.requires.raws)))

-- one of them is not representable
pub column_size-returns-in_err-below-in-None : goal.column_size-returns-in_err-below-in-None
column_size-returns-in_err-below-in-None t c =
    let a = column_in c.args.source.now in
    subst (λ r. MatchOption r (AreRepresentable (a ∷ []) → ⊥) (λ size. AreRepresentable (a ∷ []) × (size ≡ capped (columns_size (alignment_of c.args.align) (a ∷ []))))) (sym c.from_residual-in_err-below-in-None.ensures)
    (λ represented. c.in_err-below-in-None.ensures (whole_represented a (visible_children a) (sent_whole a c.requires.raws) represented))

-- the column's own node and all below it
pub column_size-returns : goal.column_size-returns
column_size-returns t c =
    let a = column_in c.args.source.now in
    let align = alignment_of c.args.align in
    let own = c.in_ok-own.ensures in
    elim c.match-whole_below.branch [
      | column_size-in-Some+in_ok-below-in-Some w ↦ sized_whole align a w.in-Some.children.now c.in_ok-own.own c.match-whole_below.below c.saturating_add.result w.in-Some.ensures c.requires.counted own.0 own.1
          w.in_ok-below-in-Some.ensures.0 (w.below-is ∙ w.in_ok-below-in-Some.ensures.1) (omega (arith, c.saturating_add.ensures))
      | column_size-in-None+in_ok-below-in-None w ↦ sized_whole align a (visible_children a) c.in_ok-own.own c.match-whole_below.below c.saturating_add.result (sent_whole a c.requires.raws) c.requires.counted own.0 own.1
          w.in_ok-below-in-None.ensures.0 (w.below-is ∙ w.in_ok-below-in-None.ensures.1) (omega (arith, c.saturating_add.ensures))
    ]

-- nothing is measured yet
pub size_below-loop-k-init : goal.size_below-loop-k-init
size_below-loop-k-init t c =
    let a = column_in c.args.source.now in
    let whole = sent_whole a c.requires.raws in
    (measured_none (alignment_of c.args.align) (visible_children a), whole_counted a (visible_children a) 18446744073709551615 whole c.requires.counted, whole_raws a (visible_children a) whole c.requires.raws)

-- the column has few enough nodes, and it is smaller
pub size_below-column_size-requires : goal.size_below-column_size-requires
size_below-column_size-requires t c =
    let all = visible_children (column_in c.args.source.now) in
    let k = c.loop-k.k in
    let d = column_in c.below.result in
    let found = found_column all k d c.below.ensures.same in
    let from = columns_from all k d found.0 found.1 in
    let counted = subst (AllByRecursion (λ (e : Column). nodes_of_column e < 18446744073709551615)) from c.loop-k.invariant.1 in
    let raws = raws_one d (drop (k + 1) all) (subst (λ cs. AreRaws (fields_of_columns cs) (raws_of cs)) from c.loop-k.invariant.2) in
    (omega (arith, c.decreases, child_below all k d found.0 found.1), (c.below.ensures.source, (counted.0, raws)))

-- it is not representable
pub size_below-returns-in_err-column_size : goal.size_below-returns-in_err-column_size
size_below-returns-in_err-column_size t c =
    let all = visible_children (column_in c.args.source.now) in
    let k = c.loop-k.k in
    let d = column_in c.below.result in
    let found = found_column all k d c.below.ensures.same in
    let from = columns_from all k d found.0 found.1 in
    subst (λ r. MatchOption r (AreRepresentable all → ⊥) (λ size. AreRepresentable all × (size ≡ capped (columns_size (alignment_of c.args.align) all)))) (sym c.from_residual.ensures)
    (λ represented. c.in_err-column_size.ensures (represented_one d (drop (k + 1) all) (subst AreRepresentable from (c.loop-k.invariant.0.unrepresented represented))))

-- one more column
pub size_below-loop-k-preserved : goal.size_below-loop-k-preserved
size_below-loop-k-preserved t c =
    let all = visible_children (column_in c.args.source.now) in
    let align = alignment_of c.args.align in
    let k = c.loop-k.k in
    let d = column_in c.below.result in
    let rest = drop (k + 1) all in
    let found = found_column all k d c.below.ensures.same in
    let from = columns_from all k d found.0 found.1 in
    let own = c.in_ok-column_size.ensures in
    let counted = subst (AllByRecursion (λ (e : Column). nodes_of_column e < 18446744073709551615)) from c.loop-k.invariant.1 in (
      measured_next align all rest d c.loop-k.size c.in_ok-column_size.field-0 c.saturating_add-size.result (subst (λ cs. IsMeasured align all cs c.loop-k.size) from c.loop-k.invariant.0) own.0 own.1 (omega (arith, c.saturating_add-size.ensures)),
      counted.1,
      raws_others d rest (subst (λ cs. AreRaws (fields_of_columns cs) (raws_of cs)) from c.loop-k.invariant.2),
    )

-- the array's column has few enough nodes, and it is smaller
pub whole_size-column_size-requires : goal.whole_size-column_size-requires
whole_size-column_size-requires t c =
    let all = c.args.arrays.now in
    let i = c.loop-array.array-index in
    let d = c.array-item.result in
    let from = columns_from all i d c.loop-array-test.true c.array-item.is in
    let counted = subst (AllByRecursion (λ (e : Column). nodes_of_column e < 18446744073709551615)) from c.loop-array.invariant.1 in
    let raws = raws_one d (drop (i + 1) all) (subst (λ cs. AreRaws (fields_of_columns cs) (raws_of cs)) from c.loop-array.invariant.2) in
    (omega (arith, c.decreases, child_below all i d c.loop-array-test.true c.array-item.is), (tt, (counted.0, raws)))
