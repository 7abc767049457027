use Rattle.std.proofs.Common.{◌<◌, ◌+◌, drop, subst, arith}
use Rattle.std.proofs.lemmas.Result.{MatchResult-weaker, err_from_is_err_and, on_ok_weaker}
use Rattle.std.specs.List.{AllByRecursion}
use Rattle.arrow_data.specs.Column.{Column}
use Rattle.arrow_body_laws.specs.Laws.{raws_of}
use Rattle.arrow_body_laws.specs.Raws.{AreRaws}
use Rattle.arrow_body_laws.specs.Stored.{fields_of_columns, stored_chunks, stored_nodes}
use Rattle.arrow_body_writer.proofs.Chunks.{StoresUpTo, leads_more, leads_out, some_alignment}
use Rattle.arrow_body_writer.proofs.Measures.{IsRepresentableUpTo, columns_from, none_left, raws_one, raws_others, represented_next, represented_one, represented_out, represented_start}
use Rattle.arrow_body_writer.proofs.Children.{child_below, found_column}
use Rattle.arrow_body_writer.proofs.Sending.{sent_whole}
use Rattle.arrow_body_writer.proofs.Wholes.{stores_whole, represented_whole, whole_counted, whole_raws, whole_smaller, whole_represented}
use Rattle.arrow_body_writer.specs.Align.{alignment_of}
use Rattle.arrow_body_writer.specs.Sent.{nodes_of_column, visible_children}
use Rattle.arrow_body_writer.specs.Source.{column_in}
use Rattle.arrow_body_writer.specs.Storable.{AreRepresentable}
use Rattle.arrow_body_writer.specs.Storing.{Stores}
use Rattle.arrow_body_writer.proofs.body.+put.Goals as goal

-- nothing is added yet
pub put_below-loop-k-init : goal.put_below-loop-k-init
put_below-loop-k-init t c =
    let a = column_in c.args.source.now in
    let whole = sent_whole a c.requires.raws in
    (represented_start (visible_children a), whole_counted a (visible_children a) 18446744073709551615 whole c.requires.counted, whole_raws a (visible_children a) whole c.requires.raws, λ z all. all)

-- the column can be stored, and it is smaller
pub put_below-put_column-requires : goal.put_below-put_column-requires
put_below-put_column-requires t c =
    let all = visible_children (column_in c.args.source.now) in
    let k = c.loop-k.k in
    let d = column_in c.below.result in
    let found = found_column all k d c.below.ensures.same in
    let from = columns_from all k d found.0 found.1 in
    let counted = subst (AllByRecursion (λ (e : Column). nodes_of_column e < 18446744073709551615)) from c.loop-k.invariant.1 in
    let raws = raws_one d (drop (k + 1) all) (subst (λ cs. AreRaws (fields_of_columns cs) (raws_of cs)) from c.loop-k.invariant.2) in
    (omega (arith, c.decreases, child_below all k d found.0 found.1), (c.below.ensures.source, (counted.0, raws)))

-- one more column
pub put_below-loop-k-preserved : goal.put_below-loop-k-preserved
put_below-loop-k-preserved t c =
    let all = visible_children (column_in c.args.source.now) in
    let align = alignment_of c.args.align in
    let k = c.loop-k.k in
    let d = column_in c.below.result in
    let rest = drop (k + 1) all in
    let found = found_column all k d c.below.ensures.same in
    let from = columns_from all k d found.0 found.1 in
    let one = c.in_ok-put_column.ensures.stored in
    let counted = subst (AllByRecursion (λ (e : Column). nodes_of_column e < 18446744073709551615)) from c.loop-k.invariant.1 in
    let P = Stores align (stored_nodes (fields_of_columns all) (raws_of all)) (stored_chunks (fields_of_columns all) (raws_of all)) c.args.body.now in (
      represented_next all rest d (subst (IsRepresentableUpTo all) from c.loop-k.invariant.0) one.represented,
      counted.1,
      raws_others d rest (subst (λ cs. AreRaws (fields_of_columns cs) (raws_of cs)) from c.loop-k.invariant.2),
      leads_more align d rest P c.loop-k.body c.put_column.new.body (some_alignment c.args.align) (subst (λ cs. StoresUpTo align all cs c.args.body.now c.loop-k.body) from c.loop-k.invariant.3) one.stored,
    )

-- all columns
pub put_below-returns-clause-stored : goal.put_below-returns-clause-stored
put_below-returns-clause-stored t c =
    let all = visible_children (column_in c.args.source.now) in
    let align = alignment_of c.args.align in
    let P = Stores align (stored_nodes (fields_of_columns all) (raws_of all)) (stored_chunks (fields_of_columns all) (raws_of all)) c.args.body.now in
    let none = none_left all c.loop-k.k (omega (arith, c.loop-k-test.false, c.width-k-end.ensures)) in
    record {
      represented = represented_out all (drop c.loop-k.k all) c.loop-k.invariant.0 none;
      stored = leads_out align P c.loop-k.body (subst (λ cs. StoresUpTo align all cs c.args.body.now c.loop-k.body) none c.loop-k.invariant.3);
    }

-- children that are sent unsliced can be stored, and are smaller
pub put_column-put_columns-requires : goal.put_column-put_columns-requires
put_column-put_columns-requires t c =
    let a = column_in c.args.source.now in
    let children = c.in-Some.children.now in
    let whole = c.in-Some.ensures in
    (omega (arith, c.decreases, whole_smaller a children whole), (whole_counted a children 18446744073709551615 whole c.requires.counted, whole_raws a children whole c.requires.raws))

-- and so can the columns that are sent below the column's own node
pub put_column-put_below-requires : goal.put_column-put_below-requires
put_column-put_below-requires t c =
    let a = column_in c.args.source.now in
    (omega (arith, c.decreases, whole_smaller a (visible_children a) (sent_whole a c.requires.raws)), (c.requires.source, (c.requires.counted, c.requires.raws)))

-- the column's own node, followed by its children
pub put_column-returns-in-Some-clause-stored : goal.put_column-returns-in-Some-clause-stored
put_column-returns-in-Some-clause-stored t c =
    let a = column_in c.args.source.now in
    let children = c.in-Some.children.now in
    let own = c.in_ok-put_level.ensures in
    on_ok_weaker c.put_columns.result
    (λ others. record {
      represented = represented_whole a children c.in-Some.ensures c.requires.counted own.small others.represented;
      stored = stores_whole (alignment_of c.args.align) a children c.args.body.now c.put_level.new.body c.put_columns.new.body (some_alignment c.args.align) c.in-Some.ensures own.stored others.stored;
    })
    c.put_columns.ensures.stored

pub put_column-returns-in-None-clause-stored : goal.put_column-returns-in-None-clause-stored
put_column-returns-in-None-clause-stored t c =
    let a = column_in c.args.source.now in
    let whole = sent_whole a c.requires.raws in
    let own = c.in_ok-put_level.ensures in
    on_ok_weaker c.put_below.result
    (λ others. record {
      represented = represented_whole a (visible_children a) whole c.requires.counted own.small others.represented;
      stored = stores_whole (alignment_of c.args.align) a (visible_children a) c.args.body.now c.put_level.new.body c.put_below.new.body (some_alignment c.args.align) whole own.stored others.stored;
    })
    c.put_below.ensures.stored

-- the array's column can be stored, and it is smaller
pub put_columns-put_column-requires : goal.put_columns-put_column-requires
put_columns-put_column-requires t c =
    let all = c.args.arrays.now in
    let i = c.loop-array.array-index in
    let d = c.array-item.result in
    let from = columns_from all i d c.loop-array-test.true c.array-item.is in
    let counted = subst (AllByRecursion (λ (e : Column). nodes_of_column e < 18446744073709551615)) from c.loop-array.invariant.1 in
    let raws = raws_one d (drop (i + 1) all) (subst (λ cs. AreRaws (fields_of_columns cs) (raws_of cs)) from c.loop-array.invariant.2) in
    (omega (arith, c.decreases, child_below all i d c.loop-array-test.true c.array-item.is), (tt, (counted.0, raws)))

-- one more array
pub put_columns-loop-array-preserved : goal.put_columns-loop-array-preserved
put_columns-loop-array-preserved t c =
    let all = c.args.arrays.now in
    let align = alignment_of c.args.align in
    let i = c.loop-array.array-index in
    let d = c.array-item.result in
    let rest = drop (i + 1) all in
    let from = columns_from all i d c.loop-array-test.true c.array-item.is in
    let one = c.in_ok-put_column.ensures.stored in
    let counted = subst (AllByRecursion (λ (e : Column). nodes_of_column e < 18446744073709551615)) from c.loop-array.invariant.1 in
    let P = Stores align (stored_nodes (fields_of_columns all) (raws_of all)) (stored_chunks (fields_of_columns all) (raws_of all)) c.args.body.now in (
      represented_next all rest d (subst (IsRepresentableUpTo all) from c.loop-array.invariant.0) one.represented,
      counted.1,
      raws_others d rest (subst (λ cs. AreRaws (fields_of_columns cs) (raws_of cs)) from c.loop-array.invariant.2),
      leads_more align d rest P c.loop-array.body c.put_column.new.body (some_alignment c.args.align) (subst (λ cs. StoresUpTo align all cs c.args.body.now c.loop-array.body) from c.loop-array.invariant.3) one.stored,
    )

-- all arrays
pub put_columns-returns-clause-stored : goal.put_columns-returns-clause-stored
put_columns-returns-clause-stored t c =
    let all = c.args.arrays.now in
    let align = alignment_of c.args.align in
    let P = Stores align (stored_nodes (fields_of_columns all) (raws_of all)) (stored_chunks (fields_of_columns all) (raws_of all)) c.args.body.now in
    let none = none_left all c.loop-array.array-index c.loop-array-test.false in
    record {
      represented = represented_out all (drop c.loop-array.array-index all) c.loop-array.invariant.0 none;
      stored = leads_out align P c.loop-array.body (subst (λ cs. StoresUpTo align all cs c.args.body.now c.loop-array.body) none c.loop-array.invariant.3);
    }

-- a column is not representable
pub put_below-returns-in_err-put_column-clause-large : goal.put_below-returns-in_err-put_column-clause-large
put_below-returns-in_err-put_column-clause-large t c =
    let all = visible_children (column_in c.args.source.now) in
    let k = c.loop-k.k in
    let d = column_in c.below.result in
    let found = found_column all k d c.below.ensures.same in
    let from = columns_from all k d found.0 found.1 in
    let failed = err_from_is_err_and c.from_residual.result c.from_residual.ensures.1 in
    rw (failed.1, failed.2) (λ large represented. c.in_err-put_column.ensures.large large (represented_one d (drop (k + 1) all) (subst AreRepresentable from (c.loop-k.invariant.0.unrepresented represented))))

pub put_column-returns-in-Some-clause-large : goal.put_column-returns-in-Some-clause-large
put_column-returns-in-Some-clause-large t c =
    MatchResult-weaker c.put_columns.result c.put_columns.ensures.large (λ done known. known)
    (λ fault never large represented. never large (whole_represented (column_in c.args.source.now) c.in-Some.children.now c.in-Some.ensures represented))

pub put_column-returns-in-None-clause-large : goal.put_column-returns-in-None-clause-large
put_column-returns-in-None-clause-large t c =
    let a = column_in c.args.source.now in
    MatchResult-weaker c.put_below.result c.put_below.ensures.large (λ done known. known)
    (λ fault never large represented. never large (whole_represented a (visible_children a) (sent_whole a c.requires.raws) represented))
