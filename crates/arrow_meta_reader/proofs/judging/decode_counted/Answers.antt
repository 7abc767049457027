use Rattle.std.proofs.Common.{inl}
use Rattle.std.proofs.lemmas.Result.{err_from_is_err_and}
use Rattle.arrow_meta_reader.proofs.Counting.{counts_nothing, counted, counted_failed}
use Rattle.arrow_meta_reader.proofs.Decoding.{decoded}
use Rattle.arrow_meta_reader.proofs.judging.decode_counted.Goals as goal

-- a batch that was read straight has nothing to count
pub returns-in-Some-clause-counted : goal.returns-in-Some-clause-counted
returns-in-Some-clause-counted c =
    let there = c.in-Some.ensures.means in
    counts_nothing c.args.limits.now c.args.bytes.now there.0 there.1 there.3

pub returns-in_ok-tree_counted-in-None-clause-decoded : goal.returns-in_ok-tree_counted-in-None-clause-decoded
returns-in_ok-tree_counted-in-None-clause-decoded c =
    let read = c.in_ok-tree_counted-in-None.ensures.found in
    decoded c.judge.result c.args.limits.now c.args.bytes.now c.in_ok-tree_counted-in-None.field-0 (record { lies = read.0; within = read.1 }) c.judge.ensures.judged

-- the counts taken are those of the tree
pub returns-in_ok-tree_counted-in-None-clause-counted : goal.returns-in_ok-tree_counted-in-None-clause-counted
returns-in_ok-tree_counted-in-None-clause-counted c =
    let read = c.in_ok-tree_counted-in-None.ensures.found in
    counted c.judge.result c.args.limits.now c.args.bytes.now c.in_ok-tree_counted-in-None.field-0 c.tree_counted.new.work
    (record { lies = read.0; within = read.1 }) c.in_ok-tree_counted-in-None.ensures.counted

-- also with a fault of the tree
pub returns-in_ok-tree_counted-in-None-clause-ends : goal.returns-in_ok-tree_counted-in-None-clause-ends
returns-in_ok-tree_counted-in-None-clause-ends c =
    let read = c.in_ok-tree_counted-in-None.ensures.found in
    counted_failed c.judge.result c.args.limits.now c.args.bytes.now c.in_ok-tree_counted-in-None.field-0 c.tree_counted.new.work
    (record { lies = read.0; within = read.1 }) c.in_ok-tree_counted-in-None.ensures.counted

-- where reading ended
pub returns-in_err-tree_counted-in-None-clause-ends : goal.returns-in_err-tree_counted-in-None-clause-ends
returns-in_err-tree_counted-in-None-clause-ends c =
    let failed = err_from_is_err_and c.from_residual.result c.from_residual.ensures.1 in
    rw (failed.1, failed.2) (inl c.in_err-tree_counted-in-None.ensures.ends)
