use Rattle.std.proofs.Common.{◌+◌, ◌*◌, ℕ, length, arith, sym, ap, subst, ◌∙◌}
use Rattle.arrow_flatbuf.specs.Layout.{up}
use Rattle.arrow_flatbuf.specs.Nodes.{after, after_all, more, tables}
use Rattle.arrow_flatbuf.proofs.Laid.{ahead_all, reaches}
use Rattle.arrow_flatbuf.proofs.Rows.{HeadsLeft, heads_first, heads_last, head_step}
use Rattle.arrow_meta_writer.specs.Capped.{capped}
use Rattle.arrow_meta_writer.proofs.Exact.{exact}
use Rattle.arrow_meta_writer.proofs.Noting.{count_pairs, pair_node, pair_nodes_of, pairs_left, pairs_more, pairs_none}
use Rattle.arrow_meta_writer.proofs.metadata.write_pair_offsets.Goals as goal

pub offsets_end-end-requires : goal.offsets_end-end-requires
offsets_end-end-requires c = omega (arith, c.place.ensures, reaches (length c.args.writer.now) (tables (pair_nodes_of c.args.pairs.now)), c.requires.room)

pub loop-pair-init : goal.loop-pair-init
loop-pair-init c =
    let p = length c.args.writer.now in
    let ps = c.args.pairs.now in
    let whole = pair_nodes_of ps in
    let end = c.offsets_end-end.ensures.end ∙ ap (λ (n : ℕ). capped (up 4 n + 4 + 4 * length ps)) c.place.ensures in
    let first = exact c.offsets_end-end.result (up 4 p + 4 + 4 * length ps) end
    (omega (arith, count_pairs ps, ahead_all (up 4 p + 4 + 4 * length ps) whole, ap (λ (n : ℕ). after_all (up 4 p + 4 + 4 * n) whole) (count_pairs ps), c.requires.room)) in
    heads_first c.args.writer.now c.count.new.self (length ps) c.offsets_end-end.result whole (sym (count_pairs ps)) c.in_ok-count.ensures.ok first

pub table_place-requires-clause-place : goal.table_place-requires-clause-place
table_place-requires-clause-place c =
    omega (arith, c.loop-pair.invariant.ends, ahead_all c.loop-pair.end (pairs_left c.args.pairs.now c.loop-pair.pair-index), c.requires.room)

pub pair_end-end-requires : goal.pair_end-end-requires
pair_end-end-requires c =
    omega (arith, c.loop-pair.invariant.ends, ahead_all c.loop-pair.end (pairs_left c.args.pairs.now c.loop-pair.pair-index), c.requires.room)

pub loop-pair-preserved : goal.loop-pair-preserved
loop-pair-preserved c =
    let ps = c.args.pairs.now in
    let p = c.pair-item.result in
    let i = c.loop-pair.pair-index in
    let now = c.loop-pair.writer in
    let end = c.loop-pair.end in
    let node = pair_node p in
    let rest = pairs_left ps (i + 1) in
    let whole = pair_nodes_of ps in
    let left : HeadsLeft c.args.writer.now now end (more node rest) whole =
    subst (λ ns. HeadsLeft c.args.writer.now now end ns whole) (pairs_more ps i p c.loop-pair-test.true c.pair-item.is) c.loop-pair.invariant in
    let new = exact c.pair_end-end.result (after end node) c.pair_end-end.ensures.end (omega (arith, left.ends, ahead_all (after end node) rest, c.requires.room)) in
    head_step c.args.writer.now now c.offset.new.self end c.pair_end-end.result c.table_place.result node rest whole left c.table_place.ensures.value c.in_ok-offset.ensures.ok new

pub returns : goal.returns
returns c =
    heads_last c.args.writer.now c.loop-pair.writer c.loop-pair.end (pair_nodes_of c.args.pairs.now)
    (subst (λ ns. HeadsLeft c.args.writer.now c.loop-pair.writer c.loop-pair.end ns (pair_nodes_of c.args.pairs.now)) (pairs_none c.args.pairs.now c.loop-pair.pair-index c.loop-pair-test.false) c.loop-pair.invariant)
