use Rattle.std.proofs.Common.{◌≡◌, ℕ, ◌+◌, ◌*◌, sym, ap, ◌∙◌}
use Rattle.arrow_flatbuf.specs.Layout.{up}
use Rattle.arrow_flatbuf.specs.Nodes.{Nodes, after, after_all, count_nodes}
use Rattle.arrow_flatbuf.proofs.Laid.{ahead_all}
use Rattle.arrow_meta_writer.specs.Capped.{capped}
use Rattle.arrow_meta_writer.proofs.Capping.{cap_step}
use Rattle.arrow_meta_writer.proofs.Noting.{count_pairs, pair_node, pair_nodes_of, pairs_left, pairs_more}
use Rattle.arrow_meta_writer.proofs.metadata.pairs_end.Goals as goal

pub loop-pair-init : goal.loop-pair-init
loop-pair-init c =
    let nodes = pair_nodes_of c.args.pairs.now in
    let first = up 4 c.args.place + 4 in
    let counted : c.offsets_end-end.result ≡ capped (first + 4 * count_nodes nodes) =
    c.offsets_end-end.ensures.end ∙ ap (λ (n : ℕ). capped (first + 4 * n)) (sym (count_pairs c.args.pairs.now)) in
    record {
      same = ap (λ (n : ℕ). capped (after_all n nodes)) counted ∙ cap_step (λ q. after_all q nodes) (λ q. ahead_all q nodes) (first + 4 * count_nodes nodes);
      near = c.offsets_end-end.ensures.near;
    }

pub loop-pair-preserved : goal.loop-pair-preserved
loop-pair-preserved c =
    let ps = c.args.pairs.now in
    let p = c.pair-item.result in
    let rest = pairs_left ps (c.loop-pair.pair-index + 1) in
    let step = pairs_more ps c.loop-pair.pair-index p c.loop-pair-test.true c.pair-item.is in
    record {
      same = ap (λ (n : ℕ). capped (after_all n rest)) c.pair_end-end.ensures.end
          ∙ cap_step (λ q. after_all q rest) (λ q. ahead_all q rest) (after c.loop-pair.end (pair_node p))
          ∙ ap (λ (ns : Nodes). capped (after_all c.loop-pair.end ns)) (sym step)
          ∙ c.loop-pair.invariant.same;
      near = c.pair_end-end.ensures.near;
    }
