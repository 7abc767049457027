use Rattle.std.proofs.Common.{◌≡◌, ◌+◌, suc, set, subst, ◌∙◌, arith}
use Rattle.std.proofs.lemmas.List.{get_or-set_other, length-set}
use Rattle.arrow_builder.specs.Tally.{Settles}
use Rattle.arrow_builder.proofs.Counting.{UpTo, all_settled, up_to_more, up_to_next}
use Rattle.arrow_builder.proofs.tally.+settle.Goals as goal

pub settle_all-loop-k-preserved : goal.settle_all-loop-k-preserved
settle_all-loop-k-preserved t c =
    let d = c.index-tallies-k.result in
    let k = c.loop-k.k in
    let new = c.settle.new.tally in
    let before = c.loop-k.invariant in
    let here = up_to_next (λ _. Settles c.args.next) k 0 c.args.tallies.now c.loop-k.tallies d before.0 in
    let more : suc k ≡ k + 1 = omega arith in
    let settled = up_to_more (λ _. Settles c.args.next) k 0 c.args.tallies.now c.loop-k.tallies d new before.0 (omega (arith, c.loop-k-test.true)) (subst (λ x. Settles c.args.next x new) here c.settle.ensures) in (
      subst (λ n. UpTo (λ _. Settles c.args.next) n 0 c.args.tallies.now (set c.loop-k.tallies k new)) more settled,
      (
        length-set c.loop-k.tallies k new ∙ before.1.0,
        λ j e after. get_or-set_other c.loop-k.tallies k j new e (λ same. omega (arith, same, after)) ∙ before.1.1 j e (omega (arith, after)),
      ),
    )

pub settle_all-returns : goal.settle_all-returns
settle_all-returns t c form fields k raw h =
    all_settled c.args.next c.loop-k.k 0 c.args.tallies.now c.loop-k.tallies form fields k raw c.loop-k.invariant.0 c.loop-k-test.false h
