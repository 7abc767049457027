use Rattle.std.proofs.Common.{◌≡◌, ◌≤◌, sym, subst, arith}
use Rattle.arrow_data.specs.Column.{values_from}
use Rattle.arrow_body_slots.specs.Tally.{Counts}
use Rattle.arrow_body_slots.proofs.Counting.{counts_more, counts_none}
use Rattle.arrow_body_slots.proofs.Ranges.{from_both, none_from}
use Rattle.arrow_body_slots.proofs.tally.ByteTally.add_runs.Goals as goal

-- no slots so far
pub loop-i-init : goal.loop-i-init
loop-i-init c = (
  omega arith,
  c.requires.order,
  subst (λ vs. Counts c.args.form vs c.args.self.now c.args.self.now) (sym (none_from c.args.slice.array.now.raw c.args.slice.start)) (counts_none c.args.form c.args.self.now),
)

-- the slots up to the next null are added
pub loop-i-preserved : goal.loop-i-preserved
loop-i-preserved c =
    let raw = c.args.slice.array.now.raw in
    let i = c.loop-i.i in
    let next = c.add_run-i.result in
    let low : i ≤ next = omega (arith, c.add_run-i.ensures.more) in (
      omega (arith, c.loop-i.invariant.0, low),
      c.add_run-i.ensures.within,
      subst (λ vs. Counts c.args.form vs c.args.self.now c.add_run-i.new.self) (sym (from_both raw c.args.slice.start i next c.loop-i.invariant.0 low))
          (counts_more c.args.form c.args.self.now c.loop-i.self c.add_run-i.new.self (values_from raw c.args.slice.start i) (values_from raw i next) c.loop-i.invariant.2 c.add_run-i.ensures.counted),
    )

-- all slots
pub returns : goal.returns
returns c =
    let all : c.loop-i.i ≡ c.args.slice.stop = omega (arith, c.loop-i-test.false, c.loop-i.invariant.1) in
    subst (λ k. Counts c.args.form (values_from c.args.slice.array.now.raw c.args.slice.start k) c.args.self.now c.loop-i.self) all c.loop-i.invariant.2
