use Rattle.std.proofs.Common.{◌<◌, [], ◌∷◌, length, subst, arith}
use Rattle.arrow_data.specs.Column.{values_from}
use Rattle.arrow_layout.specs.PlainValue.{null_value}
use Rattle.arrow_body_slots.proofs.Counting.{counts_more}
use Rattle.arrow_body_slots.proofs.Ranges.{null_next}
use Rattle.arrow_body_slots.specs.Tally.{Counts}
use Rattle.arrow_body_slots.proofs.tally.ByteTally.add_run.Goals as goal

-- the slots before a null, and the null
pub returns-then-end-stop-clause-counted : goal.returns-then-end-stop-clause-counted
returns-then-end-stop-clause-counted c =
    let raw = c.args.slice.array.now.raw in
    let end = c.first_null-end.result in
    let first = c.first_null-end.ensures in
    let here : end < length raw = omega (arith, c.if-end-stop.true, c.requires.slots.inside) in
    subst (λ vs. Counts c.args.form vs c.args.self.now c.add_null.new.self) (null_next raw c.args.slice.start end first.low here (first.null c.if-end-stop.true))
    (counts_more c.args.form c.args.self.now c.add_full.new.self c.add_null.new.self (values_from raw c.args.slice.start end) (null_value ∷ []) c.add_full.ensures (c.add_null.ensures c.args.form))
