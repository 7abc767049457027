use Rattle.std.proofs.Common.{sym, ◌∙◌, arith}
use Rattle.std.proofs.lemmas.Bool.{false≢true}
use Rattle.arrow_layout.specs.Value.{value_view}
use Rattle.arrow_builder.proofs.Within.{total_more, total_past}
use Rattle.arrow_builder.proofs.tally.grown.Goals as goal

pub returns-then-not-is_short : goal.returns-then-not-is_short
returns-then-not-is_short c raw h =
    total_past c.args.form raw (value_view c.args.value.now) c.args.total h (λ short.
    false≢true (sym c.if-not-is_short.true ∙ c.is_short.ensures.1 (omega (arith, short.0, c.in_ok-slots.ensures.1), omega (arith, short.1, c.in_ok-bytes.ensures.1, c.bytes_and_most-more.ensures.slot, c.bytes_and_most-more.ensures.most))))

pub returns : goal.returns
returns c raw h =
    let short = c.is_short.ensures.0 c.if-not-is_short.false in
    let both = total_more c.args.form raw (value_view c.args.value.now) c.args.total c.in_ok-bytes.bytes h
    (omega (arith, c.in_ok-bytes.ensures.1, c.bytes_and_most-more.ensures.slot)) (omega (arith, short.0, c.in_ok-slots.ensures.1), omega (arith, short.1, c.bytes_and_most-more.ensures.most)) in
    record { slots = omega (arith, both.0, c.in_ok-slots.ensures.1); bytes = both.1; short = both.2 }
