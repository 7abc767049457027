use Rattle.std.proofs.Common.{◌∙◌, arith}
use Rattle.std.specs.Prelude.{slice_range}
use Rattle.arrow_body_laws.specs.Raws.{bytes_in_value}
use Rattle.arrow_body_slots.proofs.Spanning.{bounds_between, pieces_between, spans_are}
use Rattle.arrow_body_slots.proofs.offsets.strings_between.Goals as goal

-- the bytes are there
pub part-requires-clause-order : goal.part-requires-clause-order
part-requires-clause-order c =
    let bounds = bounds_between c.in_ok-offsets.offsets c.in_ok-offsets.bytes.now bytes_in_value c.args.slice.array.now.raw c.args.slice.start c.args.slice.stop c.in_ok-spans.spans c.in_ok-offsets.ensures c.in_ok-spans.ensures c.requires.inside in
    omega (arith, bounds.0, c.at.ensures, c.at-2.ensures)

pub part-requires-clause-inside : goal.part-requires-clause-inside
part-requires-clause-inside c =
    let bounds = bounds_between c.in_ok-offsets.offsets c.in_ok-offsets.bytes.now bytes_in_value c.args.slice.array.now.raw c.args.slice.start c.args.slice.stop c.in_ok-spans.spans c.in_ok-offsets.ensures c.in_ok-spans.ensures c.requires.inside in
    omega (arith, bounds.1, c.at-2.ensures)

-- they are those of the slots
pub returns-clause-spans : goal.returns-clause-spans
returns-clause-spans c =
    spans_are c.in_ok-offsets.offsets c.in_ok-offsets.bytes.now bytes_in_value c.args.slice.array.now.raw c.args.slice.start c.args.slice.stop c.in_ok-spans.spans c.in_ok-offsets.ensures c.in_ok-spans.ensures c.requires.inside

pub returns-clause-bytes : goal.returns-clause-bytes
returns-clause-bytes c =
    c.part.ensures ∙ (λ i. slice_range c.in_ok-offsets.bytes.now (c.at.ensures i) (c.at-2.ensures i))
    ∙ pieces_between c.in_ok-offsets.offsets c.in_ok-offsets.bytes.now bytes_in_value c.args.slice.array.now.raw c.args.slice.start c.args.slice.stop c.in_ok-spans.spans c.in_ok-offsets.ensures c.in_ok-spans.ensures c.requires.inside
