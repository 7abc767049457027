use Rattle.std.proofs.Common.{length}
use Rattle.arrow_body_laws.specs.Raws.{bytes_in_value}
use Rattle.arrow_body_slots.proofs.Spanning.{reach_range}
use Rattle.arrow_body_slots.proofs.tally.string_reach.Goals as goal

-- the offsets are there
pub len-requires : goal.len-requires
len-requires c = c.in_ok-spans.ensures.spans.spans.there

-- they give the total length of the slots
pub returns : goal.returns
returns c =
    let raw = c.args.slice.array.now.raw in
    let are = c.in_ok-spans.ensures.spans in
    reach_range c.in_ok-spans.spans (λ v. length (bytes_in_value v)) raw c.args.slice.start c.args.slice.stop c.len.result are (c.len.ensures (λ v. length (bytes_in_value v)) raw are.spans)
