use Rattle.std.proofs.Common.{◌≡◌, ◌+◌, ◌-◌, ◌/◌, length, get_or, map, ap, sym, ◌∙◌, arith}
use Rattle.std.proofs.lemmas.List.{length-map}
use Rattle.std.specs.Rc.{rc_value}
use Rattle.arrow_data.specs.Segments.{block_starts}
use Rattle.arrow_data.specs.declared.array.Block.{Block}
use Rattle.arrow_data.proofs.Blocks.{start_read}
use Rattle.arrow_data.proofs.dictionary.block_before.Goals as goal

pub loop-low-preserved-then-deref-i : goal.loop-low-preserved-then-deref-i
loop-low-preserved-then-deref-i c =
    let middle = c.loop-low.low + (c.loop-low.high - c.loop-low.low) / 2 in
    let bs = map rc_value c.args.blocks.now in
    let long : length (block_starts bs) ≡ length c.args.blocks.now = length-map bs (λ (b : Block). b.start) ∙ length-map c.args.blocks.now rc_value in
    let h = c.loop-low.invariant in
    let start : get_or (block_starts bs) middle 0 ≡ c.deref.result.now.start = start_read rc_value c.args.blocks.now middle c.index-blocks-middle.result (omega (arith, h.order, h.inside, long, c.loop-low-test.true)) c.index-blocks-middle.is ∙ ap (λ (b : Block). b.start) (sym c.deref.ensures) in
    record {
      order = omega (arith, c.loop-low-test.true);
      inside = h.inside;
      below = omega (arith, start, c.if-deref-i.true);
      above = h.above;
    }

pub loop-low-preserved : goal.loop-low-preserved
loop-low-preserved c =
    let middle = c.loop-low.low + (c.loop-low.high - c.loop-low.low) / 2 in
    let bs = map rc_value c.args.blocks.now in
    let long : length (block_starts bs) ≡ length c.args.blocks.now = length-map bs (λ (b : Block). b.start) ∙ length-map c.args.blocks.now rc_value in
    let h = c.loop-low.invariant in
    let start : get_or (block_starts bs) middle 0 ≡ c.deref.result.now.start = start_read rc_value c.args.blocks.now middle c.index-blocks-middle.result (omega (arith, h.order, h.inside, long, c.loop-low-test.true)) c.index-blocks-middle.is ∙ ap (λ (b : Block). b.start) (sym c.deref.ensures) in
    record {
      order = omega (arith, c.loop-low-test.true);
      inside = omega (arith, h.order, h.inside, c.loop-low-test.true);
      below = h.below;
      above = λ _. omega (arith, start, c.if-deref-i.false);
    }
