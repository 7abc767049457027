use Rattle.std.proofs.Common.{◌≡◌, ◌+◌, ◌*◌, ap, sym, ◌∙◌, arith}
use Rattle.std.proofs.lemmas.Bool.{false≢true}
use Rattle.arrow_layout.specs.PlainValue.{null_value}
use Rattle.arrow_builder.specs.Within.{slot_bytes}
use Rattle.arrow_builder.proofs.Within.{most_low, total_nulls}
use Rattle.arrow_builder.proofs.tally.grown_by_nulls.Goals as goal

pub returns-then-not-is_short : goal.returns-then-not-is_short
returns-then-not-is_short c raw h short =
    let both = total_nulls c.args.form raw c.args.count c.args.total h in
    let taken = ap (λ n. n * c.args.count) c.null_bytes_and_most-more.ensures.slot in
    false≢true (sym c.if-not-is_short.true ∙ c.is_short.ensures.1 (
      omega (arith, both.0, short.few, c.saturating_add-slots.ensures),
      omega (arith, both.1, short.near, taken, c.saturating_mul.ensures, c.saturating_add-bytes.ensures, c.null_bytes_and_most-more.ensures.most),
    ))

pub returns : goal.returns
returns c raw h =
    let short = c.is_short.ensures.0 c.if-not-is_short.false in
    let both = total_nulls c.args.form raw c.args.count c.args.total h in
    let taken = ap (λ n. n * c.args.count) c.null_bytes_and_most-more.ensures.slot in
    let low = most_low c.args.form in
    let slots : c.saturating_add-slots.result ≡ c.args.total.slots + c.args.count = omega (arith, short.0, c.saturating_add-slots.ensures) in
    let bytes : c.saturating_add-bytes.result ≡ c.args.total.bytes + slot_bytes c.args.form null_value * c.args.count =
    omega (arith, short.1, low, taken, c.saturating_mul.ensures, c.saturating_add-bytes.ensures, c.null_bytes_and_most-more.ensures.most) in
    record {
      slots = slots ∙ both.0;
      bytes = bytes ∙ both.1;
      short = record { few = omega (arith, short.0, slots, both.0); near = omega (arith, short.1, bytes, both.1, c.null_bytes_and_most-more.ensures.most) };
    }
