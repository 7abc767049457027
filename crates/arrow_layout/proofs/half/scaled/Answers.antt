-- The pattern is that of the number, whose digits are moved so that the first one is bit 23.
use Rattle.std.proofs.Common.{ℕ, true, false, arith, ap, sym, ◌∙◌}
use Rattle.std.specs.Float.{binary32}
use Rattle.std.specs.Float.Ieee.{odd, of_bits}
use Rattle.arrow_layout.proofs.Widened.{minus_zero_is, moved, number_of_size, pattern, zero_is}
use Rattle.arrow_layout.proofs.half.scaled.Goals as goal
use Rattle.arrow_layout.proofs.half.scaled.Goals.{then-negative-2, else-negative-2}

pub returns-then-negative : goal.returns-then-negative
returns-then-negative c = minus_zero_is 12 c.args.negative c.args.digits c.args.exponent 25 c.if-digits-eq0.true c.if-negative.true

pub returns-else-negative : goal.returns-else-negative
returns-else-negative c = zero_is 12 c.args.negative c.args.digits c.args.exponent 25 c.if-digits-eq0.true c.if-negative.false

pub overflow_sub-shift : goal.overflow_sub-shift
overflow_sub-shift c = (moved c.args.digits (omega arith) (omega arith)).0

pub overflow_add-size-2 : goal.overflow_add-size-2
overflow_add-size-2 c = record { fits = omega (arith, (pattern c.args.digits c.args.exponent (omega arith) (omega arith) (omega arith)).1) }

pub overflow_add-size-then-negative-2 : goal.overflow_add-size-then-negative-2
overflow_add-size-then-negative-2 c = record { fits = omega (arith, (pattern c.args.digits c.args.exponent (omega arith) (omega arith) (omega arith)).1) }

pub returns : goal.returns
returns c =
    let q = c.args.digits in
    let k = c.args.exponent in
    let its = pattern q k (omega arith) (omega arith) (omega arith) in
    elim c.if-negative-2.branch [
      | then-negative-2 w ↦
          c.f32_from_bits_with_nan.ensures ∙ ap (λ (b : ℕ). of_bits binary32 b) w.f32_from_bits_with_nan-is
          ∙ number_of_size true q k _ (omega arith) (omega arith) (omega arith) its ∙ ap (λ s. odd 12 s q k 25) (sym w.if-negative-2.true)
      | else-negative-2 w ↦
          c.f32_from_bits_with_nan.ensures ∙ ap (λ (b : ℕ). of_bits binary32 b) w.f32_from_bits_with_nan-is
          ∙ number_of_size false q k _ (omega arith) (omega arith) (omega arith) its ∙ ap (λ s. odd 12 s q k 25) (sym w.if-negative-2.false)
    ]
