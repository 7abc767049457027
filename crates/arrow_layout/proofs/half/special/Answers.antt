-- The three patterns are those of NaN and of the infinite numbers.
use Rattle.std.proofs.Common.{◌∙◌, ap, arith, cond, ne_eqb, eq-eqb, sym}
use Rattle.std.specs.Float.{inf, nan}
use Rattle.arrow_layout.proofs.Widened.{inf_is, minus_inf_is, nan_is}
use Rattle.arrow_layout.proofs.half.special.Goals as goal

pub returns-then-digits-gt0 : goal.returns-then-digits-gt0
returns-then-digits-gt0 c = nan_is ∙ sym (ap (λ b. cond b (inf c.args.negative) nan) (ne_eqb c.args.digits 0 (λ none. omega arith)))

pub returns-then-negative : goal.returns-then-negative
returns-then-negative c =
    minus_inf_is ∙ ap inf (sym c.if-negative.true) ∙ sym (ap (λ b. cond b (inf c.args.negative) nan) (eq-eqb c.args.digits 0 (omega arith)))

pub returns-else-negative : goal.returns-else-negative
returns-else-negative c = inf_is ∙ ap inf (sym c.if-negative.false) ∙ sym (ap (λ b. cond b (inf c.args.negative) nan) (eq-eqb c.args.digits 0 (omega arith)))
