use Rattle.std.proofs.Common.{rules}
use Rattle.arrow_builder.proofs.Fitting.{as_many_parts}
use Rattle.arrow_builder.proofs.fits.+fits.Goals as goal

pub parts_fit-returns-then-fields-parts : goal.parts_fit-returns-then-fields-parts
parts_fit-returns-then-fields-parts t c =
    (λ no. search rules, λ fit. absurd (c.if-fields-parts.true (as_many_parts c.args.fields.now c.args.parts.now fit)))
