use Rattle.std.proofs.lemmas.Bool.{false≢true}
use Rattle.arrow_types.proofs.Fields.{length_from_same}
use Rattle.arrow_types.proofs.same.+same.Goals as goal

-- lists of different lengths are not equal
pub same_fields-returns-then-fields-others : goal.same_fields-returns-then-fields-others
same_fields-returns-then-fields-others t c =
    (λ h. absurd (false≢true h), λ e. absurd (c.if-fields-others.true (length_from_same c.args.fields.now c.args.others.now e)))
