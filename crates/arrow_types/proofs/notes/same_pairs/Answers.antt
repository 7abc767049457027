use Rattle.std.proofs.lemmas.Bool.{false≢true}
use Rattle.arrow_types.proofs.Noted.{length_from_pairs}
use Rattle.arrow_types.proofs.notes.same_pairs.Goals as goal

-- lists of different lengths are not equal
pub returns-then-pairs-others : goal.returns-then-pairs-others
returns-then-pairs-others c =
    (λ h. absurd (false≢true h), λ e. absurd (c.if-pairs-others.true (length_from_pairs c.args.pairs.now c.args.others.now e)))
