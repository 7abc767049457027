use Rattle.std.proofs.Common.{arith}
use Rattle.std.proofs.lemmas.Bool.{false≢true}
use Rattle.arrow_types.proofs.Fields.{fewer_below}
use Rattle.arrow_types.proofs.Noted.{length_from_notes}
use Rattle.arrow_types.proofs.notes.+notes.Goals as goal

-- lists of different lengths do not have the same custom metadata
pub are_noted_alike-returns-then-fields-others : goal.are_noted_alike-returns-then-fields-others
are_noted_alike-returns-then-fields-others t c =
    (λ h. absurd (false≢true h), λ e. absurd (c.if-fields-others.true (length_from_notes c.args.fields.now c.args.others.now e)))

-- the fields below one of them are fewer
pub are_noted_alike-have_same_notes-requires : goal.are_noted_alike-have_same_notes-requires
are_noted_alike-have_same_notes-requires t c =
    let fewer = fewer_below c.args.fields.now c.loop-i.i c.index-fields-i.result c.loop-i-test.true c.index-fields-i.is in
    (omega (arith, c.decreases, fewer), tt)
