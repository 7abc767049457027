use Rattle.std.proofs.Common.{sym, ◌∙◌, rules}
use Rattle.arrow_json.proofs.Reals.{finite_written, word_written}
use Rattle.arrow_json.proofs.scalars.write_real.Goals as goal

-- a finite number is written as a number
pub returns-then-is_finite : goal.returns-then-is_finite
returns-then-is_finite g c =
    finite_written c.float.result g.F.RawFloat.format (g.F.RawFloat.value c.args.number) c.args.pen.now.writer c.float.new.self (sym c.requires ∙ c.if-is_finite.true) c.float.ensures.plain c.float.ensures.room.1.0

-- any other as a string
pub returns-else-is_finite : goal.returns-else-is_finite
returns-else-is_finite g c =
    let infinite = sym c.requires ∙ c.if-is_finite.false in
    word_written c.string.result g.F.RawFloat.format (g.F.RawFloat.value c.args.number) c.args.pen.now.writer c.string.new.self c.format.result.now infinite (c.format.ensures.word (search rules)) c.string.ensures.ok c.string.ensures.room.0
