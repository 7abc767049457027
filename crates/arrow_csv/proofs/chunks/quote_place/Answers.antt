use Rattle.std.proofs.Common.{sym, ap, ◌∙◌, arith}
use lib.Count.{count_trailing_zeros}
use Rattle.arrow_csv.proofs.Chunked.{chunk_marked, chunk_passed, mark_inside}
use Rattle.arrow_csv.proofs.chunks.quote_place.Goals as goal

-- the first bit is the first double quote
pub returns-then-marks-ne0-clause-value : goal.returns-then-marks-ne0-clause-value
returns-then-marks-ne0-clause-value c =
    let marks = c.marks_of_sixteen-marks in
    let first = chunk_marked c.args.field.now c.loop-place.place 16 (omega arith) (omega arith) (omega (arith, marks.ensures)) ∙ ap (count_trailing_zeros 64) (sym marks.ensures) in
    omega (arith, first, c.loop-place.invariant.0)

pub returns-then-marks-ne0-clause-inside : goal.returns-then-marks-ne0-clause-inside
returns-then-marks-ne0-clause-inside c =
    let marks = c.marks_of_sixteen-marks in
    let first = chunk_marked c.args.field.now c.loop-place.place 16 (omega arith) (omega arith) (omega (arith, marks.ensures)) ∙ ap (count_trailing_zeros 64) (sym marks.ensures) in
    omega (arith, first, mark_inside c.args.field.now c.loop-place.place c.loop-place.invariant.1)

-- a chunk without one is skipped
pub loop-place-preserved : goal.loop-place-preserved
loop-place-preserved c =
    let passed = chunk_passed c.args.field.now c.loop-place.place 16 (omega arith) (omega (arith, c.marks_of_sixteen-marks.ensures)) in
    (omega (arith, passed, c.loop-place.invariant.0), omega arith)
