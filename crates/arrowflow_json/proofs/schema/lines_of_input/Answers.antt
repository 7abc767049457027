use Rattle.std.proofs.Common.{◌≡◌, [], ap, refl, subst, Err, is_some}
use Rattle.std.proofs.lemmas.Result.{err_from_is_err_and}
use Rattle.arrow_stream_reader.specs.Stream.{ReaderView}
use Rattle.arrowflow_input.specs.Driver.{Driven}
use Rattle.arrowflow_input.proofs.Driving.{read_while_so}
use Rattle.arrowflow_text.proofs.Found.{keeping, more_waits, no_text}
use Rattle.arrowflow_json.specs.Fields.{name_by}
use Rattle.arrowflow_json.specs.SchemaLines.{AnswersLines, HasSchema}
use Rattle.arrowflow_json.proofs.SchemaWritten.{lines_read, memory_blames}
use Rattle.arrowflow_json.proofs.schema.lines_of_input.Goals as goal

-- no schema was read
pub returns-in_err-answer-clause-answers : goal.returns-in_err-answer-clause-answers
returns-in_err-answer-clause-answers g c =
    let driven = c.drive-answer.ensures.driven tt refl in
    let had = g.R.Input.remaining c.args.input.now in
    let left = g.R.Input.remaining c.drive-answer.new.input in
    let reader = c.drive-answer.new.reader in
    let own = c.new-reader.result.limits in
    let fault = c.in_err-answer.field-0.0 in
    let same : reader.limits ≡ own = c.drive-answer.ensures.limits in
    let failed = err_from_is_err_and c.from_residual.result c.from_residual.ensures.1 in
    rw (failed.1, failed.2) (subst (λ l. AnswersLines (name_by c.args.file) l had left (Err fault)) (ap (λ (r : ReaderView). r.limits) c.new-reader.ensures.fresh)
    (driven.0, driven.1, read_while_so (more_waits own) driven.2, no_text own driven.0 left reader [] same fault (subst (Driven keeping HasSchema driven.0 left reader) c.in_err-answer.was driven.3)))

-- the reader has the schema
pub lines_of_schema-requires : goal.lines_of_schema-requires
lines_of_schema-requires g c =
    let driven = c.drive-answer.ensures.driven tt refl in
    let left = g.R.Input.remaining c.drive-answer.new.input in
    let found = subst (Driven keeping HasSchema driven.0 left c.drive-answer.new.reader) c.in_ok-answer.was driven.3 in
    ap is_some found.2

-- its lines, or a failed allocation
pub returns-clause-answers : goal.returns-clause-answers
returns-clause-answers g c =
    let driven = c.drive-answer.ensures.driven tt refl in
    let had = g.R.Input.remaining c.args.input.now in
    let left = g.R.Input.remaining c.drive-answer.new.input in
    let reader = c.drive-answer.new.reader in
    let own = c.new-reader.result.limits in
    let file = name_by c.args.file in
    let result = c.lines_of_schema.result in
    let same : reader.limits ≡ own = c.drive-answer.ensures.limits in
    let found = subst (Driven keeping HasSchema driven.0 left reader) c.in_ok-answer.was driven.3 in
    subst (λ l. AnswersLines file l had left result) (ap (λ (r : ReaderView). r.limits) c.new-reader.ensures.fresh)
    (driven.0, driven.1, read_while_so (more_waits own) driven.2, lines_read file own driven.0 left reader same found result c.lines_of_schema.ensures.lines c.lines_of_schema.ensures.memory)

-- which blames no input
pub returns-clause-blameless : goal.returns-clause-blameless
returns-clause-blameless g c = memory_blames (g.R.Input.has_failed c.drive-answer.new.input) c.lines_of_schema.result c.lines_of_schema.ensures.memory
