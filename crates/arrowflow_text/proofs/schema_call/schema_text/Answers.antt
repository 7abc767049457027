use Rattle.std.proofs.Common.{◌≡◌, refl, ap, subst, Ok, Err, string_bytes}
use Rattle.std.proofs.lemmas.Result.{err_from_is_err_and}
use Rattle.arrow_stream_reader.specs.Stream.{ReaderView}
use Rattle.arrowflow_input.specs.Driver.{Driven}
use Rattle.arrowflow_text.specs.SchemaCall.{AnswersInput, BeginWithText, HasText}
use Rattle.arrowflow_input.proofs.Driving.{read_while_so}
use Rattle.arrowflow_text.proofs.Found.{keeping, more_waits, no_text}
use Rattle.arrowflow_text.proofs.schema_call.schema_text.Goals as goal

pub returns-in_err-answer-clause-answers : goal.returns-in_err-answer-clause-answers
returns-in_err-answer-clause-answers g c =
    let driven = c.drive-lines.ensures.driven tt refl in
    let had = g.R.Input.remaining c.args.input.now in
    let left = g.R.Input.remaining c.drive-lines.new.input in
    let reader = c.drive-lines.new.reader in
    let own = c.new-reader.result.limits in
    let text = string_bytes c.drive-lines.result.0.text in
    let fault = c.in_err-answer.field-0.0 in
    let same : reader.limits ≡ own = c.drive-lines.ensures.limits in
    let failed = err_from_is_err_and c.from_residual.result c.from_residual.ensures.1 in
    rw (failed.1, failed.2) (subst (λ l. AnswersInput l had left (Err fault)) (ap (λ (r : ReaderView). r.limits) c.new-reader.ensures.fresh)
    (driven.0, driven.1, read_while_so (more_waits own) driven.2, no_text own driven.0 left reader text same fault (subst (Driven keeping (HasText text) driven.0 left reader) c.in_err-answer.was driven.3)))

pub returns-clause-answers : goal.returns-clause-answers
returns-clause-answers g c =
    let driven = c.drive-lines.ensures.driven tt refl in
    let had = g.R.Input.remaining c.args.input.now in
    let left = g.R.Input.remaining c.drive-lines.new.input in
    let reader = c.drive-lines.new.reader in
    let own = c.new-reader.result.limits in
    let text = c.drive-lines.result.0.text in
    let same : reader.limits ≡ own = c.drive-lines.ensures.limits in
    let found = subst (Driven keeping (HasText (string_bytes text)) driven.0 left reader) c.in_ok-answer.was driven.3 in
    subst (λ l. AnswersInput l had left (Ok text)) (ap (λ (r : ReaderView). r.limits) c.new-reader.ensures.fresh)
    (driven.0, driven.1, read_while_so (more_waits own) driven.2, subst (λ l. BeginWithText l driven.0 (string_bytes text)) same found)
