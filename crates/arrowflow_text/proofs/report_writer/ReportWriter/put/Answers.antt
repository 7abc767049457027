use Rattle.std.proofs.Common.{◌∙◌, refl, sym, subst, Some, Ok, Err}
use Rattle.std.specs.Prelude.{MatchBool}
use Rattle.std.proofs.lemmas.Result.{err_from_is_err_and}
use Rattle.arrow_csv.specs.Named.{chosen_schema}
use Rattle.arrow_stream_reader.specs.Tables.{table_in}
use Rattle.arrow_stream_reader.specs.Views.{given}
use Rattle.arrowflow_text.specs.Chosen.{choice_of, chosen_given, form_of}
use Rattle.arrowflow_input.specs.Endings.{SendsSome}
use Rattle.arrowflow_text.specs.Windows.{IsOver, IsPartIn, window_after}
use Rattle.arrowflow_text.proofs.Messages.{message_broken, message_cut, message_enough, message_lacks, message_reported, part_message_reported}
use Rattle.arrowflow_text.proofs.report_writer.ReportWriter.put.Goals as goal

pub returns-in-Some-clause-takes : goal.returns-in-Some-clause-takes
returns-in-Some-clause-takes g c began old t es piece n comes x left =
    let new = record c.args.self.now { lacks = Some c.in-Some.column } in
    message_lacks g.S.Sink.contents g.S.Sink.failed g.S.Sink.is_passed_on began c.args.self.now c.args.place c.args.item.now old c.args.reader.now t es piece n comes x c.in-Some.column c.in-Some.ensures new refl refl refl left

pub returns-in_err-put_whole-clause-takes : goal.returns-in_err-put_whole-clause-takes
returns-in_err-put_whole-clause-takes g c began old t es piece n comes x =
    let same = c.put_whole.ensures.same in
    let failed = err_from_is_err_and c.from_residual.result c.from_residual.ensures.1 in
    rw (failed.1, failed.2) (λ left. message_broken g.S.Sink.contents g.S.Sink.failed g.S.Sink.is_passed_on began c.args.self.now c.args.place c.args.item.now old c.args.reader.now t es piece n comes x c.in_default-window.is c.put_whole.new.self same.0 same.1 c.in_err-put_whole.field-0.0 c.in_err-put_whole.ensures.sent left)

pub returns-in_default-window-clause-takes : goal.returns-in_default-window-clause-takes
returns-in_default-window-clause-takes g c began old t es piece n comes x =
    let reported = c.in_ok-put_whole.ensures in
    message_reported g.S.Sink.contents g.S.Sink.failed g.S.Sink.is_passed_on began c.args.self.now c.args.place c.args.item.now old c.args.reader.now t es piece n comes x c.in_default-window.is c.put_whole.new.self reported.sent reported.counted reported.window reported.same.0 reported.same.1

pub returns-in_err-put_part-clause-takes : goal.returns-in_err-put_part-clause-takes
returns-in_err-put_part-clause-takes g c began old t es piece n comes x =
    let same = c.put_part.ensures.same in
    let failed = err_from_is_err_and c.from_residual-in_err-put_part.result c.from_residual-in_err-put_part.ensures.1 in
    rw (failed.1, failed.2) (λ left. message_cut g.S.Sink.contents g.S.Sink.failed g.S.Sink.is_passed_on began c.args.self.now c.args.place c.args.item.now old c.args.reader.now t es piece n comes x c.in-Some-window.window c.in-Some-window.is c.in_default.ensures c.put_part.new.self same.0 same.1 c.in_err-put_part.field-0.0 c.in_err-put_part.ensures.sent left)

pub returns-then-not-pass-clause-takes : goal.returns-then-not-pass-clause-takes
returns-then-not-pass-clause-takes g c began old t es piece n comes x =
    let w = c.in-Some-window in
    let report = c.args.self.now.report in
    let choice = choice_of report in
    let number = c.args.self.now.number in
    let tables = table_in (given c.args.item.now) in
    let after = window_after w.window number tables in
    let part = IsPartIn (form_of report) w.window (chosen_schema choice c.args.reader.now.at.state.schema) number (chosen_given choice (given c.args.item.now)) in
    let reported = c.in_ok-put_part.ensures in
    let same = c.pass.ensures.same in
    let sent = subst (λ o. SendsSome part (g.S.Sink.contents c.args.self.now.output) (g.S.Sink.failed c.args.self.now.output) (Ok tt) (g.S.Sink.contents o) (g.S.Sink.failed o)) (sym c.pass.ensures.output) reported.sent in
    let more = subst (λ k. IsOver after k → ⊥) reported.counted (subst (λ b. MatchBool b (IsOver after c.put_part.new.self.number) (IsOver after c.put_part.new.self.number → ⊥)) c.if-not-pass.true c.pass.ensures.over) in
    part_message_reported g.S.Sink.contents g.S.Sink.failed g.S.Sink.is_passed_on began c.args.self.now c.args.place c.args.item.now old c.args.reader.now t es piece n comes x w.window w.is c.in_default.ensures c.pass.new.self sent more (c.pass.ensures.number ∙ reported.counted) c.pass.ensures.window (same.0 ∙ reported.same.0) (same.1 ∙ reported.same.1)

pub returns-in_err-flush-clause-takes : goal.returns-in_err-flush-clause-takes
returns-in_err-flush-clause-takes g c began old t es piece n comes x =
    let w = c.in-Some-window in
    let report = c.args.self.now.report in
    let choice = choice_of report in
    let number = c.args.self.now.number in
    let tables = table_in (given c.args.item.now) in
    let after = window_after w.window number tables in
    let part = IsPartIn (form_of report) w.window (chosen_schema choice c.args.reader.now.at.state.schema) number (chosen_given choice (given c.args.item.now)) in
    let reported = c.in_ok-put_part.ensures in
    let same = c.pass.ensures.same in
    let sent = subst (λ o. SendsSome part (g.S.Sink.contents c.args.self.now.output) (g.S.Sink.failed c.args.self.now.output) (Ok tt) (g.S.Sink.contents o) (g.S.Sink.failed o)) (sym c.pass.ensures.output) reported.sent in
    let over = subst (IsOver after) reported.counted (subst (λ b. MatchBool b (IsOver after c.put_part.new.self.number) (IsOver after c.put_part.new.self.number → ⊥)) c.if-not-pass.false c.pass.ensures.over) in
    let new = record c.pass.new.self { output = c.flush.new.output } in
    let failed = err_from_is_err_and c.from_residual-in_err-flush.result c.from_residual-in_err-flush.ensures.1 in
    rw (failed.1, failed.2) (λ left. message_enough g.S.Sink.contents g.S.Sink.failed g.S.Sink.is_passed_on began c.args.self.now c.args.place c.args.item.now old c.args.reader.now t es piece n comes x w.window w.is c.in_default.ensures (g.S.Sink.contents c.pass.new.self.output) (g.S.Sink.failed c.pass.new.self.output) sent over new (same.0 ∙ reported.same.0) (same.1 ∙ reported.same.1) (Err c.in_err-flush.field-0.0) c.in_err-flush.ensures.kept tt left)

pub returns-clause-takes : goal.returns-clause-takes
returns-clause-takes g c began old t es piece n comes x left =
    let w = c.in-Some-window in
    let report = c.args.self.now.report in
    let choice = choice_of report in
    let number = c.args.self.now.number in
    let tables = table_in (given c.args.item.now) in
    let after = window_after w.window number tables in
    let part = IsPartIn (form_of report) w.window (chosen_schema choice c.args.reader.now.at.state.schema) number (chosen_given choice (given c.args.item.now)) in
    let reported = c.in_ok-put_part.ensures in
    let same = c.pass.ensures.same in
    let sent = subst (λ o. SendsSome part (g.S.Sink.contents c.args.self.now.output) (g.S.Sink.failed c.args.self.now.output) (Ok tt) (g.S.Sink.contents o) (g.S.Sink.failed o)) (sym c.pass.ensures.output) reported.sent in
    let over = subst (IsOver after) reported.counted (subst (λ b. MatchBool b (IsOver after c.put_part.new.self.number) (IsOver after c.put_part.new.self.number → ⊥)) c.if-not-pass.false c.pass.ensures.over) in
    let new = record c.pass.new.self { output = c.flush.new.output } in
    message_enough g.S.Sink.contents g.S.Sink.failed g.S.Sink.is_passed_on began c.args.self.now c.args.place c.args.item.now old c.args.reader.now t es piece n comes x w.window w.is c.in_default.ensures (g.S.Sink.contents c.pass.new.self.output) (g.S.Sink.failed c.pass.new.self.output) sent over new (same.0 ∙ reported.same.0) (same.1 ∙ reported.same.1) (Ok tt) c.in_ok-flush.ensures.kept c.in_ok-flush.ensures.passed left
