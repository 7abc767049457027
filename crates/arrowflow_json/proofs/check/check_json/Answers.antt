use Rattle.std.proofs.Common.{◌<◌, ◌-◌, ◌^◌, ap, refl, sym, subst}
use Rattle.std.proofs.lemmas.Result.{on_ok_weaker}
use Rattle.std.specs.Prelude.{OnOk}
use Rattle.arrow_stream_reader.specs.Stream.{ReaderView}
use Rattle.arrowflow_json.specs.Fields.{name_by}
use Rattle.arrowflow_json.specs.Messages.{ChecksInput}
use Rattle.arrowflow_json.specs.Showing.{CheckingBegan, quiet_form}
use Rattle.arrowflow_json.proofs.Checking.{blames_same, fault_kept, loud_input, quiet_fits, quiet_input}
use Rattle.arrowflow_json.proofs.Writing.{nothing_written}
use Rattle.arrowflow_json.proofs.check.check_json.Goals as goal

-- at a fault of the stream the output has not failed
pub with_fault-requires : goal.with_fault-requires
with_fault-requires g c fault is =
    let output = c.args.output in
    let file = name_by c.args.file in
    let held = g.S.Sink.contents output in
    let failed = g.S.Sink.failed output in
    let began : CheckingBegan = record { file = file; writing = record { first = held; failures = failed } } in
    let own = c.new-reader.result.limits in
    let had = g.R.Input.remaining c.args.input.now in
    let left = g.R.Input.remaining c.drive-lines.new.input in
    let lines = c.drive-lines.result.0 in
    let driven = c.drive-lines.ensures.driven began (record { file_is = refl; counted = refl; written = nothing_written (quiet_form file) (quiet_fits file) began.writing held failed refl refl }) in
    let kept = fault_kept g.S.Sink.contents g.S.Sink.failed g.S.Sink.is_passed_on began lines own had left c.drive-lines.new.reader c.drive-lines.ensures.limits c.drive-lines.result.1 driven fault is in
    subst (λ n. n < 2 ^ 64 - 1) (sym kept) c.requires

-- what was written for the input
pub returns-clause-written : goal.returns-clause-written
returns-clause-written g c =
    let output = c.args.output in
    let file = name_by c.args.file in
    let held = g.S.Sink.contents output in
    let failed = g.S.Sink.failed output in
    let began : CheckingBegan = record { file = file; writing = record { first = held; failures = failed } } in
    let own = c.new-reader.result.limits in
    let had = g.R.Input.remaining c.args.input.now in
    let left = g.R.Input.remaining c.drive-lines.new.input in
    let lines = c.drive-lines.result.0 in
    let driven = c.drive-lines.ensures.driven began (record { file_is = refl; counted = refl; written = nothing_written (quiet_form file) (quiet_fits file) began.writing held failed refl refl }) in
    let after = c.with_fault.result.0 in
    let answer = c.with_fault.result.1 in
    subst (λ l. ChecksInput file l had left held failed answer (g.S.Sink.contents after) (g.S.Sink.failed after)) (ap (λ (r : ReaderView). r.limits) c.new-reader.ensures.fresh)
    (loud_input g.S.Sink.contents g.S.Sink.failed g.S.Sink.is_passed_on began lines own had left c.drive-lines.new.reader c.drive-lines.ensures.limits c.drive-lines.result.1 driven answer (g.S.Sink.contents after) (g.S.Sink.failed after) c.with_fault.ensures.adds)

-- after a good end the output has flushed everything that it accepted
pub returns-clause-passed : goal.returns-clause-passed
returns-clause-passed g c =
    let output = c.args.output in
    let file = name_by c.args.file in
    let held = g.S.Sink.contents output in
    let failed = g.S.Sink.failed output in
    let began : CheckingBegan = record { file = file; writing = record { first = held; failures = failed } } in
    let own = c.new-reader.result.limits in
    let had = g.R.Input.remaining c.args.input.now in
    let left = g.R.Input.remaining c.drive-lines.new.input in
    let lines = c.drive-lines.result.0 in
    let driven = c.drive-lines.ensures.driven began (record { file_is = refl; counted = refl; written = nothing_written (quiet_form file) (quiet_fits file) began.writing held failed refl refl }) in
    let passed = (quiet_input g.S.Sink.contents g.S.Sink.failed g.S.Sink.is_passed_on began lines own had left c.drive-lines.new.reader c.drive-lines.ensures.limits c.drive-lines.result.1 driven).1 in
    on_ok_weaker c.with_fault.result.1 (λ s. subst g.S.Sink.is_passed_on (sym s.1) (subst (λ a. OnOk a (g.S.Sink.is_passed_on lines.output)) s.0 passed)) c.with_fault.ensures.same

-- the result blames the input only if the input failed
pub returns-clause-blameless : goal.returns-clause-blameless
returns-clause-blameless g c = blames_same (g.R.Input.has_failed c.drive-lines.new.input) c.drive-lines.result.1 c.with_fault.result.1 c.with_fault.ensures.blameless c.drive-lines.ensures.blameless
