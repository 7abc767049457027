use Rattle.std.proofs.Common.{ap, ◌∙◌, subst, Ok, Err}
use Rattle.arrow_stream_reader.specs.Views.{given}
use Rattle.arrowflow_input.specs.Endings.{SendsSome}
use Rattle.arrowflow_json.specs.Fields.{name_by}
use Rattle.arrowflow_json.specs.Messages.{IsMessageLine}
use Rattle.arrowflow_json.proofs.Checking.{message_checked, message_cut, one_more}
use Rattle.arrowflow_json.proofs.message_lines.MessageLinesConsumer.item.Goals as goal

-- the line of the message was sent
pub returns-in-Ok-clause-takes : goal.returns-in-Ok-clause-takes
returns-in-Ok-clause-takes g c began old t es piece n comes x =
    let before = c.args.self in
    let after = c.take.new.self in
    let held = g.S.Sink.contents before.output in
    let held' = g.S.Sink.contents after.output in
    let failed = g.S.Sink.failed before.output in
    let failed' = g.S.Sink.failed after.output in
    let reader = c.args.reader.now in
    let sent = subst (λ f. SendsSome (IsMessageLine f reader.at.state.schema c.args.place before.number (given c.args.item)) held failed (Ok tt) held' failed') x.file_is c.in-Ok.ensures.sent in
    record {
      file_is = ap name_by c.in-Ok.ensures.file ∙ x.file_is;
      counted = one_more began.file began.writing held held' failed failed' before.number c.args.place c.args.item old reader t es piece n comes x.counted x.written after.number c.in-Ok.ensures.counted;
      written = message_checked began.file began.writing held held' failed failed' before.number c.args.place c.args.item old reader t es piece n comes x.counted x.written sent;
    }

-- or it was not sent completely
pub returns-clause-takes : goal.returns-clause-takes
returns-clause-takes g c began old t es piece n comes x left =
    let before = c.args.self in
    let after = c.take.new.self in
    let held = g.S.Sink.contents before.output in
    let held' = g.S.Sink.contents after.output in
    let failed = g.S.Sink.failed before.output in
    let failed' = g.S.Sink.failed after.output in
    let reader = c.args.reader.now in
    let fault = c.in-Err.fault in
    let sent = subst (λ f. SendsSome (IsMessageLine f reader.at.state.schema c.args.place before.number (given c.args.item)) held failed (Err fault) held' failed') x.file_is c.in-Err.ensures.sent in
    (message_cut began.file began.writing held held' failed failed' before.number c.args.place c.args.item old reader t es piece n comes x.counted x.written fault sent left, tt)
