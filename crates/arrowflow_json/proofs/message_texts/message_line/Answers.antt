use Rattle.std.proofs.lemmas.Result.{IfOk-weaker}
use Rattle.arrow_stream_reader.specs.Views.{given}
use Rattle.arrowflow_json.specs.Messages.{message_members}
use Rattle.arrowflow_json.specs.Fields.{name_by}
use Rattle.arrowflow_json.proofs.Adding.{line_is}
use Rattle.arrowflow_json.proofs.message_texts.message_line.Goals as goal

-- the object is written, and a line feed
pub returns : goal.returns
returns c =
    let file = name_by c.args.file in
    let old = c.in_ok-writer.writer in
    let new = c.write_message.new.writer in
    let added = c.in_ok-write_message.ensures in
    IfOk-weaker c.ended.result _ _
    (λ line is. line_is file (c.args.message.place) (message_members c.args.message.before c.args.message.reader.now.at.state (given c.args.message.item.now)) old new line.items c.in_ok-writer.ensures.before c.in_ok-writer.ensures.tokens added is) c.ended.ensures
