use Rattle.std.proofs.Common.{sym, subst}
use Rattle.std.specs.Prelude.{OnOk}
use Rattle.arrow_stream_reader.specs.declared.item.Item.{Item}
use Rattle.arrow_stream_reader.specs.Views.{given}
use Rattle.arrowflow_json.specs.Messages.{message_members}
use Rattle.arrowflow_json.specs.Tokens.{Adds, members_tokens}
use Rattle.arrowflow_json.proofs.message_texts.write_message.Goals as goal

-- the end marker has only its name
pub returns-in-End : goal.returns-in-End
returns-in-End c =
    let message = c.args.message in
    subst (λ (item : Item). OnOk c.write_text.result (Adds (members_tokens (message_members message.before message.reader.now.at.state (given item))) c.args.writer.now c.write_text.new.writer)) (sym c.in-End.is) c.write_text.ensures
