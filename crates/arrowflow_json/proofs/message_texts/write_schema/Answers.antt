use Rattle.std.proofs.Common.{codes}
use Rattle.std.proofs.lemmas.Result.{on_ok_weaker}
use Rattle.json.specs.Json.{string}
use Rattle.arrowflow_json.specs.Messages.{whole}
use Rattle.arrowflow_json.specs.Tokens.{member_tokens}
use Rattle.arrowflow_json.proofs.Adding.{adds_more}
use Rattle.arrowflow_json.proofs.message_texts.write_schema.Goals as goal

-- one member after the other
pub returns : goal.returns
returns c =
    on_ok_weaker c.write_whole.result
    (λ put. adds_more (member_tokens (codes "message", string (codes "schema"))) (member_tokens (codes "columns", whole c.args.columns)) c.args.writer.now c.write_text.new.writer c.write_whole.new.writer c.in_ok-write_text.ensures put) c.write_whole.ensures
