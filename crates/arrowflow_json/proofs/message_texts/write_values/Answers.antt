use Rattle.std.proofs.Common.{◌≡◌, ◌++◌, codes, subst, rules, to_z, of_z}
use Rattle.std.specs.Int.{w64}
use Rattle.std.proofs.lemmas.Result.{on_ok_weaker}
use Rattle.std.specs.Fmt.{signed_decimal}
use Rattle.json.specs.Json.{number, string}
use Rattle.arrowflow_json.specs.Messages.{whole}
use Rattle.arrowflow_json.specs.Tokens.{Adds, member_tokens}
use Rattle.arrowflow_json.proofs.Adding.{adds_more}
use Rattle.arrowflow_json.proofs.message_texts.write_values.Goals as goal

-- one member after the other
pub returns : goal.returns
returns c =
    let kind = member_tokens (codes "message", string (codes "dictionary")) in
    let id = member_tokens (codes "id", number (signed_decimal c.args.id)) in
    let old = c.args.writer.now in
    let whole_id : to_z w64 (of_z w64 c.args.id) ≡ c.args.id = search rules in
    let put_id = subst (λ z. Adds (member_tokens (codes "id", number (signed_decimal z))) c.write_text.new.writer c.write_id.new.writer) whole_id c.in_ok-write_id.ensures in
    let both = adds_more kind id old c.write_text.new.writer c.write_id.new.writer c.in_ok-write_text.ensures put_id in
    on_ok_weaker c.write_whole.result
    (λ put. adds_more (kind ++ id) (member_tokens (codes "values", whole c.args.values)) old c.write_id.new.writer c.write_whole.new.writer both put) c.write_whole.ensures
