use Rattle.std.proofs.Common.{[], ◌∷◌, codes, subst}
use Rattle.std.proofs.lemmas.Result.{IfOk-weaker}
use Rattle.json.specs.Json.{string}
use Rattle.arrow_stream_reader.specs.Kind.{name_of}
use Rattle.arrowflow_json.specs.Tokens.{Adds, member_tokens}
use Rattle.arrowflow_json.specs.Fields.{name_by}
use Rattle.arrowflow_json.proofs.Adding.{line_is}
use Rattle.arrowflow_json.proofs.message_texts.fault_line.Goals as goal

-- the object is written, and a line feed
pub returns : goal.returns
returns c =
    let file = name_by c.args.file in
    let old = c.in_ok-writer.writer in
    let new = c.write_text.new.writer in
    let added = subst (λ name. Adds (member_tokens (codes "fault", string name)) old new) c.name.ensures.name c.in_ok-write_text.ensures in
    IfOk-weaker c.ended.result _ _
    (λ line is. line_is file (c.args.fault.place) ((codes "fault", string (name_of c.args.fault.kind)) ∷ []) old new line.items c.in_ok-writer.ensures.before c.in_ok-writer.ensures.tokens added is) c.ended.ensures
