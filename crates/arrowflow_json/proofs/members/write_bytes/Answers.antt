use Rattle.std.proofs.Common.{[], ◌∷◌, ◌++◌, codes, sym, ap, ◌∙◌, subst}
use Rattle.std.proofs.lemmas.Result.{on_ok_weaker}
use Rattle.json.specs.Token.{begin_object, end_object}
use Rattle.json.specs.Tree.{json_tokens}
use Rattle.arrowflow_json.specs.Tokens.{Adds, member_tokens}
use Rattle.json.specs.Json as json
use Rattle.arrowflow_json.proofs.Adding.{adds_more, hex_is, text_is}
use Rattle.arrowflow_json.proofs.members.write_bytes.Goals as goal

-- the bytes are a text
pub returns-in-Ok : goal.returns-in-Ok
returns-in-Ok c =
    let is = c.in-Ok.ensures.cases in
    let old = c.args.writer.now in
    let new = c.string.new.self in
    on_ok_weaker c.string.result
    (λ put. subst (λ j. Adds (json_tokens j) old new) (ap json.string is.0 ∙ sym (text_is c.args.bytes.now is.1)) (put, c.string.ensures.room.0)) c.string.ensures.ok

-- the bytes are not a text
pub returns-in_ok-write_text-in-Err : goal.returns-in_ok-write_text-in-Err
returns-in_ok-write_text-in-Err c =
    let bytes = c.args.bytes.now in
    let old = c.args.writer.now in
    let one = c.begin_object.new.self in
    let two = c.write_text.new.writer in
    let new = c.end_object.new.self in
    let digits = c.deref.result.now in
    let member = member_tokens (codes "hex", json.string digits) in
    let first = adds_more (begin_object ∷ []) member old one two (c.in_ok-begin_object-in-Err.ensures.ok, c.in_ok-begin_object-in-Err.ensures.room.0) c.in_ok-write_text-in-Err.ensures in
    let same = c.deref.ensures ∙ c.in_ok-digits-in-Err.ensures in
    on_ok_weaker c.end_object.result
    (λ put. subst (λ j. Adds (json_tokens j) old new) (sym (hex_is bytes c.in-Err.ensures.cases.0))
    (subst (λ d. Adds (begin_object ∷ member_tokens (codes "hex", json.string d) ++ end_object ∷ []) old new) same (adds_more (begin_object ∷ member) (end_object ∷ []) old two new first (put, c.end_object.ensures.room.0)))) c.end_object.ensures.ok
