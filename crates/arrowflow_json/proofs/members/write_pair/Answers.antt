use Rattle.std.proofs.Common.{[], ◌∷◌, ◌++◌, codes, subst}
use Rattle.std.proofs.lemmas.Result.{on_ok_weaker}
use Rattle.json.specs.Token.{begin_object, end_object, key}
use Rattle.json.specs.Tree.{json_tokens}
use Rattle.arrowflow_json.specs.Fields.{text_json}
use Rattle.arrowflow_json.specs.Tokens.{Adds}
use Rattle.arrowflow_json.proofs.Adding.{adds_more}
use Rattle.arrowflow_json.proofs.members.write_pair.Goals as goal

-- the key, and then the value
pub returns : goal.returns
returns c =
    let pair = c.args.pair.now in
    let w = c.args.writer.now in
    let w1 = c.begin_object.new.self in
    let w2 = c.key.new.self in
    let w3 = c.write_bytes.new.writer in
    let w4 = c.key-2.new.self in
    let w5 = c.write_bytes-2.new.writer in
    let w6 = c.end_object.new.self in
    let own = json_tokens (text_json pair.0.items) in
    let value = json_tokens (text_json pair.1.items) in
    let k3 = subst (λ bytes. Adds (json_tokens (text_json bytes)) w2 w3) c.deref.ensures.value c.in_ok-write_bytes.ensures in
    let v3 = subst (λ bytes. Adds (json_tokens (text_json bytes)) w4 w5) c.deref-2.ensures.value c.in_ok-write_bytes-2.ensures in
    let k2 = adds_more (begin_object ∷ []) (key (codes "key") ∷ []) w w1 w2 (c.in_ok-begin_object.ensures.ok, c.in_ok-begin_object.ensures.room.0) (c.in_ok-key.ensures.ok, c.in_ok-key.ensures.room.0) in
    let front = adds_more (begin_object ∷ key (codes "key") ∷ []) own w w2 w3 k2 k3 in
    let back = adds_more (key (codes "value") ∷ []) value w3 w4 w5 (c.in_ok-key-2.ensures.ok, c.in_ok-key-2.ensures.room.0) v3 in
    on_ok_weaker c.end_object.result
    (λ put. adds_more (begin_object ∷ key (codes "key") ∷ own) (key (codes "value") ∷ (value ++ end_object ∷ [])) w w3 w6 front
    (adds_more (key (codes "value") ∷ value) (end_object ∷ []) w3 w5 w6 back (put, c.end_object.ensures.room.0))) c.end_object.ensures.ok
