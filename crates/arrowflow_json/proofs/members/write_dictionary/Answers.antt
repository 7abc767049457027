use Rattle.std.proofs.Common.{◌≡◌, List, [], ◌∷◌, codes, sym, subst, rules, to_z, of_z}
use Rattle.std.specs.Int.{w64}
use Rattle.std.proofs.lemmas.Result.{on_ok_weaker}
use Rattle.std.specs.Fmt.{signed_decimal}
use Rattle.json.specs.Token.{Token, begin_object, boolean, end_object, key, number, string}
use Rattle.json.specs.Tree.{json_tokens}
use Rattle.arrowflow_json.specs.Fields.{dictionary_json}
use Rattle.arrowflow_json.specs.Tokens.{Adds}
use Rattle.arrowflow_json.proofs.Adding.{adds_more}
use Rattle.arrowflow_json.proofs.members.write_dictionary.Goals as goal

-- the id, the index type and the order
pub returns : goal.returns
returns c =
    let e = c.in-Some.encoding in
    let w = c.args.writer.now in
    let w1 = c.begin_object.new.self in
    let w2 = c.key.new.self in
    let w3 = c.i64.new.self in
    let w4 = c.write_text.new.writer in
    let w5 = c.key-2.new.self in
    let w6 = c.boolean.new.self in
    let w7 = c.end_object.new.self in
    let id : List Token = begin_object ∷ key (codes "id") ∷ number (signed_decimal e.id) ∷ [] in
    let a2 = adds_more (begin_object ∷ []) (key (codes "id") ∷ []) w w1 w2 (c.in_ok-begin_object.ensures.ok, c.in_ok-begin_object.ensures.room.0) (c.in_ok-key.ensures.ok, c.in_ok-key.ensures.room.0) in
    let whole : to_z w64 (of_z w64 e.id) ≡ e.id = search rules in
    let put_id = subst (λ z. Adds (number (signed_decimal z) ∷ []) w2 w3) whole (c.in_ok-i64.ensures.ok, c.in_ok-i64.ensures.room.0) in
    let a3 = adds_more (begin_object ∷ key (codes "id") ∷ []) (number (signed_decimal e.id) ∷ []) w w2 w3 a2 put_id in
    let index = subst (λ s. Adds (key (codes "index") ∷ string s ∷ []) w3 w4) c.int_words-index.ensures.name c.in_ok-write_text.ensures in
    let b2 = adds_more (key (codes "ordered") ∷ []) (boolean e.ordered ∷ []) w4 w5 w6 (c.in_ok-key-2.ensures.ok, c.in_ok-key-2.ensures.room.0) (c.in_ok-boolean.ensures.ok, c.in_ok-boolean.ensures.room.0) in
    let front = adds_more id _ w w3 w4 a3 index in
    on_ok_weaker c.end_object.result
    (λ put.
    let back = adds_more (key (codes "ordered") ∷ boolean e.ordered ∷ []) (end_object ∷ []) w4 w6 w7 b2 (put, c.end_object.ensures.room.0) in
    subst (λ d. Adds (json_tokens (dictionary_json d)) w w7) (sym c.in-Some.is) (adds_more _ (key (codes "ordered") ∷ boolean e.ordered ∷ end_object ∷ []) w w4 w7 front back)) c.end_object.ensures.ok
