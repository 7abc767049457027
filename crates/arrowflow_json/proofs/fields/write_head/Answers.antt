use Rattle.std.proofs.Common.{◌≡◌, [], ◌∷◌, ◌++◌, codes, ap, ◌∙◌, subst, map, rules, string_bytes}
use Rattle.std.proofs.lemmas.Result.{on_ok_weaker}
use Rattle.json.specs.Json.{array}
use Rattle.json.specs.Token.{boolean, key, string}
use Rattle.json.specs.Tree.{json_tokens}
use Rattle.json.specs.Value.{items_of}
use Rattle.arrow_types.specs.declared.field.Field.{the_lemmas}
use Rattle.arrow_types.specs.Notes.{pairs_view}
use Rattle.arrow_types.specs.View.{field_notes, field_view, type_view}
use Rattle.arrowflow_json.specs.Fields.{dictionary_json, pair_json}
use Rattle.arrowflow_json.specs.Tokens.{Adds, type_tokens}
use Rattle.arrowflow_json.proofs.Adding.{adds_more}
use Rattle.arrowflow_json.proofs.fields.write_head.Goals as goal

-- the members before the children, one after another
pub returns : goal.returns
returns c =
    let f = c.args.field.now in
    let head = (field_view f).head in
    let pairs = (field_notes f).pairs in
    let w = c.args.writer.now in
    let w1 = c.write_text.new.writer in
    let w2 = c.write_type.new.writer in
    let w3 = c.key.new.self in
    let w4 = c.boolean.new.self in
    let w5 = c.key-2.new.self in
    let w6 = c.write_dictionary.new.writer in
    let w7 = c.key-3.new.self in
    let w8 = c.write_pairs.new.writer in
    let named : string_bytes f.name ≡ head.name = search (rules, the_lemmas) in
    let typed : (type_view f.data_type).tag ≡ head.tag = search (rules, the_lemmas) in
    let null : f.nullable ≡ head.nullable = search (rules, the_lemmas) in
    let encoded : f.dictionary ≡ head.encoding = search (rules, the_lemmas) in
    let noted : pairs_view f.metadata.items ≡ pairs = search (rules, the_lemmas) in
    let d = json_tokens (dictionary_json head.encoding) in
    let a1 = subst (λ s. Adds (key (codes "name") ∷ string s ∷ []) w w1) (c.deref.ensures ∙ named) c.in_ok-write_text.ensures in
    let a2 = subst (λ t. Adds (type_tokens t) w1 w2) typed c.in_ok-write_type.ensures in
    let n2 = subst (λ b. Adds (key (codes "nullable") ∷ boolean b ∷ []) w2 w4) null
    (adds_more (key (codes "nullable") ∷ []) (boolean f.nullable ∷ []) w2 w3 w4 (c.in_ok-key.ensures.ok, c.in_ok-key.ensures.room.0) (c.in_ok-boolean.ensures.ok, c.in_ok-boolean.ensures.room.0)) in
    let a5 = subst (λ e. Adds (json_tokens (dictionary_json e)) w5 w6) encoded c.in_ok-write_dictionary.ensures in
    let n3 = adds_more (key (codes "nullable") ∷ boolean head.nullable ∷ []) (key (codes "dictionary") ∷ []) w2 w4 w5 n2 (c.in_ok-key-2.ensures.ok, c.in_ok-key-2.ensures.room.0) in
    let middle = adds_more (key (codes "nullable") ∷ boolean head.nullable ∷ key (codes "dictionary") ∷ []) d w2 w5 w6 n3 a5 in
    let front = adds_more (key (codes "name") ∷ string head.name ∷ []) (type_tokens head.tag) w w1 w2 a1 a2 in
    on_ok_weaker c.write_pairs.result
    (λ put.
    let m = subst (λ ps. Adds (json_tokens (array (items_of (map pair_json ps)))) w7 w8) (ap pairs_view c.deref-2.ensures.value ∙ noted) put in
    let tokens = json_tokens (array (items_of (map pair_json pairs))) in
    let back = adds_more (key (codes "metadata") ∷ []) tokens w6 w7 w8 (c.in_ok-key-3.ensures.ok, c.in_ok-key-3.ensures.room.0) m in
    adds_more (key (codes "name") ∷ string head.name ∷ type_tokens head.tag) (key (codes "nullable") ∷ boolean head.nullable ∷ key (codes "dictionary") ∷ (d ++ key (codes "metadata") ∷ tokens)) w w2 w8 front
    (adds_more (key (codes "nullable") ∷ boolean head.nullable ∷ key (codes "dictionary") ∷ d) (key (codes "metadata") ∷ tokens) w2 w6 w8 middle back)) c.write_pairs.ensures
