use Rattle.std.proofs.Common.{◌≡◌, [], ◌∷◌, ◌++◌, None, codes, arith, ap₂, subst}
use Rattle.std.proofs.lemmas.Result.{on_ok_weaker}
use Rattle.std.specs.List.{flat_map}
use Rattle.json.specs.Token.{begin_array, begin_object, end_array, end_object, key}
use Rattle.json.specs.Tree.{json_tokens}
use Rattle.arrow_types.proofs.Fields.{fewer_below}
use Rattle.arrow_types.specs.View.{field_notes, field_view, fields_view, notes_view}
use Rattle.arrowflow_json.specs.Fields.{fields_json, in_file, name_by}
use Rattle.arrowflow_json.specs.Tokens.{Adds, head_tokens, members_tokens}
use Rattle.arrowflow_json.proofs.Adding.{adds_more, children_tokens, field_tokens}
use Rattle.arrowflow_json.proofs.fields.+fields.Goals as goal

-- a field is an object
pub write_field-returns : goal.write_field-returns
write_field-returns t c =
    let f = c.args.field.now in
    let file = name_by c.args.file in
    let head = (field_view f).head in
    let pairs = (field_notes f).pairs in
    let children = fields_json None (field_view f).children (field_notes f).below in
    let w = c.args.writer.now in
    let w1 = c.begin_object.new.self in
    let w2 = c.write_file.new.writer in
    let w3 = c.write_head.new.writer in
    let w4 = c.key.new.self in
    let w5 = c.begin_array.new.self in
    let w6 = c.write_fields.new.writer in
    let w7 = c.end_array.new.self in
    let w8 = c.end_object.new.self in
    let inner = flat_map json_tokens children in
    let same : fields_json None (fields_view c.children.result.now) (notes_view c.children.result.now) ≡ children = ap₂ (fields_json None) c.children.ensures.fields c.children.ensures.notes in
    let own = subst (λ js. Adds (flat_map json_tokens js) w5 w6) same c.in_ok-write_fields.ensures in
    let opens = adds_more (key (codes "children") ∷ []) (begin_array ∷ []) w3 w4 w5 (c.in_ok-key.ensures.ok, c.in_ok-key.ensures.room.0) (c.in_ok-begin_array.ensures.ok, c.in_ok-begin_array.ensures.room.0) in
    let below = adds_more (key (codes "children") ∷ begin_array ∷ []) inner w3 w5 w6 opens own in
    on_ok_weaker c.end_object.result
    (λ put.
    let ends = adds_more (end_array ∷ []) (end_object ∷ []) w6 w7 w8 (c.in_ok-end_array.ensures.ok, c.in_ok-end_array.ensures.room.0) (put, c.end_object.ensures.room.0) in
    let back = adds_more (key (codes "children") ∷ begin_array ∷ inner) (end_array ∷ end_object ∷ []) w3 w6 w8 below ends in
    let members = adds_more (head_tokens head pairs) (children_tokens children) w2 w3 w8 c.in_ok-write_head.ensures back in
    let named = adds_more (members_tokens (in_file file)) (head_tokens head pairs ++ children_tokens children) w1 w2 w8 c.in_ok-write_file.ensures members in
    subst (λ ts. Adds ts w w8) (field_tokens file head pairs children)
    (adds_more (begin_object ∷ []) (members_tokens (in_file file) ++ (head_tokens head pairs ++ children_tokens children)) w w1 w8 (c.in_ok-begin_object.ensures.ok, c.in_ok-begin_object.ensures.room.0) named)) c.end_object.ensures.ok

-- the fields below one of them are fewer
pub write_fields-write_field-requires : goal.write_fields-write_field-requires
write_fields-write_field-requires t c =
    let fewer = fewer_below c.args.fields.now c.loop-field.field-index c.field-item.result c.loop-field-test.true c.field-item.is in
    omega (arith, c.decreases, fewer)
