use Rattle.std.proofs.Common.{◌≡◌, refl, sym, ap, ◌∙◌, subst, arith, string_bytes, rules, to_z, of_z}
use Rattle.std.specs.Int.{w128}
use Rattle.std.proofs.lemmas.Result.{on_ok_weaker}
use Rattle.json.specs.Json.{null, boolean, string}
use Rattle.arrow_types.specs.declared.field.Field.{Field, the_lemmas}
use Rattle.arrow_types.specs.View.{field_view, fields_view}
use Rattle.arrow_data.specs.Column.{AreOf, resolved_row_of, values_from}
use Rattle.arrow_layout.specs.PlainValue.{int_value, value_at}
use Rattle.arrow_data.specs.Shown.{HoldsValue}
use Rattle.arrow_data.proofs.Sameness.{child_smaller, parts_smaller}
use Rattle.arrow_csv.proofs.Joining.{as_many}
use Rattle.arrow_json.specs.Kinds.{kind_of}
use Rattle.arrow_json.specs.Scalars.{IsNumberJson, bytes_json}
use Rattle.arrow_json.specs.Values.{IsArrayOf, IsJson, IsObjectOf}
use Rattle.arrow_json.proofs.Joining.{adds_token, adds_weaker, binary_json, items_done, items_more, list_json, number_json, parts_done, parts_more, struct_json}
use Rattle.arrow_json.proofs.values.+value.Goals as goal

-- the items of a slot lie inside the child, which is smaller
pub write_value-write_items-requires : goal.write_value-write_items-requires
write_value-write_items-requires t c =
    let h = subst (HoldsValue c.args.column.now c.args.i) c.in-List.is c.requires.holds in
    let m = child_smaller c.args.column.now c.in-List.items.now h.typed in
    (omega (arith, c.decreases, m), (h.ordered, (h.inside, h.long)))

-- the columns of a struct are of its fields, have its slot and are smaller
pub write_value-write_parts-requires : goal.write_value-write_parts-requires
write_value-write_parts-requires t c =
    let h = subst (HoldsValue c.args.column.now c.args.i) c.in-Struct.is c.requires.holds in
    let m = parts_smaller c.args.column.now c.in-Struct.children.now h.typed in
    let same = c.children.ensures.fields ∙ ap (λ x. x.children) c.data_type-in-Struct.ensures in
    (omega (arith, c.decreases, m), (subst (λ f. AreOf f c.in-Struct.children.now) (sym same) h.typed, h.inside))

-- a null is written as null
pub write_value-returns-in-Null : goal.write_value-returns-in-Null
write_value-returns-in-Null t c =
    let column = c.args.column.now in
    let h = subst (HoldsValue column c.args.i) c.in-Null.is c.requires.holds in
    let is : IsJson column.data_type (value_at column.resolved c.args.i) null = subst (λ v. IsJson column.data_type v null) (sym h) refl in
    on_ok_weaker c.null.result (λ put. adds_token (IsJson column.data_type (value_at column.resolved c.args.i)) null c.args.pen.now.writer c.null.new.self is put c.null.ensures.room.0) c.null.ensures.ok

-- a truth value as true or false
pub write_value-returns-in-Bool : goal.write_value-returns-in-Bool
write_value-returns-in-Bool t c =
    let column = c.args.column.now in
    let b = c.in-Bool.truth in
    let h = subst (HoldsValue column c.args.i) c.in-Bool.is c.requires.holds in
    let is : IsJson column.data_type (value_at column.resolved c.args.i) (boolean b) = subst (λ v. IsJson column.data_type v (boolean b)) (sym h) refl in
    on_ok_weaker c.boolean.result (λ put. adds_token (IsJson column.data_type (value_at column.resolved c.args.i)) (boolean b) c.args.pen.now.writer c.boolean.new.self is put c.boolean.ensures.room.0) c.boolean.ensures.ok

-- and a text as a string
pub write_value-returns-in-Text : goal.write_value-returns-in-Text
write_value-returns-in-Text t c =
    let column = c.args.column.now in
    let text = c.in-Text.text.now in
    let h = subst (HoldsValue column c.args.i) c.in-Text.is c.requires.holds in
    let is : IsJson column.data_type (value_at column.resolved c.args.i) (string text) = subst (λ v. IsJson column.data_type v (string text)) (sym h) refl in
    on_ok_weaker c.string.result (λ put. adds_token (IsJson column.data_type (value_at column.resolved c.args.i)) (string text) c.args.pen.now.writer c.string.new.self is put c.string.ensures.room.0) c.string.ensures.ok

-- the JSON of the number is that of the value
pub write_value-returns-in-Int : goal.write_value-returns-in-Int
write_value-returns-in-Int t c =
    let column = c.args.column.now in
    let z = c.in-Int.number in
    let h = subst (HoldsValue column c.args.i) c.in-Int.is c.requires.holds in
    let same : to_z w128 (of_z w128 z) ≡ z = search rules in
    let kind : c.of.result ≡ kind_of column.data_type.tag = c.of.ensures ∙ ap (λ x. kind_of x.tag) c.data_type.ensures in
    on_ok_weaker c.write_int.result (adds_weaker (IsNumberJson c.of.result (to_z w128 (of_z w128 z))) (IsJson column.data_type (value_at column.resolved c.args.i)) c.args.pen.now.writer c.write_int.new.pen.writer
    (λ json is. number_json column.data_type c.of.result (value_at column.resolved c.args.i) (to_z w128 (of_z w128 z)) json (h ∙ ap int_value (sym same)) kind is)) c.write_int.ensures

-- the JSON of the bytes is that of the value
pub write_value-returns-in-Bytes : goal.write_value-returns-in-Bytes
write_value-returns-in-Bytes t c =
    let column = c.args.column.now in
    let bytes = c.in-Bytes.bytes.now in
    let h = subst (HoldsValue column c.args.i) c.in-Bytes.is c.requires.holds in
    let kind : c.of-in-Bytes.result ≡ kind_of column.data_type.tag = c.of-in-Bytes.ensures ∙ ap (λ x. kind_of x.tag) c.data_type-in-Bytes.ensures in
    on_ok_weaker c.write_bytes.result (adds_weaker (λ json. json ≡ bytes_json c.of-in-Bytes.result bytes) (IsJson column.data_type (value_at column.resolved c.args.i)) c.args.pen.now.writer c.write_bytes.new.pen.writer
    (λ json is. binary_json column.data_type c.of-in-Bytes.result (value_at column.resolved c.args.i) bytes json h kind is)) c.write_bytes.ensures

-- the array of the items is that of the list
pub write_value-returns-in-List : goal.write_value-returns-in-List
write_value-returns-in-List t c =
    let column = c.args.column.now in
    let items = c.in-List.items.now in
    let h = subst (HoldsValue column c.args.i) c.in-List.is c.requires.holds in
    on_ok_weaker c.write_items.result (adds_weaker (IsArrayOf items.data_type (values_from items.resolved c.in-List.start c.in-List.end)) (IsJson column.data_type (value_at column.resolved c.args.i)) c.args.pen.now.writer c.write_items.new.pen.writer
    (λ json is. list_json column items c.args.i c.in-List.start c.in-List.end json h is)) c.write_items.ensures

-- the object of the fields is that of the struct
pub write_value-returns-in-Struct : goal.write_value-returns-in-Struct
write_value-returns-in-Struct t c =
    let column = c.args.column.now in
    let fields = fields_view c.children.result.now in
    let values = resolved_row_of c.in-Struct.children.now c.in-Struct.place in
    let h = subst (HoldsValue column c.args.i) c.in-Struct.is c.requires.holds in
    let same = c.children.ensures.fields ∙ ap (λ x. x.children) c.data_type-in-Struct.ensures in
    on_ok_weaker c.write_parts.result (adds_weaker (IsObjectOf fields values) (IsJson column.data_type (value_at column.resolved c.args.i)) c.args.pen.now.writer c.write_parts.new.pen.writer
    (λ json is. struct_json column.data_type fields values (value_at column.resolved c.args.i) json h.same same is)) c.write_parts.ensures

-- one more item is written
pub write_items-loop-k-preserved : goal.write_items-loop-k-preserved
write_items-loop-k-preserved t c =
    let l = c.loop-k.invariant in
    let k = c.loop-k.k in
    let items = c.args.items.now in (
      omega (arith, l.0),
      omega (arith, c.loop-k-test.true),
      items_more items.data_type items.resolved c.args.start k c.args.pen.now.writer c.loop-k.pen.writer c.write_value.new.pen.writer l.0 (omega (arith, c.loop-k-test.true, c.requires.inside, c.requires.long)) l.2 c.in_ok-write_value.ensures,
    )

-- all items are written
pub write_items-returns : goal.write_items-returns
write_items-returns t c =
    let l = c.loop-k.invariant in
    let items = c.args.items.now in
    let at : c.loop-k.k ≡ c.args.end = omega (arith, l.1, c.loop-k-test.false) in
    on_ok_weaker c.end_array.result
    (λ put. items_done items.data_type items.resolved c.args.start c.loop-k.k c.args.end c.args.pen.now.writer c.loop-k.pen.writer c.end_array.new.self at l.2 put c.end_array.ensures.room.0) c.end_array.ensures.ok

-- each column has its field
pub write_parts-bounds-fields-k : goal.write_parts-bounds-fields-k
write_parts-bounds-fields-k t c = omega (arith, as_many c.args.fields.now c.args.children.now c.requires.typed, c.loop-k-test.true)

-- one more field is written
pub write_parts-loop-k-preserved : goal.write_parts-loop-k-preserved
write_parts-loop-k-preserved t c =
    let k = c.loop-k.k in
    let name = (field_view c.index-fields-k.result).head.name in
    let is : name ≡ string_bytes c.index-fields-k.result.name = search (rules, the_lemmas) in
    let own : c.deref.result.now ≡ string_bytes c.index-fields-k.result.name = c.deref.ensures ∙ ap (λ (x : Field). string_bytes x.name) (sym c.index-fields-k.is) in
    parts_more c.args.fields.now c.args.children.now c.args.place k c.index-fields-k.result c.index-children-k.result c.deref.result.now c.args.pen.now.writer c.loop-k.pen.writer c.key.new.self c.write_value.new.pen.writer
    c.requires.typed c.loop-k-test.true c.index-fields-k.is c.index-children-k.is c.loop-k.invariant (own ∙ sym is) c.in_ok-key.ensures.ok c.in_ok-key.ensures.room.0 c.in_ok-write_value.ensures

-- all fields are written
pub write_parts-returns : goal.write_parts-returns
write_parts-returns t c =
    on_ok_weaker c.end_object.result
    (λ put. parts_done c.args.fields.now c.args.children.now c.args.place c.loop-k.k c.args.pen.now.writer c.loop-k.pen.writer c.end_object.new.self c.requires.typed (omega (arith, c.loop-k-test.false)) c.loop-k.invariant put c.end_object.ensures.room.0) c.end_object.ensures.ok
