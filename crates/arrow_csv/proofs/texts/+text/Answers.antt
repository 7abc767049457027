use Rattle.std.proofs.Common.{◌≡◌, ◌-◌, ◌++◌, codes, sym, ap, ◌∙◌, subst, arith, append-nil, string_bytes, rules, to_z, of_z}
use Rattle.std.specs.Int.{w128}
use Rattle.std.proofs.lemmas.Result.{on_ok_weaker}
use Rattle.arrow_types.specs.declared.field.Field.{Field, the_lemmas}
use Rattle.arrow_types.specs.View.{field_view, fields_view, type_view}
use Rattle.arrow_data.specs.Column.{AreOf, resolved_row_of, values_from}
use Rattle.arrow_layout.specs.PlainValue.{int_value, value_at}
use Rattle.arrow_data.specs.Shown.{HoldsValue}
use Rattle.arrow_data.proofs.Sameness.{child_smaller, parts_smaller}
use Rattle.arrow_csv.specs.Floats.{IsNumberText}
use Rattle.arrow_csv.specs.Intervals.{bytes_text}
use Rattle.arrow_csv.specs.Made.{separator}
use Rattle.arrow_csv.specs.Texts.{IsItemText, IsListOf, IsPlain, IsStructOf}
use Rattle.arrow_csv.proofs.UnitTexts.{binary_text}
use Rattle.arrow_csv.proofs.Joining.{appends_weaker, as_many, items_more, list_text, number_text, parts_done, parts_more, separator_first, separator_later, struct_text}
use Rattle.arrow_csv.proofs.texts.+text.Goals as goal
use Rattle.arrow_csv.proofs.texts.+text.Goals.{push_items-then-k-start+in_ok-push-2, push_items-else-k-start, push_parts-then-k-gt0+in_ok-push-2, push_parts-else-k-gt0}

-- the items of a slot lie inside the child, which is smaller
pub push_value-push_items-requires : goal.push_value-push_items-requires
push_value-push_items-requires t c =
    let h = subst (HoldsValue c.args.column.now c.args.i) c.in-List.is c.requires.holds in
    let m = child_smaller c.args.column.now c.in-List.items.now h.typed in
    (omega (arith, c.decreases, m), (h.ordered, (h.inside, h.long)))

-- the columns of a struct are of its fields, have its slot and are smaller
pub push_value-push_parts-requires : goal.push_value-push_parts-requires
push_value-push_parts-requires t c =
    let h = subst (HoldsValue c.args.column.now c.args.i) c.in-Struct.is c.requires.holds in
    let m = parts_smaller c.args.column.now c.in-Struct.children.now h.typed in
    let same = c.children.ensures.fields ∙ ap (λ x. x.children) c.data_type-in-Struct.ensures in
    (omega (arith, c.decreases, m), (subst (λ f. AreOf f c.in-Struct.children.now) (sym same) h.typed, h.inside))

-- the text made of the items is a text of the list
pub push_value-returns-in-List : goal.push_value-returns-in-List
push_value-returns-in-List t c =
    let column = c.args.column.now in
    let items = c.in-List.items.now in
    let h = subst (HoldsValue column c.args.i) c.in-List.is c.requires.holds in
    on_ok_weaker c.push_items.result (appends_weaker (IsListOf items.data_type (values_from items.resolved c.in-List.start c.in-List.end)) (IsItemText column.data_type (value_at column.resolved c.args.i)) _ _
    (λ text is. list_text column items c.args.i c.in-List.start c.in-List.end (codes "null") text h is)) c.push_items.ensures

-- a text of the number is one of the value
pub push_value-returns-in-Int : goal.push_value-returns-in-Int
push_value-returns-in-Int t c =
    let column = c.args.column.now in
    let type = type_view c.data_type.result.now in
    let h = subst (HoldsValue column c.args.i) c.in-Int.is c.requires.holds in
    let z = c.in-Int.number in
    let same : to_z w128 (of_z w128 z) ≡ z = search rules in
    on_ok_weaker c.push_int.result (appends_weaker (IsPlain (IsNumberText type.tag (to_z w128 (of_z w128 z)))) (IsItemText column.data_type (value_at column.resolved c.args.i)) _ _
    (λ text is. number_text (codes "null") column.data_type type (value_at column.resolved c.args.i) (to_z w128 (of_z w128 z)) text (h ∙ ap int_value (sym same)) c.data_type.ensures is.0)) c.push_int.ensures

-- the text of the bytes is one of the value
pub push_value-returns-in-Bytes : goal.push_value-returns-in-Bytes
push_value-returns-in-Bytes t c =
    let column = c.args.column.now in
    let type = type_view c.data_type-in-Bytes.result.now in
    let bytes = c.in-Bytes.bytes.now in
    let h = subst (HoldsValue column c.args.i) c.in-Bytes.is c.requires.holds in
    on_ok_weaker c.push_binary.result (appends_weaker (IsPlain (λ text. text ≡ bytes_text type.tag bytes)) (IsItemText column.data_type (value_at column.resolved c.args.i)) _ _
    (λ text is. binary_text (codes "null") column.data_type type (value_at column.resolved c.args.i) bytes text h c.data_type-in-Bytes.ensures is.0)) c.push_binary.ensures

-- the text made of the fields is a text of the struct
pub push_value-returns-in-Struct : goal.push_value-returns-in-Struct
push_value-returns-in-Struct t c =
    let column = c.args.column.now in
    let fields = fields_view c.children.result.now in
    let values = resolved_row_of c.in-Struct.children.now c.in-Struct.place in
    let h = subst (HoldsValue column c.args.i) c.in-Struct.is c.requires.holds in
    let same = c.children.ensures.fields ∙ ap (λ x. x.children) c.data_type-in-Struct.ensures in
    on_ok_weaker c.push_parts.result (appends_weaker (IsStructOf fields values) (IsItemText column.data_type (value_at column.resolved c.args.i)) _ _
    (λ text is. struct_text (codes "null") column.data_type fields values (value_at column.resolved c.args.i) text h.same same is)) c.push_parts.ensures

-- one more item is written
pub push_items-loop-k-preserved : goal.push_items-loop-k-preserved
push_items-loop-k-preserved t c =
    let l = c.loop-k.invariant in
    let k = c.loop-k.k in
    let start = c.args.start in
    let items = c.args.items.now in
    let before : c.if-k-start.out.items ≡ c.loop-k.out.items ++ separator (k - start) = elim c.if-k-start.branch [
      | push_items-then-k-start+in_ok-push-2 w ↦ ap (λ v. v.items) w.out-is ∙ w.in_ok-push-2.ensures.items ∙ ap (λ s. c.loop-k.out.items ++ s) (sym (separator_later (k - start) (omega (arith, w.if-k-start.true))))
      | push_items-else-k-start w ↦ ap (λ v. v.items) w.out-is ∙ sym (append-nil c.loop-k.out.items) ∙ ap (λ s. c.loop-k.out.items ++ s) (sym (separator_first (k - start) (omega (arith, w.if-k-start.false))))
    ] in (
      omega (arith, l.0),
      omega (arith, c.loop-k-test.true),
      items_more items.data_type items.resolved start k (c.args.out.now.items ++ codes "[") c.loop-k.out.items c.if-k-start.out.items _ l.0 (omega (arith, c.loop-k-test.true, c.requires.inside, c.requires.long)) l.2 before c.in_ok-push_value.ensures,
    )

-- each column has its field
pub push_parts-bounds-fields-k : goal.push_parts-bounds-fields-k
push_parts-bounds-fields-k t c = omega (arith, as_many c.args.fields.now c.args.children.now c.requires.typed, c.loop-k-test.true)

-- one more field is written
pub push_parts-loop-k-preserved : goal.push_parts-loop-k-preserved
push_parts-loop-k-preserved t c =
    let k = c.loop-k.k in
    let place = c.args.place in
    let before : c.if-k-gt0.out.items ≡ c.loop-k.out.items ++ separator k = elim c.if-k-gt0.branch [
      | push_parts-then-k-gt0+in_ok-push-2 w ↦ ap (λ v. v.items) w.out-is ∙ w.in_ok-push-2.ensures.items ∙ ap (λ s. c.loop-k.out.items ++ s) (sym (separator_later k (omega (arith, w.if-k-gt0.true))))
      | push_parts-else-k-gt0 w ↦ ap (λ v. v.items) w.out-is ∙ sym (append-nil c.loop-k.out.items) ∙ ap (λ s. c.loop-k.out.items ++ s) (sym (separator_first k (omega (arith, w.if-k-gt0.false))))
    ] in
    let name = (field_view c.index-fields-k.result).head.name in
    let is : name ≡ string_bytes c.index-fields-k.result.name = search (rules, the_lemmas) in
    let bytes : c.as_bytes.result.now ≡ string_bytes c.index-fields-k.result.name = c.as_bytes.ensures.value ∙ ap (λ (x : Field). string_bytes x.name) (sym c.index-fields-k.is) in
    let named : c.push-in-loop-k.new.self.items ≡ c.if-k-gt0.out.items ++ name ++ codes "=" =
    c.in_ok-push-3.ensures.items ∙ ap (λ t. t ++ codes "=") (c.in_ok-extend_from_slice.ensures.items ∙ ap (λ t. c.if-k-gt0.out.items ++ t) (bytes ∙ sym is)) in
    parts_more c.args.fields.now c.args.children.now place k c.index-fields-k.result c.index-children-k.result (c.args.out.now.items ++ codes "{") c.loop-k.out.items c.if-k-gt0.out.items c.push-in-loop-k.new.self.items _
    c.requires.typed c.loop-k-test.true c.index-fields-k.is c.index-children-k.is c.loop-k.invariant before named c.in_ok-push_value.ensures

-- all fields are written
pub push_parts-returns : goal.push_parts-returns
push_parts-returns t c =
    parts_done c.args.fields.now c.args.children.now c.args.place c.loop-k.k c.args.out.now.items c.loop-k.out.items _ c.requires.typed (omega (arith, c.loop-k-test.false)) c.loop-k.invariant c.in_ok-push-4.ensures.items
