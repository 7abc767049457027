use Rattle.std.proofs.Common.{IfErr, Bool, false, true, ◌≡◌, ℕ, ◌+◌, ◌*◌, ◌≤◌, List, length, Some, ap, sym, subst, ◌∙◌, option_map, arith, add-one, refl}
use Rattle.std.proofs.lemmas.Result.{err_from_is_err_and, IfErr-weaker}
use Rattle.arrow_flatbuf.specs.Place.{past}
use Rattle.arrow_flatbuf.specs.Table.{field_place, table_at}
use Rattle.arrow_flatbuf.specs.Vector.{vector_at}
use Rattle.arrow_meta_tree.specs.Reads.{Ends, RowEnds, ends_unpaid, ends_paid, ends_below, ends_inside, NoRowFits, Faulty, room}
use Rattle.arrow_meta_tree.specs.Kinds.{Spot, opened, spots_of}
use Rattle.arrow_meta_tree.specs.declared.fault.MetaFault.TheVariants.{Metadata}
use Rattle.arrow_meta_tree.specs.Views.{plain, plain_all}
use Rattle.arrow_meta_tree.specs.Trees.{Tree, table}
use Rattle.arrow_meta_tree.specs.Within.{visit, levels, levels_all, visits, visits_all, entries, entries_all, text_bytes, text_bytes_all, Spends}
use Rattle.arrow_meta_tree.specs.Lies.{Placed, AllPlaced, layer, table_layer, tables_layer, elements}
use Rattle.arrow_meta_tree.specs.Grows.{RowGrows, table_grows, tables_grow}
use Rattle.arrow_meta_tree.specs.declared.kinds.FieldForm.TheVariants as forms
use Rattle.arrow_meta_tree.proofs.Layers.{layer_there, unreadable, unreadable_child, vector_layer, element_layer, no_room, no_room_at, no_fields, no_elements}
use Rattle.arrow_meta_tree.proofs.Rows.{further, stuck, grown, begun, finished, plain_all-push}
use Rattle.arrow_meta_tree.proofs.Ending.{opened_spot, row_ends, row_unkept, ends_there, ends_child}
use Rattle.arrow_meta_tree.proofs.Spots.{field_get, element_get, length-elements, length-spots, faulty_so}
use Rattle.arrow_meta_tree.proofs.reader.Reader.+trees.Goals as goal

pub fields-returns-in_err-tree-clause-read : goal.fields-returns-in_err-tree-clause-read
fields-returns-in_err-tree-clause-read t c =
    let h = c.in_err-tree.ensures.read in
    let p = err_from_is_err_and c.from_residual.result c.from_residual.ensures.1 in
    let at = field_get c.args.kind c.args.table.now c.forms-forms.result.now c.loop-field.field forms.Byte c.forms-forms.ensures.value (omega arith) in
    rw (p.1, p.2) (faulty_so c.in_err-tree.field-0.0 _ _ _ _
    (stuck c.args.table.now.bytes (spots_of c.args.kind c.args.table.now) c.args.levels (room c.args.self.now) (room c.loop-field.self) c.loop-field.field _ (plain_all c.loop-field.trees.items) c.loop-field.invariant.0 at)
    (grown c.args.table.now.bytes (spots_of c.args.kind c.args.table.now) c.args.levels (room c.args.self.now) (room c.loop-field.self) c.loop-field.field _ (plain_all c.loop-field.trees.items) c.loop-field.invariant.0 at) h)

pub fields-loop-field-preserved : goal.fields-loop-field-preserved
fields-loop-field-preserved t c =
    let h = c.in_ok-tree.ensures.read in
    let at = field_get c.args.kind c.args.table.now c.forms-forms.result.now c.loop-field.field forms.Byte c.forms-forms.ensures.value (omega arith) in
    let next = further c.args.table.now.bytes (spots_of c.args.kind c.args.table.now) c.args.levels (room c.args.self.now) (room c.loop-field.self) (room c.field.new.self) c.loop-field.field _ (plain_all c.loop-field.trees.items) (plain c.in_ok-tree.tree) c.loop-field.invariant.0 at h in
    rw (add-one, c.in_ok-push.ensures.items, plain_all-push c.loop-field.trees.items c.in_ok-tree.tree) (next, c.in_ok-tree.ensures.max ∙ c.loop-field.invariant.1)

pub fields-returns-clause-read : goal.fields-returns-clause-read
fields-returns-clause-read t c =
    finished _ _ _ _ _ c.loop-field.field _ c.loop-field.invariant.0
    (omega (arith, length-spots c.args.kind c.args.table.now, ap length c.forms-forms.ensures.value, c.forms-forms.ensures.few, c.loop-field-test.false))

pub elements-returns-clause-read : goal.elements-returns-clause-read
elements-returns-clause-read t c =
    finished _ _ _ _ _ c.loop-index.index _ c.loop-index.invariant.0 (omega (arith, length-elements c.args.kind c.args.vector.now.place c.args.vector.now.count))

pub child-returns-in_err-table-in-Some-clause-read : goal.child-returns-in_err-table-in-Some-clause-read
child-returns-in_err-table-in-Some-clause-read t c =
    let there = c.in_err-table-in-Some.ensures in
    let failed = err_from_is_err_and c.from_residual.result c.from_residual.ensures.1 in
    rw (failed.1, failed.2) (unreadable_child c.args.table.now.bytes c.args.kind c.in-Some.opened (field_place c.args.table.now c.args.field) c.args.levels (room c.args.self.now) there.answer.0 c.in-Some.is there.answer.1 there.answer.2)

pub children-returns-in_err-vector-clause-read : goal.children-returns-in_err-vector-clause-read
children-returns-in_err-vector-clause-read t c =
    let there = c.in_err-vector.ensures in
    let failed = err_from_is_err_and c.from_residual.result c.from_residual.ensures.1 in
    rw (failed.1, failed.2) (unreadable c.args.table.now.bytes (forms.Tables c.args.kind) (field_place c.args.table.now c.args.field) c.args.levels (room c.args.self.now) there.answer.0 there.answer.1
    (ap (option_map (λ v. tables_layer (elements c.args.kind v.place v.count))) there.answer.2))

pub children-returns-in_err-elements-in-Some-clause-read : goal.children-returns-in_err-elements-in-Some-clause-read
children-returns-in_err-elements-in-Some-clause-read t c =
    let h = c.in_err-elements-in-Some.ensures.read in
    let v = c.in-Some.vector in
    let there : (p : ℕ) × (field_place c.args.table.now c.args.field ≡ Some p) × (past (vector_at 4) c.args.table.now.bytes p ≡ Some v) = rw c.in-Some.is at c.in_ok-vector.ensures.answer in
    let same : (v.bytes ≡ c.args.table.now.bytes) × (v.size ≡ 4) = rw c.in-Some.is at c.in_ok-vector.ensures.bytes in
    let p = err_from_is_err_and c.from_residual-in_err-elements-in-Some.result c.from_residual-in_err-elements-in-Some.ensures.1 in
    let P : List ℕ → Type 0 = λ bytes. Faulty c.in_err-elements-in-Some.field-0.0 (NoRowFits bytes (elements c.args.kind v.place v.count) c.args.levels (room c.args.self.now)) (RowGrows bytes (elements c.args.kind v.place v.count) c.args.levels (room c.args.self.now)) in
    let at = vector_layer c.args.table.now.bytes c.args.kind (field_place c.args.table.now c.args.field) there.0 v there.1 there.2 in
    rw (p.1, p.2) (faulty_so c.in_err-elements-in-Some.field-0.0 _ _ _ _
    (no_elements c.args.table.now.bytes (record { form = forms.Tables c.args.kind; place = field_place c.args.table.now c.args.field }) (elements c.args.kind v.place v.count) c.args.levels (room c.args.self.now) at)
    (λ g. tables_grow at g) (subst P same.0 h))

pub table-returns-in_err-below-clause-read : goal.table-returns-in_err-below-clause-read
table-returns-in_err-below-clause-read t c =
    λ s e. let h = c.in_err-below.ensures.paid in
    let p = err_from_is_err_and c.from_residual.result c.from_residual.ensures.1 in
    let never = no_room c.args.table.now.bytes s c.args.kind (spots_of c.args.kind c.args.table.now) c.args.levels (room c.args.self.now) e h.1 in
    rw (p.1, p.2, h.0) never

pub table-returns-in_err-fields-clause-read : goal.table-returns-in_err-fields-clause-read
table-returns-in_err-fields-clause-read t c =
    λ s e. let h = c.in_err-fields.ensures.read in
    let paid = c.in_ok-below.ensures.paid in
    let p = err_from_is_err_and c.from_residual-in_err-fields.result c.from_residual-in_err-fields.ensures.1 in
    rw (p.1, p.2) (faulty_so c.in_err-fields.field-0.0 _ _ _ _
    (no_fields c.args.table.now.bytes s c.args.kind (spots_of c.args.kind c.args.table.now) c.args.levels _ (room c.args.self.now) _ e paid.0 paid.1)
    (λ g. table_grows e paid.0 paid.1 g) h)

pub fields-returns-in_err-push-clause-read : goal.fields-returns-in_err-push-clause-read
fields-returns-in_err-push-clause-read t c =
    let h = c.in_ok-tree.ensures.read in
    let at = field_get c.args.kind c.args.table.now c.forms-forms.result.now c.loop-field.field forms.Byte c.forms-forms.ensures.value (omega arith) in
    let next = further c.args.table.now.bytes (spots_of c.args.kind c.args.table.now) c.args.levels (room c.args.self.now) (room c.loop-field.self) (room c.field.new.self) c.loop-field.field _ (plain_all c.loop-field.trees.items) (plain c.in_ok-tree.tree) c.loop-field.invariant.0 at h in
    let failed = err_from_is_err_and c.from_residual-in_err-push.result c.from_residual-in_err-push.ensures.1 in
    rw (failed.1, failed.2) (begun _ _ _ _ _ _ _ _ next at)

pub element-returns-in_err-below-clause-read : goal.element-returns-in_err-below-clause-read
element-returns-in_err-below-clause-read t c =
    let h = c.in_err-below.ensures.paid in
    let p = err_from_is_err_and c.from_residual.result c.from_residual.ensures.1 in
    let q = c.args.vector.now.place + c.args.index * 4 in
    rw (p.1, p.2, h.0) (no_room_at c.args.vector.now.bytes c.args.kind q c.args.levels (room c.args.self.now) h.1)

pub element-returns-in_err-table-clause-read : goal.element-returns-in_err-table-clause-read
element-returns-in_err-table-clause-read t c =
    let q = c.args.vector.now.place + c.args.index * 4 in
    let failed = err_from_is_err_and c.from_residual-in_err-table.result c.from_residual-in_err-table.ensures.1 in
    rw (failed.1, failed.2) (unreadable c.args.vector.now.bytes (forms.Table c.args.kind) (Some q) c.args.levels (room c.args.self.now) q refl (ap (option_map (λ t. table_layer c.args.kind (spots_of c.args.kind t))) (sym c.in_err-table.ensures.value)))

pub element-returns-in_err-fields-clause-read : goal.element-returns-in_err-fields-clause-read
element-returns-in_err-fields-clause-read t c =
    let q = c.args.vector.now.place + c.args.index * 4 in
    let b = c.args.vector.now.bytes in
    let ss = spots_of c.args.kind c.in_ok-table.table in
    let there = c.in_ok-table.ensures in
    let paid = c.in_ok-below.ensures.paid in
    let at = element_layer b c.args.kind q c.in_ok-table.table (sym there.value) in
    let P : List ℕ → Type 0 = λ bytes. Faulty c.in_err-fields.field-0.0 (NoRowFits bytes ss c.in_ok-below.below (room c.enter.new.self)) (RowGrows bytes ss c.in_ok-below.below (room c.enter.new.self)) in
    let h = subst P there.bytes c.in_err-fields.ensures.read in
    let p = err_from_is_err_and c.from_residual-in_err-fields.result c.from_residual-in_err-fields.ensures.1 in
    rw (p.1, p.2) (faulty_so c.in_err-fields.field-0.0 _ _ _ _
    (no_fields b (record { form = forms.Table c.args.kind; place = Some q }) c.args.kind ss c.args.levels _ (room c.args.self.now) _ at paid.0 paid.1)
    (λ g. table_grows at paid.0 paid.1 g) h)

pub element-returns-clause-read : goal.element-returns-clause-read
element-returns-clause-read t c =
    let q = c.args.vector.now.place + c.args.index * 4 in
    let b = c.args.vector.now.bytes in
    let ss = spots_of c.args.kind c.in_ok-table.table in
    let xs = plain_all c.in_ok-fields.fields.items in
    let there = c.in_ok-table.ensures in
    let paid = c.in_ok-below.ensures.paid in
    let P : List ℕ → Type 0 = λ bytes. AllPlaced bytes ss xs × (levels_all xs ≤ c.in_ok-below.below) × Spends (room c.enter.new.self) (room c.fields.new.self) (visits_all xs) (entries_all xs) (text_bytes_all xs) in
    let h = subst P there.bytes c.in_ok-fields.ensures.read in
    let x : Tree = table c.args.kind xs in
    let placed : Placed b (record { form = forms.Table c.args.kind; place = Some q }) x = (ss, element_layer b c.args.kind q c.in_ok-table.table (sym there.value), h.0) in
    let deep : levels x ≤ c.args.levels = omega (arith, h.1, paid.0) in
    let paid_all : Spends (room c.args.self.now) (room c.fields.new.self) (visits x) (entries x) (text_bytes x) = record {
      visits_paid = omega (arith, h.2.visits_paid, paid.1.visits_paid);
      entries_paid = omega (arith, h.2.entries_paid, paid.1.entries_paid);
      text_paid = omega (arith, h.2.text_paid, paid.1.text_paid);
    } in
    rw c.joined.ensures.table (placed, deep, paid_all)

pub elements-returns-in_err-tree-clause-read : goal.elements-returns-in_err-tree-clause-read
elements-returns-in_err-tree-clause-read t c =
    let at = element_get c.args.kind c.args.vector.now.place c.args.vector.now.count c.loop-index.index (omega arith) in
    let p = err_from_is_err_and c.from_residual.result c.from_residual.ensures.1 in
    rw (p.1, p.2) (faulty_so c.in_err-tree.field-0.0 _ _ _ _
    (stuck c.args.vector.now.bytes (elements c.args.kind c.args.vector.now.place c.args.vector.now.count) c.args.levels (room c.args.self.now) (room c.loop-index.self) c.loop-index.index _ (plain_all c.loop-index.trees.items) c.loop-index.invariant.0 at)
    (grown c.args.vector.now.bytes (elements c.args.kind c.args.vector.now.place c.args.vector.now.count) c.args.levels (room c.args.self.now) (room c.loop-index.self) c.loop-index.index _ (plain_all c.loop-index.trees.items) c.loop-index.invariant.0 at) c.in_err-tree.ensures.read)

pub elements-returns-in_err-push-clause-read : goal.elements-returns-in_err-push-clause-read
elements-returns-in_err-push-clause-read t c =
    let at = element_get c.args.kind c.args.vector.now.place c.args.vector.now.count c.loop-index.index (omega arith) in
    let next = further c.args.vector.now.bytes (elements c.args.kind c.args.vector.now.place c.args.vector.now.count) c.args.levels (room c.args.self.now) (room c.loop-index.self) (room c.element.new.self) c.loop-index.index _ (plain_all c.loop-index.trees.items) (plain c.in_ok-tree.tree) c.loop-index.invariant.0 at c.in_ok-tree.ensures.read in
    let failed = err_from_is_err_and c.from_residual-in_err-push.result c.from_residual-in_err-push.ensures.1 in
    rw (failed.1, failed.2) (begun _ _ _ _ _ _ _ _ next at)

pub elements-loop-index-preserved : goal.elements-loop-index-preserved
elements-loop-index-preserved t c =
    let at = element_get c.args.kind c.args.vector.now.place c.args.vector.now.count c.loop-index.index (omega arith) in
    let next = further c.args.vector.now.bytes (elements c.args.kind c.args.vector.now.place c.args.vector.now.count) c.args.levels (room c.args.self.now) (room c.loop-index.self) (room c.element.new.self) c.loop-index.index _ (plain_all c.loop-index.trees.items) (plain c.in_ok-tree.tree) c.loop-index.invariant.0 at c.in_ok-tree.ensures.read in
    rw (add-one, c.in_ok-push.ensures.items, plain_all-push c.loop-index.trees.items c.in_ok-tree.tree) (next, c.in_ok-tree.ensures.max ∙ c.loop-index.invariant.1)

pub table-returns-in_err-below-clause-ends : goal.table-returns-in_err-below-clause-ends
table-returns-in_err-below-clause-ends t c =
    let lacks = c.in_err-below.ensures.paid in
    let p = err_from_is_err_and c.from_residual.result c.from_residual.ensures.1 in
    rw (p.1, p.2, lacks.0) (λ v s p f e. let here : Ends c.args.table.now.bytes v Metadata s c.args.levels (room c.args.self.now) (room c.args.self.now) = ends_unpaid c.args.kind p f lacks.1 in
    subst (λ left. Ends c.args.table.now.bytes v Metadata s c.args.levels (room c.args.self.now) left) (sym c.in_err-below.ensures.unpaid) here)

pub table-returns-in_err-fields-clause-ends : goal.table-returns-in_err-fields-clause-ends
table-returns-in_err-fields-clause-ends t c =
    let paid = c.in_ok-below.ensures.paid in
    let p = err_from_is_err_and c.from_residual-in_err-fields.result c.from_residual-in_err-fields.ensures.1 in
    rw (p.1, p.2) (λ v s p f e. ends_below e paid.0 paid.1 c.in_err-fields.ensures.ends)

pub fields-returns-in_err-tree-clause-ends : goal.fields-returns-in_err-tree-clause-ends
fields-returns-in_err-tree-clause-ends t c =
    let p = err_from_is_err_and c.from_residual.result c.from_residual.ensures.1 in
    let at = field_get c.args.kind c.args.table.now c.forms-forms.result.now c.loop-field.field forms.Byte c.forms-forms.ensures.value (omega arith) in
    rw (p.1, p.2) (row_ends c.args.table.now.bytes false c.in_err-tree.field-0.0 (spots_of c.args.kind c.args.table.now) c.args.levels (room c.args.self.now) (room c.loop-field.self) (room c.field.new.self) c.loop-field.field _
    (plain_all c.loop-field.trees.items) c.loop-field.invariant.0 at c.in_err-tree.ensures.ends)

pub fields-returns-in_err-push-clause-ends : goal.fields-returns-in_err-push-clause-ends
fields-returns-in_err-push-clause-ends t c =
    let h = c.in_ok-tree.ensures.read in
    let at = field_get c.args.kind c.args.table.now c.forms-forms.result.now c.loop-field.field forms.Byte c.forms-forms.ensures.value (omega arith) in
    let next = further c.args.table.now.bytes (spots_of c.args.kind c.args.table.now) c.args.levels (room c.args.self.now) (room c.loop-field.self) (room c.field.new.self) c.loop-field.field _ (plain_all c.loop-field.trees.items) (plain c.in_ok-tree.tree) c.loop-field.invariant.0 at h in
    let failed = err_from_is_err_and c.from_residual-in_err-push.result c.from_residual-in_err-push.ensures.1 in
    rw (failed.1, failed.2) (row_unkept _ _ _ _ _ _ _ _ _ next at)

pub child-returns-in_err-table-in-Some-clause-ends : goal.child-returns-in_err-table-in-Some-clause-ends
child-returns-in_err-table-in-Some-clause-ends t c =
    let there = c.in_err-table-in-Some.ensures in
    let failed = err_from_is_err_and c.from_residual.result c.from_residual.ensures.1 in
    rw (failed.1, failed.2) (ends_child c.args.table.now.bytes c.args.kind c.in-Some.opened (field_place c.args.table.now c.args.field) c.args.levels (room c.args.self.now) there.answer.0 c.in-Some.is there.answer.1 there.answer.2)

pub children-returns-in_err-vector-clause-ends : goal.children-returns-in_err-vector-clause-ends
children-returns-in_err-vector-clause-ends t c =
    let there = c.in_err-vector.ensures in
    let failed = err_from_is_err_and c.from_residual.result c.from_residual.ensures.1 in
    rw (failed.1, failed.2) (ends_there c.args.table.now.bytes (forms.Tables c.args.kind) (field_place c.args.table.now c.args.field) c.args.levels (room c.args.self.now) there.answer.0 there.answer.1
    (ap (option_map (λ v. tables_layer (elements c.args.kind v.place v.count))) there.answer.2))

pub children-returns-in_err-elements-in-Some-clause-ends : goal.children-returns-in_err-elements-in-Some-clause-ends
children-returns-in_err-elements-in-Some-clause-ends t c =
    let v = c.in-Some.vector in
    let there : (p : ℕ) × (field_place c.args.table.now c.args.field ≡ Some p) × (past (vector_at 4) c.args.table.now.bytes p ≡ Some v) = rw c.in-Some.is at c.in_ok-vector.ensures.answer in
    let same : (v.bytes ≡ c.args.table.now.bytes) × (v.size ≡ 4) = rw c.in-Some.is at c.in_ok-vector.ensures.bytes in
    let p = err_from_is_err_and c.from_residual-in_err-elements-in-Some.result c.from_residual-in_err-elements-in-Some.ensures.1 in
    let P : List ℕ → Type 0 = λ bytes. RowEnds bytes true c.in_err-elements-in-Some.field-0.0 (elements c.args.kind v.place v.count) c.args.levels (room c.args.self.now) (room c.elements.new.self) in
    let at = vector_layer c.args.table.now.bytes c.args.kind (field_place c.args.table.now c.args.field) there.0 v there.1 there.2 in
    rw (p.1, p.2) (ends_inside at (subst P same.0 c.in_err-elements-in-Some.ensures.ends))

pub elements-returns-in_err-tree-clause-ends : goal.elements-returns-in_err-tree-clause-ends
elements-returns-in_err-tree-clause-ends t c =
    let at = element_get c.args.kind c.args.vector.now.place c.args.vector.now.count c.loop-index.index (omega arith) in
    let p = err_from_is_err_and c.from_residual.result c.from_residual.ensures.1 in
    rw (p.1, p.2) (row_ends c.args.vector.now.bytes true c.in_err-tree.field-0.0 (elements c.args.kind c.args.vector.now.place c.args.vector.now.count) c.args.levels (room c.args.self.now) (room c.loop-index.self) (room c.element.new.self) c.loop-index.index _
    (plain_all c.loop-index.trees.items) c.loop-index.invariant.0 at c.in_err-tree.ensures.ends)

pub elements-returns-in_err-push-clause-ends : goal.elements-returns-in_err-push-clause-ends
elements-returns-in_err-push-clause-ends t c =
    let at = element_get c.args.kind c.args.vector.now.place c.args.vector.now.count c.loop-index.index (omega arith) in
    let next = further c.args.vector.now.bytes (elements c.args.kind c.args.vector.now.place c.args.vector.now.count) c.args.levels (room c.args.self.now) (room c.loop-index.self) (room c.element.new.self) c.loop-index.index _ (plain_all c.loop-index.trees.items) (plain c.in_ok-tree.tree) c.loop-index.invariant.0 at c.in_ok-tree.ensures.read in
    let failed = err_from_is_err_and c.from_residual-in_err-push.result c.from_residual-in_err-push.ensures.1 in
    rw (failed.1, failed.2) (row_unkept _ _ _ _ _ _ _ _ _ next at)

pub element-returns-in_err-below-clause-ends : goal.element-returns-in_err-below-clause-ends
element-returns-in_err-below-clause-ends t c =
    let lacks = c.in_err-below.ensures.paid in
    let p = err_from_is_err_and c.from_residual.result c.from_residual.ensures.1 in
    let q = c.args.vector.now.place + c.args.index * 4 in
    let s : Spot = record { form = forms.Table c.args.kind; place = Some q } in
    let here : Ends c.args.vector.now.bytes true Metadata s c.args.levels (room c.args.self.now) (room c.args.self.now) = ends_unpaid c.args.kind q refl lacks.1 in
    rw (p.1, p.2, lacks.0) (subst (λ left. Ends c.args.vector.now.bytes true Metadata s c.args.levels (room c.args.self.now) left) (sym c.in_err-below.ensures.unpaid) here)

pub element-returns-in_err-table-clause-ends : goal.element-returns-in_err-table-clause-ends
element-returns-in_err-table-clause-ends t c =
    let q = c.args.vector.now.place + c.args.index * 4 in
    let failed = err_from_is_err_and c.from_residual-in_err-table.result c.from_residual-in_err-table.ensures.1 in
    let nothing = layer_there c.args.vector.now.bytes (forms.Table c.args.kind) (Some q) q refl ∙ ap (option_map (λ t. table_layer c.args.kind (spots_of c.args.kind t))) (sym c.in_err-table.ensures.value) in
    let deep : visit c.args.kind ≤ c.args.levels = omega (arith, c.in_ok-below.ensures.paid.0) in
    rw (failed.1, failed.2) (ends_paid c.args.kind refl nothing deep c.in_ok-below.ensures.paid.1)

pub element-returns-in_err-fields-clause-ends : goal.element-returns-in_err-fields-clause-ends
element-returns-in_err-fields-clause-ends t c =
    let q = c.args.vector.now.place + c.args.index * 4 in
    let b = c.args.vector.now.bytes in
    let ss = spots_of c.args.kind c.in_ok-table.table in
    let there = c.in_ok-table.ensures in
    let paid = c.in_ok-below.ensures.paid in
    let at = element_layer b c.args.kind q c.in_ok-table.table (sym there.value) in
    let P : List ℕ → Type 0 = λ bytes. RowEnds bytes false c.in_err-fields.field-0.0 ss c.in_ok-below.below (room c.enter.new.self) (room c.fields.new.self) in
    let p = err_from_is_err_and c.from_residual-in_err-fields.result c.from_residual-in_err-fields.ensures.1 in
    rw (p.1, p.2) (ends_below at paid.0 paid.1 (subst P there.bytes c.in_err-fields.ensures.ends))

pub child-returns-in-Some-2-clause-ends : goal.child-returns-in-Some-2-clause-ends
child-returns-in-Some-2-clause-ends t c =
    let b = c.args.table.now.bytes in
    let kind = c.in-Some.opened in
    let child = c.in-Some-2.child in
    let there : (p : ℕ) × (field_place c.args.table.now c.args.field ≡ Some p) × (past table_at b p ≡ Some child) = rw c.in-Some-2.is at c.in_ok-table-in-Some.ensures.answer in
    let same : child.bytes ≡ b = rw c.in-Some-2.is at c.in_ok-table-in-Some.ensures.bytes in
    let s = opened c.args.kind (field_place c.args.table.now c.args.field) in
    let at = opened_spot c.args.kind kind (field_place c.args.table.now c.args.field) there.0 c.in-Some.is there.1 in
    let l : layer b s ≡ Some (table_layer kind (spots_of kind child)) = subst (λ r. layer b r ≡ Some (table_layer kind (spots_of kind child))) (sym at) (element_layer b kind there.0 child there.2) in
    let P : List ℕ → Type 0 = λ bytes. IfErr c.table-in-Some-2.result (λ e. (v : Bool) (r : Spot) (p : ℕ) → r ≡ record { form = forms.Table kind; place = Some p } → layer bytes r ≡ Some (table_layer kind (spots_of kind child))
    → Ends bytes v e r c.args.levels (room c.args.self.now) (room c.table-in-Some-2.new.self)) in
    IfErr-weaker c.table-in-Some-2.result _ _ (λ e h. h false s there.0 at l) (subst P same c.table-in-Some-2.ensures.ends)
