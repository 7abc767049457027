use Rattle.std.proofs.Common.{rules, ◌≡◌, ◌+◌, ◌*◌, ◌<◌, ◌≤◌, suc, [], ◌∷◌, length, map, get_or, replicate, set, OnOk, refl, ap, sym, ◌∙◌, subst, arith}
use Rattle.std.specs.Prelude.{not}
use Rattle.std.specs.List.{AllByRecursion}
use Rattle.std.specs.Vec.{with_item, with_items}
use Rattle.std.proofs.lemmas.Grind.{common_steps}
use Rattle.std.proofs.lemmas.List.{with_items_is}
use Rattle.arrow_types.specs.Field.{FieldShape, levels, more, none}
use Rattle.arrow_types.specs.View.{field_view}
use Rattle.arrow_bits.specs.Bitmap.{PutsBit}
use Rattle.arrow_layout.specs.Fits.{Fits}
use Rattle.arrow_layout.specs.PlainValue.{field_value, list_value, null_value, values_of}
use Rattle.arrow_layout.specs.Slots.{is_valid_at, place_of}
use Rattle.arrow_layout.specs.Value.{value_view, values_view}
use Rattle.arrow_layout.specs.declared.form.Form.TheVariants as forms
use Rattle.arrow_layout.specs.declared.form.ListForm.TheVariants as lists
use Rattle.arrow_layout.specs.declared.value.Value.{the_lemmas}
use Rattle.arrow_data.proofs.Lists.{list_again}
use Rattle.arrow_builder.specs.Built.{Built, HaveSlots, built_size, cut_to, fields_in, sized_items, with_parts, with_value, with_values}
use Rattle.arrow_builder.specs.Fields.{FitsField, field_form}
use Rattle.arrow_builder.proofs.Listed.{given_fit, item_has, items_fit, items_more, nulls_more, only_child}
use Rattle.arrow_builder.proofs.Nested.{begun, begun_all, begun_broken, begun_length, begun_more, begun_next, cut_more, field_fits, length_by_cut, long_by_cut, long_counts, parts_cut, size_below, slot_below, slots_by_cut}
use Rattle.arrow_builder.proofs.NodeParts.{children_are, kept_lists, kept_structs, list_grows, list_stays, sized_grows, sized_stays, struct_grows, struct_stays}
use Rattle.arrow_builder.specs.Puts.{PutsValid}
use Rattle.arrow_builder.proofs.NodeSlots.{node_len}
use Rattle.arrow_builder.proofs.Putting.{after_err}
use Rattle.arrow_builder.proofs.node.+push.Goals as goal

pub push_items-push_value-requires : goal.push_items-push_value-requires
push_items-push_value-requires t c =
    let same : c.loop-item.node.field ≡ c.args.node.now.field = ap (λ (b : Built). b.field) c.loop-item.invariant ∙ ap (λ (b : Built). b.field) c.cut.ensures in
    let size = ap (λ (f : FieldShape). levels f.children) same in
    let inside : c.loop-item.item-index < length c.args.items.now = grind (arith, common_steps) in
    let item = c.item-item.result in (
      omega (arith, c.decreases, size),
      subst (λ f. FitsField f (value_view item)) (sym same)
          (subst (λ x. FitsField c.args.node.now.field (value_view x)) (sym c.item-item.is) (item_has (FitsField c.args.node.now.field) c.args.items.now c.loop-item.item-index item inside c.requires.fits)),
    )

pub push_items-loop-item-preserved : goal.push_items-loop-item-preserved
push_items-loop-item-preserved t c =
    let inside : c.loop-item.item-index < length c.args.items.now = grind (arith, common_steps) in
    let item = c.item-item.result in
    c.in_ok-push_value.ensures.ok ∙ (λ i. with_value (c.loop-item.invariant i) (value_view (c.item-item.is i))) ∙ items_more c.cut.new.self c.args.items.now c.loop-item.item-index item inside

pub push_parts-push_at-requires : goal.push_parts-push_at-requires
push_parts-push_at-requires t c =
    let d = c.index-nodes-k.result in
    let here : get_or c.loop-k.nodes c.loop-k.k d ≡ get_or c.args.nodes.now c.loop-k.k d = ap (λ bs. get_or bs c.loop-k.k d) c.loop-k.invariant ∙ begun_next c.loop-k.k 0 c.args.at c.args.nodes.now (value_view c.args.value.now) d in
    let inside : c.loop-k.k < length c.args.nodes.now = omega (arith, c.loop-k-test.true, ap (λ bs. length bs) c.loop-k.invariant, begun_length c.loop-k.k 0 c.args.at c.args.nodes.now (value_view c.args.value.now)) in
    let size = ap (λ (b : Built). built_size b) here in (
      omega (arith, c.decreases, size, size_below c.args.nodes.now c.loop-k.k d inside),
      subst (λ (b : Built). (c.args.at ≤ length b.raw) × FitsField b.field (value_view c.part_of.result.now)) (sym here) (
        slot_below c.args.at c.args.nodes.now c.loop-k.k d inside c.requires.there,
        subst (FitsField (get_or c.args.nodes.now c.loop-k.k d).field) (sym c.part_of.ensures) (field_fits c.args.nodes.now (value_view c.args.value.now) c.loop-k.k d inside c.requires.fits),
      ),
    )

-- the columns if one part could not be put
push_parts-broken : goal.push_parts-returns-in_err-push_at-clause-err
push_parts-broken t c =
    let d = c.index-nodes-k.result in
    let v = value_view c.args.value.now in
    let here : get_or c.loop-k.nodes c.loop-k.k d ≡ get_or c.args.nodes.now c.loop-k.k d = ap (λ bs. get_or bs c.loop-k.k d) c.loop-k.invariant ∙ begun_next c.loop-k.k 0 c.args.at c.args.nodes.now v d in
    after_err c.from_residual.result
    ((λ i. map (cut_to c.args.at) (set (c.loop-k.invariant i) c.loop-k.k ((c.in_err-push_at.ensures.err ∙ ap (cut_to c.args.at) here) i)))
    ∙ begun_broken c.loop-k.k 0 c.args.at c.args.nodes.now v d c.requires.there)

pub push_parts-returns-in_err-push_at-clause-err : goal.push_parts-returns-in_err-push_at-clause-err
push_parts-returns-in_err-push_at-clause-err t c = push_parts-broken t c

pub push_parts-returns-in_err-push_at-clause-long : goal.push_parts-returns-in_err-push_at-clause-long
push_parts-returns-in_err-push_at-clause-long t c =
    let d = c.index-nodes-k.result in
    let v = value_view c.args.value.now in
    let here : get_or c.loop-k.nodes c.loop-k.k d ≡ get_or c.args.nodes.now c.loop-k.k d = ap (λ bs. get_or bs c.loop-k.k d) c.loop-k.invariant ∙ begun_next c.loop-k.k 0 c.args.at c.args.nodes.now v d in
    after_err c.from_residual.result
    (slots_by_cut c.args.at (set c.loop-k.nodes c.loop-k.k c.push_at.new.node) c.args.nodes.now
    ((λ i. map (cut_to c.args.at) (set (c.loop-k.invariant i) c.loop-k.k ((c.in_err-push_at.ensures.err ∙ ap (cut_to c.args.at) here) i)))
    ∙ begun_broken c.loop-k.k 0 c.args.at c.args.nodes.now v d c.requires.there)
    c.requires.there)

pub push_parts-loop-k-preserved : goal.push_parts-loop-k-preserved
push_parts-loop-k-preserved t c =
    let d = c.index-nodes-k.result in
    let k = c.loop-k.k in
    let v = value_view c.args.value.now in
    let here : get_or c.loop-k.nodes k d ≡ get_or c.args.nodes.now k d = ap (λ bs. get_or bs k d) c.loop-k.invariant ∙ begun_next k 0 c.args.at c.args.nodes.now v d in
    let inside : k < length c.args.nodes.now = omega (arith, c.loop-k-test.true, ap (λ bs. length bs) c.loop-k.invariant, begun_length k 0 c.args.at c.args.nodes.now v) in
    let place : k ≡ 0 + k = omega arith in
    let more : suc k ≡ k + 1 = omega arith in
    let put : c.push_at.new.node ≡ with_value (cut_to c.args.at (get_or c.args.nodes.now k d)) (field_value (0 + k) v) =
    c.in_ok-push_at.ensures.ok ∙ (λ i. with_value (cut_to c.args.at (here i)) ((c.part_of.ensures ∙ ap (λ m. field_value m v) place) i)) in
    (λ i. set (c.loop-k.invariant i) k (put i)) ∙ begun_more k 0 c.args.at c.args.nodes.now v d inside ∙ ap (λ n. begun n 0 c.args.at c.args.nodes.now v) more

pub push_parts-returns-clause-ok : goal.push_parts-returns-clause-ok
push_parts-returns-clause-ok t c =
    c.loop-k.invariant ∙ begun_all c.loop-k.k 0 c.args.at c.args.nodes.now (value_view c.args.value.now)
    (omega (arith, c.loop-k-test.false, ap (λ bs. length bs) c.loop-k.invariant, begun_length c.loop-k.k 0 c.args.at c.args.nodes.now (value_view c.args.value.now)))

pub push_row-push_parts-requires : goal.push_row-push_parts-requires
push_row-push_parts-requires t c =
    let v = value_view c.args.value.now in
    let form : field_form (field_view c.node.inside.field) ≡ forms.Structs = ap (λ (b : Built). field_form b.field) c.node.view_is ∙ c.requires.form in
    let kids : c.deref_mut.result.now ≡ c.node.inside.children.items = grind (arith, common_steps) in
    let there : HaveSlots c.node.inside.len c.node.inside.children.items = long_counts c.node.inside.len c.node.inside.children.items (kept_structs c.node.inside form c.node.invariant).longer in
    let below = children_are c.node.inside form c.node.invariant in
    let size : levels (fields_in c.deref_mut.result.now) ≡ built_size c.args.node.now = ap (λ bs. levels (fields_in bs)) kids ∙ ap levels below ∙ ap built_size c.node.view_is in
    let fit = subst (λ (b : Built). FitsField b.field v) (sym c.node.view_is) c.requires.fits in
    let parts : Fits forms.Structs (fields_in c.node.inside.children.items) v =
    subst (λ f. Fits forms.Structs f v) (sym below) (subst (λ f. Fits f (field_view c.node.inside.field).children v) form fit) in (
      omega (arith, c.decreases, size),
      (subst (HaveSlots c.node.inside.len) (sym kids) there, (subst (λ bs. Fits forms.Structs (fields_in bs) v) (sym kids) parts, c.requires.null)),
    )

pub push_row-invariant_of-node : goal.push_row-invariant_of-node
push_row-invariant_of-node t c =
    let form : field_form (field_view c.node.inside.field) ≡ forms.Structs = ap (λ (b : Built). field_form b.field) c.node.view_is ∙ c.requires.form in
    let kids : c.deref_mut.result.now ≡ c.node.inside.children.items = grind (arith, common_steps) in
    let b = record c.node.inside { children = with_items c.node.inside.children c.push_parts.new.nodes } in
    let cut = c.in_err-push_parts.ensures.err ∙ ap (map (cut_to c.node.inside.len)) kids in
    let are : (with_items c.node.inside.children c.push_parts.new.nodes).items ≡ c.push_parts.new.nodes =
    with_items_is c.node.inside.children c.push_parts.new.nodes (length_by_cut c.node.inside.len c.push_parts.new.nodes c.node.inside.children.items cut ∙ sym c.node.inside.children.ok.0) in
    let kept = kept_structs c.node.inside form c.node.invariant in
    let both = struct_stays c.node.inside b form c.node.invariant kept.bits (λ j h. refl) (ap (map (cut_to c.node.inside.len)) are ∙ cut) in
    both.0

pub push_row-returns-in_err-push_parts-clause-err : goal.push_row-returns-in_err-push_parts-clause-err
push_row-returns-in_err-push_parts-clause-err t c =
    let form : field_form (field_view c.node.inside.field) ≡ forms.Structs = ap (λ (b : Built). field_form b.field) c.node.view_is ∙ c.requires.form in
    let kids : c.deref_mut.result.now ≡ c.node.inside.children.items = grind (arith, common_steps) in
    let b = record c.node.inside { children = with_items c.node.inside.children c.push_parts.new.nodes } in
    let cut = c.in_err-push_parts.ensures.err ∙ ap (map (cut_to c.node.inside.len)) kids in
    let are : (with_items c.node.inside.children c.push_parts.new.nodes).items ≡ c.push_parts.new.nodes =
    with_items_is c.node.inside.children c.push_parts.new.nodes (length_by_cut c.node.inside.len c.push_parts.new.nodes c.node.inside.children.items cut ∙ sym c.node.inside.children.ok.0) in
    let kept = kept_structs c.node.inside form c.node.invariant in
    let both = struct_stays c.node.inside b form c.node.invariant kept.bits (λ j h. refl) (ap (map (cut_to c.node.inside.len)) are ∙ cut) in
    after_err c.from_residual.result (both.1 ∙ c.node.view_is)

pub push_row-invariant_of-node-in_err-put_bit : goal.push_row-invariant_of-node-in_err-put_bit
push_row-invariant_of-node-in_err-put_bit t c =
    let form : field_form (field_view c.node.inside.field) ≡ forms.Structs = ap (λ (b : Built). field_form b.field) c.node.view_is ∙ c.requires.form in
    let kids : c.deref_mut.result.now ≡ c.node.inside.children.items = grind (arith, common_steps) in
    let there : HaveSlots c.node.inside.len c.node.inside.children.items = long_counts c.node.inside.len c.node.inside.children.items (kept_structs c.node.inside form c.node.invariant).longer in
    let v = value_view c.args.value.now in
    let b = record c.node.inside { buffers = record c.node.inside.buffers { validity = c.put_bit.new.bytes }; children = with_items c.node.inside.children c.push_parts.new.nodes } in
    let kept = kept_structs c.node.inside form c.node.invariant in
    let parts : c.push_parts.new.nodes ≡ with_parts 0 c.node.inside.len c.node.inside.children.items v = c.in_ok-push_parts.ensures.ok ∙ ap (λ bs. with_parts 0 c.node.inside.len bs v) kids in
    let cut = ap (map (cut_to c.node.inside.len)) parts ∙ parts_cut 0 c.node.inside.len c.node.inside.children.items v there in
    let are : (with_items c.node.inside.children c.push_parts.new.nodes).items ≡ c.push_parts.new.nodes =
    with_items_is c.node.inside.children c.push_parts.new.nodes (length_by_cut c.node.inside.len c.push_parts.new.nodes c.node.inside.children.items cut ∙ sym c.node.inside.children.ok.0) in
    let bits = c.in_err-put_bit.ensures.err in
    let both = struct_stays c.node.inside b form c.node.invariant (rw bits kept.bits) (λ j h. ap (λ x. is_valid_at x j) bits) (ap (map (cut_to c.node.inside.len)) are ∙ cut) in
    both.0

pub push_row-returns-in_err-put_bit-clause-err : goal.push_row-returns-in_err-put_bit-clause-err
push_row-returns-in_err-put_bit-clause-err t c =
    let form : field_form (field_view c.node.inside.field) ≡ forms.Structs = ap (λ (b : Built). field_form b.field) c.node.view_is ∙ c.requires.form in
    let kids : c.deref_mut.result.now ≡ c.node.inside.children.items = grind (arith, common_steps) in
    let there : HaveSlots c.node.inside.len c.node.inside.children.items = long_counts c.node.inside.len c.node.inside.children.items (kept_structs c.node.inside form c.node.invariant).longer in
    let v = value_view c.args.value.now in
    let b = record c.node.inside { buffers = record c.node.inside.buffers { validity = c.put_bit.new.bytes }; children = with_items c.node.inside.children c.push_parts.new.nodes } in
    let kept = kept_structs c.node.inside form c.node.invariant in
    let parts : c.push_parts.new.nodes ≡ with_parts 0 c.node.inside.len c.node.inside.children.items v = c.in_ok-push_parts.ensures.ok ∙ ap (λ bs. with_parts 0 c.node.inside.len bs v) kids in
    let cut = ap (map (cut_to c.node.inside.len)) parts ∙ parts_cut 0 c.node.inside.len c.node.inside.children.items v there in
    let are : (with_items c.node.inside.children c.push_parts.new.nodes).items ≡ c.push_parts.new.nodes =
    with_items_is c.node.inside.children c.push_parts.new.nodes (length_by_cut c.node.inside.len c.push_parts.new.nodes c.node.inside.children.items cut ∙ sym c.node.inside.children.ok.0) in
    let bits = c.in_err-put_bit.ensures.err in
    let both = struct_stays c.node.inside b form c.node.invariant (rw bits kept.bits) (λ j h. ap (λ x. is_valid_at x j) bits) (ap (map (cut_to c.node.inside.len)) are ∙ cut) in
    after_err c.from_residual-in_err-put_bit.result (both.1 ∙ c.node.view_is)

pub push_row-invariant_of-node-2 : goal.push_row-invariant_of-node-2
push_row-invariant_of-node-2 t c =
    let form : field_form (field_view c.node.inside.field) ≡ forms.Structs = ap (λ (b : Built). field_form b.field) c.node.view_is ∙ c.requires.form in
    let kids : c.deref_mut.result.now ≡ c.node.inside.children.items = grind (arith, common_steps) in
    let v = value_view c.args.value.now in
    let b = record c.node.inside { buffers = record c.node.inside.buffers { validity = c.put_bit.new.bytes }; children = with_items c.node.inside.children c.push_parts.new.nodes } in
    let parts : c.push_parts.new.nodes ≡ with_parts 0 c.node.inside.len c.node.inside.children.items v = c.in_ok-push_parts.ensures.ok ∙ ap (λ bs. with_parts 0 c.node.inside.len bs v) kids in
    let fit = subst (λ (b : Built). FitsField b.field v) (sym c.node.view_is) c.requires.fits in
    let few : c.node.inside.len < 2147483647 = omega (arith, c.requires.few, node_len c.node.inside c.args.node.now c.node.view_is) in
    let bit = subst (λ x. PutsBit c.node.inside.len (not x) c.node.inside.buffers.validity.items c.put_bit.new.bytes.items) c.is_null.ensures c.in_ok-put_bit.ensures.ok in
    let there : HaveSlots c.node.inside.len c.node.inside.children.items = long_counts c.node.inside.len c.node.inside.children.items (kept_structs c.node.inside form c.node.invariant).longer in
    let cut = ap (map (cut_to c.node.inside.len)) parts ∙ parts_cut 0 c.node.inside.len c.node.inside.children.items v there in
    let are : (with_items c.node.inside.children c.push_parts.new.nodes).items ≡ c.push_parts.new.nodes =
    with_items_is c.node.inside.children c.push_parts.new.nodes (length_by_cut c.node.inside.len c.push_parts.new.nodes c.node.inside.children.items cut ∙ sym c.node.inside.children.ok.0) in
    let both = struct_grows c.node.inside b v form few c.node.invariant fit bit (are ∙ parts) in
    both.0

pub push_row-returns-clause-ok : goal.push_row-returns-clause-ok
push_row-returns-clause-ok t c =
    let form : field_form (field_view c.node.inside.field) ≡ forms.Structs = ap (λ (b : Built). field_form b.field) c.node.view_is ∙ c.requires.form in
    let kids : c.deref_mut.result.now ≡ c.node.inside.children.items = grind (arith, common_steps) in
    let v = value_view c.args.value.now in
    let b = record c.node.inside { buffers = record c.node.inside.buffers { validity = c.put_bit.new.bytes }; children = with_items c.node.inside.children c.push_parts.new.nodes } in
    let parts : c.push_parts.new.nodes ≡ with_parts 0 c.node.inside.len c.node.inside.children.items v = c.in_ok-push_parts.ensures.ok ∙ ap (λ bs. with_parts 0 c.node.inside.len bs v) kids in
    let fit = subst (λ (b : Built). FitsField b.field v) (sym c.node.view_is) c.requires.fits in
    let few : c.node.inside.len < 2147483647 = omega (arith, c.requires.few, node_len c.node.inside c.args.node.now c.node.view_is) in
    let bit = subst (λ x. PutsBit c.node.inside.len (not x) c.node.inside.buffers.validity.items c.put_bit.new.bytes.items) c.is_null.ensures c.in_ok-put_bit.ensures.ok in
    let there : HaveSlots c.node.inside.len c.node.inside.children.items = long_counts c.node.inside.len c.node.inside.children.items (kept_structs c.node.inside form c.node.invariant).longer in
    let cut = ap (map (cut_to c.node.inside.len)) parts ∙ parts_cut 0 c.node.inside.len c.node.inside.children.items v there in
    let are : (with_items c.node.inside.children c.push_parts.new.nodes).items ≡ c.push_parts.new.nodes =
    with_items_is c.node.inside.children c.push_parts.new.nodes (length_by_cut c.node.inside.len c.push_parts.new.nodes c.node.inside.children.items cut ∙ sym c.node.inside.children.ok.0) in
    let both = struct_grows c.node.inside b v form few c.node.invariant fit bit (are ∙ parts) in
    both.1 ∙ ap (λ (b : Built). with_value b v) c.node.view_is

pub push_list-push_items-requires : goal.push_list-push_items-requires
push_list-push_items-requires t c =
    let v = value_view c.args.value.now in
    let a = c.node.inside in
    let form : field_form (field_view a.field) ≡ forms.Lists (lists.Offsets c.args.width) = ap (λ (b : Built). field_form b.field) c.node.view_is ∙ c.requires.form in
    let o = only_child (field_view a.field).head.tag (field_view a.field).head.encoding (field_view a.field).children a.children.items (lists.Offsets c.args.width) form c.node.invariant.own c.node.invariant.below in
    let kept = kept_lists a (lists.Offsets c.args.width) o.child form o.only c.node.invariant in
    let child : c.index_mut.result.now ≡ o.child = c.index_mut.ensures.value ∙ ap (λ bs. get_or bs 0 c.index_mut.result.now) o.only in
    let start : c.place_at-start.result ≡ place_of c.args.width a.buffers.values.items a.len = grind (arith, common_steps) in
    let fit = subst (λ (b : Built). FitsField b.field v) (sym c.node.view_is) c.requires.fits in
    let fits = items_fit o.child (field_view a.field).children c.args.width v (values_view c.items_in.result.now) o.field (subst (λ f. Fits f (field_view a.field).children v) form fit) c.items_in.ensures in
    let size : built_size c.args.node.now ≡ levels (more o.child.field.head o.child.field.children none) = sym (ap built_size c.node.view_is) ∙ ap levels o.field in
    let small = ap built_size child in (
      omega (arith, c.decreases, size, small),
      (omega (arith, start, kept.inside, ap (λ (b : Built). length b.raw) child), subst (λ (b : Built). AllByRecursion (FitsField b.field) (values_view c.items_in.result.now)) (sym child) fits),
    )

pub push_list-invariant_of-node : goal.push_list-invariant_of-node
push_list-invariant_of-node t c =
    let a = c.node.inside in
    let form : field_form (field_view a.field) ≡ forms.Lists (lists.Offsets c.args.width) = ap (λ (b : Built). field_form b.field) c.node.view_is ∙ c.requires.form in
    let o = only_child (field_view a.field).head.tag (field_view a.field).head.encoding (field_view a.field).children a.children.items (lists.Offsets c.args.width) form c.node.invariant.own c.node.invariant.below in
    let kept = kept_lists a (lists.Offsets c.args.width) o.child form o.only c.node.invariant in
    let child : c.index_mut.result.now ≡ o.child = c.index_mut.ensures.value ∙ ap (λ bs. get_or bs 0 c.index_mut.result.now) o.only in
    let start : c.place_at-start.result ≡ place_of c.args.width a.buffers.values.items a.len = grind (arith, common_steps) in
    let b = record a { children = with_item a.children 0 c.push_items.new.node } in
    let only' : (with_item a.children 0 c.push_items.new.node).items ≡ c.push_items.new.node ∷ [] = ap (λ bs. set bs 0 c.push_items.new.node) o.only in
    let cut = subst (λ n. cut_to n c.push_items.new.node ≡ cut_to n c.index_mut.result.now) start c.in_err-push_items.ensures.err ∙ ap (cut_to (place_of c.args.width a.buffers.values.items a.len)) child in
    let both = list_stays a b c.args.width o.child c.push_items.new.node form o.only only' c.node.invariant cut kept.ranges (λ j h. refl) (λ j h. refl) (omega (arith, start, c.in_err-push_items.ensures.long)) in
    both.0

pub push_list-returns-in_err-push_items-clause-err : goal.push_list-returns-in_err-push_items-clause-err
push_list-returns-in_err-push_items-clause-err t c =
    let a = c.node.inside in
    let form : field_form (field_view a.field) ≡ forms.Lists (lists.Offsets c.args.width) = ap (λ (b : Built). field_form b.field) c.node.view_is ∙ c.requires.form in
    let o = only_child (field_view a.field).head.tag (field_view a.field).head.encoding (field_view a.field).children a.children.items (lists.Offsets c.args.width) form c.node.invariant.own c.node.invariant.below in
    let kept = kept_lists a (lists.Offsets c.args.width) o.child form o.only c.node.invariant in
    let child : c.index_mut.result.now ≡ o.child = c.index_mut.ensures.value ∙ ap (λ bs. get_or bs 0 c.index_mut.result.now) o.only in
    let start : c.place_at-start.result ≡ place_of c.args.width a.buffers.values.items a.len = grind (arith, common_steps) in
    let b = record a { children = with_item a.children 0 c.push_items.new.node } in
    let only' : (with_item a.children 0 c.push_items.new.node).items ≡ c.push_items.new.node ∷ [] = ap (λ bs. set bs 0 c.push_items.new.node) o.only in
    let cut = subst (λ n. cut_to n c.push_items.new.node ≡ cut_to n c.index_mut.result.now) start c.in_err-push_items.ensures.err ∙ ap (cut_to (place_of c.args.width a.buffers.values.items a.len)) child in
    let both = list_stays a b c.args.width o.child c.push_items.new.node form o.only only' c.node.invariant cut kept.ranges (λ j h. refl) (λ j h. refl) (omega (arith, start, c.in_err-push_items.ensures.long)) in
    after_err c.from_residual.result (both.1 ∙ c.node.view_is)

pub push_list-invariant_of-node-in_err-put_range : goal.push_list-invariant_of-node-in_err-put_range
push_list-invariant_of-node-in_err-put_range t c =
    let a = c.node.inside in
    let form : field_form (field_view a.field) ≡ forms.Lists (lists.Offsets c.args.width) = ap (λ (b : Built). field_form b.field) c.node.view_is ∙ c.requires.form in
    let o = only_child (field_view a.field).head.tag (field_view a.field).head.encoding (field_view a.field).children a.children.items (lists.Offsets c.args.width) form c.node.invariant.own c.node.invariant.below in
    let kept = kept_lists a (lists.Offsets c.args.width) o.child form o.only c.node.invariant in
    let child : c.index_mut.result.now ≡ o.child = c.index_mut.ensures.value ∙ ap (λ bs. get_or bs 0 c.index_mut.result.now) o.only in
    let start : c.place_at-start.result ≡ place_of c.args.width a.buffers.values.items a.len = grind (arith, common_steps) in
    let v = value_view c.args.value.now in
    let vs = values_view c.items_in.result.now in
    let b = record a { buffers = c.put_range.new.buffers; children = with_item a.children 0 c.push_items.new.node } in
    let only' : (with_item a.children 0 c.push_items.new.node).items ≡ c.push_items.new.node ∷ [] = ap (λ bs. set bs 0 c.push_items.new.node) o.only in
    let grown : c.push_items.new.node ≡ with_values (cut_to (place_of c.args.width a.buffers.values.items a.len) o.child) vs = c.in_ok-push_items.ensures.ok ∙ (λ i. with_values (cut_to (start i) (child i)) vs) in
    let cut = ap (cut_to (place_of c.args.width a.buffers.values.items a.len)) grown ∙ cut_more (place_of c.args.width a.buffers.values.items a.len) o.child vs kept.inside in
    let long = long_by_cut (place_of c.args.width a.buffers.values.items a.len) c.push_items.new.node o.child cut kept.inside in
    let same = c.in_err-put_range.ensures.same in
    let both = list_stays a b c.args.width o.child c.push_items.new.node form o.only only' c.node.invariant cut c.in_err-put_range.ensures.held (λ j h. ap (λ x. is_valid_at x j) same) c.in_err-put_range.ensures.places long in
    both.0

pub push_list-returns-in_err-put_range-clause-err : goal.push_list-returns-in_err-put_range-clause-err
push_list-returns-in_err-put_range-clause-err t c =
    let a = c.node.inside in
    let form : field_form (field_view a.field) ≡ forms.Lists (lists.Offsets c.args.width) = ap (λ (b : Built). field_form b.field) c.node.view_is ∙ c.requires.form in
    let o = only_child (field_view a.field).head.tag (field_view a.field).head.encoding (field_view a.field).children a.children.items (lists.Offsets c.args.width) form c.node.invariant.own c.node.invariant.below in
    let kept = kept_lists a (lists.Offsets c.args.width) o.child form o.only c.node.invariant in
    let child : c.index_mut.result.now ≡ o.child = c.index_mut.ensures.value ∙ ap (λ bs. get_or bs 0 c.index_mut.result.now) o.only in
    let start : c.place_at-start.result ≡ place_of c.args.width a.buffers.values.items a.len = grind (arith, common_steps) in
    let v = value_view c.args.value.now in
    let vs = values_view c.items_in.result.now in
    let b = record a { buffers = c.put_range.new.buffers; children = with_item a.children 0 c.push_items.new.node } in
    let only' : (with_item a.children 0 c.push_items.new.node).items ≡ c.push_items.new.node ∷ [] = ap (λ bs. set bs 0 c.push_items.new.node) o.only in
    let grown : c.push_items.new.node ≡ with_values (cut_to (place_of c.args.width a.buffers.values.items a.len) o.child) vs = c.in_ok-push_items.ensures.ok ∙ (λ i. with_values (cut_to (start i) (child i)) vs) in
    let cut = ap (cut_to (place_of c.args.width a.buffers.values.items a.len)) grown ∙ cut_more (place_of c.args.width a.buffers.values.items a.len) o.child vs kept.inside in
    let long = long_by_cut (place_of c.args.width a.buffers.values.items a.len) c.push_items.new.node o.child cut kept.inside in
    let same = c.in_err-put_range.ensures.same in
    let both = list_stays a b c.args.width o.child c.push_items.new.node form o.only only' c.node.invariant cut c.in_err-put_range.ensures.held (λ j h. ap (λ x. is_valid_at x j) same) c.in_err-put_range.ensures.places long in
    after_err c.from_residual-in_err-put_range.result (both.1 ∙ c.node.view_is)

pub push_list-invariant_of-node-2 : goal.push_list-invariant_of-node-2
push_list-invariant_of-node-2 t c =
    let a = c.node.inside in
    let form : field_form (field_view a.field) ≡ forms.Lists (lists.Offsets c.args.width) = ap (λ (b : Built). field_form b.field) c.node.view_is ∙ c.requires.form in
    let o = only_child (field_view a.field).head.tag (field_view a.field).head.encoding (field_view a.field).children a.children.items (lists.Offsets c.args.width) form c.node.invariant.own c.node.invariant.below in
    let kept = kept_lists a (lists.Offsets c.args.width) o.child form o.only c.node.invariant in
    let child : c.index_mut.result.now ≡ o.child = c.index_mut.ensures.value ∙ ap (λ bs. get_or bs 0 c.index_mut.result.now) o.only in
    let start : c.place_at-start.result ≡ place_of c.args.width a.buffers.values.items a.len = grind (arith, common_steps) in
    let v = value_view c.args.value.now in
    let vs = values_view c.items_in.result.now in
    let b = record a { buffers = c.put_range.new.buffers; children = with_item a.children 0 c.push_items.new.node } in
    let only' : (with_item a.children 0 c.push_items.new.node).items ≡ c.push_items.new.node ∷ [] = ap (λ bs. set bs 0 c.push_items.new.node) o.only in
    let grown : c.push_items.new.node ≡ with_values (cut_to (place_of c.args.width a.buffers.values.items a.len) o.child) vs = c.in_ok-push_items.ensures.ok ∙ (λ i. with_values (cut_to (start i) (child i)) vs) in
    let fit = subst (λ (b : Built). FitsField b.field v) (sym c.node.view_is) c.requires.fits in
    let few : a.len < 2147483647 = omega (arith, c.requires.few, node_len a c.args.node.now c.node.view_is) in
    let end : c.len-end.result ≡ length c.push_items.new.node.raw = grind (arith, common_steps) in
    let valid = subst (λ x. PutsValid a.len (not x) a.buffers.validity.items c.put_range.new.buffers.validity.items) c.is_null.ensures c.in_ok-put_range.ensures.valid in
    let both = list_grows a b c.args.width o.child c.push_items.new.node v vs form o.only only' few c.node.invariant fit grown c.items_in.ensures c.in_ok-put_range.ensures.kept (c.in_ok-put_range.ensures.end ∙ end) valid c.in_ok-put_range.ensures.places in
    both.0

pub push_list-returns-clause-ok : goal.push_list-returns-clause-ok
push_list-returns-clause-ok t c =
    let a = c.node.inside in
    let form : field_form (field_view a.field) ≡ forms.Lists (lists.Offsets c.args.width) = ap (λ (b : Built). field_form b.field) c.node.view_is ∙ c.requires.form in
    let o = only_child (field_view a.field).head.tag (field_view a.field).head.encoding (field_view a.field).children a.children.items (lists.Offsets c.args.width) form c.node.invariant.own c.node.invariant.below in
    let kept = kept_lists a (lists.Offsets c.args.width) o.child form o.only c.node.invariant in
    let child : c.index_mut.result.now ≡ o.child = c.index_mut.ensures.value ∙ ap (λ bs. get_or bs 0 c.index_mut.result.now) o.only in
    let start : c.place_at-start.result ≡ place_of c.args.width a.buffers.values.items a.len = grind (arith, common_steps) in
    let v = value_view c.args.value.now in
    let vs = values_view c.items_in.result.now in
    let b = record a { buffers = c.put_range.new.buffers; children = with_item a.children 0 c.push_items.new.node } in
    let only' : (with_item a.children 0 c.push_items.new.node).items ≡ c.push_items.new.node ∷ [] = ap (λ bs. set bs 0 c.push_items.new.node) o.only in
    let grown : c.push_items.new.node ≡ with_values (cut_to (place_of c.args.width a.buffers.values.items a.len) o.child) vs = c.in_ok-push_items.ensures.ok ∙ (λ i. with_values (cut_to (start i) (child i)) vs) in
    let fit = subst (λ (b : Built). FitsField b.field v) (sym c.node.view_is) c.requires.fits in
    let few : a.len < 2147483647 = omega (arith, c.requires.few, node_len a c.args.node.now c.node.view_is) in
    let end : c.len-end.result ≡ length c.push_items.new.node.raw = grind (arith, common_steps) in
    let valid = subst (λ x. PutsValid a.len (not x) a.buffers.validity.items c.put_range.new.buffers.validity.items) c.is_null.ensures c.in_ok-put_range.ensures.valid in
    let both = list_grows a b c.args.width o.child c.push_items.new.node v vs form o.only only' few c.node.invariant fit grown c.items_in.ensures c.in_ok-put_range.ensures.kept (c.in_ok-put_range.ensures.end ∙ end) valid c.in_ok-put_range.ensures.places in
    both.1 ∙ ap (λ (b : Built). with_value b v) c.node.view_is

pub push_run-push_slots-requires : goal.push_run-push_slots-requires
push_run-push_slots-requires t c =
    let v = value_view c.args.value.now in
    let a = c.node.inside in
    let size = c.args.size in
    let form : field_form (field_view a.field) ≡ forms.Lists (lists.Fixed size) = ap (λ (b : Built). field_form b.field) c.node.view_is ∙ c.requires.form in
    let o = only_child (field_view a.field).head.tag (field_view a.field).head.encoding (field_view a.field).children a.children.items (lists.Fixed size) form c.node.invariant.own c.node.invariant.below in
    let kept = kept_lists a (lists.Fixed size) o.child form o.only c.node.invariant in
    let child : c.index_mut.result.now ≡ o.child = c.index_mut.ensures.value ∙ ap (λ bs. get_or bs 0 c.index_mut.result.now) o.only in
    let start : c.sized_place-start.result ≡ size * a.len = grind (arith, common_steps) in
    let fit = subst (λ (b : Built). FitsField b.field v) (sym c.node.view_is) c.requires.fits in
    let fits = given_fit o.child (field_view a.field).children (lists.Fixed size) v o.field (subst (λ f. Fits f (field_view a.field).children v) form fit) in
    let room : built_size c.args.node.now ≡ levels (more o.child.field.head o.child.field.children none) = sym (ap built_size c.node.view_is) ∙ ap levels o.field in
    let small = ap built_size child in (
      omega (arith, c.decreases, room, small),
      (
        omega (arith, start, kept.inside, ap (λ (b : Built). length b.raw) child),
        (subst (λ (b : Built). AllByRecursion (FitsField b.field) (sized_items size v)) (sym child) fits, c.requires.null),
      ),
    )

pub push_run-invariant_of-node : goal.push_run-invariant_of-node
push_run-invariant_of-node t c =
    let a = c.node.inside in
    let size = c.args.size in
    let form : field_form (field_view a.field) ≡ forms.Lists (lists.Fixed size) = ap (λ (b : Built). field_form b.field) c.node.view_is ∙ c.requires.form in
    let o = only_child (field_view a.field).head.tag (field_view a.field).head.encoding (field_view a.field).children a.children.items (lists.Fixed size) form c.node.invariant.own c.node.invariant.below in
    let kept = kept_lists a (lists.Fixed size) o.child form o.only c.node.invariant in
    let child : c.index_mut.result.now ≡ o.child = c.index_mut.ensures.value ∙ ap (λ bs. get_or bs 0 c.index_mut.result.now) o.only in
    let start : c.sized_place-start.result ≡ size * a.len = grind (arith, common_steps) in
    let b = record a { children = with_item a.children 0 c.push_slots.new.node } in
    let only' : (with_item a.children 0 c.push_slots.new.node).items ≡ c.push_slots.new.node ∷ [] = ap (λ bs. set bs 0 c.push_slots.new.node) o.only in
    let cut = subst (λ n. cut_to n c.push_slots.new.node ≡ cut_to n c.index_mut.result.now) start c.in_err-push_slots.ensures.err ∙ ap (cut_to (size * a.len)) child in
    let both = sized_stays a b size o.child c.push_slots.new.node form o.only only' c.node.invariant cut kept.bits (λ j h. refl) (omega (arith, start, c.in_err-push_slots.ensures.long)) in
    both.0

pub push_run-returns-in_err-push_slots-clause-err : goal.push_run-returns-in_err-push_slots-clause-err
push_run-returns-in_err-push_slots-clause-err t c =
    let a = c.node.inside in
    let size = c.args.size in
    let form : field_form (field_view a.field) ≡ forms.Lists (lists.Fixed size) = ap (λ (b : Built). field_form b.field) c.node.view_is ∙ c.requires.form in
    let o = only_child (field_view a.field).head.tag (field_view a.field).head.encoding (field_view a.field).children a.children.items (lists.Fixed size) form c.node.invariant.own c.node.invariant.below in
    let kept = kept_lists a (lists.Fixed size) o.child form o.only c.node.invariant in
    let child : c.index_mut.result.now ≡ o.child = c.index_mut.ensures.value ∙ ap (λ bs. get_or bs 0 c.index_mut.result.now) o.only in
    let start : c.sized_place-start.result ≡ size * a.len = grind (arith, common_steps) in
    let b = record a { children = with_item a.children 0 c.push_slots.new.node } in
    let only' : (with_item a.children 0 c.push_slots.new.node).items ≡ c.push_slots.new.node ∷ [] = ap (λ bs. set bs 0 c.push_slots.new.node) o.only in
    let cut = subst (λ n. cut_to n c.push_slots.new.node ≡ cut_to n c.index_mut.result.now) start c.in_err-push_slots.ensures.err ∙ ap (cut_to (size * a.len)) child in
    let both = sized_stays a b size o.child c.push_slots.new.node form o.only only' c.node.invariant cut kept.bits (λ j h. refl) (omega (arith, start, c.in_err-push_slots.ensures.long)) in
    after_err c.from_residual.result (both.1 ∙ c.node.view_is)

pub push_run-invariant_of-node-in_err-put_bit : goal.push_run-invariant_of-node-in_err-put_bit
push_run-invariant_of-node-in_err-put_bit t c =
    let a = c.node.inside in
    let size = c.args.size in
    let form : field_form (field_view a.field) ≡ forms.Lists (lists.Fixed size) = ap (λ (b : Built). field_form b.field) c.node.view_is ∙ c.requires.form in
    let o = only_child (field_view a.field).head.tag (field_view a.field).head.encoding (field_view a.field).children a.children.items (lists.Fixed size) form c.node.invariant.own c.node.invariant.below in
    let kept = kept_lists a (lists.Fixed size) o.child form o.only c.node.invariant in
    let child : c.index_mut.result.now ≡ o.child = c.index_mut.ensures.value ∙ ap (λ bs. get_or bs 0 c.index_mut.result.now) o.only in
    let start : c.sized_place-start.result ≡ size * a.len = grind (arith, common_steps) in
    let v = value_view c.args.value.now in
    let b = record a { buffers = record a.buffers { validity = c.put_bit.new.bytes }; children = with_item a.children 0 c.push_slots.new.node } in
    let only' : (with_item a.children 0 c.push_slots.new.node).items ≡ c.push_slots.new.node ∷ [] = ap (λ bs. set bs 0 c.push_slots.new.node) o.only in
    let grown : c.push_slots.new.node ≡ with_values (cut_to (size * a.len) o.child) (sized_items size v) = c.in_ok-push_slots.ensures.ok ∙ (λ i. with_values (cut_to (start i) (child i)) (sized_items size v)) in
    let cut = ap (cut_to (size * a.len)) grown ∙ cut_more (size * a.len) o.child (sized_items size v) kept.inside in
    let long = long_by_cut (size * a.len) c.push_slots.new.node o.child cut kept.inside in
    let bits = c.in_err-put_bit.ensures.err in
    let both = sized_stays a b size o.child c.push_slots.new.node form o.only only' c.node.invariant cut (rw bits kept.bits) (λ j h. ap (λ x. is_valid_at x j) bits) long in
    both.0

pub push_run-returns-in_err-put_bit-clause-err : goal.push_run-returns-in_err-put_bit-clause-err
push_run-returns-in_err-put_bit-clause-err t c =
    let a = c.node.inside in
    let size = c.args.size in
    let form : field_form (field_view a.field) ≡ forms.Lists (lists.Fixed size) = ap (λ (b : Built). field_form b.field) c.node.view_is ∙ c.requires.form in
    let o = only_child (field_view a.field).head.tag (field_view a.field).head.encoding (field_view a.field).children a.children.items (lists.Fixed size) form c.node.invariant.own c.node.invariant.below in
    let kept = kept_lists a (lists.Fixed size) o.child form o.only c.node.invariant in
    let child : c.index_mut.result.now ≡ o.child = c.index_mut.ensures.value ∙ ap (λ bs. get_or bs 0 c.index_mut.result.now) o.only in
    let start : c.sized_place-start.result ≡ size * a.len = grind (arith, common_steps) in
    let v = value_view c.args.value.now in
    let b = record a { buffers = record a.buffers { validity = c.put_bit.new.bytes }; children = with_item a.children 0 c.push_slots.new.node } in
    let only' : (with_item a.children 0 c.push_slots.new.node).items ≡ c.push_slots.new.node ∷ [] = ap (λ bs. set bs 0 c.push_slots.new.node) o.only in
    let grown : c.push_slots.new.node ≡ with_values (cut_to (size * a.len) o.child) (sized_items size v) = c.in_ok-push_slots.ensures.ok ∙ (λ i. with_values (cut_to (start i) (child i)) (sized_items size v)) in
    let cut = ap (cut_to (size * a.len)) grown ∙ cut_more (size * a.len) o.child (sized_items size v) kept.inside in
    let long = long_by_cut (size * a.len) c.push_slots.new.node o.child cut kept.inside in
    let bits = c.in_err-put_bit.ensures.err in
    let both = sized_stays a b size o.child c.push_slots.new.node form o.only only' c.node.invariant cut (rw bits kept.bits) (λ j h. ap (λ x. is_valid_at x j) bits) long in
    after_err c.from_residual-in_err-put_bit.result (both.1 ∙ c.node.view_is)

pub push_run-invariant_of-node-2 : goal.push_run-invariant_of-node-2
push_run-invariant_of-node-2 t c =
    let a = c.node.inside in
    let size = c.args.size in
    let form : field_form (field_view a.field) ≡ forms.Lists (lists.Fixed size) = ap (λ (b : Built). field_form b.field) c.node.view_is ∙ c.requires.form in
    let o = only_child (field_view a.field).head.tag (field_view a.field).head.encoding (field_view a.field).children a.children.items (lists.Fixed size) form c.node.invariant.own c.node.invariant.below in
    let kept = kept_lists a (lists.Fixed size) o.child form o.only c.node.invariant in
    let child : c.index_mut.result.now ≡ o.child = c.index_mut.ensures.value ∙ ap (λ bs. get_or bs 0 c.index_mut.result.now) o.only in
    let start : c.sized_place-start.result ≡ size * a.len = grind (arith, common_steps) in
    let v = value_view c.args.value.now in
    let b = record a { buffers = record a.buffers { validity = c.put_bit.new.bytes }; children = with_item a.children 0 c.push_slots.new.node } in
    let only' : (with_item a.children 0 c.push_slots.new.node).items ≡ c.push_slots.new.node ∷ [] = ap (λ bs. set bs 0 c.push_slots.new.node) o.only in
    let grown : c.push_slots.new.node ≡ with_values (cut_to (size * a.len) o.child) (sized_items size v) = c.in_ok-push_slots.ensures.ok ∙ (λ i. with_values (cut_to (start i) (child i)) (sized_items size v)) in
    let fit = subst (λ (b : Built). FitsField b.field v) (sym c.node.view_is) c.requires.fits in
    let few : a.len < 2147483647 = omega (arith, c.requires.few, node_len a c.args.node.now c.node.view_is) in
    let bit = subst (λ x. PutsBit a.len (not x) a.buffers.validity.items c.put_bit.new.bytes.items) c.is_null.ensures c.in_ok-put_bit.ensures.ok in
    let both = sized_grows a b size o.child c.push_slots.new.node v form o.only only' few c.node.invariant fit grown bit in
    both.0

pub push_run-returns-clause-ok : goal.push_run-returns-clause-ok
push_run-returns-clause-ok t c =
    let a = c.node.inside in
    let size = c.args.size in
    let form : field_form (field_view a.field) ≡ forms.Lists (lists.Fixed size) = ap (λ (b : Built). field_form b.field) c.node.view_is ∙ c.requires.form in
    let o = only_child (field_view a.field).head.tag (field_view a.field).head.encoding (field_view a.field).children a.children.items (lists.Fixed size) form c.node.invariant.own c.node.invariant.below in
    let kept = kept_lists a (lists.Fixed size) o.child form o.only c.node.invariant in
    let child : c.index_mut.result.now ≡ o.child = c.index_mut.ensures.value ∙ ap (λ bs. get_or bs 0 c.index_mut.result.now) o.only in
    let start : c.sized_place-start.result ≡ size * a.len = grind (arith, common_steps) in
    let v = value_view c.args.value.now in
    let b = record a { buffers = record a.buffers { validity = c.put_bit.new.bytes }; children = with_item a.children 0 c.push_slots.new.node } in
    let only' : (with_item a.children 0 c.push_slots.new.node).items ≡ c.push_slots.new.node ∷ [] = ap (λ bs. set bs 0 c.push_slots.new.node) o.only in
    let grown : c.push_slots.new.node ≡ with_values (cut_to (size * a.len) o.child) (sized_items size v) = c.in_ok-push_slots.ensures.ok ∙ (λ i. with_values (cut_to (start i) (child i)) (sized_items size v)) in
    let fit = subst (λ (b : Built). FitsField b.field v) (sym c.node.view_is) c.requires.fits in
    let few : a.len < 2147483647 = omega (arith, c.requires.few, node_len a c.args.node.now c.node.view_is) in
    let bit = subst (λ x. PutsBit a.len (not x) a.buffers.validity.items c.put_bit.new.bytes.items) c.is_null.ensures c.in_ok-put_bit.ensures.ok in
    let both = sized_grows a b size o.child c.push_slots.new.node v form o.only only' few c.node.invariant fit grown bit in
    both.1 ∙ ap (λ (b : Built). with_value b v) c.node.view_is

pub push_slots-push_items-requires : goal.push_slots-push_items-requires
push_slots-push_items-requires t c =
    let v = value_view c.args.value.now in
    let items = values_view c.in-List.items.items in
    let is : v ≡ list_value (values_of items) = ap value_view c.in-List.is ∙ search (rules, the_lemmas) in
    let same : values_view c.deref.result.now ≡ sized_items c.args.size v = ap values_view c.deref.ensures.value ∙ sym (list_again items) ∙ sym (ap (sized_items c.args.size) is) in
    (omega (arith, c.decreases), (c.requires.inside, subst (AllByRecursion (FitsField c.args.node.now.field)) (sym same) c.requires.fits))

pub push_slots-returns-in-List-clause-ok : goal.push_slots-returns-in-List-clause-ok
push_slots-returns-in-List-clause-ok t c =
    let v = value_view c.args.value.now in
    let items = values_view c.in-List.items.items in
    let is : v ≡ list_value (values_of items) = ap value_view c.in-List.is ∙ search (rules, the_lemmas) in
    let same : values_view c.deref.result.now ≡ sized_items c.args.size v = ap values_view c.deref.ensures.value ∙ sym (list_again items) ∙ sym (ap (sized_items c.args.size) is) in
    subst (λ vs. OnOk c.push_items.result (c.push_items.new.node ≡ with_values (cut_to c.args.start c.args.node.now) vs)) same c.push_items.ensures.ok

pub push_nulls-push_value-requires : goal.push_nulls-push_value-requires
push_nulls-push_value-requires t c =
    let same : c.loop-i.node.field ≡ c.args.node.now.field = ap (λ (b : Built). b.field) c.loop-i.invariant ∙ ap (λ (b : Built). b.field) c.cut.ensures in
    let size = ap (λ (f : FieldShape). levels f.children) same in
    (omega (arith, c.decreases, size), subst (FitsField c.loop-i.node.field) (sym c.requires.null) tt)

pub push_nulls-loop-i-preserved : goal.push_nulls-loop-i-preserved
push_nulls-loop-i-preserved t c =
    c.in_ok-push_value.ensures.ok ∙ (λ i. with_value (c.loop-i.invariant i) (c.requires.null i)) ∙ nulls_more c.cut.new.self c.loop-i._i

pub push_nulls-returns-clause-ok : goal.push_nulls-returns-clause-ok
push_nulls-returns-clause-ok t c =
    let end : c.loop-i._i ≡ c.args.count = omega (arith, c.loop-i-test.false) in
    c.loop-i.invariant ∙ (λ i. with_values (c.cut.ensures i) (replicate (end i) null_value))
