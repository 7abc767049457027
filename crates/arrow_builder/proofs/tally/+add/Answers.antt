use Rattle.std.proofs.Common.{rules, ◌≡◌, ◌+◌, ◌<◌, suc, true, false, [], ◌∷◌, length, get_or, set, sym, ap, ◌∙◌, subst, arith}
use denote.Param.Weighed.{at_most, most}
use Rattle.std.proofs.lemmas.Grind.{common_steps}
use Rattle.std.proofs.lemmas.List.{append-nil}
use Rattle.arrow_layout.specs.PlainValue.{list_value, values_of}
use Rattle.arrow_layout.specs.Value.{value_view, values_view}
use Rattle.arrow_layout.specs.declared.value.Value.{the_lemmas}
use Rattle.arrow_data.proofs.Lists.{list_again}
use Rattle.arrow_builder.specs.Built.{given_items, sized_items}
use Rattle.arrow_builder.specs.Columns.{child_column}
use Rattle.arrow_builder.specs.Tally.{Adds}
use Rattle.arrow_builder.specs.declared.tally.Tally.{Tally, Tally-F, out-Tally, out-roll-Tally, size-Tally}
use Rattle.arrow_builder.proofs.Counting.{Gives, UpTo, adds_next, adds_stopped, all_given, one_past, tally_depth, up_to_more, up_to_next}
use Rattle.arrow_builder.proofs.Listed.{items_given}
use Rattle.arrow_builder.proofs.tally.+add.Goals as goal

pub add-add_below-requires : goal.add-add_below-requires
add-add_below-requires t c =
    let tally = out-Tally c.args.tally.now in
    let below : c.deref_mut.result.now ≡ tally.below.items =
    c.deref_mut.ensures.value ∙ ap (λ (x : Tally-F Tally). x.below.items) (out-roll-Tally (record { form = tally.form; held = tally.held; next = c.in-Some.total; below = tally.below })) in
    (omega (arith, c.decreases, ap (λ ts. most size-Tally ts) below, tally_depth c.args.tally.now), c.null-null.ensures)

pub add_below-add_child-requires : goal.add_below-add_child-requires
add_below-add_child-requires t c =
    let d = c.index-tallies-k.result in
    let k = c.loop-k.k in
    let here = up_to_next (Gives c.args.given.form (value_view c.args.given.value.now ∷ []) true) k 0 c.args.tallies.now c.loop-k.tallies d c.loop-k.invariant in
    let inside : k < length c.args.tallies.now = omega (arith, c.loop-k-test.true) in
    (omega (arith, c.decreases, ap size-Tally here, at_most size-Tally c.args.tallies.now k d inside), c.requires)

pub add_below-loop-k-preserved : goal.add_below-loop-k-preserved
add_below-loop-k-preserved t c =
    let d = c.index-tallies-k.result in
    let k = c.loop-k.k in
    let v = value_view c.args.given.value.now in
    let new = c.add_child.new.tally in
    let here = up_to_next (Gives c.args.given.form (v ∷ []) true) k 0 c.args.tallies.now c.loop-k.tallies d c.loop-k.invariant in
    let place : k ≡ 0 + k = omega arith in
    let more : suc k ≡ k + 1 = omega arith in
    let given = subst (λ within. Gives c.args.given.form (v ∷ []) within k (get_or c.loop-k.tallies k d) new) c.if-not-add_child.false c.add_child.ensures in
    subst (λ n. UpTo (Gives c.args.given.form (v ∷ []) true) n 0 c.args.tallies.now (set c.loop-k.tallies k new)) more
    (up_to_more (Gives c.args.given.form (v ∷ []) true) k 0 c.args.tallies.now c.loop-k.tallies d new c.loop-k.invariant (omega (arith, c.loop-k-test.true))
    (subst (λ j. Gives c.args.given.form (v ∷ []) true j (get_or c.args.tallies.now k d) new) place (subst (λ x. Gives c.args.given.form (v ∷ []) true k x new) here given)))

pub add_below-returns-then-not-add_child : goal.add_below-returns-then-not-add_child
add_below-returns-then-not-add_child t c =
    let d = c.index-tallies-k.result in
    let k = c.loop-k.k in
    let v = value_view c.args.given.value.now in
    let new = c.add_child.new.tally in
    let here = up_to_next (Gives c.args.given.form (v ∷ []) true) k 0 c.args.tallies.now c.loop-k.tallies d c.loop-k.invariant in
    let given = subst (λ within. Gives c.args.given.form (v ∷ []) within k (get_or c.loop-k.tallies k d) new) c.if-not-add_child.true c.add_child.ensures in
    one_past c.args.given.form (v ∷ []) k c.args.tallies.now c.loop-k.tallies d new c.loop-k.invariant (omega (arith, c.loop-k-test.true)) (subst (λ x. Gives c.args.given.form (v ∷ []) false k x new) here given)

pub add_below-returns : goal.add_below-returns
add_below-returns t c = all_given c.args.given.form (value_view c.args.given.value.now ∷ []) c.loop-k.k c.args.tallies.now c.loop-k.tallies c.loop-k.invariant c.loop-k-test.false

pub add_child-returns-in-Lists : goal.add_child-returns-in-Lists
add_child-returns-in-Lists t c =
    let v = value_view c.args.given.value.now in
    let old = c.args.tally.now in
    let new = c.add_items.new.tally in
    subst (λ form. Adds (child_column form c.args.k (v ∷ [])) old new c.add_items.result) (sym c.in-Lists.is)
    (subst (λ vs. Adds vs old new c.add_items.result) (sym (append-nil (given_items c.in-Lists.list v))) c.add_items.ensures)

pub add_items-returns-in-Offsets : goal.add_items-returns-in-Offsets
add_items-returns-in-Offsets t c =
    let v = value_view c.args.value.now in
    let items = values_view c.items_in.result.now in
    let old = c.args.tally.now in
    let new = c.add_all.new.tally in
    subst (λ list. Adds (given_items list v) old new c.add_all.result) (sym c.in-Offsets.is)
    (subst (λ vs. Adds vs old new c.add_all.result) (items_given c.in-Offsets.field-0 v items c.items_in.ensures) c.add_all.ensures)

pub add_sized-returns-in-List : goal.add_sized-returns-in-List
add_sized-returns-in-List t c =
    let v = value_view c.args.value.now in
    let items = values_view c.in-List.items.items in
    let is : v ≡ list_value (values_of items) = ap value_view c.in-List.is ∙ search (rules, the_lemmas) in
    let same : values_view c.deref.result.now ≡ sized_items c.args.size v = ap values_view c.deref.ensures.value ∙ sym (list_again items) ∙ sym (ap (sized_items c.args.size) is) in
    subst (λ vs. Adds vs c.args.tally.now c.add_all.new.tally c.add_all.result) same c.add_all.ensures

pub add_all-add-requires : goal.add_all-add-requires
add_all-add-requires t c = (omega (arith, c.decreases, c.loop-value.invariant.depth), tt)

pub add_all-loop-value-preserved : goal.add_all-loop-value-preserved
add_all-loop-value-preserved t c =
    let i = c.loop-value.value-index in
    let item = c.value-item.result in
    let old = c.loop-value.tally in
    let new = c.add.new.tally in
    let inside : i < length c.args.values.now = grind (arith, common_steps) in
    let one = subst (λ within. Adds (value_view item ∷ []) old new within) c.if-not-add.false c.add.ensures in
    adds_next c.args.values.now i item c.args.tally.now old new inside c.loop-value.invariant (subst (λ x. Adds (value_view x ∷ []) old new true) c.value-item.is one)

pub add_all-returns-then-not-add : goal.add_all-returns-then-not-add
add_all-returns-then-not-add t c =
    let i = c.loop-value.value-index in
    let item = c.value-item.result in
    let old = c.loop-value.tally in
    let new = c.add.new.tally in
    let inside : i < length c.args.values.now = grind (arith, common_steps) in
    let one = subst (λ within. Adds (value_view item ∷ []) old new within) c.if-not-add.true c.add.ensures in
    adds_stopped c.args.values.now i item c.args.tally.now old new inside c.loop-value.invariant (subst (λ x. Adds (value_view x ∷ []) old new false) c.value-item.is one)
