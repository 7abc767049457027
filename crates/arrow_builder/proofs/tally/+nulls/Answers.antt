use Rattle.std.proofs.Common.{◌≡◌, ◌+◌, ◌*◌, ◌<◌, suc, true, false, length, get_or, replicate, set, sym, ap, ◌∙◌, subst, arith}
use denote.Param.Weighed.{at_most, most}
use Rattle.arrow_layout.specs.PlainValue.{null_value}
use Rattle.arrow_builder.specs.Columns.{all_items, child_column}
use Rattle.arrow_builder.specs.Tally.{Adds}
use Rattle.arrow_builder.specs.declared.tally.Tally.{Tally, Tally-F, out-Tally, out-roll-Tally, size-Tally}
use Rattle.arrow_builder.proofs.Counting.{Gives, UpTo, adds_none, all_given, nulls_past, offsets_of_nulls, one_past, other_column, sized_of_nulls, structs_of_nulls, tally_depth, up_to_more, up_to_next}
use Rattle.arrow_builder.proofs.tally.+nulls.Goals as goal

pub add_nulls-nulls_below-requires : goal.add_nulls-nulls_below-requires
add_nulls-nulls_below-requires t c =
    let tally = out-Tally c.args.tally.now in
    let below : c.deref_mut.result.now ≡ tally.below.items =
    c.deref_mut.ensures.value ∙ ap (λ (x : Tally-F Tally). x.below.items) (out-roll-Tally (record { form = tally.form; held = tally.held; next = c.in-Some.total; below = tally.below })) in
    (omega (arith, c.decreases, ap (λ ts. most size-Tally ts) below, tally_depth c.args.tally.now), tt)

pub nulls_below-nulls_child-requires : goal.nulls_below-nulls_child-requires
nulls_below-nulls_child-requires t c =
    let d = c.index-tallies-k.result in
    let k = c.loop-k.k in
    let here = up_to_next (Gives c.args.form (replicate c.args.count null_value) true) k 0 c.args.tallies.now c.loop-k.tallies d c.loop-k.invariant in
    let inside : k < length c.args.tallies.now = omega (arith, c.loop-k-test.true) in
    (omega (arith, c.decreases, ap size-Tally here, at_most size-Tally c.args.tallies.now k d inside), tt)

pub nulls_below-loop-k-preserved : goal.nulls_below-loop-k-preserved
nulls_below-loop-k-preserved t c =
    let d = c.index-tallies-k.result in
    let k = c.loop-k.k in
    let vs = replicate c.args.count null_value in
    let new = c.nulls_child.new.tally in
    let here = up_to_next (Gives c.args.form vs true) k 0 c.args.tallies.now c.loop-k.tallies d c.loop-k.invariant in
    let place : k ≡ 0 + k = omega arith in
    let more : suc k ≡ k + 1 = omega arith in
    let given = subst (λ within. Gives c.args.form vs within k (get_or c.loop-k.tallies k d) new) c.if-not-nulls_child.false (c.nulls_child.ensures k) in
    subst (λ n. UpTo (Gives c.args.form vs true) n 0 c.args.tallies.now (set c.loop-k.tallies k new)) more
    (up_to_more (Gives c.args.form vs true) k 0 c.args.tallies.now c.loop-k.tallies d new c.loop-k.invariant (omega (arith, c.loop-k-test.true))
    (subst (λ j. Gives c.args.form vs true j (get_or c.args.tallies.now k d) new) place (subst (λ x. Gives c.args.form vs true k x new) here given)))

pub nulls_below-returns-then-not-nulls_child : goal.nulls_below-returns-then-not-nulls_child
nulls_below-returns-then-not-nulls_child t c =
    let d = c.index-tallies-k.result in
    let k = c.loop-k.k in
    let vs = replicate c.args.count null_value in
    let new = c.nulls_child.new.tally in
    let here = up_to_next (Gives c.args.form vs true) k 0 c.args.tallies.now c.loop-k.tallies d c.loop-k.invariant in
    let given = subst (λ within. Gives c.args.form vs within k (get_or c.loop-k.tallies k d) new) c.if-not-nulls_child.true (c.nulls_child.ensures k) in
    one_past c.args.form vs k c.args.tallies.now c.loop-k.tallies d new c.loop-k.invariant (omega (arith, c.loop-k-test.true)) (subst (λ x. Gives c.args.form vs false k x new) here given)

pub nulls_below-returns : goal.nulls_below-returns
nulls_below-returns t c = all_given c.args.form (replicate c.args.count null_value) c.loop-k.k c.args.tallies.now c.loop-k.tallies c.loop-k.invariant c.loop-k-test.false

pub nulls_child-returns-in-Lists : goal.nulls_child-returns-in-Lists
nulls_child-returns-in-Lists t c k =
    subst (λ form. Adds (child_column form k (replicate c.args.count null_value)) c.args.tally.now c.nulls_items.new.tally c.nulls_items.result) (sym c.in-Lists.is) c.nulls_items.ensures

pub nulls_child-returns-in-Structs : goal.nulls_child-returns-in-Structs
nulls_child-returns-in-Structs t c k =
    subst (λ form. Adds (child_column form k (replicate c.args.count null_value)) c.args.tally.now c.add_nulls.new.tally c.add_nulls.result) (sym c.in-Structs.is)
    (subst (λ vs. Adds vs c.args.tally.now c.add_nulls.new.tally c.add_nulls.result) (sym (structs_of_nulls k c.args.count)) c.add_nulls.ensures)

pub nulls_child-returns-in_default : goal.nulls_child-returns-in_default
nulls_child-returns-in_default t c k =
    subst (λ vs. Adds vs c.args.tally.now c.args.tally.now true) (sym (other_column c.args.form k (replicate c.args.count null_value) c.in_default.not-Lists c.in_default.not-Structs)) (adds_none c.args.tally.now)

pub nulls_items-returns-in-Offsets : goal.nulls_items-returns-in-Offsets
nulls_items-returns-in-Offsets t c =
    subst (λ list. Adds (all_items list (replicate c.args.count null_value)) c.args.tally.now c.args.tally.now true) (sym c.in-Offsets.is)
    (subst (λ vs. Adds vs c.args.tally.now c.args.tally.now true) (sym (offsets_of_nulls c.in-Offsets.field-0 c.args.count)) (adds_none c.args.tally.now))

pub nulls_items-returns-in-Fixed : goal.nulls_items-returns-in-Fixed
nulls_items-returns-in-Fixed t c =
    subst (λ list. Adds (all_items list (replicate c.args.count null_value)) c.args.tally.now c.nulls_times.new.tally c.nulls_times.result) (sym c.in-Fixed.is)
    (subst (λ vs. Adds vs c.args.tally.now c.nulls_times.new.tally c.nulls_times.result) (sym (sized_of_nulls c.in-Fixed.size c.args.count)) c.nulls_times.ensures)

pub nulls_times-returns-in-Some : goal.nulls_times-returns-in-Some
nulls_times-returns-in-Some t c =
    subst (λ n. Adds (replicate n null_value) c.args.tally.now c.add_nulls.new.tally c.add_nulls.result) c.in-Some.ensures.1 c.add_nulls.ensures

pub nulls_times-returns-in-None : goal.nulls_times-returns-in-None
nulls_times-returns-in-None t c = nulls_past (c.args.count * c.args.size) c.args.tally.now (omega (arith, c.in-None.ensures))
