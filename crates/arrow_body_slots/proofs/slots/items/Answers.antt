use Rattle.std.proofs.Common.{◌≡◌, ◌<◌, ℕ, ◌+◌, ◌-◌, [], get_or, ap, ◌∙◌, arith}
use Rattle.std.specs.List.{flat_map}
use Rattle.arrow_data.specs.Column.{values_from}
use Rattle.arrow_layout.specs.Form.{node_form}
use Rattle.arrow_body_laws.specs.Raws.{items_in_value}
use Rattle.arrow_body_slots.proofs.Running.{full_of, items_run, no_lists, no_slots}
use Rattle.arrow_body_slots.proofs.slots.items.Goals as goal

-- no slots
pub returns-then-start-stop : goal.returns-then-start-stop
returns-then-start-stop c =
    let nothing : (n : ℕ) → flat_map (items_in_value n) (values_from c.args.slice.array.now.raw c.args.slice.start c.args.slice.stop) ≡ [] =
    λ n. no_slots (items_in_value n) c.args.slice.array.now.raw c.args.slice.start c.args.slice.stop c.if-start-stop.true in
    record { none = nothing 0; none_of_lists = λ _. nothing }

-- no lists
pub returns-in_default : goal.returns-in_default
returns-in_default c =
    let a = c.args.slice.array.now in
    let all = full_of a c.args.slice.start c.args.slice.stop c.len-slots.ensures.known c.requires.slots.inside c.requires.full in
    record {
      none = no_lists (node_form a.data_type.tag a.encoding) a.data_type.children (values_from a.raw c.args.slice.start c.args.slice.stop) c.in_default.ensures all;
      none_of_lists = λ lists. absurd (c.in_default.ensures lists);
    }

-- the items of all lists
pub returns : goal.returns
returns c =
    let a = c.args.slice.array.now in
    let some : c.args.slice.start < c.args.slice.stop = omega (arith, c.requires.slots.order, c.if-start-stop.false) in
    let before : c.args.slice.stop - 1 + 1 ≡ c.args.slice.stop = omega (arith, some) in
    items_run a c.in-Some.child.now c.args.slice.start c.args.slice.stop c.in_ok-first.first c.in_ok-end.end c.in-Some.ensures some c.requires.slots.inside c.requires.full
    c.in_ok-first.ensures.starts (c.in_ok-end.ensures.stops ∙ ap (λ j. get_or a.offsets j 0) before)
