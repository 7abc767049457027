use Rattle.std.proofs.Common.{rules, ◌≤◌, ◌<◌, [], ◌∷◌, length, sym, ap, ◌∙◌, subst, arith}
use Rattle.std.specs.List.{AllByRecursion}
use Rattle.arrow_data.specs.Column.{values_from}
use Rattle.arrow_layout.specs.PlainValue.{null_value}
use Rattle.arrow_body_writer.proofs.Children.{as_many, child_typed, column_found}
use Rattle.arrow_body_writer.proofs.Runs.{all_kept, all_of_part, by_field, by_items, field_split, fields_are, items_split, null_list, takes_null, takes_part, takes_start}
use Rattle.arrow_body_writer.proofs.Sending.{along_none, field_inside, first_typed, lead_on}
use Rattle.arrow_body_writer.specs.Sent.{sent_along}
use Rattle.arrow_body_writer.proofs.walk.+sent.Goals as goal
use Rattle.arrow_body_writer.proofs.walk.+sent.Goals.{take_items-in-Some+in_ok-take_along, take_items-in_default}

-- no list so far
pub take_items-loop-i-init : goal.take_items-loop-i-init
take_items-loop-i-init g t c =
    let steps = c.args.steps.now in
    (omega arith, c.requires.slots.order, takes_start g.V.SlotVisitor.takes g.met.V.SlotVisitor.nothing g.met.V.SlotVisitor.more (by_items c.args.nulls steps) c.args.visitor.now c.args.lists.array.now.raw c.args.lists.start (items_split c.args.nulls steps))

-- the items of a range lie inside of the child
pub take_items-take_along-requires : goal.take_items-take_along-requires
take_items-take_along-requires g t c κs within =
    let a = c.args.lists.array.now in
    let steps = c.args.steps.now in
    let run = c.in-Some.ensures in
    let child = c.in-Some.items.array.now in
    let i = c.loop-i.i in
    let end = c.first_null-end.result in
    let before = c.first_null-end.ensures in
    let here = all_of_part (g.V.SlotVisitor.has_room c.args.visitor.now) (by_items c.args.nulls steps) a.raw c.args.lists.start i end c.args.lists.stop (items_split c.args.nulls steps) c.loop-i.invariant.0 before.low before.high c.requires.room in
    let room = all_kept (g.V.SlotVisitor.has_room c.args.visitor.now) (g.V.SlotVisitor.has_room c.loop-i.visitor) (sent_along steps (values_from child.raw c.in-Some.items.start c.in-Some.items.stop))
    (λ v. g.met.V.SlotVisitor.keeps c.args.visitor.now c.loop-i.visitor (by_items c.args.nulls steps (values_from a.raw c.args.lists.start i)) v c.loop-i.invariant.2)
    (subst (λ vs. AllByRecursion (g.V.SlotVisitor.has_room c.args.visitor.now) (sent_along steps vs)) (run.same c.args.nulls) here) in (
      omega (arith, c.decreases),
      (within.0, (within.1, (record { order = run.ordered; inside = run.inside }, (lead_on _ child.data_type child.encoding steps (first_typed a.data_type.children child run.typed) c.requires.down, room)))),
    )

-- the lists up to the next null are added
pub take_items-loop-i-preserved : goal.take_items-loop-i-preserved
take_items-loop-i-preserved g t c =
    let a = c.args.lists.array.now in
    let steps = c.args.steps.now in
    let nulls = c.args.nulls in
    let i = c.loop-i.i in
    let end = c.first_null-end.result in
    let before = c.first_null-end.ensures in
    let sent = by_items nulls steps (values_from a.raw i end) in
    let step : g.V.SlotVisitor.takes c.loop-i.visitor c.match-items.visitor sent = elim c.match-items.branch [
      | take_items-in-Some+in_ok-take_along w ↦ subst (λ p. g.V.SlotVisitor.takes c.loop-i.visitor p sent) (sym w.visitor-is)
          (subst (λ vs. g.V.SlotVisitor.takes c.loop-i.visitor w.take_along.new.visitor (sent_along steps vs)) (sym (w.in-Some.ensures.same nulls)) w.in_ok-take_along.ensures)
      | take_items-in_default w ↦ subst (λ p. g.V.SlotVisitor.takes c.loop-i.visitor p sent) (sym w.visitor-is)
          (subst (λ vs. g.V.SlotVisitor.takes c.loop-i.visitor c.loop-i.visitor vs) (sym (ap (sent_along steps) (w.in_default.ensures.none_of_lists c.requires.lists nulls) ∙ along_none steps)) (g.met.V.SlotVisitor.nothing c.loop-i.visitor))
    ] in
    let taken = takes_part g.V.SlotVisitor.takes g.met.V.SlotVisitor.nothing g.met.V.SlotVisitor.more (by_items nulls steps) c.args.visitor.now c.loop-i.visitor c.match-items.visitor a.raw c.args.lists.start i end (items_split nulls steps) c.loop-i.invariant.0 before.low c.loop-i.invariant.2 step in
    let low : c.args.lists.start ≤ end = omega (arith, c.loop-i.invariant.0, before.low) in
    (low, before.high, taken)

-- and the nulls under that null list
pub take_items-loop-i-preserved-then-i-stop : goal.take_items-loop-i-preserved-then-i-stop
take_items-loop-i-preserved-then-i-stop g t c =
    let a = c.args.lists.array.now in
    let steps = c.args.steps.now in
    let nulls = c.args.nulls in
    let i = c.loop-i.i in
    let end = c.first_null-end.result in
    let before = c.first_null-end.ensures in
    let sent = by_items nulls steps (values_from a.raw i end) in
    let step : g.V.SlotVisitor.takes c.loop-i.visitor c.match-items.visitor sent = elim c.match-items.branch [
      | take_items-in-Some+in_ok-take_along w ↦ subst (λ p. g.V.SlotVisitor.takes c.loop-i.visitor p sent) (sym w.visitor-is)
          (subst (λ vs. g.V.SlotVisitor.takes c.loop-i.visitor w.take_along.new.visitor (sent_along steps vs)) (sym (w.in-Some.ensures.same nulls)) w.in_ok-take_along.ensures)
      | take_items-in_default w ↦ subst (λ p. g.V.SlotVisitor.takes c.loop-i.visitor p sent) (sym w.visitor-is)
          (subst (λ vs. g.V.SlotVisitor.takes c.loop-i.visitor c.loop-i.visitor vs) (sym (ap (sent_along steps) (w.in_default.ensures.none_of_lists c.requires.lists nulls) ∙ along_none steps)) (g.met.V.SlotVisitor.nothing c.loop-i.visitor))
    ] in
    let taken = takes_part g.V.SlotVisitor.takes g.met.V.SlotVisitor.nothing g.met.V.SlotVisitor.more (by_items nulls steps) c.args.visitor.now c.loop-i.visitor c.match-items.visitor a.raw c.args.lists.start i end (items_split nulls steps) c.loop-i.invariant.0 before.low c.loop-i.invariant.2 step in
    let low : c.args.lists.start ≤ end = omega (arith, c.loop-i.invariant.0, before.low) in
    let here : end < length a.raw = omega (arith, c.if-i-stop.true, c.requires.slots.inside) in
    let one : g.V.SlotVisitor.takes c.match-items.visitor c.take_nulls_along.new.visitor (by_items nulls steps (null_value ∷ [])) =
    subst (g.V.SlotVisitor.takes c.match-items.visitor c.take_nulls_along.new.visitor) (null_list nulls steps) c.in_ok-take_nulls_along.ensures in
    let next = takes_null g.V.SlotVisitor.takes g.met.V.SlotVisitor.nothing g.met.V.SlotVisitor.more (by_items nulls steps) c.args.visitor.now c.match-items.visitor c.take_nulls_along.new.visitor a.raw c.args.lists.start end (items_split nulls steps) low here (before.null c.if-i-stop.true) taken one in
    (omega (arith, low), omega (arith, c.if-i-stop.true), next)

-- each field has its child
pub take_field-bounds-children-k : goal.take_field-bounds-children-k
take_field-bounds-children-k g t c =
    let fields = c.in-Some.ensures in
    omega (arith, field_inside c.args.structs.array.now.data_type.children c.args.k c.args.steps.now c.requires.down, as_many c.args.structs.array.now.data_type.children c.in-Some.children.now fields.typed)

pub take_field-offset_bounds-children-k : goal.take_field-offset_bounds-children-k
take_field-offset_bounds-children-k g t c =
    let fields = c.in-Some.ensures in
    let inside : c.args.k < length c.in-Some.children.now =
    omega (arith, field_inside c.args.structs.array.now.data_type.children c.args.k c.args.steps.now c.requires.down, as_many c.args.structs.array.now.data_type.children c.in-Some.children.now fields.typed) in
    search rules

-- no struct so far
pub take_field-loop-i-init : goal.take_field-loop-i-init
take_field-loop-i-init g t c =
    let steps = c.args.steps.now in
    (omega arith, c.requires.slots.order, takes_start g.V.SlotVisitor.takes g.met.V.SlotVisitor.nothing g.met.V.SlotVisitor.more (by_field c.args.k steps) c.args.visitor.now c.args.structs.array.now.raw c.args.structs.start (field_split c.args.k steps))

-- the slots of structs are slots of their child
pub take_field-take_along-requires : goal.take_field-take_along-requires
take_field-take_along-requires g t c κs within =
    let a = c.args.structs.array.now in
    let steps = c.args.steps.now in
    let k = c.args.k in
    let fields = c.in-Some.ensures in
    let children = c.in-Some.children.now in
    let child = c.index-children-k.result in
    let i = c.loop-i.i in
    let end = c.first_null-end.result in
    let before = c.first_null-end.ensures in
    let high : end ≤ length a.raw = omega (arith, before.high, c.requires.slots.inside) in
    let inside : k < length children = omega (arith, field_inside a.data_type.children k steps c.requires.down, as_many a.data_type.children children fields.typed) in
    let field = fields.each k child (column_found children k child inside c.index-children-k.is) in
    let here = all_of_part (g.V.SlotVisitor.has_room c.args.visitor.now) (by_field k steps) a.raw c.args.structs.start i end c.args.structs.stop (field_split k steps) c.loop-i.invariant.0 before.low before.high c.requires.room in
    let sent = fields_are a child i end k field before.low high before.full in
    let room = all_kept (g.V.SlotVisitor.has_room c.args.visitor.now) (g.V.SlotVisitor.has_room c.loop-i.visitor) (sent_along steps (values_from child.raw i end))
    (λ v. g.met.V.SlotVisitor.keeps c.args.visitor.now c.loop-i.visitor (by_field k steps (values_from a.raw c.args.structs.start i)) v c.loop-i.invariant.2)
    (subst (λ vs. AllByRecursion (g.V.SlotVisitor.has_room c.args.visitor.now) (sent_along steps vs)) sent here) in (
      omega (arith, c.decreases),
      (within.0, (within.1, (record { order = before.low; inside = omega (arith, high, field.longer) }, (lead_on _ child.data_type child.encoding steps (child_typed a child k children fields field) c.requires.down, room)))),
    )

-- the structs up to the next null are added, and that null
pub take_field-loop-i-preserved : goal.take_field-loop-i-preserved
take_field-loop-i-preserved g t c =
    let a = c.args.structs.array.now in
    let steps = c.args.steps.now in
    let k = c.args.k in
    let fields = c.in-Some.ensures in
    let children = c.in-Some.children.now in
    let child = c.index-children-k.result in
    let i = c.loop-i.i in
    let end = c.first_null-end.result in
    let before = c.first_null-end.ensures in
    let high : end ≤ length a.raw = omega (arith, before.high, c.requires.slots.inside) in
    let inside : k < length children = omega (arith, field_inside a.data_type.children k steps c.requires.down, as_many a.data_type.children children fields.typed) in
    let field = fields.each k child (column_found children k child inside c.index-children-k.is) in
    let one : g.V.SlotVisitor.takes c.loop-i.visitor c.take_along.new.visitor (by_field k steps (values_from a.raw i end)) =
    subst (λ vs. g.V.SlotVisitor.takes c.loop-i.visitor c.take_along.new.visitor (sent_along steps vs)) (sym (fields_are a child i end k field before.low high before.full)) c.in_ok-take_along.ensures in
    let taken = takes_part g.V.SlotVisitor.takes g.met.V.SlotVisitor.nothing g.met.V.SlotVisitor.more (by_field k steps) c.args.visitor.now c.loop-i.visitor c.take_along.new.visitor a.raw c.args.structs.start i end (field_split k steps) c.loop-i.invariant.0 before.low c.loop-i.invariant.2 one in
    let low : c.args.structs.start ≤ end = omega (arith, c.loop-i.invariant.0, before.low) in
    (low, before.high, taken)

pub take_field-loop-i-preserved-then-i-stop : goal.take_field-loop-i-preserved-then-i-stop
take_field-loop-i-preserved-then-i-stop g t c =
    let a = c.args.structs.array.now in
    let steps = c.args.steps.now in
    let k = c.args.k in
    let fields = c.in-Some.ensures in
    let children = c.in-Some.children.now in
    let child = c.index-children-k.result in
    let i = c.loop-i.i in
    let end = c.first_null-end.result in
    let before = c.first_null-end.ensures in
    let high : end ≤ length a.raw = omega (arith, before.high, c.requires.slots.inside) in
    let inside : k < length children = omega (arith, field_inside a.data_type.children k steps c.requires.down, as_many a.data_type.children children fields.typed) in
    let field = fields.each k child (column_found children k child inside c.index-children-k.is) in
    let one : g.V.SlotVisitor.takes c.loop-i.visitor c.take_along.new.visitor (by_field k steps (values_from a.raw i end)) =
    subst (λ vs. g.V.SlotVisitor.takes c.loop-i.visitor c.take_along.new.visitor (sent_along steps vs)) (sym (fields_are a child i end k field before.low high before.full)) c.in_ok-take_along.ensures in
    let taken = takes_part g.V.SlotVisitor.takes g.met.V.SlotVisitor.nothing g.met.V.SlotVisitor.more (by_field k steps) c.args.visitor.now c.loop-i.visitor c.take_along.new.visitor a.raw c.args.structs.start i end (field_split k steps) c.loop-i.invariant.0 before.low c.loop-i.invariant.2 one in
    let low : c.args.structs.start ≤ end = omega (arith, c.loop-i.invariant.0, before.low) in
    let here : end < length a.raw = omega (arith, c.if-i-stop.true, c.requires.slots.inside) in
    let next = takes_null g.V.SlotVisitor.takes g.met.V.SlotVisitor.nothing g.met.V.SlotVisitor.more (by_field k steps) c.args.visitor.now c.take_along.new.visitor c.take_null_along.new.visitor a.raw c.args.structs.start end (field_split k steps) low here (before.null c.if-i-stop.true) taken c.in_ok-take_null_along.ensures in
    (omega (arith, low), omega (arith, c.if-i-stop.true), next)
