use Rattle.std.proofs.Common.{◌≡◌, ◌↔◌, ◌<◌, ◌≤◌, ℕ, true, length, take, ap, sym, subst, arith}
use Rattle.std.specs.List.{AllByRecursion}
use Rattle.std.proofs.lemmas.Grind.{common_steps}
use Rattle.arrow_types.specs.Field.{levels}
use Rattle.arrow_builder.specs.Built.{Built, HaveSlots, built_size, cut_to, fields_in}
use Rattle.arrow_builder.specs.Columns.{AllBelow, child_column}
use Rattle.arrow_builder.specs.Fields.{field_form}
use Rattle.arrow_builder.specs.Finished.{AreIndexed, IsIndexed}
use Rattle.arrow_builder.proofs.Arrays.{children_less}
use Rattle.arrow_builder.proofs.Below.{node_indexed, node_long}
use Rattle.arrow_builder.proofs.Nested.{size_below, slot_below}
use Rattle.arrow_builder.proofs.indexed.+indexed.Goals as goal

pub all_indexed-are_indexed-requires : goal.all_indexed-are_indexed-requires
all_indexed-are_indexed-requires t c =
    let d = c.node-item.result in
    let i = c.loop-node.node-index in
    let inside : i < length c.args.nodes.now = grind (arith, common_steps) in (
      omega (arith, c.decreases, size_below c.args.nodes.now i d inside, ap (λ (b : Built). built_size b) c.node-item.is),
      subst (λ (b : Built). c.args.len ≤ length b.raw) (sym c.node-item.is) (slot_below c.args.len c.args.nodes.now i d inside c.requires),
    )

pub are_indexed-all_indexed-requires : goal.are_indexed-all_indexed-requires
are_indexed-all_indexed-requires t c =
    let a = c.node.inside in
    let kids : c.deref.result.now ≡ a.children.items = grind (arith, common_steps) in
    let long = subst (λ (b : Built). (k : ℕ) → c.shown.result ≡ length (child_column (field_form b.field) k (take c.args.len b.raw))) (sym c.node.view_is) c.shown.ensures in (
      omega (arith, c.decreases, children_less a c.node.invariant, ap (λ bs. levels (fields_in bs)) kids, ap (λ (b : Built). built_size b) c.node.view_is),
      subst (HaveSlots c.shown.result) (sym kids) (node_long a c.args.len c.shown.result c.node.invariant long),
    )

pub are_indexed-returns-then-is_indexed : goal.are_indexed-returns-then-is_indexed
are_indexed-returns-then-is_indexed t c =
    let a = c.node.inside in
    let ds = c.args.dictionaries.entries.now in
    let n = c.shown.result in
    let kids : c.deref.result.now ≡ a.children.items = grind (arith, common_steps) in
    let long = subst (λ (b : Built). (k : ℕ) → n ≡ length (child_column (field_form b.field) k (take c.args.len b.raw))) (sym c.node.view_is) c.shown.ensures in
    let known = subst (λ bs. (c.all_indexed.result ≡ true) ↔ AllByRecursion (λ (b : Built). AreIndexed ds (cut_to n b)) bs) kids c.all_indexed.ensures in
    let below = subst (λ (b : Built). AllByRecursion (λ (b : Built). AreIndexed ds (cut_to n b)) a.children.items ↔ AllBelow (IsIndexed ds) (field_form b.field) b.field.children 0 (take c.args.len b.raw)) c.node.view_is
    (node_indexed ds a c.args.len n c.node.invariant long) in
    (λ t. (c.is_indexed.ensures.0 c.if-is_indexed.true, below.0 (known.0 t)), λ h. known.1 (below.1 h.1))
