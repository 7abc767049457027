use Rattle.std.proofs.Common.{◌≡◌, ◌++◌, ◌<◌, ◌≤◌, ℕ, [], ◌∷◌, length, map, take, ap, sym, ◌∙◌, subst, arith}
use Rattle.std.specs.List.{AllByRecursion}
use Rattle.std.proofs.lemmas.Grind.{common_steps}
use Rattle.std.proofs.lemmas.Result.{IfOk-weaker}
use Rattle.arrow_types.specs.Field.{levels}
use Rattle.arrow_types.specs.View.{type_view}
use Rattle.arrow_data.specs.Parts.{node_column, values_in}
use Rattle.arrow_builder.specs.Buffers.{buffers_in}
use Rattle.arrow_builder.specs.Built.{Built, HaveSlots, built_size, cut_to, fields_in}
use Rattle.arrow_builder.specs.Columns.{AllBelow, child_column}
use Rattle.arrow_builder.specs.Fields.{field_form}
use Rattle.arrow_builder.specs.Finished.{AreArraysOf, AreIndexed, AreTyped, IsArrayOf, IsIndexed}
use Rattle.arrow_builder.proofs.Arrays.{array_of_node, arrays_more, children_less, children_typed, cut_next, node_children, node_indices, node_keeps, node_texts, one_of}
use Rattle.arrow_builder.proofs.Below.{node_indexed, node_long}
use Rattle.arrow_builder.proofs.Nested.{size_below, slot_below}
use Rattle.arrow_builder.proofs.NodeSlots.{node_len}
use Rattle.arrow_builder.proofs.finish.+finish.Goals as goal

pub finish-finish_all-requires : goal.finish-finish_all-requires
finish-finish_all-requires t c =
    let a = c.node.inside in
    let ds = c.args.dictionaries.entries.now in
    let n = c.shown.result in
    let kids : c.deref.result.now ≡ a.children.items = grind (arith, common_steps) in
    let long = subst (λ (b : Built). (k : ℕ) → n ≡ length (child_column (field_form b.field) k (take c.args.len b.raw))) (sym c.node.view_is) c.shown.ensures in
    let typed = children_typed ds a c.node.invariant (subst (λ (b : Built). AreTyped ds b.field) (sym c.node.view_is) c.requires.typed) in
    let below = subst (λ (b : Built). AllBelow (IsIndexed ds) (field_form b.field) b.field.children 0 (take c.args.len b.raw)) (sym c.node.view_is) c.requires.indexed.1 in
    let indexed = (node_indexed ds a c.args.len n c.node.invariant long).1 below in (
      omega (arith, c.decreases, children_less a c.node.invariant, ap (λ bs. levels (fields_in bs)) kids, ap (λ (b : Built). built_size b) c.node.view_is),
      (
        subst (HaveSlots n) (sym kids) (node_long a c.args.len n c.node.invariant long),
        (
          subst (AllByRecursion (λ (b : Built). AreTyped ds b.field)) (sym kids) typed,
          subst (AllByRecursion (λ (b : Built). AreIndexed ds (cut_to n b))) (sym kids) indexed,
        ),
      ),
    )

pub finish-array_of-requires-clause-few : goal.finish-array_of-requires-clause-few
finish-array_of-requires-clause-few t c =
    omega (arith, c.requires.inside, node_len c.node.inside c.args.node.now c.node.view_is, c.node.invariant.few)

pub finish-array_of-requires-clause-children : goal.finish-array_of-requires-clause-children
finish-array_of-requires-clause-children t c =
    let a = c.node.inside in
    let kids : c.deref.result.now ≡ a.children.items = grind (arith, common_steps) in
    let are = subst (λ bs. AreArraysOf c.args.dictionaries.entries.now (map (cut_to c.shown.result) bs) c.in_ok-children.children.items) kids c.in_ok-children.ensures in
    node_children c.args.dictionaries.entries.now a c.shown.result c.in_ok-children.children.items c.node.invariant are

pub finish-array_of-requires-clause-kept : goal.finish-array_of-requires-clause-kept
finish-array_of-requires-clause-kept t c =
    let a = c.node.inside in
    let n = c.shown.result in
    let kids : c.deref.result.now ≡ a.children.items = grind (arith, common_steps) in
    let le : c.args.len ≤ a.len = omega (arith, c.requires.inside, node_len a c.args.node.now c.node.view_is) in
    let long = subst (λ (b : Built). (k : ℕ) → n ≡ length (child_column (field_form b.field) k (take c.args.len b.raw))) (sym c.node.view_is) c.shown.ensures in
    let are = subst (λ bs. AreArraysOf c.args.dictionaries.entries.now (map (cut_to n) bs) c.in_ok-children.children.items) kids c.in_ok-children.ensures in
    node_keeps c.args.dictionaries.entries.now a c.args.len n c.in_ok-children.children.items le c.node.invariant long (node_long a c.args.len n c.node.invariant long) are

pub finish-array_of-requires-clause-text : goal.finish-array_of-requires-clause-text
finish-array_of-requires-clause-text t c =
    let le : c.args.len ≤ c.node.inside.len = omega (arith, c.requires.inside, node_len c.node.inside c.args.node.now c.node.view_is) in
    node_texts c.node.inside c.args.len le c.node.invariant

pub finish-array_of-requires-clause-index : goal.finish-array_of-requires-clause-index
finish-array_of-requires-clause-index t c =
    let le : c.args.len ≤ c.node.inside.len = omega (arith, c.requires.inside, node_len c.node.inside c.args.node.now c.node.view_is) in
    let indexed = subst (λ (b : Built). IsIndexed c.args.dictionaries.entries.now b.field.head (take c.args.len b.raw)) (sym c.node.view_is) c.requires.indexed.0 in
    node_indices c.args.dictionaries.entries.now c.node.inside c.args.len c.in_ok-dictionary.dictionary le indexed c.in_ok-dictionary.ensures

pub finish-returns : goal.finish-returns
finish-returns t c =
    let a = c.node.inside in
    let n = c.shown.result in
    let ds = c.args.dictionaries.entries.now in
    let cs = c.in_ok-children.children.items in
    let kids : c.deref.result.now ≡ a.children.items = grind (arith, common_steps) in
    let le : c.args.len ≤ a.len = omega (arith, c.requires.inside, node_len a c.args.node.now c.node.view_is) in
    let long = subst (λ (b : Built). (k : ℕ) → n ≡ length (child_column (field_form b.field) k (take c.args.len b.raw))) (sym c.node.view_is) c.shown.ensures in
    let are = subst (λ bs. AreArraysOf ds (map (cut_to n) bs) cs) kids c.in_ok-children.ensures in
    let column = node_column (type_view a.field.data_type) a.field.dictionary c.args.len (buffers_in a.buffers) cs (values_in c.in_ok-dictionary.dictionary) in
    let made = subst (λ (b : Built). IsArrayOf ds (cut_to c.args.len b) column) c.node.view_is
    (array_of_node ds a c.args.len n cs c.in_ok-dictionary.dictionary le c.node.invariant long are c.in_ok-dictionary.ensures) in
    IfOk-weaker c.array_of.result (λ x. x ≡ column) (IsArrayOf ds (cut_to c.args.len c.args.node.now)) (λ x e. subst (IsArrayOf ds (cut_to c.args.len c.args.node.now)) (sym e) made) c.array_of.ensures

pub finish_all-finish-requires : goal.finish_all-finish-requires
finish_all-finish-requires t c =
    let d = c.node-item.result in
    let i = c.loop-node.node-index in
    let ds = c.args.dictionaries.entries.now in
    let nodes = c.args.nodes.now in
    let inside : i < length nodes = grind (arith, common_steps) in (
      omega (arith, c.decreases, size_below nodes i d inside, ap (λ (b : Built). built_size b) c.node-item.is),
      (
        subst (λ (b : Built). c.args.len ≤ length b.raw) (sym c.node-item.is) (slot_below c.args.len nodes i d inside c.requires.inside),
        (
          subst (λ (b : Built). AreTyped ds b.field) (sym c.node-item.is) (one_of (λ (b : Built). AreTyped ds b.field) nodes i d inside c.requires.typed),
          subst (λ (b : Built). AreIndexed ds (cut_to c.args.len b)) (sym c.node-item.is) (one_of (λ (b : Built). AreIndexed ds (cut_to c.args.len b)) nodes i d inside c.requires.indexed),
        ),
      ),
    )

pub finish_all-loop-node-preserved : goal.finish_all-loop-node-preserved
finish_all-loop-node-preserved t c =
    let d = c.node-item.result in
    let i = c.loop-node.node-index in
    let ds = c.args.dictionaries.entries.now in
    let nodes = c.args.nodes.now in
    let inside : i < length nodes = grind (arith, common_steps) in
    let next = cut_next c.args.len nodes i d inside ∙ ap (λ (b : Built). map (cut_to c.args.len) (take i nodes) ++ cut_to c.args.len b ∷ []) (sym c.node-item.is) in
    subst (λ bs. AreArraysOf ds bs c.push.new.self.items) (sym next)
    (subst (AreArraysOf ds (map (cut_to c.args.len) (take i nodes) ++ cut_to c.args.len d ∷ [])) (sym c.in_ok-push.ensures.items)
    (arrays_more ds (map (cut_to c.args.len) (take i nodes)) c.loop-node.arrays.items (cut_to c.args.len d) c.in_ok-finish.field-0 c.loop-node.invariant c.in_ok-finish.ensures))
