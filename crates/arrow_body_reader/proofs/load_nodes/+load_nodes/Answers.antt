use Rattle.std.proofs.Common.{◌≡◌, ◌≤◌, ◌+◌, ◌++◌, ◌↔◌, MatchOption, [], ◌∷◌, length, drop, ap, sym, ◌∙◌, subst, arith, rules}
use Rattle.std.specs.Prelude.{IsTrue, ⊤}
use Rattle.std.specs.List.{AllByRecursion}
use Rattle.std.proofs.lemmas.List.{at_drop_all}
use Rattle.arrow_types.specs.Field.{count, none}
use Rattle.arrow_types.specs.View.{field_view, fields_view}
use Rattle.arrow_types.specs.declared.field.Field.{Field}
use Rattle.arrow_types.proofs.Fields.{fields_from}
use Rattle.arrow_data.specs.Column.{Column}
use Rattle.arrow_data.specs.Listed.{dictionary_for}
use Rattle.arrow_data.specs.Parts.{node_column, values_in}
use Rattle.arrow_layout.specs.Shared.{node_type}
use Rattle.arrow_body_reader.specs.Sound.{AreFit, AreIndexed, AreLaid, AreText, IsNodeIndexed, IsNodeLaid, IsNodeText, columns_of, lengths_of, own_bytes, slots_at}
use Rattle.arrow_body_reader.specs.Taken.{AreThere, below, own_buffers, taken_nodes, taken_buffers}
use Rattle.arrow_body_reader.specs.Types.{HaveTypes}
use Rattle.arrow_body_reader.specs.declared.build.Builder.{Builder}
use Rattle.arrow_body_reader.proofs.Building.{inner_building, last_building, next_building}
use Rattle.arrow_body_reader.proofs.Columns.{columns_step, fit_inside}
use Rattle.arrow_body_reader.proofs.Least.{least_next}
use Rattle.arrow_body_reader.proofs.Taking.{all_after, all_reported, fewer_taken, there_after}
use Rattle.arrow_body_reader.proofs.Types.{typed_inside, typed_next, types_left}
use Rattle.arrow_body_reader.proofs.load_nodes.+load_nodes.Goals as goal

pub load_nodes-load_below-requires : goal.load_nodes-load_below-requires
load_nodes-load_below-requires t c =
    let f = c.field-item.result in
    let h = (field_view f).head in
    let ch = (field_view f).children in
    let here = fields_view (drop c.loop-field.field-index c.args.fields.now) in
    let rest = fields_view (drop (c.loop-field.field-index + 1) c.args.fields.now) in
    let all = fields_view c.args.fields.now in
    let body = c.args.source.body.now in
    let ds = c.args.source.dictionaries.entries.now in
    let ns = c.loop-field.rest.nodes.now in
    let bs = c.loop-field.rest.buffers.now in
    let ts = c.loop-field.rest.types.now in
    let under = fields_view c.below-under.result.now in
    let step = fields_from c.args.fields.now c.loop-field.field-index f c.loop-field-test.true c.field-item.is in
    let fewer = fewer_taken c.args.fields.now c.loop-field.field-index f c.loop-field-test.true c.field-item.is in (
      omega (arith, c.decreases, fewer, ap count c.below-under.ensures),
      inner_building (λ (b : Builder). b.body.now) (λ (b : Builder). b.arrays.items) (λ (b : Builder). b.arrays.items ++ columns_of body ds here ns bs ≡ columns_of body ds all c.args.left.nodes.now c.args.left.buffers.now)
          body c.loop-field.making c.builder_below.result (HaveTypes here ts) (AreFit ds here) (HaveTypes under c.inside.result.types.now) (AreFit ds under) c.loop-field.invariant.building
          (λ typed. rw (c.below-under.ensures, c.inside.ensures.types) (typed_inside h ch rest ts (subst (λ v. HaveTypes v ts) step typed)))
          (λ fit. rw c.below-under.ensures (fit_inside ds h.encoding ch (subst (AreFit ds) step fit).1)) c.builder_below.ensures,
    )

pub load_nodes-node-requires-clause-there : goal.load_nodes-node-requires-clause-there
load_nodes-node-requires-clause-there t c =
    let f = c.field-item.result in
    let h = (field_view f).head in
    let ns = c.loop-field.rest.nodes.now in
    let bs = c.loop-field.rest.buffers.now in
    let place = c.new-place.result in
    let own : place.own ≡ own_buffers h = rw c.new-place.ensures.field at place.counted in
    let found = rw (c.below-under.ensures, c.inside.ensures.nodes, c.inside.ensures.buffers, own) at c.in_ok-inner.ensures.seen in
    let one : 1 ≤ length ns = search rules in
    let room : own_buffers h ≤ length bs = omega (arith, own, c.if-rest-place.false) in
    rw (c.new-place.ensures.field, c.new-place.ensures.left)
    ((there_after h (field_view f).children none ns c.in_ok-inner.inner.rest.nodes.now bs c.in_ok-inner.inner.rest.buffers.now one room found.0 found.4 found.5).0.0 (omega arith, omega arith))

pub load_nodes-loop-field-preserved : goal.load_nodes-loop-field-preserved
load_nodes-loop-field-preserved t c =
    let f = c.field-item.result in
    let h = (field_view f).head in
    let ch = (field_view f).children in
    let here = fields_view (drop c.loop-field.field-index c.args.fields.now) in
    let rest = fields_view (drop (c.loop-field.field-index + 1) c.args.fields.now) in
    let all = fields_view c.args.fields.now in
    let body = c.args.source.body.now in
    let ds = c.args.source.dictionaries.entries.now in
    let ns = c.loop-field.rest.nodes.now in
    let bs = c.loop-field.rest.buffers.now in
    let ts = c.loop-field.rest.types.now in
    let ns' = c.in_ok-inner.inner.rest.nodes.now in
    let bs' = c.in_ok-inner.inner.rest.buffers.now in
    let ts' = c.in_ok-inner.inner.rest.types.now in
    let inv = c.loop-field.invariant in
    let step = fields_from c.args.fields.now c.loop-field.field-index f c.loop-field-test.true c.field-item.is in
    let place = c.new-place.result in
    let own : place.own ≡ own_buffers h = rw c.new-place.ensures.field at place.counted in
    let found = rw (c.below-under.ensures, c.inside.ensures.nodes, c.inside.ensures.buffers, own) at c.in_ok-inner.ensures.seen in
    let past = rw (c.below-under.ensures, c.inside.ensures.types) at c.in_ok-inner.ensures.types in
    let here_seen =
    subst
    (λ (x : Field). IsNodeLaid body (field_view x).head (field_view x).children ns bs
    × (IsTrue c.in_ok-node.node.seen.texts ↔ IsNodeText body (field_view x).head (field_view x).children ns bs)
    × (IsTrue c.in_ok-node.node.seen.indices ↔ IsNodeIndexed body ds (field_view x).head (field_view x).children ns bs))
    c.new-place.ensures.field (simp (c.new-place.ensures.left, c.new-place.ensures.source) at c.in_ok-node.ensures.seen) in
    let here_len = simp c.new-place.ensures.left at c.in_ok-node.ensures.len in
    let one : 1 ≤ length ns = search rules in
    let room : own_buffers h ≤ length bs = omega (arith, own, c.if-rest-place.false) in
    let after = there_after h ch rest ns ns' bs bs' one room found.0 found.4 found.5 in
    let laid = all_after (IsNodeLaid body) h ch rest ns ns' bs bs' here_seen.0 found.1 found.4 found.5 in
    let texts = all_reported (IsNodeText body) (IsTrue c.in_ok-node.node.seen.texts) (IsTrue c.in_ok-inner.inner.seen.texts) h ch rest ns ns' bs bs' here_seen.1 found.2 found.4 found.5 in
    let indices = all_reported (IsNodeIndexed body ds) (IsTrue c.in_ok-node.node.seen.indices) (IsTrue c.in_ok-inner.inner.seen.indices) h ch rest ns ns' bs bs' here_seen.2 found.3 found.4 found.5 in
    let seen = c.and.ensures in
    let both_seen = c.and-seen.ensures in
    let column : Field → Column = λ x.
    node_column (node_type (field_view x).head (field_view x).children).data_type (field_view x).head.encoding (slots_at ns) (own_bytes body (field_view x).head bs)
    (columns_of body ds (below (field_view x).head.encoding (field_view x).children) (drop 1 ns) (drop (own_buffers (field_view x).head) bs)) (values_in (dictionary_for ds (field_view x).head.encoding)) in
    let made =
    subst (λ (x : Field). MatchOption c.with_node-making.result ⊤ (λ n. MatchOption c.loop-field.making ⊥ (λ b. (n.body.now ≡ b.body.now) × (n.arrays.items ≡ b.arrays.items ++ column x ∷ []))))
    c.new-place.ensures.field (simp (c.new-place.ensures.left, c.new-place.ensures.source) at c.with_node-making.ensures) in
    let columns = ap (λ v. columns_of body ds v ns bs) step ∙ columns_step body ds h ch rest ns ns' bs bs' found.4 found.5 in
    record {
      there = (
        λ x. inv.there.0 (subst (λ v. AreThere v ns bs) (sym step) (after.0.0 x)),
        λ w. after.0.1 (subst (λ v. AreThere v ns bs) step (inv.there.1 w)),
      );
      laid = (
        λ x. inv.laid.0 (subst (λ v. AreLaid body v ns bs) (sym step) (laid.0 x)),
        λ w. laid.1 (subst (λ v. AreLaid body v ns bs) step (inv.laid.1 w)),
      );
      texts = (
        λ x.
            let both = both_seen.texts.0 x.0 in
            let first = seen.texts.0 both.0 in
            inv.texts.0 (first.0, subst (λ v. AreText body v ns bs) (sym step) (texts.0 (first.1, both.1, x.1))),
        λ w.
            let before = inv.texts.1 w in
            let now = texts.1 (subst (λ v. AreText body v ns bs) step before.1) in
            (both_seen.texts.1 (seen.texts.1 (before.0, now.0), now.1), now.2),
      );
      indices = (
        λ x.
            let both = both_seen.indices.0 x.0 in
            let first = seen.indices.0 both.0 in
            inv.indices.0 (first.0, subst (λ v. AreIndexed body ds v ns bs) (sym step) (indices.0 (first.1, both.1, x.1))),
        λ w.
            let before = inv.indices.1 w in
            let now = indices.1 (subst (λ v. AreIndexed body ds v ns bs) step before.1) in
            (both_seen.indices.1 (seen.indices.1 (before.0, now.0), now.1), now.2),
      );
      nodes = after.1 ∙ ap (λ v. drop (taken_nodes v) ns) (sym step) ∙ inv.nodes;
      buffers = after.2 ∙ ap (λ v. drop (taken_buffers v) bs) (sym step) ∙ inv.buffers;
      types = types_left h ch rest ts ts' past ∙ ap (λ v. drop (taken_nodes v) ts) (sym step) ∙ inv.types;
      least = λ n few. least_next h ch rest ns ns' n c.loop-field.least c.in_ok-node.node.laid.len c.min-least.result (AllByRecursion (λ k. n ≤ k) (lengths_of all c.args.left.nodes.now))
          found.4 here_len c.min-least.ensures (
            λ x. (inv.least n few).0 (x.0, subst (λ v. AllByRecursion (λ k. n ≤ k) (lengths_of v ns)) (sym step) x.1),
            λ w.
                let before = (inv.least n few).1 w in
                (before.0, subst (λ v. AllByRecursion (λ k. n ≤ k) (lengths_of v ns)) step before.1),
          );
      building = next_building (λ (b : Builder). b.body.now) (λ (b : Builder). b.arrays.items) body c.loop-field.making c.with_node-making.result (column f) (columns_of body ds here ns bs) (columns_of body ds rest ns' bs')
          (columns_of body ds all c.args.left.nodes.now c.args.left.buffers.now) (HaveTypes here ts) (AreFit ds here) (HaveTypes rest ts') (AreFit ds rest) columns inv.building
          (λ typed. typed_next h ch rest ts ts' (subst (λ v. HaveTypes v ts) step typed) past) (λ fit. (subst (AreFit ds) step fit).2) made;
    }

pub load_nodes-returns-clause-least : goal.load_nodes-returns-clause-least
load_nodes-returns-clause-least t c =
    let fields = c.args.fields.now in
    let ns = c.loop-field.rest.nodes.now in
    let end = at_drop_all fields_view fields c.loop-field.field-index (omega (arith, c.loop-field-test.false)) in
    record {
      reported = λ n few. (
        λ le. (c.loop-field.invariant.least n few).0 (le, subst (λ v. AllByRecursion (λ k. n ≤ k) (lengths_of v ns)) (sym end) tt),
        λ w. ((c.loop-field.invariant.least n few).1 w).0,
      );
    }

pub load_nodes-returns-clause-building : goal.load_nodes-returns-clause-building
load_nodes-returns-clause-building t c =
    let fields = c.args.fields.now in
    let here = fields_view (drop c.loop-field.field-index fields) in
    let body = c.args.source.body.now in
    let ds = c.args.source.dictionaries.entries.now in
    let ns = c.loop-field.rest.nodes.now in
    let bs = c.loop-field.rest.buffers.now in
    let end = at_drop_all fields_view fields c.loop-field.field-index (omega (arith, c.loop-field-test.false)) in
    last_building (λ (b : Builder). b.body.now) (λ (b : Builder). b.arrays.items) body c.loop-field.making (columns_of body ds here ns bs) (columns_of body ds (fields_view fields) c.args.left.nodes.now c.args.left.buffers.now)
    (HaveTypes here c.loop-field.rest.types.now) (AreFit ds here) (ap (λ v. columns_of body ds v ns bs) end) c.loop-field.invariant.building
