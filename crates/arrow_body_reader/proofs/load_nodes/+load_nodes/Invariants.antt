use Rattle.std.proofs.Common.{◌≡◌, ◌+◌, ◌*◌, ◌↔◌, ◌≤◌, ◌++◌, ℕ, IfSome, drop}
use Rattle.std.specs.Prelude.{IsTrue}
use Rattle.std.specs.List.{AllByRecursion}
use Rattle.arrow_types.specs.Field.{count}
use Rattle.arrow_types.specs.View.{fields_view}
use Rattle.arrow_body_reader.specs.Sound.{AreFit, AreIndexed, AreLaid, AreText, columns_of, lengths_of}
use Rattle.arrow_body_reader.specs.Taken.{AreThere, taken_buffers, taken_nodes}
use Rattle.arrow_body_reader.specs.Types.{HaveTypes}
use Rattle.arrow_body_reader.proofs.load_nodes.+load_nodes.Given as goal

abbrev pub decreases-load_nodes : goal.decreases-load_nodes
decreases-load_nodes l = 2 * count (fields_view l.fields.now)

abbrev pub decreases-load_below : goal.decreases-load_below
decreases-load_below l = 2 * count (fields_view l.fields.now) + 1

-- what was checked and made so far, with what is to come, is all that there is to check and to make
abbrev pub invariant-load_nodes-loop-field : goal.invariant-load_nodes-loop-field
invariant-load_nodes-loop-field l = record {
  there : AreThere (fields_view (drop l.field-index l.fields)) l.rest.nodes.now l.rest.buffers.now ↔ AreThere (fields_view l.fields) l.left.nodes.now l.left.buffers.now;
  laid : AreLaid l.source.body.now (fields_view (drop l.field-index l.fields)) l.rest.nodes.now l.rest.buffers.now ↔ AreLaid l.source.body.now (fields_view l.fields) l.left.nodes.now l.left.buffers.now;
  texts : (IsTrue l.seen.texts × AreText l.source.body.now (fields_view (drop l.field-index l.fields)) l.rest.nodes.now l.rest.buffers.now) ↔ AreText l.source.body.now (fields_view l.fields) l.left.nodes.now l.left.buffers.now;
  indices : (IsTrue l.seen.indices × AreIndexed l.source.body.now l.source.dictionaries.entries.now (fields_view (drop l.field-index l.fields)) l.rest.nodes.now l.rest.buffers.now)
      ↔ AreIndexed l.source.body.now l.source.dictionaries.entries.now (fields_view l.fields) l.left.nodes.now l.left.buffers.now;
  nodes : drop (taken_nodes (fields_view (drop l.field-index l.fields))) l.rest.nodes.now ≡ drop (taken_nodes (fields_view l.fields)) l.left.nodes.now;
  buffers : drop (taken_buffers (fields_view (drop l.field-index l.fields))) l.rest.buffers.now ≡ drop (taken_buffers (fields_view l.fields)) l.left.buffers.now;
  types : drop (taken_nodes (fields_view (drop l.field-index l.fields))) l.rest.types.now ≡ drop (taken_nodes (fields_view l.fields)) l.left.types.now;
  least : (n : ℕ) → n ≤ 2147483647
      → ((n ≤ l.least) × AllByRecursion (λ k. n ≤ k) (lengths_of (fields_view (drop l.field-index l.fields)) l.rest.nodes.now)) ↔ AllByRecursion (λ k. n ≤ k) (lengths_of (fields_view l.fields) l.left.nodes.now);
  building : IfSome l.making (λ b. (b.body.now ≡ l.source.body.now)
      × (b.arrays.items ++ columns_of l.source.body.now l.source.dictionaries.entries.now (fields_view (drop l.field-index l.fields)) l.rest.nodes.now l.rest.buffers.now
      ≡ columns_of l.source.body.now l.source.dictionaries.entries.now (fields_view l.fields) l.left.nodes.now l.left.buffers.now)
      × HaveTypes (fields_view (drop l.field-index l.fields)) l.rest.types.now
      × AreFit l.source.dictionaries.entries.now (fields_view (drop l.field-index l.fields)));
}
