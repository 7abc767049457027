use Rattle.std.proofs.Common.{◌≡◌, ◌≤◌}
use Rattle.arrow_flatbuf.specs.Nodes.{after, after_all, tables}
use Rattle.arrow_types.specs.Field.{count}
use Rattle.arrow_types.specs.View.{fields_view}
use Rattle.arrow_meta_writer.specs.Capped.{capped}
use Rattle.arrow_meta_writer.proofs.FieldRows.{nodes_from, nodes_of}
use Rattle.arrow_meta_writer.proofs.sizes.+sizes.Given as goal

abbrev pub decreases-fields_end : goal.decreases-fields_end
decreases-fields_end l = count (fields_view l.fields.now)

-- the remaining fields end where all fields end
abbrev pub invariant-loop-field : goal.invariant-loop-field
invariant-loop-field l = record {
  same : capped (after_all l.end (nodes_from l.fields l.field-index)) ≡ capped (after l.place (tables (nodes_of l.fields)));
  near : l.end ≤ 1073741825;
}
