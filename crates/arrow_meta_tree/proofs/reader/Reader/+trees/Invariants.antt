use Rattle.std.proofs.Common.{◌≡◌}
use Rattle.arrow_meta_tree.specs.Kinds.{spots_of}
use Rattle.arrow_meta_tree.specs.Lies.{elements}
use Rattle.arrow_meta_tree.specs.Ranks.{rank, form_rank, opened_rank, inner, work}
use Rattle.arrow_meta_tree.specs.Views.{plain_all}
use Rattle.arrow_meta_tree.specs.Reads.{room}
use Rattle.arrow_meta_tree.proofs.Rows.{Done}
use Rattle.arrow_meta_tree.proofs.reader.Reader.+trees.Given as goal

abbrev pub decreases-field : goal.decreases-field
decreases-field l = work l.levels (form_rank l.form) 5

abbrev pub decreases-child : goal.decreases-child
decreases-child l = work l.levels (opened_rank l.kind) 4

abbrev pub decreases-children : goal.decreases-children
decreases-children l = work l.levels (rank l.kind) 4

abbrev pub decreases-elements : goal.decreases-elements
decreases-elements l = work l.levels (rank l.kind) 3

abbrev pub decreases-element : goal.decreases-element
decreases-element l = work l.levels (rank l.kind) 2

abbrev pub decreases-table : goal.decreases-table
decreases-table l = work l.levels (rank l.kind) 2

abbrev pub decreases-fields : goal.decreases-fields
decreases-fields l = work l.levels (inner l.kind) 1

abbrev pub invariant-elements-loop-index : goal.invariant-elements-loop-index
invariant-elements-loop-index l =
    Done l.vector.bytes (elements l.kind l.vector.place l.vector.count) l.levels (room l.fn.self) (room l.self) l.index (plain_all l.trees.items)
    × (l.self.counter.max_bytes ≡ l.fn.self.counter.max_bytes)

abbrev pub invariant-fields-loop-field : goal.invariant-fields-loop-field
invariant-fields-loop-field l =
    Done l.table.bytes (spots_of l.fn.kind l.table) l.levels (room l.fn.self) (room l.self) l.field (plain_all l.trees.items)
    × (l.self.counter.max_bytes ≡ l.fn.self.counter.max_bytes)
