-- The types of the nodes that fields take. Only the crate's private clauses cite this.
use Rattle.std.specs.Prelude.{◌≡◌, ◌+◌, List, drop, ⊤, Some, slice_get}
use Rattle.arrow_types.specs.Field.{FieldTree, none, more}
use Rattle.arrow_layout.specs.Shared.{NodeType, node_type}
use Rattle.arrow_body_reader.specs.Taken.{IfFlattened, flattened, taken_nodes}

-- each of these fields, on every level, has its type at the position of its node
abbrev pub HaveTypes : FieldTree → List NodeType → Type 0
HaveTypes none types = ⊤
HaveTypes (more head children rest) types =
    (slice_get types 0 ≡ Some (node_type head children))
    × IfFlattened head.encoding (HaveTypes children (drop 1 types))
    × HaveTypes rest (drop (1 + flattened head.encoding (taken_nodes children)) types)
