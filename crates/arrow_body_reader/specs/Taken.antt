-- The nodes and the buffers of a batch that fields take. They are in pre-order, depth first (Columnar Format,
-- "RecordBatch message").
use Rattle.std.specs.Prelude.{◌≤◌, ◌+◌, ℕ, List, length, drop, ⊤, Option, None, Some}
use Rattle.arrow_types.specs.Field.{FieldHeader, FieldTree, none, more}
use Rattle.arrow_types.specs.declared.field.Encoding.{Encoding}
use Rattle.arrow_types.specs.declared.node.FieldNode.{FieldNode}
use Rattle.arrow_types.specs.declared.node.Buffer.{Buffer}
use Rattle.arrow_layout.specs.Layout.{buffer_count}

-- A number of nodes or buffers below a field: 0 for a dictionary-encoded field, since the children of its values come
-- with the dictionary.
abbrev pub flattened : Option Encoding → ℕ → ℕ
flattened None n = n
flattened (Some e) n = 0

-- the fields that are taken below it
abbrev pub below : Option Encoding → FieldTree → FieldTree
below None children = children
below (Some e) children = none

-- the field's own buffers
abbrev pub own_buffers : FieldHeader → ℕ
own_buffers head = buffer_count head.tag head.encoding

-- how many nodes the fields take
abbrev pub taken_nodes : FieldTree → ℕ
taken_nodes none = 0
taken_nodes (more head children rest) = 1 + flattened head.encoding (taken_nodes children) + taken_nodes rest

-- how many buffers they take
abbrev pub taken_buffers : FieldTree → ℕ
taken_buffers none = 0
taken_buffers (more head children rest) = own_buffers head + flattened head.encoding (taken_buffers children) + taken_buffers rest

-- there are the nodes and the buffers that the fields take
abbrev pub AreThere : FieldTree → List FieldNode → List Buffer → Type 0
AreThere fields nodes buffers = (taken_nodes fields ≤ length nodes) × (taken_buffers fields ≤ length buffers)

-- a condition on the fields below a field, void if it is dictionary-encoded
abbrev pub IfFlattened : Option Encoding → Type 0 → Type 0
IfFlattened None P = P
IfFlattened (Some e) P = ⊤

-- The condition holds of each of these fields, on every level, with the nodes and the buffers from its own on.
abbrev pub AllNodes : (FieldHeader → FieldTree → List FieldNode → List Buffer → Type 0) → FieldTree → List FieldNode → List Buffer → Type 0
AllNodes P none nodes buffers = ⊤
AllNodes P (more head children rest) nodes buffers =
    P head children nodes buffers
    × IfFlattened head.encoding (AllNodes P children (drop 1 nodes) (drop (own_buffers head) buffers))
    × AllNodes P rest (drop (1 + flattened head.encoding (taken_nodes children)) nodes) (drop (own_buffers head + flattened head.encoding (taken_buffers children)) buffers)
