-- What the columns of a field have in common and share.
use Rattle.std.specs.Prelude.{List, [], ◌∷◌, ◌++◌, Option, None, Some, refl}
use Rattle.std.specs.Coded.{Coded, code_by, coded×, coded_option}
use Rattle.arrow_types.specs.Field.{FieldHeader, FieldTree, none, more, TypeShape}
use Rattle.arrow_types.specs.Stored.{type_code}
use Rattle.arrow_types.specs.contracts.field.Encoding.{the_row as encoding_row}
use Rattle.arrow_types.specs.declared.field.Encoding.{Encoding}

-- the type of a node's values, and how its slots refer to a dictionary (Schema.fbs, table "Field")
pub record NodeType : Type 0 where
  pub data_type : TypeShape
  pub encoding : Option Encoding

-- how the logic encodes it
abbrev pub node_type_code : Coded NodeType
node_type_code = code_by (TypeShape × Option Encoding) (coded× type_code (coded_option encoding_row.coded))
    (λ t. (t.data_type, t.encoding)) (λ p. record { data_type = p.0; encoding = p.1 }) (λ _. refl)

-- the node type of a field with these child fields
abbrev pub node_type : FieldHeader → FieldTree → NodeType
node_type head children = record { data_type = record { tag = head.tag; children = children }; encoding = head.encoding }

-- the types of its child fields' nodes that come below a field: none for a dictionary-encoded one, since the children
-- of its values come with the dictionary
abbrev pub types_below : Option Encoding → List NodeType → List NodeType
types_below None types = types
types_below (Some e) types = []

-- The types of the nodes that fields take, one for each node and in their order: depth first (Columnar Format,
-- "RecordBatch message").
abbrev pub node_types : FieldTree → List NodeType
node_types none = []
node_types (more head children rest) = node_type head children ∷ (types_below head.encoding (node_types children) ++ node_types rest)
