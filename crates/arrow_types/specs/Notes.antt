-- Custom metadata as plain values: the pairs of a schema and of its fields (Schema.fbs, fields "custom_metadata").
use Rattle.std.specs.Prelude.{ℕ, ◌+◌, List, [], ◌∷◌, length, map, Vec}
use Rattle.std.specs.declared.alloc.Global.{Global}
use Rattle.arrow_types.specs.Field.{FieldTree}

-- a pair of a key and a value, each any bytes (Schema.fbs, table "KeyValue")
pub record KeyValue : Type 0 where
  pub key : List ℕ
  pub value : List ℕ

-- The custom metadata of sibling fields: the first one's pairs, the metadata of the fields below it, and those of the
-- fields after it.
pub data Notes : Type 0 where
  unnoted : Notes
  noted : List KeyValue → Notes → Notes → Notes

-- the custom metadata of one field: its own pairs, and those of the fields below it
pub record FieldNotes : Type 0 where
  pub pairs : List KeyValue
  pub below : Notes

-- A schema: its fields, its own pairs, and the custom metadata of its fields. Only the first part determines what
-- batches hold.
pub record SchemaShape : Type 0 where
  pub fields : FieldTree
  pub pairs : List KeyValue
  pub notes : Notes

-- a pair of the program
abbrev pub pair_view : Vec ℕ Global × Vec ℕ Global → KeyValue
pair_view p = record { key = p.0.items; value = p.1.items }

-- pairs of the program, in their order
abbrev pub pairs_view : List (Vec ℕ Global × Vec ℕ Global) → List KeyValue
pairs_view ps = map pair_view ps

-- the custom metadata of the fields of a list, as siblings
abbrev pub notes_of : List FieldNotes → Notes
notes_of [] = unnoted
notes_of (n ∷ ns) = noted n.pairs n.below (notes_of ns)

-- the number of pairs of custom metadata of fields, on all levels
abbrev pub noted_count : Notes → ℕ
noted_count unnoted = 0
noted_count (noted pairs below rest) = length pairs + noted_count below + noted_count rest

-- the same for one field and all below it
abbrev pub field_noted_count : FieldNotes → ℕ
field_noted_count n = length n.pairs + noted_count n.below

-- the number of pairs of a schema, its own and those of its fields on all levels
abbrev pub pair_count : SchemaShape → ℕ
pair_count s = length s.pairs + noted_count s.notes
