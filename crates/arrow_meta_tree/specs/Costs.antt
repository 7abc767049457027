-- The tree of a metadata, and the work of reading it.
use Rattle.std.specs.Prelude.{◌≡◌, ◌≤◌, ℕ, false, List}
use Rattle.arrow_types.specs.Limits.{LimitNumbers}
use Rattle.arrow_meta_tree.specs.declared.fault.MetaFault.{MetaFault}
use Rattle.arrow_meta_tree.specs.Grows.{root, whole}
use Rattle.arrow_meta_tree.specs.Lies.{LiesAtRoot}
use Rattle.arrow_meta_tree.specs.Reads.{Ends}
use Rattle.arrow_meta_tree.specs.Trees.{Tree}
use Rattle.arrow_meta_tree.specs.Within.{IsWithin, visits, entries, text_bytes, Room, Spends}
use Rattle.arrow_meta_tree.specs.declared.decode_cost.DecodeCost.{DecodeCost}

-- the tree of a metadata: it lies at the root, and keeps to the limits
pub record IsTreeOf (bytes : List ℕ) (limits : LimitNumbers) (x : Tree) : Type 0 where
  pub lies : LiesAtRoot limits.types x bytes
  pub within : IsWithin limits.max_metadata x

-- The work that was done keeps to the limits, whatever the result is.
pub record IsWorkWithin (limits : LimitNumbers) (work : DecodeCost) : Type 0 where
  pub fields_within : work.fields ≤ 65536
  pub pairs_within : work.pairs ≤ 65536
  pub bytes_within : work.bytes ≤ limits.max_metadata

-- The work counts exactly what a tree has, each occurrence: its Field tables, its KeyValue tables, and the bytes of
-- its names, zones, keys and values.
pub record Counts (work : DecodeCost) (x : Tree) : Type 0 where
  pub fields : work.fields ≡ visits x
  pub pairs : work.pairs ≡ entries x
  pub bytes : work.bytes ≡ text_bytes x

-- Reading the message with these bytes as its metadata ends with this fault, and the work counts exactly what was
-- opened and copied up to there.
abbrev pub EndsAtRoot : LimitNumbers → List ℕ → MetaFault → DecodeCost → Type 0
EndsAtRoot limits bytes e work =
    (left : Room) × Ends bytes false e (root limits.types) 32 (whole limits.max_metadata) left ×
    Spends (whole limits.max_metadata) left work.fields work.pairs work.bytes
