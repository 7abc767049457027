-- The meaning of the tables of a batch, read field by field (Message.fbs, tables "RecordBatch" and
-- "DictionaryBatch"). Only the crate's private clauses cite these.
use Rattle.std.specs.Prelude.{◌≡◌, ◌⊎◌, ℕ, false, List, [], Some, None}
use Rattle.arrow_flatbuf.specs.Place.{number_at, past}
use Rattle.arrow_flatbuf.specs.Table.{TableAt, field_place}
use Rattle.arrow_flatbuf.specs.Vector.{VectorAt, vector_at}
use Rattle.arrow_meta_tree.specs.declared.codes.HeaderKind.{HeaderKind}
use Rattle.arrow_meta_tree.specs.declared.kinds.TableKind.{TableKind}
use Rattle.arrow_meta_schema.specs.Conditions.{any, lacks_table}
use Rattle.arrow_meta_reader.specs.Faults.{header_conditions, least}
use Rattle.arrow_meta_tree.specs.Kinds.{spots_of, table_of_header}
use Rattle.arrow_meta_tree.specs.Lies.{AllPlaced, pairs_from}
use Rattle.arrow_meta_tree.specs.Costs.{IsTreeOf}
use Rattle.arrow_meta_reader.specs.Means.{PlainHeader, PlainMessage, Means, header_by}
use Rattle.arrow_types.specs.Limits.{LimitNumbers}
use Rattle.arrow_types.specs.declared.type_set.TypeSet.{TypeSet}
use Rattle.arrow_meta_tree.specs.Trees.{Tree, Trees, table}
use Rattle.arrow_meta_tree.specs.Within.{levels, entries, text_bytes, visits}

-- field i holds the number n of w bytes, or is absent, which means 0
abbrev pub HasNumber : ℕ → TableAt → ℕ → ℕ → Type 0
HasNumber w t i n =
    ((field_place t i ≡ None) × (n ≡ 0)) ⊎ ((p : ℕ) × (field_place t i ≡ Some p) × (number_at w t.bytes p ≡ Some n))

-- field i holds a vector of these pairs of numbers, or is absent, which means none
abbrev pub HasPairs : TableAt → ℕ → List (ℕ × ℕ) → Type 0
HasPairs t i ps =
    ((field_place t i ≡ None) × (ps ≡ []))
    ⊎ ((p : ℕ) × (v : VectorAt) × (field_place t i ≡ Some p) × (past (vector_at 16) t.bytes p ≡ Some v) × (pairs_from t.bytes v.place v.count ≡ ps))

-- a table without names, zones, Field tables and KeyValue tables
pub record IsBare (x : Tree) : Type 0 where
  pub levels_none : levels x ≡ 0
  pub visits_none : visits x ≡ 0
  pub entries_none : entries x ≡ 0
  pub text_none : text_bytes x ≡ 0

-- a table is the header of this kind, has none of its faults, and has this meaning
pub record IsHeader (kind : HeaderKind) (t : TableAt) (h : PlainHeader) : Type 0 where
  pub opened : TableKind
  pub opens : (types : TypeSet) → table_of_header types (Some kind) ≡ Some opened
  pub fields : Trees
  pub placed : AllPlaced t.bytes (spots_of opened t) fields
  pub bare : IsBare (table opened fields)
  pub whole : any lacks_table (table opened fields) ≡ false
  pub sound : (body_len : ℕ) → least (header_conditions (Some kind) body_len (table opened fields)) ≡ None
  pub says : header_by kind fields ≡ h

-- The bytes of a metadata mean this message, by a tree that is bare.
abbrev pub MeansBare : LimitNumbers → List ℕ → PlainMessage → Type 0
MeansBare limits bytes m = (x : Tree) × IsTreeOf bytes limits x × Means limits.max_body x m × IsBare x
