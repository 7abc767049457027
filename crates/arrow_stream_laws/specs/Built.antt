-- When the metadata's record batch and a body are columns of these raw values (Message.fbs, table RecordBatch).
use Rattle.std.specs.Prelude.{◌≡◌, ℕ, pos, List, map}
use Rattle.arrow_types.specs.Field.{FieldTree}
use Rattle.arrow_types.specs.declared.node.FieldNode.{FieldNode}
use Rattle.arrow_layout.specs.PlainValue.{PlainValue}
use Rattle.arrow_body_laws.specs.Laws.{IsBodyOf}
use Rattle.arrow_body_laws.specs.Stored.{PlainBody, stored}
use Rattle.arrow_body_laws.specs.Canonical.{IsCanonical}
use Rattle.arrow_meta_reader.specs.Means.{PlainBatch}
use Rattle.arrow_stream_reader.specs.Batch.{AreLong}
use Rattle.arrow_stream_laws.specs.Sizes.{slots_in}

-- the body that lies in these bytes according to the nodes and the buffers of a record batch
abbrev pub body_of : PlainBatch → List ℕ → PlainBody
body_of record_batch body = record { nodes = record_batch.nodes; buffers = record_batch.buffers; bytes = body }

-- The record batch's length is the number of rows, each column has as many slots, each field node has its own number,
-- and the nodes, the buffers and the body are exactly the columns of these raw values, and canonical: of all such
-- they are those that `stored` gives.
pub record IsBuilt (align : ℕ) (fields : FieldTree) (raws : List (List PlainValue)) (rows : ℕ) (record_batch : PlainBatch) (body : List ℕ) : Type 0 where
  pub long : record_batch.length ≡ pos rows
  pub level : AreLong fields record_batch
  pub slots : map (λ (n : FieldNode). n.length) record_batch.nodes ≡ map pos (slots_in fields raws)
  pub columns : IsBodyOf align fields raws (body_of record_batch body)
  pub canonical : IsCanonical align fields record_batch.nodes record_batch.buffers body
  pub one : body_of record_batch body ≡ stored align fields raws
