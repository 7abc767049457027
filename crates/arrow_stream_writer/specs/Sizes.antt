-- The size of the metadata of a batch depends only on its fields: every number in it takes the same number of bytes,
-- whatever its value is (FlatBuffers internals, "Format Details").
use Rattle.std.specs.Prelude.{◌≡◌, ℕ, ℤ, Bool, length}
use Rattle.arrow_types.specs.Field.{FieldTree}
use Rattle.arrow_body_reader.specs.Taken.{taken_nodes, taken_buffers}
use Rattle.arrow_meta_reader.specs.Means.{PlainBatch, batch, dictionary}
use Rattle.arrow_stream_laws.specs.Sizes.{batch_size, dictionary_size, header_size}

-- a record batch with as many nodes and buffers as the fields take has the size that the fields give
abbrev pub BatchesSized : Type 0
BatchesSized =
    (align : ℕ) (fields : FieldTree) (b : PlainBatch) → length b.nodes ≡ taken_nodes fields → length b.buffers ≡ taken_buffers fields →
    header_size align (batch b) ≡ batch_size align fields

-- so has a dictionary batch
abbrev pub DictionariesSized : Type 0
DictionariesSized =
    (align : ℕ) (fields : FieldTree) (id : ℤ) (is_delta : Bool) (b : PlainBatch) → length b.nodes ≡ taken_nodes fields → length b.buffers ≡ taken_buffers fields →
    header_size align (dictionary id is_delta b) ≡ dictionary_size align fields
