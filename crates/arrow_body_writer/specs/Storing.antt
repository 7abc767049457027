-- A body under construction: what is added to it.
use Rattle.std.specs.Prelude.{◌≡◌, ℕ, List, [], ◌++◌, length, codes}
use Rattle.std.specs.List.{flat_map}
use Rattle.arrow_types.specs.declared.node.FieldNode.{FieldNode}
use Rattle.arrow_data.specs.Column.{Column}
use Rattle.arrow_body_laws.specs.Laws.{raws_of}
use Rattle.arrow_body_laws.specs.Stored.{PlainBody, fields_of_columns, padded, places_from, stored_chunks, stored_nodes}
use Rattle.arrow_body_writer.specs.Storable.{AreRepresentable}
use Rattle.arrow_body_writer.specs.declared.body.Body.{Body}
use Rattle.arrow_body_writer.specs.declared.store_fault.BodyStoreFault.{BodyStoreFault}
use Rattle.arrow_body_writer.specs.declared.store_fault.BodyStoreFault.TheVariants.{TooLarge, Memory}

-- the contents of a body
abbrev pub body_view : Body → PlainBody
body_view b = record { nodes = b.nodes.items; buffers = b.buffers.items; bytes = b.bytes.items }

-- nodes, and the bytes of buffers with their padding, are appended to what the body had
pub record Stores (align : ℕ) (nodes : List FieldNode) (chunks : List (List ℕ)) (old new : Body) : Type 0 where
  pub nodes_added : new.nodes.items ≡ old.nodes.items ++ nodes
  pub buffers_added : new.buffers.items ≡ old.buffers.items ++ places_from align (length old.bytes.items) chunks
  pub bytes_added : new.bytes.items ≡ old.bytes.items ++ flat_map (padded align) chunks

-- columns that are representable are appended to what the body had
pub record StoresColumns (align : ℕ) (cs : List Column) (old new : Body) : Type 0 where
  pub represented : AreRepresentable cs
  pub stored : Stores align (stored_nodes (fields_of_columns cs) (raws_of cs)) (stored_chunks (fields_of_columns cs) (raws_of cs)) old new

-- nothing was added to a body
pub record IsEmpty (b : Body) : Type 0 where
  pub no_nodes : b.nodes.items ≡ []
  pub no_buffers : b.buffers.items ≡ []
  pub no_bytes : b.bytes.items ≡ []

-- the words for a fault
abbrev pub words_of : BodyStoreFault → List ℕ
words_of TooLarge = codes "too many slots or bytes in a column"
words_of Memory = codes "out of memory"
