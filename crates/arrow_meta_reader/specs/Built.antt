-- The results of building schemas and messages.
use Rattle.std.specs.Prelude.{◌≡◌, ℕ, true, Result, Ok, Err, Some, ◌⊎◌}
use Rattle.arrow_types.specs.Notes.{SchemaShape}
use Rattle.arrow_types.specs.Schema.{fault_of as schema_fault_of}
use Rattle.arrow_types.specs.declared.fault.SchemaFault.{SchemaFault}
use Rattle.arrow_types.specs.declared.fault.SchemaFault.TheVariants as schema_faults
use Rattle.arrow_meta_tree.specs.declared.codes.HeaderKind.{HeaderKind}
use Rattle.arrow_meta_tree.specs.declared.codes.HeaderKind.TheVariants as headers
use Rattle.arrow_meta_tree.specs.declared.fault.MetaFault.{MetaFault}
use Rattle.arrow_meta_tree.specs.declared.fault.MetaFault.TheVariants as faults
use Rattle.arrow_meta_reader.specs.declared.message.Header.{Header}
use Rattle.arrow_meta_reader.specs.declared.message.Message.{Message}
use Rattle.arrow_meta_reader.specs.declared.message.MetadataVersion.{MetadataVersion}
use Rattle.arrow_meta_schema.specs.Conditions.{any_in, is_misfit}
use Rattle.arrow_meta_reader.specs.Faults.{header_of, body_of, data_of, HasFieldOrPair, HasNodeOrBuffer}
use Rattle.arrow_meta_reader.specs.Means.{header_view, header_by, message_view, message_by}
use Rattle.arrow_meta_tree.specs.Parts.{parts}
use Rattle.arrow_meta_schema.specs.SchemaMeaning.{schema_in}
use Rattle.arrow_meta_tree.specs.Trees.{Trees}

-- the fault of a message whose schema has this fault
abbrev pub meta_fault : ℕ → SchemaFault → MetaFault
meta_fault body_len schema_faults.TooDeep = faults.Metadata
meta_fault body_len schema_faults.TooManyFields = faults.Metadata
meta_fault body_len schema_faults.NestedDictionary = faults.Unsupported body_len
meta_fault body_len schema_faults.SharedIdTypesDiffer = faults.Schema body_len
meta_fault body_len schema_faults.Memory = faults.Memory
meta_fault body_len schema_faults.ByteWidth = faults.Schema body_len
meta_fault body_len schema_faults.TooManyPairs = faults.Metadata
meta_fault body_len schema_faults.MapEntries = faults.Schema body_len
meta_fault body_len schema_faults.DecimalRange = faults.Schema body_len

-- A fault that occurs while the Schema table with these fields is built: `Memory`, if it has a field or a pair, a
-- misfit, or a fault of the schema that it describes.
abbrev pub Late : MetaFault → ℕ → Trees → Type 0
Late e body_len xs =
    ((e ≡ faults.Memory) × HasFieldOrPair xs) ⊎ ((any_in is_misfit xs ≡ true) ⊎
    ((fault : SchemaFault) × (schema_fault_of (schema_in xs) ≡ Some fault) × (e ≡ meta_fault body_len fault)))

-- The schema was built that a Schema table with these fields describes.
abbrev pub BuildsSchema : Result SchemaShape MetaFault → ℕ → Trees → Type 0
BuildsSchema (Ok s) body_len xs = s ≡ schema_in xs
BuildsSchema (Err e) body_len xs = Late e body_len xs

-- Why a header's table with these fields was not built. For a batch the only fault is `Memory`.
abbrev pub FailsToBuild : HeaderKind → MetaFault → ℕ → Trees → Type 0
FailsToBuild headers.Schema e body_len xs = Late e body_len xs
FailsToBuild headers.DictionaryBatch e body_len xs = (e ≡ faults.Memory) × HasNodeOrBuffer (data_of xs)
FailsToBuild headers.RecordBatch e body_len xs = (e ≡ faults.Memory) × HasNodeOrBuffer xs

-- The header of this kind was built that the table with these fields describes.
abbrev pub BuildsHeader : Result Header MetaFault → HeaderKind → ℕ → Trees → Type 0
BuildsHeader (Ok h) kind body_len xs = header_view h ≡ header_by kind xs
BuildsHeader (Err e) kind body_len xs = FailsToBuild kind e body_len xs

-- The message was built that a Message table with these fields describes, given its version and the kind of its
-- header.
abbrev pub BuildsMessage : Result Message MetaFault → MetadataVersion → HeaderKind → Trees → Type 0
BuildsMessage (Ok m) version kind xs = message_view m ≡ message_by xs version kind
BuildsMessage (Err e) version kind xs = FailsToBuild kind e (body_of xs) (parts (header_of xs))
