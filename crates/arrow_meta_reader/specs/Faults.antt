-- The conditions of the faults of a message's tree, in the order of their numbers, and the least fault that holds.
use Rattle.std.specs.Prelude.{ℕ, Bool, ◌||◌, not, List, [], ◌∷◌, length, ◌+◌, ◌<◌, Option, Some, None, is_some, nat_lt, if◌then◌else◌}
use Rattle.arrow_types.specs.Field.{width}
use Rattle.arrow_types.specs.Schema.{is_nested, types_differ, dictionary_fields}
use Rattle.arrow_meta_tree.specs.declared.codes.HeaderKind.{HeaderKind}
use Rattle.arrow_meta_tree.specs.declared.codes.HeaderKind.TheVariants as headers
use Rattle.arrow_meta_tree.specs.declared.fault.BatchKind.TheVariants as batches
use Rattle.arrow_meta_tree.specs.declared.fault.MetaFault.{MetaFault}
use Rattle.arrow_meta_tree.specs.declared.fault.MetaFault.TheVariants.{Metadata, Version, Header, BodyLength, Unsupported, Schema, Compressed}
use Rattle.arrow_meta_reader.specs.declared.message.MetadataVersion.{MetadataVersion}
use Rattle.arrow_meta_tree.specs.Codes.{header_kind}
use Rattle.arrow_meta_reader.specs.Versions.{metadata_version}
use Rattle.arrow_meta_schema.specs.Conditions.{any, any_in, lacks_table, is_unsupported, is_misfit}
use Rattle.arrow_meta_tree.specs.Parts.{nth, parts, number_at, pairs_in, is_table, is_there}
use Rattle.arrow_meta_schema.specs.SchemaMeaning.{schema_fields, schema_pairs}
use Rattle.arrow_meta_tree.specs.Slots as slots
use Rattle.arrow_meta_tree.specs.Trees.{Tree, Trees}

-- the version of a Message table, if it is one of those that are read (Message.fbs, table "Message"; so the next
-- three)
abbrev pub version_in : Trees → Option MetadataVersion
version_in xs = metadata_version (number_at slots.message_version 0 xs)

-- the header's table
abbrev pub header_of : Trees → Tree
header_of xs = nth slots.message_header xs

-- the kind of the header: the one that the code before it names, if there is a table for it
abbrev pub header_in : Trees → Option HeaderKind
header_in xs = if is_table (header_of xs) then header_kind (number_at slots.message_header_type 0 xs) else None

-- the body's length in bytes, as the standard counts it
abbrev pub body_of : Trees → ℕ
body_of xs = number_at slots.message_body_length 0 xs

-- a length that is negative, as a signed number of 64 bits, or over the limit
abbrev pub is_bad_length : ℕ → ℕ → Bool
is_bad_length max n = nat_lt 9223372036854775807 n || nat_lt max n

-- a Schema table that holds something unsupported at any depth, or a dictionary field below a dictionary field
abbrev pub is_unsupported_schema : Tree → Bool
is_unsupported_schema x = any is_unsupported x || is_nested (schema_fields (parts x))

-- whether two fields of a Schema table have one dictionary id and unequal value types
abbrev pub shares_an_id : Tree → Bool
shares_an_id x = types_differ (dictionary_fields (schema_fields (parts x)))

-- the fields of the RecordBatch table that a DictionaryBatch table has for its data (Message.fbs, table "DictionaryBatch")
abbrev pub data_of : Trees → Trees
data_of xs = parts (nth slots.dictionary_batch_data xs)

-- whether a RecordBatch table with these fields is compressed (Message.fbs, table "RecordBatch", field "compression")
abbrev pub is_compressed : Trees → Bool
is_compressed xs = is_there (nth slots.record_batch_compression xs)

-- A Schema table with these fields has a field, or a pair of metadata, so building it requests memory.
abbrev pub HasFieldOrPair : Trees → Type 0
HasFieldOrPair xs = 0 < width (schema_fields xs) + length (schema_pairs xs)

-- A RecordBatch table with these fields has a field node or a buffer, so building it requests memory.
abbrev pub HasNodeOrBuffer : Trees → Type 0
HasNodeOrBuffer xs = 0 < length (pairs_in (nth slots.record_batch_nodes xs)) + length (pairs_in (nth slots.record_batch_buffers xs))

-- The conditions of a header's table, by the header's kind.
abbrev pub header_conditions : Option HeaderKind → ℕ → Tree → List (Bool × MetaFault)
header_conditions None body_len x = []
header_conditions (Some headers.Schema) body_len x =
    (is_unsupported_schema x, Unsupported body_len) ∷ (any is_misfit x || shares_an_id x, Schema body_len) ∷ []
header_conditions (Some headers.DictionaryBatch) body_len x =
    (is_compressed (data_of (parts x)), Compressed batches.Dictionary body_len) ∷ []
header_conditions (Some headers.RecordBatch) body_len x = (is_compressed (parts x), Compressed batches.Record body_len) ∷ []

-- the conditions, each with its fault
abbrev pub conditions : ℕ → Trees → List (Bool × MetaFault)
conditions max_body xs =
    (any_in lacks_table xs, Metadata) ∷
    (not (is_some (version_in xs)), Version) ∷
    (not (is_some (header_in xs)), Header) ∷
    (is_bad_length max_body (body_of xs), BodyLength) ∷
    header_conditions (header_in xs) (body_of xs) (header_of xs)

-- the first fault whose condition holds: the one with the least number
abbrev pub least : List (Bool × MetaFault) → Option MetaFault
least [] = None
least (c ∷ cs) = if c.0 then Some c.1 else least cs

-- The least fault of a message with these fields, none if there is no fault.
abbrev pub fault_of : ℕ → Trees → Option MetaFault
fault_of max_body xs = least (conditions max_body xs)
