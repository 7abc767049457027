-- The results for a tree, and for the bytes of a metadata.
use Rattle.std.specs.Prelude.{◌≡◌, ◌≤◌, ◌⊎◌, ℕ, List, Option, Result, Ok, Err, Some, None}
use Rattle.arrow_types.specs.Limits.{LimitNumbers}
use Rattle.arrow_meta_tree.specs.declared.codes.HeaderKind.{HeaderKind}
use Rattle.arrow_meta_tree.specs.declared.codes.HeaderKind.TheVariants as headers
use Rattle.arrow_meta_tree.specs.declared.fault.MetaFault.{MetaFault}
use Rattle.arrow_meta_tree.specs.declared.fault.MetaFault.TheVariants.{Metadata, Version, Header, BodyLength, Unsupported, Schema, Compressed, Memory}
use Rattle.arrow_meta_reader.specs.declared.message.Message.{Message}
use Rattle.arrow_meta_reader.specs.declared.message.MetadataVersion.{MetadataVersion}
use Rattle.arrow_meta_reader.specs.Faults.{fault_of, version_in, header_in, header_of, data_of, HasFieldOrPair, HasNodeOrBuffer}
use Rattle.arrow_meta_tree.specs.Costs.{IsTreeOf, Counts, EndsAtRoot}
use Rattle.arrow_meta_tree.specs.Grows.{GrowsAtRoot}
use Rattle.arrow_meta_reader.specs.Means.{PlainMessage, Means, message_view}
use Rattle.arrow_meta_tree.specs.Parts.{parts}
use Rattle.arrow_meta_tree.specs.Trees.{Tree, Trees}
use Rattle.arrow_meta_tree.specs.declared.decode_cost.DecodeCost.{DecodeCost}

-- Building the table with these fields of this header requests memory: for a schema if it has a field or a pair of
-- metadata, for a batch if it has a field node or a buffer.
abbrev pub AsksMemory : Option HeaderKind → Trees → Type 0
AsksMemory None xs = ⊥
AsksMemory (Some headers.Schema) xs = HasFieldOrPair xs
AsksMemory (Some headers.DictionaryBatch) xs = HasNodeOrBuffer (data_of xs)
AsksMemory (Some headers.RecordBatch) xs = HasNodeOrBuffer xs

-- The result of the tests before a message is built: the version and the kind of header if no fault holds, else the
-- least fault.
abbrev pub Clears : Result (MetadataVersion × HeaderKind) MetaFault → ℕ → Trees → Type 0
Clears (Ok found) max_body xs =
    (version_in xs ≡ Some found.0) × (header_in xs ≡ Some found.1) × (fault_of max_body xs ≡ None)
Clears (Err fault) max_body xs = fault_of max_body xs ≡ Some fault

-- A result for a tree: the message that it means, else its least fault. `Memory` is returned only for a tree without
-- a fault; for a schema only if it has a field or a pair, and for a batch only if it has a field node or a buffer.
abbrev pub Judges : Result Message MetaFault → ℕ → Tree → Type 0
Judges (Ok m) max_body x = Means max_body x (message_view m)
Judges (Err Memory) max_body x =
    (fault_of max_body (parts x) ≡ None) ×
    AsksMemory (header_in (parts x)) (parts (header_of (parts x)))
Judges (Err fault) max_body x = fault_of max_body (parts x) ≡ Some fault

-- The body length in a result, with a message or with a fault, is at most the limit.
abbrev pub LengthFits : Result Message MetaFault → ℕ → Type 0
LengthFits (Ok m) max_body = m.body_len ≤ max_body
LengthFits (Err Metadata) max_body = Unit {0}
LengthFits (Err Version) max_body = Unit {0}
LengthFits (Err Header) max_body = Unit {0}
LengthFits (Err BodyLength) max_body = Unit {0}
LengthFits (Err (Unsupported body_len)) max_body = body_len ≤ max_body
LengthFits (Err (Schema body_len)) max_body = body_len ≤ max_body
LengthFits (Err (Compressed batch body_len)) max_body = body_len ≤ max_body
LengthFits (Err Memory) max_body = Unit {0}

-- The bytes of a metadata mean this message.
abbrev pub MetadataMeans : LimitNumbers → List ℕ → PlainMessage → Type 0
MetadataMeans limits bytes m = (x : Tree) × IsTreeOf bytes limits x × Means limits.max_body x m

-- The bytes of a metadata have this fault, and none with a lower number: there is no tree, or its least fault is this.
abbrev pub MetadataFails : LimitNumbers → List ℕ → MetaFault → Type 0
MetadataFails limits bytes fault =
    ((fault ≡ Metadata) × ((x : Tree) → IsTreeOf bytes limits x → ⊥)) ⊎
    ((x : Tree) × IsTreeOf bytes limits x × (fault_of limits.max_body (parts x) ≡ Some fault))

-- A result for the bytes of a metadata. `Memory` is returned only for bytes whose reading requests memory: at least
-- the root's table is readable there, with its first field.
abbrev pub Decodes : Result Message MetaFault → LimitNumbers → List ℕ → Type 0
Decodes (Ok m) limits bytes = MetadataMeans limits bytes (message_view m)
Decodes (Err Memory) limits bytes = GrowsAtRoot limits bytes
Decodes (Err fault) limits bytes = MetadataFails limits bytes fault

-- The work counts exactly what the tree of a metadata has.
abbrev pub CountsTree : LimitNumbers → List ℕ → DecodeCost → Type 0
CountsTree limits bytes work = (x : Tree) → IsTreeOf bytes limits x → Counts work x

-- The work after a fault: what was opened and copied up to where reading ended with it, or what the whole tree has,
-- if the fault is the tree's.
abbrev pub CountsFailed : LimitNumbers → List ℕ → MetaFault → DecodeCost → Type 0
CountsFailed limits bytes e work = EndsAtRoot limits bytes e work ⊎ ((x : Tree) × IsTreeOf bytes limits x × Counts work x)
