-- The meaning of metadata by themselves.
use Rattle.std.specs.Prelude.{◌≡◌, ℕ, List, Result, Ok, Err}
use Rattle.arrow_types.specs.Limits.{LimitNumbers}
use Rattle.arrow_meta_tree.specs.declared.fault.MetaFault.{MetaFault}
use Rattle.arrow_meta_reader.specs.Judges.{MetadataFails, MetadataMeans}
use Rattle.arrow_meta_reader.specs.Means.{PlainMessage}
use Rattle.arrow_stream_reader.specs.Message.{Message}

-- a message of the layer below as a message of this layer
abbrev pub announced : PlainMessage → Message
announced m = record { content = m.header; body_len = m.body_len }

-- Metadata mean a message by the tree that lies in them within the limits, or have their least fault.
abbrev pub Means : LimitNumbers → List ℕ → Result Message MetaFault → Type 0
Means limits metadata (Ok m) = (t : PlainMessage) × MetadataMeans limits metadata t × (m ≡ announced t)
Means limits metadata (Err fault) = MetadataFails limits metadata fault
