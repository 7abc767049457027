-- The views of the program's values.
use Rattle.std.specs.Prelude.{◌≡◌, ◌≤◌, ◌⊎◌, ℕ, ℤ, List, [], ◌∷◌, Bool, false, None, Some, is_some, Result, Ok, Err}
use Rattle.arrow_types.specs.Field.{FieldTree, TypeShape}
use Rattle.arrow_types.specs.Limits.{LimitNumbers}
use Rattle.arrow_types.specs.Schema.{dictionary_fields, has_encoding}
use Rattle.arrow_data.specs.Batch.{Table}
use Rattle.arrow_data.specs.Column.{Column, ValueList}
use Rattle.arrow_data.specs.Listed.{listed}
use Rattle.arrow_body_reader.specs.declared.body.BodyFault.{BodyFault}
use Rattle.arrow_body_reader.specs.declared.body.BodyFault.TheVariants as bodies
use Rattle.arrow_dict.specs.ValueTypes.{value_type_of}
use Rattle.arrow_dict.specs.declared.store.StoreFault.{StoreFault}
use Rattle.arrow_dict.specs.declared.store.StoreFault.TheVariants as stores
use Rattle.arrow_meta_tree.specs.declared.fault.MetaFault.{MetaFault}
use Rattle.arrow_meta_tree.specs.declared.fault.MetaFault.TheVariants as faults
use Rattle.arrow_meta_tree.specs.Grows.{GrowsAtRoot}
use Rattle.arrow_meta_reader.specs.Means.{PlainBatch, PlainHeader, PlainMessage, schema, dictionary, batch, batch_view}
use Rattle.arrow_stream_reader.specs.declared.kind.Rejection.TheVariants as refusals
use Rattle.arrow_stream_reader.specs.declared.item.Item.{Item}
use Rattle.arrow_stream_reader.specs.declared.item.Item.TheVariants as items
use Rattle.arrow_stream_reader.specs.declared.message.MessageBody.{MessageBody as HeldContent}
use Rattle.arrow_stream_reader.specs.declared.message.MessageBody.TheVariants as held
use Rattle.arrow_stream_reader.specs.declared.message.Message.{Message as HeldMessage}
use Rattle.arrow_stream_reader.specs.declared.decode_error.DecodeError.{DecodeError}
use Rattle.arrow_stream_reader.specs.declared.decode_error.DecodeError.TheVariants.{Refused, Memory}
use Rattle.arrow_stream_reader.specs.declared.state.State.{State}
use Rattle.arrow_stream_reader.specs.Batch.{Loads, value_fields}
use Rattle.arrow_stream_reader.specs.State.{StreamState, Given, schema_given, dictionary_given, batch_given, ended, fields_in}
use Rattle.arrow_stream_reader.specs.Meaning.{announced}
use Rattle.arrow_stream_reader.specs.Message.{Message}
use Rattle.arrow_stream_reader.specs.Frame.{BodySays, MetadataSays, state_refusal, is_out_of_order, judged, kind_of_fault}

-- the schema and the dictionaries that a state holds
abbrev pub plain : State → StreamState
plain s = record { schema = s.schema; dictionaries = s.dictionaries }

-- what an item gives
abbrev pub given : Item → Given
given items.Schema = schema_given
given (items.Dictionary id) = dictionary_given id
given (items.Batch b) = batch_given b
given items.End = ended

-- the content of a message, as the layer below reports it
abbrev pub content_of : HeldContent → PlainHeader
content_of (held.Schema s) = schema s
content_of (held.Dictionary id delta record_batch) = dictionary id delta (batch_view record_batch)
content_of (held.Batch record_batch) = batch (batch_view record_batch)

-- the message that is held
abbrev pub message_of : HeldMessage → Message
message_of m = record { content = content_of m.content; body_len = m.body_len }

-- why reading stops at a message whose body has this fault
abbrev pub body_error : BodyFault → DecodeError
body_error bodies.Layout = Refused refusals.Layout
body_error bodies.Text = Refused refusals.Text
body_error bodies.Index = Refused refusals.Index
body_error bodies.Memory = Memory

-- why a dictionary batch is not applied for which a store reports this fault
abbrev pub store_error : StoreFault → DecodeError
store_error stores.NoBase = Refused refusals.NoBase
store_error stores.TooLong = Refused refusals.Rows
store_error stores.Memory = Memory

-- Why reading stops at metadata with this fault that end at this offset: the least kind, or a failed allocation.
abbrev pub StopsBy : DecodeError → Bool → ℕ → MetaFault → Type 0
StopsBy (Refused k) has_schema end fault = (fault ≡ faults.Memory → ⊥) × (k ≡ kind_of_fault has_schema end fault)
StopsBy Memory has_schema end fault = fault ≡ faults.Memory

-- The result for a message whose metadata end at this offset. An allocation may fail only for a message that is
-- accepted.
abbrev pub Placed : ℕ → StreamState → ℕ → PlainMessage → Result HeldMessage DecodeError → Type 0
Placed max_rows s end m (Ok r) = Ok (message_of r) ≡ judged max_rows s end (Ok (announced m))
Placed max_rows s end m (Err (Refused k)) = Err k ≡ judged max_rows s end (Ok (announced m))
Placed max_rows s end m (Err Memory) = judged max_rows s end (Ok (announced m)) ≡ Ok (announced m)

-- The result for metadata that begin at this offset. An allocation may fail while the metadata are read, or for a
-- message that is accepted.
abbrev pub MessageRead : LimitNumbers → StreamState → ℕ → List ℕ → Result HeldMessage DecodeError → Type 0
MessageRead limits s start metadata (Ok m) = MetadataSays limits s start metadata (Ok (message_of m))
MessageRead limits s start metadata (Err (Refused k)) = MetadataSays limits s start metadata (Err k)
MessageRead limits s start metadata (Err Memory) =
    GrowsAtRoot limits metadata ⊎ ((m : Message) × MetadataSays limits s start metadata (Ok m))

-- Each dictionary has the type of the values of the fields that give its id.
pub record IsFit (s : StreamState) : Type 0 where
  pub typed : (id : ℤ) (t : TypeShape) (d : ValueList) →
      value_type_of (dictionary_fields (fields_in s.schema)) id ≡ Some t → listed s.dictionaries id ≡ Some d → d.data_type ≡ t

-- A message may be applied: it is in order, and it passes the checks against what was read before, with a limit that
-- fits offsets of 32 bits.
pub record Ready (s : StreamState) (m : PlainHeader) : Type 0 where
  pub max_rows : ℕ
  pub ceiling : max_rows ≤ 2147483647
  pub in_order : is_out_of_order (is_some s.schema) m ≡ false
  pub none : state_refusal max_rows s m ≡ None

-- the body is not rejected: it holds columns
abbrev pub LoadsSome : List ℕ → List (ℤ × ValueList) → FieldTree → PlainBatch → Type 0
LoadsSome body ds fields record_batch = (columns : List Column) × Loads body ds fields record_batch (Ok columns)

-- why a body has no columns: its error, or a failed allocation for the columns that it holds
abbrev pub HasNoColumns : List ℕ → List (ℤ × ValueList) → FieldTree → PlainBatch → DecodeError → Type 0
HasNoColumns body ds fields record_batch (Refused k) = Loads body ds fields record_batch (Err k)
HasNoColumns body ds fields record_batch Memory = LoadsSome body ds fields record_batch

-- the one column of a dictionary batch has the type of the dictionary's values
pub record AreValues (s : StreamState) (id : ℤ) (record_batch : PlainBatch) (body : List ℕ) (c : Column) : Type 0 where
  pub holds : Loads body [] (value_fields s.schema id) record_batch (Ok (c ∷ []))
  pub typed : value_type_of (dictionary_fields (fields_in s.schema)) id ≡ Some c.data_type
  pub plain : c.encoding ≡ None
  pub flat : has_encoding c.data_type.children ≡ false

-- the result for a dictionary batch: its one column, or why there is none
abbrev pub HeldValues : StreamState → ℤ → PlainBatch → List ℕ → Result Column DecodeError → Type 0
HeldValues s id record_batch body (Ok c) = AreValues s id record_batch body c
HeldValues s id record_batch body (Err (Refused k)) = Loads body [] (value_fields s.schema id) record_batch (Err k)
HeldValues s id record_batch body (Err Memory) = LoadsSome body [] (value_fields s.schema id) record_batch

-- the body is not rejected: there are a new state and an item
abbrev pub IsApplicable : StreamState → PlainHeader → List ℕ → Type 0
IsApplicable s m body = (left : StreamState × Given) × BodySays s m body (Ok left)

-- the state after a dictionary batch, or its error; if the batch is not taken, nothing changes
abbrev pub Updates : StreamState → ℤ → Bool → PlainBatch → List ℕ → Result (Unit {0}) DecodeError → StreamState → Type 0
Updates s id delta record_batch body (Ok x) s' = BodySays s (dictionary id delta record_batch) body (Ok (s', dictionary_given id))
Updates s id delta record_batch body (Err (Refused k)) s' = BodySays s (dictionary id delta record_batch) body (Err k) × (s' ≡ s)
Updates s id delta record_batch body (Err Memory) s' = IsApplicable s (dictionary id delta record_batch) body × (s' ≡ s)

-- the rows that a record batch gives, or its error
abbrev pub Gives : StreamState → PlainBatch → List ℕ → Result Table DecodeError → Type 0
Gives s record_batch body (Ok b) = BodySays s (batch record_batch) body (Ok (s, batch_given b))
Gives s record_batch body (Err (Refused k)) = BodySays s (batch record_batch) body (Err k)
Gives s record_batch body (Err Memory) = IsApplicable s (batch record_batch) body

-- The new state and the item of a message with its complete body, or its error. If the message is not applied,
-- nothing changes, and it is returned.
abbrev pub Applies : StreamState → PlainHeader → List ℕ → Result Item (DecodeError × HeldContent) → StreamState → Type 0
Applies s m body (Ok item) s' = BodySays s m body (Ok (s', given item))
Applies s m body (Err (Refused k, c)) s' = BodySays s m body (Err k) × (s' ≡ s) × (content_of c ≡ m)
Applies s m body (Err (Memory, c)) s' = IsApplicable s m body × (s' ≡ s) × (content_of c ≡ m)
