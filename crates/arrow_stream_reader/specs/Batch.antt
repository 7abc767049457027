-- What a batch and its body mean (Message.fbs, tables "RecordBatch" and "DictionaryBatch"). The record batch is what
-- its metadata say of the body: the number of rows, the nodes and the buffers.
use Rattle.std.specs.Prelude.{◌≡◌, ℕ, ℤ, pos, negsuc, Bool, true, false, ◌||◌, nat_lt, List, [], ◌∷◌, ◌++◌, take, Option, None, Some, Result, Ok, Err}
use Rattle.std.specs.List.{AllByRecursion, list_any}
use Rattle.arrow_types.specs.Field.{FieldTree, none, fields_of, TypeShape}
use Rattle.arrow_types.specs.Notes.{SchemaShape}
use Rattle.arrow_types.specs.Schema.{dictionary_fields}
use Rattle.arrow_types.specs.declared.node.FieldNode.{FieldNode}
use Rattle.arrow_data.specs.Column.{Column, ValueList}
use Rattle.arrow_data.specs.Listed.{listed}
use Rattle.arrow_layout.specs.PlainValue.{PlainValue}
use Rattle.arrow_body_reader.specs.Held.{count_of}
use Rattle.arrow_body_reader.specs.Sound.{AreIndexed, AreLaid, AreText, columns_of, lengths_of}
use Rattle.arrow_body_reader.specs.Taken.{AreThere, taken_nodes}
use Rattle.arrow_dict.specs.Dictionaries.{placed}
use Rattle.arrow_dict.specs.ValueTypes.{value_field, value_type_of}
use Rattle.arrow_meta_reader.specs.Means.{PlainBatch}
use Rattle.arrow_stream_reader.specs.declared.kind.Rejection.{Rejection}
use Rattle.arrow_stream_reader.specs.declared.kind.Rejection.TheVariants.{Layout, Text, Index}
use Rattle.arrow_stream_reader.specs.State.{StreamState, Given, dictionary_given, batch_given, fields_in, schema_in}

-- the one field of the values of a dictionary, given their type if it is known
abbrev pub field_of_type : Option TypeShape → FieldTree
field_of_type None = none
field_of_type (Some t) = fields_of (value_field t ∷ [])

-- The field of the values of a dictionary: its type is the value type of the first field that gives the id.
abbrev pub value_fields : Option SchemaShape → ℤ → FieldTree
value_fields schema id = field_of_type (value_type_of (dictionary_fields (fields_in schema)) id)

-- a number of rows that is negative or over the limit
abbrev pub is_bad_length : ℕ → ℤ → Bool
is_bad_length max (pos n) = nat_lt max n
is_bad_length max (negsuc n) = true

-- the length of the batch is bad, or that of a node which the fields take
abbrev pub has_bad_length : ℕ → FieldTree → PlainBatch → Bool
has_bad_length max fields record_batch =
    is_bad_length max record_batch.length
    || list_any (λ (n : FieldNode). is_bad_length max n.length) (take (taken_nodes fields) record_batch.nodes)

-- the values to which a delta appends; none if the batch is not a delta or there is no dictionary
abbrev pub base_of : Bool → Option ValueList → List PlainValue
base_of true (Some d) = d.values
base_of true None = []
base_of false d = []

-- the columns have as many slots as the batch has rows
abbrev pub AreLong : FieldTree → PlainBatch → Type 0
AreLong fields record_batch = AllByRecursion (λ (n : ℕ). n ≡ count_of record_batch.length) (lengths_of fields record_batch.nodes)

-- nodes and buffers are there, lie in the body as the fields need, and the columns have the batch's length
pub record IsLayout (body : List ℕ) (fields : FieldTree) (record_batch : PlainBatch) : Type 0 where
  pub there : AreThere fields record_batch.nodes record_batch.buffers
  pub laid : AreLaid body fields record_batch.nodes record_batch.buffers
  pub long : AreLong fields record_batch

-- The meaning of a body that holds columns of these fields: the columns, or the first of Layout, Text and Index that
-- applies to any of them.
pub data Loads (body : List ℕ) (ds : List (ℤ × ValueList)) (fields : FieldTree) (record_batch : PlainBatch) : Result (List Column) Rejection → Type 0 where
  columns : IsLayout body fields record_batch → AreText body fields record_batch.nodes record_batch.buffers → AreIndexed body ds fields record_batch.nodes record_batch.buffers →
      Loads body ds fields record_batch (Ok (columns_of body ds fields record_batch.nodes record_batch.buffers))
  bad_layout : (IsLayout body fields record_batch → ⊥) → Loads body ds fields record_batch (Err Layout)
  bad_text : IsLayout body fields record_batch → (AreText body fields record_batch.nodes record_batch.buffers → ⊥) → Loads body ds fields record_batch (Err Text)
  bad_index : IsLayout body fields record_batch → AreText body fields record_batch.nodes record_batch.buffers →
      (AreIndexed body ds fields record_batch.nodes record_batch.buffers → ⊥) → Loads body ds fields record_batch (Err Index)

-- The state after a dictionary batch of this one column: its values replace those of its id, or, if the batch is a
-- delta, follow them.
abbrev pub with_values : StreamState → ℤ → Bool → List Column → StreamState
with_values s id delta [] = s
with_values s id delta (c ∷ cs) = record s {
  dictionaries = placed id (record { data_type = c.data_type; values = base_of delta (listed s.dictionaries id) ++ c.raw }) s.dictionaries;
}

-- the state and the item after a dictionary batch, or its error
abbrev pub dictionary_left : StreamState → ℤ → Bool → Result (List Column) Rejection → Result (StreamState × Given) Rejection
dictionary_left s id delta (Ok cs) = Ok (with_values s id delta cs, dictionary_given id)
dictionary_left s id delta (Err k) = Err k

-- the state and the item after a record batch, or its error
abbrev pub batch_left : StreamState → PlainBatch → Result (List Column) Rejection → Result (StreamState × Given) Rejection
batch_left s record_batch (Ok cs) = Ok (s, batch_given (record { schema = schema_in s.schema; columns = cs; rows = count_of record_batch.length }))
batch_left s record_batch (Err k) = Err k
