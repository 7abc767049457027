-- Which column of a record batch is at fault (Columnar Format, "RecordBatch message").
use Rattle.std.specs.Prelude.{◌≡◌, ◌⊎◌, ℕ, ℤ, zero, suc, List, take, drop, Bool, true, false, Result, Ok, Err}
use Rattle.arrow_types.specs.Field.{FieldTree, none, more}
use Rattle.arrow_types.specs.Limits.{LimitNumbers}
use Rattle.arrow_data.specs.Column.{ValueList}
use Rattle.arrow_meta_tree.specs.declared.fault.MetaFault.{MetaFault}
use Rattle.arrow_meta_reader.specs.Means.{PlainBatch, PlainHeader, schema, dictionary, batch}
use Rattle.arrow_stream_reader.specs.Batch.{Loads}
use Rattle.arrow_stream_reader.specs.Frame.{number_at}
use Rattle.arrow_stream_reader.specs.Front.{Entry, Snapshot, FrontOf}
use Rattle.arrow_stream_reader.specs.Meaning.{Means}
use Rattle.arrow_stream_reader.specs.Message.{Message}
use Rattle.arrow_stream_reader.specs.State.{StreamState, fields_in}
use Rattle.arrow_stream_reader.specs.declared.kind.Rejection.{Rejection}
use Rattle.arrow_stream_reader.specs.declared.kind.Rejection.TheVariants as refusals
use Rattle.arrow_stream_reader.specs.declared.reader.Verdict.{Verdict}
use Rattle.arrow_stream_reader.specs.declared.reader.Verdict.TheVariants.{Open, Done, Bad}
use Rattle.arrowflow_calls.specs.declared.culprit.CulpritC.{CulpritC}
use Rattle.arrowflow_calls.specs.declared.terms.LimitsC.{LimitsC}
use Rattle.arrowflow_calls.specs.Kinds.{bad_limits, out_of_memory}
use Rattle.arrowflow_calls.specs.Terms.{AreLimits, numbers}

-- the first n of these fields
abbrev pub first_fields : ℕ → FieldTree → FieldTree
first_fields zero fields = none
first_fields (suc n) none = none
first_fields (suc n) (more head children rest) = more head children (first_fields n rest)

-- With this column a body is rejected with this kind, and with only those before it it is not.
pub record IsAtFault (kind : Rejection) (body : List ℕ) (ds : List (ℤ × ValueList)) (fields : FieldTree) (record_batch : PlainBatch) (n : ℕ) : Type 0 where
  pub without_it : Loads body ds (first_fields n fields) record_batch (Err kind) → ⊥
  pub with_it : Loads body ds (first_fields (suc n) fields) record_batch (Err kind)

-- no column is reported, for this reason: there is none, or the call could not find out
abbrev pub no_culprit : ℕ → CulpritC
no_culprit kind = record { kind = kind; found = false; column = 0 }

-- this column is reported, and it is at fault; or none is, and the body with all columns has no fault of this kind
abbrev pub ReportsColumn : Rejection → List ℕ → List (ℤ × ValueList) → FieldTree → PlainBatch → CulpritC → Type 0
ReportsColumn kind body ds fields record_batch stated =
    ((n : ℕ) × IsAtFault kind body ds fields record_batch n × (stated ≡ record { kind = 0; found = true; column = n }))
    ⊎ ((stated ≡ no_culprit 0) × (Loads body ds fields record_batch (Err kind) → ⊥))

-- only a record batch message has columns; its body is at the start of these bytes
abbrev pub ReportsContent : Rejection → StreamState → List ℕ → ℕ → PlainHeader → CulpritC → Type 0
ReportsContent kind s after body_len (schema shape) stated = stated ≡ no_culprit 0
ReportsContent kind s after body_len (dictionary id delta record_batch) stated = stated ≡ no_culprit 0
ReportsContent kind s after body_len (batch record_batch) stated = ReportsColumn kind (take body_len after) s.dictionaries (fields_in s.schema) record_batch stated

-- what is reported of a message, given what its metadata decode to; these bytes follow the metadata
abbrev pub ReportsMeant : Rejection → StreamState → List ℕ → Result Message MetaFault → CulpritC → Type 0
ReportsMeant kind s after (Err fault) stated = stated ≡ no_culprit 0
ReportsMeant kind s after (Ok m) stated = ReportsContent kind s after m.body_len m.content stated

-- what is reported of the message at these bytes, by its metadata, whose length its prefix gives
abbrev pub ReportsMessage : LimitNumbers → Rejection → StreamState → List ℕ → CulpritC → Type 0
ReportsMessage limits kind s message stated =
    (meant : Result Message MetaFault) × Means limits (take (number_at message 4) (drop 8 message)) meant
    × ReportsMeant kind s (drop (number_at message 4) (drop 8 message)) meant stated

-- whether a kind is one that a body decides
abbrev pub is_of_body : Rejection → Bool
is_of_body refusals.Continuation = false
is_of_body refusals.MetadataSize = false
is_of_body refusals.Metadata = false
is_of_body refusals.Version = false
is_of_body refusals.Header = false
is_of_body refusals.BodyLength = false
is_of_body refusals.Order = false
is_of_body refusals.Unsupported = false
is_of_body refusals.Schema = false
is_of_body refusals.Compressed = false
is_of_body refusals.UnknownId = false
is_of_body refusals.NoBase = false
is_of_body refusals.Rows = false
is_of_body refusals.Layout = true
is_of_body refusals.Text = true
is_of_body refusals.Index = true
is_of_body refusals.NoSchema = false

-- what is reported of a message that is rejected, for its body or not
abbrev pub ReportsRefused : Bool → LimitNumbers → Rejection → StreamState → List ℕ → CulpritC → Type 0
ReportsRefused true limits kind s message stated = ReportsMessage limits kind s message stated
ReportsRefused false limits kind s message stated = stated ≡ no_culprit 0

-- what is reported of a stream with this verdict and this state, whose last message is at these bytes
abbrev pub ReportsVerdict : LimitNumbers → Verdict → StreamState → List ℕ → CulpritC → Type 0
ReportsVerdict limits Open s message stated = stated ≡ no_culprit 0
ReportsVerdict limits Done s message stated = stated ≡ no_culprit 0
ReportsVerdict limits (Bad kind) s message stated = ReportsRefused (is_of_body kind) limits kind s message stated

-- The column at fault of a stream with these bytes was reported; or that an allocation failed.
abbrev pub ReportsCulprit : LimitNumbers → List ℕ → CulpritC → Type 0
ReportsCulprit limits bytes stated =
    ((entries : List Entry) × ((e : Snapshot) × FrontOf limits bytes entries e × ReportsVerdict limits e.verdict e.state (drop e.place bytes) stated))
    ⊎ (stated ≡ no_culprit out_of_memory)

-- The same; or that limits are above their ceilings or there is no such set of types.
abbrev pub Blames : LimitsC → List ℕ → CulpritC → Type 0
Blames limits bytes stated =
    (AreLimits limits × ReportsCulprit (numbers limits) bytes stated) ⊎ ((AreLimits limits → ⊥) × (stated ≡ no_culprit bad_limits))
