-- Why a body is rejected, as a fault of the layer that reads bodies.
use Rattle.std.specs.Prelude.{◌≡◌, ◌⊎◌, ℕ, ℤ, List, Option, None, Some, Result, Ok, Err}
use Rattle.arrow_types.specs.Field.{FieldTree}
use Rattle.arrow_types.specs.Limits.{LimitNumbers}
use Rattle.arrow_data.specs.Column.{Column, ValueList}
use Rattle.arrow_body_reader.specs.declared.body.BodyFault.{BodyFault}
use Rattle.arrow_body_reader.specs.declared.body.BodyFault.TheVariants as bodies
use Rattle.arrow_meta_reader.specs.Means.{PlainBatch}
use Rattle.arrow_stream_reader.specs.Batch.{Loads}
use Rattle.arrow_stream_reader.specs.State.{StreamState}
use Rattle.arrow_stream_reader.specs.declared.reader.Verdict.{Verdict}
use Rattle.arrow_stream_reader.specs.declared.fault.Fault.{Fault}
use Rattle.arrow_stream_reader.specs.declared.kind.Kind.{Kind}
use Rattle.arrow_stream_reader.specs.declared.kind.Kind.TheVariants as kinds
use Rattle.arrow_stream_reader.specs.declared.kind.Rejection.{Rejection}
use Rattle.arrow_stream_reader.specs.declared.kind.Rejection.TheVariants as refusals
use Rattle.arrowflow_calls.specs.declared.culprit.CulpritC.{CulpritC}
use Rattle.arrowflow_calls.specs.Culprit.{ReportsMessage, ReportsVerdict, no_culprit}
use Rattle.arrowflow_calls.specs.Kinds.{out_of_memory}

-- the kind of a body's fault; the last case does not occur in a check, which does not allocate
abbrev pub refusal_by : BodyFault → Rejection
refusal_by bodies.Layout = refusals.Layout
refusal_by bodies.Text = refusals.Text
refusal_by bodies.Index = refusals.Index
refusal_by bodies.Memory = refusals.NoSchema

-- the fault of a body that has this kind, if there is one
abbrev pub body_fault : Kind → Option BodyFault
body_fault kinds.Continuation = None
body_fault kinds.MetadataSize = None
body_fault kinds.Metadata = None
body_fault kinds.Version = None
body_fault kinds.Header = None
body_fault kinds.BodyLength = None
body_fault kinds.Order = None
body_fault kinds.Unsupported = None
body_fault kinds.Schema = None
body_fault kinds.Compressed = None
body_fault kinds.UnknownId = None
body_fault kinds.NoBase = None
body_fault kinds.Rows = None
body_fault kinds.Layout = Some bodies.Layout
body_fault kinds.Text = Some bodies.Text
body_fault kinds.Index = Some bodies.Index
body_fault kinds.NoSchema = None
body_fault kinds.Truncated = None
body_fault kinds.Memory = None

-- the fault of a body with which a stream ends, if it does
abbrev pub ending_fault : Result (Unit {0}) Fault → Option BodyFault
ending_fault (Ok done) = None
ending_fault (Err fault) = body_fault fault.kind

-- what is reported of a message whose body has this fault, or that an allocation failed
abbrev pub ReportsSo : LimitNumbers → BodyFault → StreamState → List ℕ → CulpritC → Type 0
ReportsSo limits fault s message stated = ReportsMessage limits (refusal_by fault) s message stated ⊎ (stated ≡ no_culprit out_of_memory)

-- the same for a stream with this verdict
abbrev pub ReportsEnding : LimitNumbers → Verdict → StreamState → List ℕ → CulpritC → Type 0
ReportsEnding limits verdict s message stated = ReportsVerdict limits verdict s message stated ⊎ (stated ≡ no_culprit out_of_memory)

-- This is the fault of a body with these columns, or there is none.
abbrev pub IsFaultOf : Option BodyFault → List ℕ → List (ℤ × ValueList) → FieldTree → PlainBatch → Type 0
IsFaultOf None body ds fields record_batch = (cs : List Column) × Loads body ds fields record_batch (Ok cs)
IsFaultOf (Some fault) body ds fields record_batch = (fault ≡ bodies.Memory → ⊥) × Loads body ds fields record_batch (Err (refusal_by fault))
