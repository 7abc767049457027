-- The meaning of a diagnosis of a message that was rejected or cut off.
use Rattle.std.specs.Prelude.{⊤}
use Rattle.arrow_stream_reader.specs.declared.kind.Kind.{Kind}
use Rattle.arrowflow_diagnosis.specs.Rejection.{Situation}
use Rattle.arrowflow_diagnosis.specs.Prefix.{PrefixFails, prefix_kind}
use Rattle.arrowflow_diagnosis.specs.Cut.{IsCut, cut_kind}
use Rattle.arrowflow_diagnosis.specs.Message.{MessageFails, message_kind}
use Rattle.arrowflow_diagnosis.specs.Rows.{RowsFail, rows_kind}
use Rattle.arrowflow_diagnosis.specs.Fields.{SchemaFails, schema_kind}
use Rattle.arrowflow_diagnosis.specs.declared.diagnosis.Diagnosis.{Diagnosis}
use Rattle.arrowflow_diagnosis.specs.declared.diagnosis.Diagnosis.TheVariants.{Prefix, Ends, Message, Rows, Schema, Other}

-- the kind of fault that a diagnosis explains
abbrev pub kind_of : Diagnosis → Kind
kind_of (Prefix fault) = prefix_kind fault
kind_of (Ends cut) = cut_kind cut.before_schema
kind_of (Message fault) = message_kind fault
kind_of (Rows fault) = rows_kind fault
kind_of (Schema fault) = schema_kind fault
kind_of (Other kind) = kind

-- The condition that a diagnosis names holds.
abbrev pub Holds : Diagnosis → Situation → Type 0
Holds (Prefix fault) s = PrefixFails fault s
Holds (Ends cut) s = IsCut cut s
Holds (Message fault) s = MessageFails fault s
Holds (Rows fault) s = RowsFail fault s
Holds (Schema fault) s = SchemaFails fault s
Holds (Other kind) s = ⊤
