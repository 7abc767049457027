-- The kinds of faults that a reader reports. Their names and numbers are this project's own.
use Rattle.std.specs.Prelude.{ℕ, List, ◌++◌, codes}
use Rattle.std.specs.Fmt.{decimal}
use Rattle.arrow_stream_reader.specs.declared.fault.Fault.{Fault}
use Rattle.arrow_stream_reader.specs.declared.kind.Kind.{Kind}
use Rattle.arrow_stream_reader.specs.declared.kind.Kind.TheVariants as kinds
use Rattle.arrow_stream_reader.specs.declared.kind.Rejection.{Rejection}
use Rattle.arrow_stream_reader.specs.declared.kind.Rejection.TheVariants as refusals

-- the kind of the same name
abbrev pub kind_of : Rejection → Kind
kind_of refusals.Continuation = kinds.Continuation
kind_of refusals.MetadataSize = kinds.MetadataSize
kind_of refusals.Metadata = kinds.Metadata
kind_of refusals.Version = kinds.Version
kind_of refusals.Header = kinds.Header
kind_of refusals.BodyLength = kinds.BodyLength
kind_of refusals.Order = kinds.Order
kind_of refusals.Unsupported = kinds.Unsupported
kind_of refusals.Schema = kinds.Schema
kind_of refusals.Compressed = kinds.Compressed
kind_of refusals.UnknownId = kinds.UnknownId
kind_of refusals.NoBase = kinds.NoBase
kind_of refusals.Rows = kinds.Rows
kind_of refusals.Layout = kinds.Layout
kind_of refusals.Text = kinds.Text
kind_of refusals.Index = kinds.Index
kind_of refusals.NoSchema = kinds.NoSchema

-- the number of a kind, and its name
abbrev pub number_and_name : Kind → ℕ × List ℕ
number_and_name kinds.Continuation = (1, codes "Continuation")
number_and_name kinds.MetadataSize = (2, codes "MetadataSize")
number_and_name kinds.Metadata = (3, codes "Metadata")
number_and_name kinds.Version = (4, codes "Version")
number_and_name kinds.Header = (5, codes "Header")
number_and_name kinds.BodyLength = (6, codes "BodyLength")
number_and_name kinds.Order = (7, codes "Order")
number_and_name kinds.Unsupported = (8, codes "Unsupported")
number_and_name kinds.Schema = (9, codes "Schema")
number_and_name kinds.Compressed = (10, codes "Compressed")
number_and_name kinds.UnknownId = (11, codes "UnknownId")
number_and_name kinds.NoBase = (12, codes "NoBase")
number_and_name kinds.Rows = (13, codes "Rows")
number_and_name kinds.Layout = (14, codes "Layout")
number_and_name kinds.Text = (15, codes "Text")
number_and_name kinds.Index = (16, codes "Index")
number_and_name kinds.NoSchema = (17, codes "NoSchema")
number_and_name kinds.Truncated = (18, codes "Truncated")
number_and_name kinds.Memory = (19, codes "Memory")

abbrev pub number_of : Kind → ℕ
number_of kind = (number_and_name kind).0

abbrev pub name_of : Kind → List ℕ
name_of kind = (number_and_name kind).1

-- the text of a fault: the offset of its message, and the kind's name
abbrev pub fault_text : Fault → List ℕ
fault_text fault = codes "fault at byte " ++ decimal fault.place ++ codes ": " ++ name_of fault.kind
