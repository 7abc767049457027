-- Inputs that are read as connections (Columnar Format, "IPC Streaming Format").
use Rattle.std.specs.Prelude.{◌≡◌, ◌⊎◌, ℕ, ◌+◌, true, List, [], ◌∷◌, map, Option, Some, Result, Ok, Err, Vec, ⊤}
use Rattle.std.specs.Io.KnownBytes.{Consumes}
use Rattle.std.specs.declared.alloc.Global.{Global}
use Rattle.arrow_types.specs.Limits.{LimitNumbers}
use Rattle.arrow_types.specs.Notes.{SchemaShape}
use Rattle.arrow_data.specs.Batch.{Table}
use Rattle.arrow_stream_reader.specs.declared.fault.Fault.{Fault}
use Rattle.arrow_stream_reader.specs.Front.{Entry, Snapshot, FrontOf}
use Rattle.arrow_stream_reader.specs.Tables.{tables_of}
use Rattle.arrow_stream_laws.specs.Sizes.{Options}
use Rattle.arrowflow_session.specs.Asked.{Asked, asked_of}
use Rattle.arrowflow_session.specs.declared.connection.Connection.{Connection}
use Rattle.arrowflow_input.specs.Reads.{IsReadWhile}
use Rattle.arrowflow_input.specs.Endings.{EndsBadly, EndsWell, IsOpenAt}
use Rattle.arrowflow_input.specs.declared.tool_fault.ToolFault.{ToolFault}
use Rattle.arrowflow_input.specs.declared.tool_fault.ToolFault.TheVariants.{Input, Output, Stream, Refused, Memory}

-- ---- a stream

-- These bytes are a stream that ends well, of this schema and these batches.
pub record IsWhole (limits : LimitNumbers) (bytes : List ℕ) (left : Option (List ℕ)) (schema : Option SchemaShape) (batches : List Table) : Type 0 where
  pub entries : List Entry
  pub snapshot : Snapshot
  pub front : FrontOf limits bytes entries snapshot
  pub ends : EndsWell left snapshot
  pub schema_is : schema ≡ snapshot.state.schema
  pub batches_are : batches ≡ tables_of entries

-- They are a stream that is rejected, or ends too early, with this fault.
pub record IsRefusedStream (limits : LimitNumbers) (bytes : List ℕ) (left : Option (List ℕ)) (fault : Fault) : Type 0 where
  pub entries : List Entry
  pub snapshot : Snapshot
  pub front : FrontOf limits bytes entries snapshot
  pub ends : EndsBadly left snapshot fault

-- ---- connections

-- how streams are read, and how those of their connections are sent, and how many bytes are delivered
pub record Asks : Type 0 where
  pub limits : LimitNumbers
  pub options : Options
  pub deliver : ℕ

-- The connection of a stream: its schema and its batches, with an end marker.
pub record IsConnectionOf (asks : Asks) (bytes : List ℕ) (left : Option (List ℕ)) (c : Asked) : Type 0 where
  pub stream : IsWhole asks.limits bytes left (Some c.shape) c.batches
  pub options_are : c.options ≡ asks.options
  pub finishes : c.finish ≡ true
  pub delivers : c.deliver ≡ asks.deliver

-- The result for the input of this number. The only fault of the input itself is a failed read, if it has failed.
abbrev pub Brings : Asks → ℕ → List ℕ → Option (List ℕ) → Type 0 → Result Asked ToolFault → Type 0
Brings asks number bytes left failed (Ok c) = IsConnectionOf asks bytes left c
Brings asks number bytes left failed (Err (Stream fault)) = IsRefusedStream asks.limits bytes left fault
Brings asks number bytes left failed (Err (Input n)) = (n ≡ number) × failed × IsOpenAt asks.limits bytes
Brings asks number bytes left failed (Err Memory) = ⊤
Brings asks number bytes left failed (Err Output) = ⊥
Brings asks number bytes left failed (Err (Refused what kind)) = ⊥

-- the same for an input that had these bytes before and has these after it
abbrev pub IsRead : Asks → ℕ → Option (List ℕ) → Option (List ℕ) → Type 0 → Result Asked ToolFault → Type 0
IsRead asks number had left failed answer =
    (bytes : List ℕ) × Consumes had left bytes × IsReadWhile (IsOpenAt asks.limits) bytes × Brings asks number bytes left failed answer

-- a fault as a fault of the input of this number
abbrev pub of_input : ℕ → ToolFault → ToolFault
of_input number (Input n) = Input number
of_input number Output = Output
of_input number (Stream fault) = Stream fault
of_input number (Refused what kind) = Refused what kind
of_input number Memory = Memory

-- the request for the connection that was made of an input, or its fault
abbrev pub asked_in : Result Connection ToolFault → Result Asked ToolFault
asked_in (Ok c) = Ok (asked_of c)
asked_in (Err fault) = Err fault

-- The inputs from this number on, with their bytes before and after, were read one by one, each as a connection.
abbrev pub AreRead : {R : Type 0} → (R → Option (List ℕ)) → (R → Type 0) → Asks → ℕ → List R → List R → List Asked → Type 0
AreRead remaining has_failed asks number [] [] [] = Unit {0}
AreRead remaining has_failed asks number [] [] (c ∷ cs) = ⊥
AreRead remaining has_failed asks number [] (left ∷ lefts) cs = ⊥
AreRead remaining has_failed asks number (had ∷ hads) [] cs = ⊥
AreRead remaining has_failed asks number (had ∷ hads) (left ∷ lefts) [] = ⊥
AreRead remaining has_failed asks number (had ∷ hads) (left ∷ lefts) (c ∷ cs) =
    IsRead asks number (remaining had) (remaining left) (has_failed left) (Ok c) × AreRead remaining has_failed asks (number + 1) hads lefts cs

-- One of them ended the reading with this fault: those before it were read as connections, no other was read.
abbrev pub EndsReading : {R : Type 0} → (R → Option (List ℕ)) → (R → Type 0) → Asks → ℕ → List R → List R → ToolFault → Type 0
EndsReading remaining has_failed asks number [] lefts fault = ⊥
EndsReading remaining has_failed asks number (had ∷ hads) [] fault = ⊥
EndsReading remaining has_failed asks number (had ∷ hads) (left ∷ lefts) fault =
    (IsRead asks number (remaining had) (remaining left) (has_failed left) (Err fault) × (lefts ≡ hads))
    ⊎ (((c : Asked) × IsRead asks number (remaining had) (remaining left) (has_failed left) (Ok c)) × EndsReading remaining has_failed asks (number + 1) hads lefts fault)

-- The result for all inputs. A failed allocation may end it at any time.
abbrev pub ReadsAll : {R : Type 0} → (R → Option (List ℕ)) → (R → Type 0) → Asks → List R → List R → Result (List Asked) ToolFault → Type 0
ReadsAll remaining has_failed asks hads lefts (Ok cs) = AreRead remaining has_failed asks 0 hads lefts cs
ReadsAll remaining has_failed asks hads lefts (Err (Stream fault)) = EndsReading remaining has_failed asks 0 hads lefts (Stream fault)
ReadsAll remaining has_failed asks hads lefts (Err (Input number)) = EndsReading remaining has_failed asks 0 hads lefts (Input number)
ReadsAll remaining has_failed asks hads lefts (Err Memory) = ⊤
ReadsAll remaining has_failed asks hads lefts (Err Output) = ⊥
ReadsAll remaining has_failed asks hads lefts (Err (Refused what kind)) = ⊥

-- the requests for the connections that were made of all inputs, or the fault
abbrev pub all_asked_in : Result (Vec Connection Global) ToolFault → Result (List Asked) ToolFault
all_asked_in (Ok cs) = Ok (map asked_of cs.items)
all_asked_in (Err fault) = Err fault
