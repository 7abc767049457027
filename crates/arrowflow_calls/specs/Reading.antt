-- What a reader that is kept between calls does, and what is reported of it.
use Rattle.std.specs.Prelude.{◌≡◌, ◌⊎◌, ◌==◌, if◌then◌else◌, ℕ, List, [], Option, None, Some, Result, Ok, Err, IfOk, IfErr}
use Rattle.arrow_data.specs.Batch.{Table}
use Rattle.arrow_stream_reader.specs.declared.fault.Fault.{Fault}
use Rattle.arrow_stream_reader.specs.declared.item.Item.{Item}
use Rattle.arrow_stream_reader.specs.declared.item.Item.TheVariants as items
use Rattle.arrow_stream_reader.specs.declared.kind.Rejection.{Rejection}
use Rattle.arrow_stream_reader.specs.declared.reader.Verdict.TheVariants.{Open, Done, Bad}
use Rattle.arrow_stream_reader.specs.Kind.{kind_of}
use Rattle.arrow_stream_reader.specs.Stream.{FailsFor, GoesOn, MemoryAlone, ReaderView, ReadsOn, TakesPiece, ended_so, fresh}
use Rattle.arrowflow_calls.specs.declared.reading.Reading.{Reading}
use Rattle.arrowflow_calls.specs.declared.steps.FaultC.{FaultC}
use Rattle.arrowflow_calls.specs.declared.steps.StepC.{StepC}
use Rattle.arrowflow_calls.specs.declared.terms.LimitsC.{LimitsC}
use Rattle.arrowflow_calls.specs.Kinds.{bad_limits, no_handle, out_of_memory}
use Rattle.arrowflow_calls.specs.Steps.{end_reported, fault_step, step_reported}
use Rattle.arrowflow_calls.specs.Terms.{AreLimits, numbers}

-- the batch of a reader's result, if it gave one
abbrev pub batch_given : Result (ℕ × Option Item) Fault → Option Table
batch_given (Ok (taken, None)) = None
batch_given (Ok (taken, Some items.Schema)) = None
batch_given (Ok (taken, Some (items.Dictionary id))) = None
batch_given (Ok (taken, Some (items.Batch b))) = Some b
batch_given (Ok (taken, Some items.End)) = None
batch_given (Err fault) = None

-- A reader was given a piece, and returned this: each field is the clause of `StreamReader::read` of its name.
pub record AnswersPiece (old : ReaderView) (piece : List ℕ) (answer : Result (ℕ × Option Item) Fault) (new : ReaderView) : Type 0 where
  pub takes : IfOk answer (λ taken. TakesPiece piece taken)
  pub reads : ReadsOn old piece answer new
  pub memory : IfErr answer (MemoryAlone old new)
  pub fails : IfErr answer (FailsFor old new)
  pub goes_on : IfOk answer (λ taken. GoesOn taken.1 old.at.verdict new.at.verdict)
  pub limits : new.limits ≡ old.limits
  pub failed : (k : Rejection) → old.at.verdict ≡ Bad k → (answer ≡ Err (record { kind = kind_of k; place = old.at.place })) × (new ≡ old)
  pub done : old.at.verdict ≡ Done → (answer ≡ Ok (0, None)) × (new ≡ old)
  pub empty : old.at.verdict ≡ Open → piece ≡ [] → (answer ≡ Ok (0, None)) × (new ≡ old)

-- A reader was given a piece, and its result was reported, with its batch, or the last one if an allocation failed.
pub record Reads (old : Reading) (piece : List ℕ) (step : StepC) (new : Reading) : Type 0 where
  pub answer : Result (ℕ × Option Item) Fault
  pub answers : AnswersPiece old.reader piece answer new.reader
  pub stated : step ≡ step_reported answer
  pub batch : new.batch ≡ (if step.kind == out_of_memory then old.batch else batch_given answer)

-- the same, if there is a reader
abbrev pub ReadsIf : Option Reading → List ℕ → StepC → Option Reading → Type 0
ReadsIf None piece step new = (step ≡ fault_step no_handle 0) × (new ≡ None)
ReadsIf (Some old) piece step new = (r : Reading) × Reads old piece step r × (new ≡ Some r)

-- The result of a stream that ends here was reported, if there is a reader, which is unchanged.
abbrev pub Ends : Option Reading → FaultC → Option Reading → Type 0
Ends None fault new = (fault ≡ record { kind = no_handle; place = 0 }) × (new ≡ None)
Ends (Some old) fault new = (fault ≡ end_reported (ended_so old.reader.at)) × (new ≡ Some old)

-- A new reader was made; or none, if an allocation failed, a limit is above its ceiling or no such types exist.
abbrev pub Opens : LimitsC → ℕ → Option Reading → Type 0
Opens limits kind new =
    (AreLimits limits × (((kind ≡ 0) × (new ≡ Some (record { reader = fresh (numbers limits); batch = None }))) ⊎ ((kind ≡ out_of_memory) × (new ≡ None))))
    ⊎ ((AreLimits limits → ⊥) × (kind ≡ bad_limits) × (new ≡ None))
