-- What the calls of a reader return.
use Rattle.std.specs.Prelude.{ℕ, pos, length, Option, None, Some, Result, Ok, Err}
use Rattle.arrow_stream_reader.specs.declared.fault.Fault.{Fault}
use Rattle.arrow_stream_reader.specs.declared.item.Item.{Item}
use Rattle.arrow_stream_reader.specs.declared.item.Item.TheVariants as items
use Rattle.arrow_stream_reader.specs.Kind.{number_of}
use Rattle.arrowflow_calls.specs.declared.steps.FaultC.{FaultC}
use Rattle.arrowflow_calls.specs.declared.steps.StepC.{StepC}

-- this was complete, and that many bytes were taken
abbrev pub bare_step : ℕ → ℕ → StepC
bare_step what taken = record { kind = 0; what = what; taken = taken; place = 0; id = pos 0; columns = 0; rows = 0 }

-- a fault of this kind at this place
abbrev pub fault_step : ℕ → ℕ → StepC
fault_step kind place = record (bare_step 0 0) { kind = kind; place = place }

-- what is reported of a reader's result
abbrev pub step_reported : Result (ℕ × Option Item) Fault → StepC
step_reported (Ok (taken, None)) = bare_step 0 taken
step_reported (Ok (taken, Some items.Schema)) = bare_step 1 taken
step_reported (Ok (taken, Some (items.Dictionary id))) = record (bare_step 2 taken) { id = id }
step_reported (Ok (taken, Some (items.Batch b))) = record (bare_step 3 taken) { columns = length b.columns; rows = b.rows }
step_reported (Ok (taken, Some items.End)) = bare_step 4 taken
step_reported (Err fault) = fault_step (number_of fault.kind) fault.place

-- what is reported of a stream that ends with this result
abbrev pub end_reported : Result (Unit {0}) Fault → FaultC
end_reported (Ok done) = record { kind = 0; place = 0 }
end_reported (Err fault) = record { kind = number_of fault.kind; place = fault.place }
