-- The state of a copy whose output goes to a sink, or to a writer over it.
use Rattle.std.specs.Prelude.{ℕ, List, Option}
use Rattle.arrow_stream_writer.specs.Shown.{shown}
use Rattle.arrowflow_copy.specs.Copying.{At, waiting, writing}
use Rattle.arrowflow_copy.specs.declared.copier.WriterState.{WriterState}
use Rattle.arrowflow_copy.specs.declared.copier.WriterState.TheVariants.{Waiting, Writing}

-- the state of a copy whose output goes here
abbrev pub at_of : {S : Type 0} → (S → Option (List ℕ)) → (S → ℕ) → WriterState S → At
at_of contents failed (Waiting sink) = waiting (contents sink) (failed sink)
at_of contents failed (Writing writer) = writing (shown contents failed writer)

-- the output itself
abbrev pub sink_in : {S : Type 0} → WriterState S → S
sink_in (Waiting sink) = sink
sink_in (Writing writer) = writer.sink

-- the output passed on all that it accepted
abbrev pub IsPassedOn : {S : Type 0} → (S → Type 0) → WriterState S → Type 0
IsPassedOn passed target = passed (sink_in target)
