-- How a sink over a writer reports the writer's results. (This project's own.)
use Rattle.std.specs.Prelude.{◌≡◌, ℕ, ◌+◌, Result, Ok, IsErr, MatchResult}
use Rattle.arrow_sink.specs.declared.sink.SinkFault.{SinkFault}

-- a value is reported as it is, and each error as a fault
abbrev pub ReportsAnswer : {T E : Type 0} → Result T E → Result T SinkFault → Type 0
ReportsAnswer answer reported = MatchResult answer (λ value. reported ≡ Ok value) (λ _. IsErr reported)

-- one more failure exactly with an error
abbrev pub CountsError : {T : Type 0} → ℕ → ℕ → Result T SinkFault → Type 0
CountsError old new reported = MatchResult reported (λ _. new ≡ old) (λ _. new ≡ old + 1)
