-- What a sink accepts, if it is known, and how its failures are counted. (This project's own.)
use Rattle.std.specs.Prelude.{◌≡◌, ℕ, zero, suc, ◌+◌, ◌≤◌, List, length, take, Option, Result, MatchResult}
use Rattle.std.specs.Io.KnownBytes.{Appends, Keeps}
use Rattle.arrow_sink.specs.declared.sink.SinkFault.{SinkFault}

-- the first n bytes of a piece if the result is n, none with an error
abbrev pub Puts : Option (List ℕ) → Option (List ℕ) → Result ℕ SinkFault → List ℕ → Type 0
Puts old new answer piece = MatchResult answer (λ n. Appends old new (take n piece)) (λ _. Keeps old new)

-- taking no byte of a piece that has bytes is a failure
abbrev pub CountsTaken : ℕ → ℕ → ℕ → ℕ → Type 0
CountsTaken old new zero zero = new ≡ old
CountsTaken old new zero (suc len) = new ≡ old + 1
CountsTaken old new (suc n) len = new ≡ old

-- one more failure with an error, and with the result 0 for a piece that has bytes; else none
abbrev pub CountsPut : ℕ → ℕ → Result ℕ SinkFault → ℕ → Type 0
CountsPut old new answer len = MatchResult answer (λ n. CountsTaken old new n len) (λ _. new ≡ old + 1)

-- one more failure exactly with an error
abbrev pub CountsFlush : ℕ → ℕ → Result (Unit {0}) SinkFault → Type 0
CountsFlush old new answer = MatchResult answer (λ _. new ≡ old) (λ _. new ≡ old + 1)

-- some beginning of the bytes was accepted
abbrev pub AcceptsBeginning : Option (List ℕ) → Option (List ℕ) → List ℕ → Type 0
AcceptsBeginning old new bytes = (n : ℕ) × (n ≤ length bytes) × Appends old new (take n bytes)
