-- An input of which at most a given number of bytes is read.
use Rattle.std.specs.Prelude.{◌≡◌, ℕ, Bool, true, false, List, [], ◌∷◌, Option, None, Some, Result, MatchResult}
use Rattle.std.specs.Io.KnownBytes.{Consumes, IsAtEnd, Keeps}

-- the byte that waits, if there is one
abbrev pub waiting : Option ℕ → List ℕ
waiting None = []
waiting (Some byte) = byte ∷ []

-- there is one: the input has more than may be read
abbrev pub is_longer_by : Option ℕ → Bool
is_longer_by None = false
is_longer_by (Some byte) = true

-- the result of a read for one further byte: there is none, or the read failed and took none
abbrev pub LooksOn : {E : Type 0} → Option (List ℕ) → Option (List ℕ) → Result ℕ E → Type 0
LooksOn had left answer = MatchResult answer (λ count. (count ≡ 0) × Consumes had left [] × IsAtEnd left) (λ failure. Keeps had left)
