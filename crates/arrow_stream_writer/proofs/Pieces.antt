-- What a sink accepted of two pieces, one after the other.
use Rattle.std.proofs.Common.{◌+◌, ℕ, List, ◌++◌, length, take, Option, sym, subst, arith, length-append}
use Rattle.std.specs.Io.KnownBytes.{Appends}
use Rattle.std.proofs.KnownBytes.{Appends-trans}
use Rattle.std.proofs.lemmas.List.{take-append-le}
use Rattle.std.proofs.Math.Seq.{take-append-add}
use Rattle.arrow_sink.specs.Sinks.{AcceptsBeginning}

-- a prefix of the first piece is a prefix of both
pub of_first : (a b : Option (List ℕ)) (first second : List ℕ) → AcceptsBeginning a b first → AcceptsBeginning a b (first ++ second)
of_first a b first second (n, few, more) =
    (n, omega (arith, few, length-append first second), subst (Appends a b) (sym (take-append-le n first second few)) more)

-- so are the first piece and a prefix of the second
pub of_second : (a b c : Option (List ℕ)) (first second : List ℕ) → Appends a b first → AcceptsBeginning b c second → AcceptsBeginning a c (first ++ second)
of_second a b c first second whole (n, few, more) =
    (length first + n, omega (arith, few, length-append first second), subst (Appends a c) (sym (take-append-add first second n)) (Appends-trans a b c first (take n second) whole more))
