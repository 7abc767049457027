-- Prefixes of texts that are sent one after the other.
use Rattle.std.proofs.Common.{◌+◌, ℕ, List, ◌++◌, length, take, Option, sym, subst, arith}
use Rattle.std.specs.Io.KnownBytes.{Appends}
use Rattle.std.proofs.KnownBytes.{Appends-nil, Appends-trans}
use Rattle.std.proofs.Math.Seq.{take-append-add}
use Rattle.std.proofs.lemmas.List.{length-append, take-append-le, take_all}
use Rattle.arrow_sink.specs.Sinks.{AcceptsBeginning}

-- a text is a prefix of itself
pub begun_all : (a b : Option (List ℕ)) (text : List ℕ) → Appends a b text → AcceptsBeginning a b text
begun_all a b text h = (length text, omega arith, subst (Appends a b) (sym (take_all (length text) text (omega arith))) h)

-- the empty text is a prefix of any
pub begun_nothing : (a : Option (List ℕ)) (text : List ℕ) → AcceptsBeginning a a text
begun_nothing a text = (0, omega arith, Appends-nil a)

-- a prefix of a second text, after the whole first text, is a prefix of both
pub begun_after : (a b c : Option (List ℕ)) (s t : List ℕ) → Appends a b s → AcceptsBeginning b c t → AcceptsBeginning a c (s ++ t)
begun_after a b c s t h (n, within, g) =
    (length s + n, omega (arith, within, length-append s t), subst (Appends a c) (sym (take-append-add s t n)) (Appends-trans a b c s (take n t) h g))

-- a prefix of a text is a prefix of a longer one
pub begun_longer : (a b : Option (List ℕ)) (s t : List ℕ) → AcceptsBeginning a b s → AcceptsBeginning a b (s ++ t)
begun_longer a b s t (n, within, g) = (n, omega (arith, within, length-append s t), subst (Appends a b) (sym (take-append-le n s t within)) g)
