use Rattle.std.proofs.Common.{◌≡◌, drop}
use Rattle.csv.specs.Writing.{default_writer, needs_quotes}
use Rattle.arrow_csv.proofs.chunks.has_special.Given as goal

-- the bytes still to come decide for the complete field
abbrev pub invariant-loop-byte : goal.invariant-loop-byte
invariant-loop-byte l = needs_quotes default_writer (drop l.byte-index l.field) ≡ needs_quotes default_writer l.field
