use Rattle.std.proofs.Common.{◌≡◌, ◌++◌, length, map, string_bytes, IsUtf8}
use Rattle.arrowflow_line.specs.CommandLine.{names_by}
use Rattle.arrowflow_line.proofs.reading.parts_of.Given as goal

-- the parts in the list and those of the remaining text are all parts
abbrev pub invariant-loop-part : goal.invariant-loop-part
invariant-loop-part l = (map string_bytes l.parts.items ++ names_by l.rest ≡ names_by l.text) × IsUtf8 l.rest

abbrev pub decreases-loop-part : goal.decreases-loop-part
decreases-loop-part l = length l.rest
