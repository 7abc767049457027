use Rattle.std.proofs.Common.{ℕ, List, drop, map}
use Rattle.arrowflow_line.specs.Sizes.{IsPartedBy, unit_of}
use Rattle.arrowflow_line.proofs.sizes.parted.Given as goal

-- the text ends with none of the units before this index
abbrev pub invariant-loop-unit : goal.invariant-loop-unit
invariant-loop-unit l = (number : List ℕ) (bytes : ℕ) → IsPartedBy (map unit_of (drop l.unit-index l.units)) l.text number bytes → IsPartedBy (map unit_of l.units) l.text number bytes
