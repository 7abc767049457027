use Rattle.std.proofs.Common.{◌≡◌, take}
use Rattle.arrow_layout.specs.Value.{values_view}
use Rattle.arrow_layout.proofs.value.+copy.Given as goal

-- the copies so far are equal to the values so far
abbrev pub invariant-copy_values-loop-value : goal.invariant-copy_values-loop-value
invariant-copy_values-loop-value l = values_view l.copies.items ≡ values_view (take l.value-index l.values)
