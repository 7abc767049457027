use Rattle.std.proofs.Common.{◌≡◌, ◌≤◌}
use Rattle.std.specs.Prelude.{count_by, not}
use Rattle.arrow_bits.specs.Bitmap.{bits_of}
use Rattle.arrow_bits.proofs.plain.count_zero.Given as goal

-- the zeros of the bits so far, which are no more than the bits
abbrev pub invariant-loop-j : goal.invariant-loop-j
invariant-loop-j l = record { same : l.zeros ≡ count_by not (bits_of l.j l.bytes); few : l.zeros ≤ l.j }
