use Rattle.std.proofs.Common.{◌≡◌, ◌+◌, ◌<◌, ℕ}
use Rattle.std.specs.Prelude.{pos, ◌≤ℤ◌}
use Rattle.arrow_bits.specs.Offsets.{large_offset_at}
use Rattle.arrow_bits.proofs.plain.check_large_offsets.Given as goal

-- the offsets so far begin at 0 or above and do not fall, and the last of them is in the variable
abbrev pub invariant-loop-i : goal.invariant-loop-i
invariant-loop-i l = record {
  first : pos 0 ≤ℤ large_offset_at l.bytes 0;
  rise : (j : ℕ) → j < l.i → large_offset_at l.bytes j ≤ℤ large_offset_at l.bytes (j + 1);
  here : l.last ≡ large_offset_at l.bytes l.i;
  sign : pos 0 ≤ℤ l.last;
}
