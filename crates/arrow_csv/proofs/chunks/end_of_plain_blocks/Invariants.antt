use Rattle.std.proofs.Common.{◌≤◌, ◌-◌, length}
use Rattle.arrow_csv.specs.Chunks.{AreAllPlain}
use Rattle.arrow_csv.proofs.chunks.end_of_plain_blocks.Given as goal

-- the bytes so far need no quotes
abbrev pub invariant-loop-place : goal.invariant-loop-place
invariant-loop-place l = (l.place ≤ length l.field) × AreAllPlain l.field 0 l.place

-- the bytes that are left
abbrev pub decreases-loop-place : goal.decreases-loop-place
decreases-loop-place l = length l.field - l.place
