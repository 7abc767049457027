use Rattle.std.proofs.Common.{◌≡◌, ◌≤◌, ◌+◌, ◌-◌, drop, length}
use Rattle.std.specs.List.{position_or_len}
use Rattle.arrow_csv.specs.Chunks.{is_mark}
use Rattle.arrow_csv.proofs.chunks.quote_place.Given as goal

-- the first double quote from here on is that from the beginning
abbrev pub invariant-loop-place : goal.invariant-loop-place
invariant-loop-place l =
    (l.place + position_or_len is_mark (drop l.place l.field) ≡ l.from + position_or_len is_mark (drop l.from l.field)) × (l.place ≤ length l.field)

-- the bytes that are left
abbrev pub decreases-loop-place : goal.decreases-loop-place
decreases-loop-place l = length l.field - l.place
