use Rattle.std.proofs.Common.{◌≡◌, ◌-◌, ◌^◌, min, take}
use Rattle.arrowflow_contents.specs.Sizes.{buffer_bytes}
use Rattle.arrowflow_contents.proofs.sizes.bytes_of.Given as goal

-- the sum of the lengths of the buffers before this one
abbrev pub invariant-loop-buffer : goal.invariant-loop-buffer
invariant-loop-buffer l = l.bytes ≡ min (buffer_bytes (take l.buffer-index l.buffers)) (2 ^ 64 - 1)
