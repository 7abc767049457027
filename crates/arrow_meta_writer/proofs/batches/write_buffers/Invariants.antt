use Rattle.std.proofs.Common.{◌≡◌, ◌++◌, drop, map, length}
use Rattle.arrow_flatbuf.specs.Nodes.{pair_bytes, laid, pairs}
use Rattle.arrow_meta_writer.specs.Layouts.{buffer_pair}
use Rattle.arrow_meta_writer.specs.Writable.{AreBuffers}
use Rattle.arrow_meta_writer.proofs.batches.write_buffers.Given as goal

-- the bytes so far and the remaining pairs are the complete vector
abbrev pub invariant-loop-buffer : goal.invariant-loop-buffer
invariant-loop-buffer l = record {
  left : l.writer ++ pair_bytes (map buffer_pair (drop l.buffer-index l.buffers)) ≡ l.fn.writer ++ laid (length l.fn.writer) (pairs (map buffer_pair l.buffers));
  typed : AreBuffers (drop l.buffer-index l.buffers) → AreBuffers l.buffers;
}
