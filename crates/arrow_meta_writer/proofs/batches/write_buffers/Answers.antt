use Rattle.std.proofs.Common.{sym, subst}
use Rattle.std.proofs.lemmas.List.{drop_all}
use Rattle.arrow_meta_writer.specs.Layouts.{buffer_pair}
use Rattle.arrow_meta_writer.specs.Writable.{AreBuffers}
use Rattle.arrow_meta_writer.proofs.PairRows.{pairs_first, buffer_step, buffer_typed, pairs_last}
use Rattle.arrow_meta_writer.proofs.batches.write_buffers.Goals as goal

pub loop-buffer-init : goal.loop-buffer-init
loop-buffer-init c = record {
  left = pairs_first buffer_pair c.args.writer.now c.count_pairs.new.self c.args.buffers.now c.in_ok-count_pairs.ensures.ok;
  typed = λ h. h;
}

pub loop-buffer-preserved : goal.loop-buffer-preserved
loop-buffer-preserved c =
    let i = c.loop-buffer.buffer-index in
    let xs = c.args.buffers.now in
    record {
      left = buffer_step _ _ _ xs i _ c.loop-buffer-test.true c.in_ok-write_buffer.ensures.bytes c.loop-buffer.invariant.left;
      typed = λ h. c.loop-buffer.invariant.typed (buffer_typed xs i _ c.loop-buffer-test.true c.in_ok-write_buffer.ensures.typed h);
    }

pub returns-clause-bytes : goal.returns-clause-bytes
returns-clause-bytes c = pairs_last buffer_pair _ _ c.args.buffers.now c.loop-buffer.buffer-index c.loop-buffer-test.false c.loop-buffer.invariant.left

pub returns-clause-typed : goal.returns-clause-typed
returns-clause-typed c =
    c.loop-buffer.invariant.typed (subst AreBuffers (sym (drop_all c.loop-buffer.buffer-index c.args.buffers.now c.loop-buffer-test.false)) tt)
