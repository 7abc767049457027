use Rattle.std.proofs.Common.{◌<◌, ◌≤◌, ◌-◌, Err, take, length}
use Rattle.arrow_meta_reader.specs.Means.{batch_view}
use Rattle.arrow_stream_reader.specs.Batch.{Loads}
use Rattle.arrow_types.specs.View.{fields_view}
use Rattle.arrowflow_calls.specs.Blame.{refusal_by}
use Rattle.arrowflow_calls.proofs.culprit.BatchBody.first_at_fault.Given as goal

abbrev pub invariant-loop-refused : goal.invariant-loop-refused
invariant-loop-refused l =
    (l.sound < l.refused) × (l.refused ≤ length l.fields)
    × (Loads l.self.bytes.now l.self.dictionaries.now (fields_view (take l.sound l.fields)) (batch_view l.self.record_batch.now) (Err (refusal_by l.fault)) → ⊥)
    × Loads l.self.bytes.now l.self.dictionaries.now (fields_view (take l.refused l.fields)) (batch_view l.self.record_batch.now) (Err (refusal_by l.fault))

abbrev pub decreases-loop-refused : goal.decreases-loop-refused
decreases-loop-refused l = l.refused - l.sound
