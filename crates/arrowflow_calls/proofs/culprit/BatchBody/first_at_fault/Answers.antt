use Rattle.std.proofs.Common.{◌≡◌, suc, take, Err, arith, sym, subst}
use Rattle.arrow_types.specs.Field.{FieldTree}
use Rattle.arrow_types.specs.View.{fields_view}
use Rattle.arrow_meta_reader.specs.Means.{batch_view}
use Rattle.arrow_stream_reader.specs.Batch.{Loads}
use Rattle.arrowflow_calls.specs.Blame.{refusal_by}
use Rattle.arrowflow_calls.proofs.Blaming.{first_of}
use Rattle.arrowflow_calls.proofs.culprit.BatchBody.first_at_fault.Goals as goal

pub returns : goal.returns
returns c =
    let self = c.args.self.now in
    let fields = c.args.fields.now in
    let n = c.loop-refused.sound in
    let inv = c.loop-refused.invariant in
    let next : c.loop-refused.refused ≡ suc n = omega (arith, inv.0, c.loop-refused-test.false) in
    let says = λ (f : FieldTree). Loads self.bytes.now self.dictionaries.now f (batch_view self.record_batch.now) (Err (refusal_by c.args.fault)) in
    record {
      without_it = λ l. inv.2 (subst says (sym (first_of n fields)) l);
      with_it = subst says (first_of (suc n) fields) (subst (λ k. says (fields_view (take k fields))) next inv.3);
    }
