-- Which kind of a reader's faults is a failed allocation.
use Rattle.std.proofs.Common.{◌≡◌, ℕ, true, false, refl, sym, ap, ◌∙◌}
use Rattle.std.proofs.lemmas.Bool.{false≢true}
use Rattle.arrow_stream_reader.specs.declared.kind.Kind.{Kind}
use Rattle.arrow_stream_reader.specs.declared.kind.Kind.TheVariants.{Memory}
use Rattle.arrowflow_input.specs.Faults.{is_memory, reported}
use Rattle.arrow_stream_reader.specs.declared.kind.Rejection.{Rejection}
use Rattle.arrow_stream_reader.specs.declared.kind.Rejection.TheVariants as refusals
use Rattle.arrow_stream_reader.specs.Kind.{kind_of}
use Rattle.arrowflow_input.specs.declared.tool_fault.ToolFault.TheVariants.{Stream}

-- the only kind that is a failed allocation is `Memory`
pub memory_alone : (k : Kind) → true ≡ is_memory k → k ≡ Memory
memory_alone Memory h = refl
memory_alone k h = absurd (false≢true (sym h))

-- a kind that is not a failed allocation is another one
pub not_memory : (k : Kind) → false ≡ is_memory k → k ≡ Memory → ⊥
not_memory k h e = false≢true (h ∙ ap is_memory e)

-- a rejection is reported unchanged
pub reported_refusal : (k : Rejection) (place : ℕ) → reported (record { kind = kind_of k; place = place }) ≡ Stream (record { kind = kind_of k; place = place })
reported_refusal refusals.Continuation p = refl
reported_refusal refusals.MetadataSize p = refl
reported_refusal refusals.Metadata p = refl
reported_refusal refusals.Version p = refl
reported_refusal refusals.Header p = refl
reported_refusal refusals.BodyLength p = refl
reported_refusal refusals.Order p = refl
reported_refusal refusals.Unsupported p = refl
reported_refusal refusals.Schema p = refl
reported_refusal refusals.Compressed p = refl
reported_refusal refusals.UnknownId p = refl
reported_refusal refusals.NoBase p = refl
reported_refusal refusals.Rows p = refl
reported_refusal refusals.Layout p = refl
reported_refusal refusals.Text p = refl
reported_refusal refusals.Index p = refl
reported_refusal refusals.NoSchema p = refl
