-- How a stream ends whose batches were kept.
use Rattle.std.proofs.Common.{◌≡◌, ℕ, false, List, Option, None, Some, Result, Ok, Err, inl, inr, refl, sym, ◌∙◌, subst, is_some}
use Rattle.arrow_types.specs.Limits.{LimitNumbers}
use Rattle.arrow_types.specs.Notes.{SchemaShape}
use Rattle.arrow_data.specs.Batch.{Table}
use Rattle.arrow_stream_reader.specs.declared.reader.Verdict.{Verdict}
use Rattle.arrow_stream_reader.specs.declared.reader.Verdict.TheVariants.{Open, Done, Bad}
use Rattle.arrow_stream_reader.specs.Front.{Entry, Snapshot, FrontOf}
use Rattle.arrow_stream_reader.specs.Stream.{ReaderView, IsReaderAt, ended_by, ended_so}
use Rattle.arrowflow_input.specs.Blame.{BlamesOnly}
use Rattle.arrowflow_input.specs.Driver.{Driven}
use Rattle.arrowflow_input.specs.Kept.{HasKept}
use Rattle.arrowflow_input.specs.declared.tool_fault.ToolFault.{ToolFault}
use Rattle.arrowflow_input.specs.declared.tool_fault.ToolFault.TheVariants.{Memory}
use Rattle.arrowflow_input.proofs.Driving.{badly_at, snapshot_of, well_at}
use Rattle.arrowflow_input.proofs.First.{done_given}
use Rattle.arrowflow_input.proofs.Kept.{keeping}
use Rattle.arrowflow_input.proofs.Schemas.{front_begins}
use Rattle.arrowflow_drill.specs.Reading.{Asks, Brings, IsWhole, asked_in, of_input}
use Rattle.arrowflow_drill.specs.DrillOptions.{IsMadeOf, asks_of}
use Rattle.arrowflow_drill.specs.declared.reading.DrillOptions.{DrillOptions}
use Rattle.arrowflow_session.specs.declared.connection.Connection.{Connection}
use Rattle.std.specs.Prelude.{MatchResult}

-- the prefix after which a reader is
front_at : (limits : LimitNumbers) (r : ReaderView) (t : List ℕ) (es : List Entry) (x : IsReaderAt r t es) → r.limits ≡ limits → FrontOf limits t es (snapshot_of r x.rest)
front_at limits r t es x same = subst (λ l. FrontOf l t es (snapshot_of r x.rest)) same x.front

module _ (asks : Asks) (number : ℕ) (bytes : List ℕ) (left : Option (List ℕ)) (batches : List Table) (r : ReaderView) (same : r.limits ≡ asks.limits) where
  -- all batches of a stream that ended well were kept
  pub stream_whole : HasKept batches (Ok tt) r bytes left → IsWhole asks.limits bytes left r.at.state.schema batches
  stream_whole all = record {
    entries = all.entries;
    snapshot = snapshot_of r all.position.rest;
    front = front_at asks.limits r bytes all.entries all.position same;
    ends = well_at r bytes all.entries left all.position all.well;
    schema_is = refl;
    batches_are = all.are;
  }

  -- how it ended otherwise
  pub stream_ended : (failed : Type 0) (fault : ToolFault) → BlamesOnly failed fault → Driven (keeping batches) (HasKept batches) bytes left r (Err fault) → Brings asks number bytes left failed (Err (of_input number fault))
  stream_ended failed fault blames (inl wants) = subst (λ f. Brings asks number bytes left failed (Err (of_input number f))) (sym wants.0) tt
  stream_ended failed fault blames (inr (inl ends)) =
      let g = ends.given in
      subst (λ f. Brings asks number bytes left failed (Err (of_input number f))) (sym ends.reported)
      (record { entries = g.entries; snapshot = snapshot_of r g.position.rest; front = front_at asks.limits r bytes g.entries g.position same; ends = badly_at r bytes g.entries left ends.of_stream g.position ends.badly })
  stream_ended failed fault blames (inr (inr (inl fails))) =
      let g = fails.given in
      subst (λ f. Brings asks number bytes left failed (Err (of_input number f))) (sym fails.reported)
      (refl, subst (BlamesOnly failed) fails.reported blames, record { entries = g.entries; snapshot = snapshot_of r g.position.rest; front = front_at asks.limits r bytes g.entries g.position same; goes_on = fails.is_open })
  stream_ended failed fault blames (inr (inr (inr wants))) = subst (λ f. Brings asks number bytes left failed (Err (of_input number f))) (sym wants.is_memory) tt

-- the result for the connection that was made of such a stream
pub made_so : (terms : DrillOptions) (number : ℕ) (bytes : List ℕ) (left : Option (List ℕ)) (failed : Type 0) (schema : Option SchemaShape) (batches : List Table) → IsWhole (asks_of terms).limits bytes left schema batches → (answer : Result Connection ToolFault)
    → MatchResult answer (IsMadeOf terms schema batches) (λ fault. fault ≡ Memory) → Brings (asks_of terms) number bytes left failed (asked_in answer)
made_so terms number bytes left failed schema batches whole (Ok c) made = record {
  stream = subst (λ ts. IsWhole (asks_of terms).limits bytes left (Some c.schema) ts) (sym made.batches_are) (subst (λ s. IsWhole (asks_of terms).limits bytes left s batches) (sym made.schema_is) whole);
  options_are = made.options_are;
  finishes = made.finishes;
  delivers = made.delivers;
}
made_so terms number bytes left failed schema batches whole (Err fault) is = subst (λ f. Brings (asks_of terms) number bytes left failed (Err f)) (sym is) tt

-- a stream that ends well has a schema
well_schema : {l : LimitNumbers} {b : List ℕ} {es : List Entry} {e : Snapshot} → FrontOf l b es e → ended_so e ≡ Ok tt → e.state.schema ≡ None → ⊥
well_schema {e = e} front well none = by e.verdict refl
  where
    by : (v : Verdict) → e.verdict ≡ v → ⊥
    by Open v =
        let q : ended_by Open false e.rest e.place ≡ Ok tt = sym (λ i. ended_by (v i) (is_some (none i)) e.rest e.place) ∙ well in
        absurd (cc)
    by Done v = let b = front_begins front refl (done_given front v) in let q = sym none ∙ b.schema in absurd (cc)
    by (Bad k) v =
        let q : ended_by (Bad k) false e.rest e.place ≡ Ok tt = sym (λ i. ended_by (v i) (is_some (none i)) e.rest e.place) ∙ well in
        absurd (cc)

pub whole_schema : (limits : LimitNumbers) (bytes : List ℕ) (left : Option (List ℕ)) (schema : Option SchemaShape) (batches : List Table) → IsWhole limits bytes left schema batches → schema ≡ None → ⊥
whole_schema limits bytes left schema batches x none = well_schema x.front x.ends.0 (sym x.schema_is ∙ none)
