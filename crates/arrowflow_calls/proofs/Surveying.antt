-- How the messages of a stream are counted.
use Rattle.std.proofs.Common.{◌≡◌, ℕ, ◌+◌, Bool, true, false, List, [], ◌∷◌, ◌++◌, length, None, is_some, Result, Ok, Err, inl, inr, refl, sym, ap, ◌∙◌, subst, arith, length-append}
use Rattle.arrow_types.specs.Limits.{LimitNumbers}
use Rattle.arrow_data.specs.Batch.{Table}
use Rattle.arrow_stream_reader.specs.declared.fault.Fault.{Fault}
use Rattle.arrow_stream_reader.specs.declared.reader.Verdict.{Verdict}
use Rattle.arrow_stream_reader.specs.declared.reader.Verdict.TheVariants.{Open}
use Rattle.arrow_stream_reader.specs.Front.{Snapshot, FrontOf}
use Rattle.arrow_stream_reader.specs.Stream.{ReaderView, IsReaderAt, ended_so}
use Rattle.arrow_stream_reader.specs.Tables.{tables_of}
use Rattle.arrowflow_input.specs.Consumer.{IsEndedBy}
use Rattle.arrowflow_input.specs.Driver.{AreGiven, PieceTaken}
use Rattle.arrowflow_input.specs.declared.driver.Progress.{Progress}
use Rattle.arrowflow_input.specs.declared.driver.Progress.TheVariants.{GoesOn}
use Rattle.arrowflow_input.specs.declared.tool_fault.ToolFault.{ToolFault}
use Rattle.arrowflow_input.specs.declared.tool_fault.ToolFault.TheVariants.{Stream}
use Rattle.arrowflow_input.proofs.Feeding.{ended_same}
use Rattle.arrowflow_calls.specs.declared.scan.ReportC.{ReportC}
use Rattle.arrowflow_calls.specs.declared.scan.StreamCounts.{StreamCounts}
use Rattle.arrowflow_calls.specs.Kinds.{kind_by}
use Rattle.arrowflow_calls.specs.Survey.{AllCounted, Counts, HasCounted, IsReport, counts_of, is_done, reported, rows_in}

rows_append : (ts us : List Table) → rows_in (ts ++ us) ≡ rows_in ts + rows_in us
rows_append [] us = omega arith
rows_append (t ∷ ts) us = omega (arith, rows_append ts us)

-- the counts with one more batch
pub one_more : (ts : List Table) (t : Table) (n : StreamCounts) (batches rows : ℕ) → n ≡ counts_of ts false → batches ≡ reported (n.batches + 1) → rows ≡ reported (n.rows + t.rows) → record { batches = batches; rows = rows; ended = n.ended } ≡ counts_of (ts ++ t ∷ []) false
one_more ts t n batches rows are b r =
    let more : batches ≡ reported (length (ts ++ t ∷ [])) = omega (arith, b, ap (λ (m : StreamCounts). m.batches) are, length-append ts (t ∷ [])) in
    let sum : rows ≡ reported (rows_in (ts ++ t ∷ [])) = omega (arith, r, ap (λ (m : StreamCounts). m.rows) are, rows_append ts (t ∷ [])) in
    λ j. record { batches = more j; rows = sum j; ended = (are j).ended }

-- a verdict is that of a stream that ended with its marker, or not
pub done_by : (marked : Bool) (verdict : Verdict) → IsEndedBy marked verdict → marked ≡ is_done verdict
done_by true verdict e = ap is_done (sym e)
done_by false verdict e = ap is_done (sym e)

-- at first nothing was counted
pub none_counted : (r : ReaderView) → IsReaderAt r [] [] → AreGiven (Counts (counts_of [] false)) [] r
none_counted r start = record { entries = []; position = start; kept = refl }

module _ (n : StreamCounts) (bytes : List ℕ) (r : ReaderView) where
  -- what came of these bytes, whose messages were counted
  abbrev pub Taken : Result Progress ToolFault → Type 0
  Taken = PieceTaken (Counts n) (AllCounted n) bytes r

  -- the stream goes on, or is rejected
  unmarked : AreGiven (Counts n) bytes r → false ≡ is_done r.at.verdict → HasCounted bytes n r
  unmarked g ends = record { entries = g.entries; position = g.position; counted = g.kept ∙ ap (counts_of (tables_of g.entries)) ends }

  pub open_counted : Taken (Ok GoesOn) → r.at.verdict ≡ Open → HasCounted bytes n r
  open_counted taken goes = unmarked taken (ap is_done (sym goes))

  pub bad_counted : (fault : Fault) → Taken (Err (Stream fault)) → HasCounted bytes n r
  bad_counted fault (inl answered) = let e = (answered None).0 in absurd (cc)
  bad_counted fault (inr (inl refused)) = unmarked refused.given (ap is_done (sym refused.bad.1))
  bad_counted fault (inr (inr wants)) = let e = wants.is_memory in absurd (cc)

-- what is reported of a reader that has read exactly these bytes
pub reports : (limits : LimitNumbers) (bytes : List ℕ) (n : StreamCounts) (r : ReaderView) (c : ReportC) → HasCounted bytes n r → r.limits ≡ limits
    → c.kind ≡ kind_by (ended_so r.at) → c.ended ≡ n.ended → c.place ≡ r.at.place → c.batches ≡ n.batches → c.rows ≡ n.rows → IsReport limits bytes c
reports limits bytes n r c h same kind ends place batches rows =
    let s : Snapshot = record { state = r.at.state; place = r.at.place; rest = h.position.rest; verdict = r.at.verdict } in
    record {
      entries = h.entries;
      snapshot = s;
      front = subst (λ l. FrontOf l bytes h.entries s) same h.position.front;
      kind = kind ∙ ap kind_by (ended_same r.at.verdict (is_some r.at.state.schema) h.position.rest r.at.rest r.at.place h.position.held);
      is_ended = ends ∙ ap (λ (m : StreamCounts). m.ended) h.counted;
      place = place;
      batches = batches ∙ ap (λ (m : StreamCounts). m.batches) h.counted;
      rows = rows ∙ ap (λ (m : StreamCounts). m.rows) h.counted;
    }
