-- From the messages of a prefix of bytes to the messages of all of them.
use Rattle.std.proofs.Common.{◌≡◌, ℕ, ◌+◌, List, [], ◌∷◌, ◌++◌, length, Option, None, Some, ◌⊎◌, inl, inr, refl, sym, ap, ◌∙◌, subst, append_assoc, append-nil}
use Rattle.arrow_types.specs.Limits.{LimitNumbers}
use Rattle.arrow_types.specs.Notes.{SchemaShape}
use Rattle.arrow_data.specs.Batch.{Table}
use Rattle.arrow_csv.specs.Layouts.{Form, form_by}
use Rattle.arrow_csv.specs.Named.{Choice, choice_by, chosen_schema, chosen_tables}
use Rattle.arrow_csv.specs.Records.{AreBatches, IsStreamText, header_record}
use Rattle.arrow_csv.proofs.Some.{some_batch_rows}
use Rattle.arrow_sink.specs.Sinks.{AcceptsBeginning}
use Rattle.arrow_stream_reader.specs.Front.{Entry, Snapshot, Front, FrontOf, rests, fails, closes, goes_on}
use Rattle.arrow_stream_reader.specs.State.{StreamState, nothing_yet}
use Rattle.arrow_stream_reader.specs.Tables.{table_in, tables_of}
use Rattle.arrow_stream_reader.proofs.Beginnings.{whole_gives}
use Rattle.arrow_stream_reader.proofs.Firsts.{First-append}
use Rattle.arrow_stream_reader.proofs.Fronts.{at_bytes, front_follows, more_bytes, one_front}
use Rattle.arrowflow_text.specs.Chosen.{HaveChosen, IsChosenText, choice_of}
use Rattle.arrowflow_text.specs.Lines.{AreLines, message_line}
use Rattle.arrowflow_text.specs.OfFront.{IsBegunOf, TextOfFront}
use Rattle.arrowflow_text.specs.Reports.{IsEnding, IsTextOf}
use Rattle.arrowflow_text.specs.declared.report.ReportKind.{ReportKind}
use Rattle.arrowflow_text.specs.declared.report.ReportKind.TheVariants.{Messages, Rows}
use Rattle.arrowflow_input.proofs.Feeding.{tables-append}
use Rattle.arrowflow_input.proofs.First.{not_marker, state_stays}
use Rattle.arrowflow_text.proofs.Growing.{batches_join, chosen_join, text_before}
use Rattle.arrowflow_input.proofs.Schemas.{front_keeps}
use Rattle.arrowflow_input.proofs.Beginnings.{begun_longer}
use Rattle.arrowflow_input.proofs.Schemas.{schema_kept}

-- messages have lines
some_lines : (schema : Option SchemaShape) (p n : ℕ) (es : List Entry) → (text : List ℕ) × AreLines schema p n es text
some_lines schema p n [] = ([], refl)
some_lines schema p n (x ∷ es) =
    let state : StreamState = record { schema = schema; dictionaries = [] } in
    let line = message_line p n state x.given in
    let rest = some_lines schema x.end (n + length (table_in x.given)) es in
    (line ++ rest.0, (line, rest.0, (state, refl, refl), rest.1, refl))

-- so do messages after others
lines_after : (schema : Option SchemaShape) (p n : ℕ) (es more : List Entry) (text : List ℕ) → AreLines schema p n es text → (added : List ℕ) × AreLines schema p n (es ++ more) (text ++ added)
lines_after schema p n [] more text is =
    let w = some_lines schema p n more in
    (w.0, subst (λ t. AreLines schema p n more (t ++ w.0)) (sym is) w.1)
lines_after schema p n (x ∷ es) more text (first, rest, own, others, whole) =
    let w = lines_after schema x.end (n + length (table_in x.given)) es more rest others in
    (w.0, (first, rest ++ w.0, own, w.1, ap (λ t. t ++ w.0) whole ∙ append_assoc first rest w.0))

-- batches have records
some_batches : (form : Form) (n : ℕ) (ts : List Table) → (text : List ℕ) × AreBatches form n ts text
some_batches form n [] = ([], refl)
some_batches form n (t ∷ ts) =
    let own = some_batch_rows form n t 0 t.rows in
    let rest = some_batches form (n + 1) ts in
    (own.0 ++ rest.0, (own.0, rest.0, own.1, rest.1, refl))

-- so has a stream
some_stream : (form : Form) (schema : Option SchemaShape) (ts : List Table) → (text : List ℕ) × IsStreamText form schema ts text
some_stream form None ts = ([], refl)
some_stream form (Some shape) ts =
    let records = some_batches form 0 ts in
    (header_record form shape.fields ++ records.0, (records.0, records.1, refl))

-- and batches after others
stream_goes_on : (form : Form) (schema : Option SchemaShape) (ts us : List Table) (text : List ℕ) → IsStreamText form schema ts text → (added : List ℕ) × IsStreamText form schema (ts ++ us) (text ++ added)
stream_goes_on form None ts us text is = ([], append-nil text ∙ is)
stream_goes_on form (Some shape) ts us text (records, are, whole) =
    let later = some_batches form (0 + length ts) us in
    (later.0, (records ++ later.0, batches_join form 0 ts us records later.0 are later.1, ap (λ t. t ++ later.0) whole ∙ append_assoc (header_record form shape.fields) records later.0))

-- the same for the chosen columns
rows_after : (form : Form) (choice : Choice) (schema : Option SchemaShape) (ts us : List Table) (text : List ℕ) → IsChosenText form choice schema ts text → (added : List ℕ) × IsChosenText form choice schema (ts ++ us) (text ++ added)
rows_after form choice schema ts us text is =
    let w = stream_goes_on form (chosen_schema choice schema) (chosen_tables choice ts) (chosen_tables choice us) text is in
    (w.0, subst (λ vs. IsStreamText form (chosen_schema choice schema) vs (text ++ w.0)) (sym (chosen_join choice ts us)) w.1)

-- the text of messages after others, by one schema
more_text : (report : ReportKind) (schema : Option SchemaShape) (es more : List Entry) (text : List ℕ) → IsTextOf report schema es text → (added : List ℕ) × IsTextOf report schema (es ++ more) (text ++ added)
more_text Messages schema es more text is = lines_after schema 0 0 es more text is
more_text (Rows layout) schema es more text is =
    let choice = choice_by layout.columns in
    let w = rows_after (form_by layout) choice schema (tables_of es) (tables_of more) text is.1 in
    (w.0, (is.0, subst (λ ts. IsChosenText (form_by layout) choice schema ts (text ++ w.0)) (sym (tables-append es more)) w.1))

-- the text of a prefix of bytes continues to a text of all of them
text_after : (report : ReportKind) {l : LimitNumbers} {b : List ℕ} {es fs : List Entry} {e f : Snapshot} (c text : List ℕ) → FrontOf l b es e → FrontOf l (b ++ c) fs f → HaveChosen (choice_of report) f.state.schema → IsTextOf report e.state.schema es text
    → (added : List ℕ) × IsTextOf report f.state.schema fs (text ++ added)
text_after Messages {es = []} {fs = fs} {f = f} c text x y has is = more_text Messages f.state.schema [] fs text is
text_after (Rows layout) {es = []} {fs = fs} {e = e} {f = f} c text x y has is =
    let choice = choice_by layout.columns in
    let none : text ≡ [] = text_before (form_by layout) choice [] text (subst (λ (s : StreamState). IsChosenText (form_by layout) choice s.schema [] text) (state_stays x refl) is.1) in
    let all = some_stream (form_by layout) (chosen_schema choice f.state.schema) (chosen_tables choice (tables_of fs)) in
    (all.0, (has, subst (λ t. IsChosenText (form_by layout) choice f.state.schema (tables_of fs) (t ++ all.0)) (sym none) all.1))
text_after report {es = z ∷ zs} {fs = fs} {e = e} {f = f} c text x y has is =
    let m = (more_bytes c x y).0 in
    let w = more_text report e.state.schema (z ∷ zs) m.0 text is in
    (w.0, subst (λ s. IsTextOf report s fs (text ++ w.0)) (sym (schema_kept c x y refl (λ q. cc))) (subst (λ r. IsTextOf report e.state.schema r (text ++ w.0)) (sym m.1) w.1))

-- what was begun of a prefix of bytes was begun of the messages of all of them
pub text_of_front : TextOfFront
text_of_front report limits bytes before after es e y has x = by x.is_last
  where
    all : FrontOf limits (x.taken ++ x.rest) es e
    all = at_bytes (sym x.whole) y

    by : (x.last ≡ []) ⊎ ((x.rest ≡ []) × IsEnding report x.snapshot.place x.last) → IsBegunOf report es e before after
    by (inl none) =
        let w = text_after report x.rest x.text x.front all has x.is in
        let begun : AcceptsBeginning before after x.text = subst (AcceptsBeginning before after) (ap (λ t. x.text ++ t) none ∙ append-nil x.text) x.wrote in
        record {
          text = x.text ++ w.0;
          is = w.1;
          last = [];
          is_last = inl refl;
          wrote = begun_longer before after (x.text ++ w.0) [] (begun_longer before after x.text w.0 begun);
        }
    by (inr (none, ending)) =
        let same = one_front (at_bytes (sym (append-nil x.taken) ∙ ap (λ t. x.taken ++ t) (sym none)) x.front) all in
        record {
          text = x.text;
          is = subst (λ r. IsTextOf report e.state.schema r x.text) same.0 (subst (λ (s : Snapshot). IsTextOf report s.state.schema x.entries x.text) same.1 x.is);
          last = x.last;
          is_last = inr (subst (λ (s : Snapshot). IsEnding report s.place x.last) same.1 ending);
          wrote = x.wrote;
        }
