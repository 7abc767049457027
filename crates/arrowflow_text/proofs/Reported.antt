-- A stream that is reported message by message.
use Rattle.std.proofs.Common.{◌≡◌, ℕ, ◌+◌, List, [], ◌∷◌, ◌++◌, length, take, drop, Option, sym, ap, ◌∙◌, subst, arith, take-append-drop}
use Rattle.std.specs.Io.KnownBytes.{Appends}
use Rattle.std.proofs.KnownBytes.{Appends-trans}
use Rattle.std.proofs.lemmas.List.{length-append}
use Rattle.arrow_types.specs.Limits.{LimitNumbers}
use Rattle.arrow_csv.specs.Layouts.{form_by}
use Rattle.arrow_csv.specs.Named.{choice_by, chosen_schema}
use Rattle.arrow_sink.specs.Sinks.{AcceptsBeginning}
use Rattle.arrow_stream_reader.specs.declared.item.Item.{Item}
use Rattle.arrow_stream_reader.specs.declared.reader.Verdict.TheVariants.{Open}
use Rattle.arrow_stream_reader.specs.Front.{Entry, Snapshot, FrontOf}
use Rattle.arrow_stream_reader.specs.Stream.{ReaderView, GivesNext}
use Rattle.arrow_stream_reader.specs.Views.{given}
use Rattle.arrowflow_text.specs.Chosen.{chosen_given}
use Rattle.arrowflow_text.specs.Lines.{IsLine}
use Rattle.arrowflow_text.specs.Reports.{IsTextOf, IsAdded, IsReported, IsCutOff}
use Rattle.arrow_stream_reader.specs.Tables.{table_in, tables_of}
use Rattle.arrowflow_text.specs.Shown.{IsTextIn}
use Rattle.arrowflow_text.specs.declared.report.ReportKind.{ReportKind}
use Rattle.arrowflow_text.specs.declared.report.ReportKind.TheVariants.{Messages, Rows}
use Rattle.arrowflow_text.proofs.Growing.{have_next, text_grows}
use Rattle.arrowflow_input.proofs.Feeding.{one_table}
use Rattle.arrowflow_text.proofs.Lined.{end_of, front_end, lines_kept, lines_more}
use Rattle.arrowflow_input.proofs.Beginnings.{begun_after}

-- ---- one more message

text_more : (report : ReportKind) {l : LimitNumbers} {b : List ℕ} (c : List ℕ) {es : List Entry} {e f : Snapshot} (x : Entry) (number : ℕ) (text added : List ℕ)
    → FrontOf l b es e → e.verdict ≡ Open → FrontOf l (b ++ c) (es ++ x ∷ []) f → number ≡ length (tables_of es)
    → IsTextOf report e.state.schema es text → IsAdded report f.state.schema e.place number x.given added → IsTextOf report f.state.schema (es ++ x ∷ []) (text ++ added)
text_more Messages c {es} {e} {f} x number text added old o new k is more =
    let count : number ≡ 0 + length (tables_of es) = omega (arith, k) in
    lines_more f.state.schema 0 0 es x text added (lines_kept c x text es old o new is)
    (subst (λ m. IsLine f.state.schema (end_of 0 es) m x.given added) count (subst (λ p. IsLine f.state.schema p number x.given added) (front_end old) more))
text_more (Rows layout) c {es} {e} {f} x number text added old o new k is more =
    let choice = choice_by layout.columns in
    let own = subst (λ m. IsTextIn (form_by layout) (chosen_schema choice f.state.schema) m (chosen_given choice x.given) added) k more.1 in
    (have_next choice c x old o new is.0 more.0, text_grows (form_by layout) choice c x old o new text added is.1 own)

module _ (report : ReportKind) (first held : Option (List ℕ)) (number : ℕ) (now new : ReaderView) (u rest : List ℕ) (es : List Entry) (n : ℕ) (item : Item) (is_open : now.at.verdict ≡ Open) (limits : new.limits ≡ now.limits)
    (x : IsReported report first held number now u es) (gives : GivesNext rest n item new u es) (added : List ℕ) (is_added : IsAdded report new.at.state.schema now.at.place number (given item) added) where
  -- the message that came
  abbrev pub entry : Entry
  entry = record { given = given item; end = length u + n }

  pub new_text : IsTextOf report new.at.state.schema (es ++ entry ∷ []) (x.text ++ added)
  new_text =
      let snapshot : Snapshot = record { state = new.at.state; place = new.at.place; rest = gives.position.rest; verdict = new.at.verdict } in
      text_more report (take n rest) entry number x.text added x.position.front is_open (subst (λ l. FrontOf l (u ++ take n rest) (es ++ entry ∷ []) snapshot) limits gives.position.front) x.counted x.is is_added

  -- its text was sent: the output has the text of all messages that came
  pub reported_next : (held' : Option (List ℕ)) → Appends held held' added → IsReported report first held' (number + length (table_in (given item))) new (u ++ take n rest) (es ++ entry ∷ [])
  reported_next held' h = record {
    text = x.text ++ added;
    position = gives.position;
    is = new_text;
    wrote = Appends-trans first held held' x.text added x.wrote h;
    counted = ap (λ m. m + length (table_in (given item))) x.counted ∙ sym (ap length (one_table es entry) ∙ length-append (tables_of es) (table_in (given item)));
  }

  -- a prefix of its text was sent
  pub cut_next : (held' : Option (List ℕ)) → AcceptsBeginning held held' added → IsCutOff report first held' new u rest
  cut_next held' h = record {
    taken = take n rest;
    rest = drop n rest;
    whole = take-append-drop n rest;
    entries = es ++ entry ∷ [];
    text = x.text ++ added;
    position = gives.position;
    is = new_text;
    wrote = begun_after first held held' x.text added x.wrote h;
  }
