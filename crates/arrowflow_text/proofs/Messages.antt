-- A stream that is reported message by message: what each message leaves, and how the report ends.
use Rattle.std.proofs.Common.{◌≡◌, ℕ, ◌+◌, List, [], ◌∷◌, ◌++◌, length, take, drop, Bool, true, false, Option, None, Some, Result, Ok, Err, ◌⊎◌, inl, inr, refl, sym, ap, ◌∙◌, subst, append_assoc, append-nil, take-append-drop}
use Rattle.std.specs.Prelude.{OnOk}
use Rattle.std.specs.Io.KnownBytes.{Appends, Consumes}
use Rattle.std.proofs.KnownBytes.{Appends-nil}
use Rattle.arrow_types.specs.Limits.{LimitNumbers}
use Rattle.arrow_csv.specs.Layouts.{form_by}
use Rattle.arrow_csv.specs.Named.{choice_by, chosen_schema}
use Rattle.arrow_stream_reader.specs.declared.item.Item.{Item}
use Rattle.arrow_stream_reader.specs.Front.{Entry, Snapshot}
use Rattle.arrow_stream_reader.specs.State.{StreamState, nothing_yet}
use Rattle.arrow_stream_reader.specs.Stream.{ReaderView, IsReaderAt}
use Rattle.arrow_stream_reader.specs.Tables.{table_in, tables_of}
use Rattle.arrow_stream_reader.specs.Views.{given}
use Rattle.arrow_sink.specs.Sinks.{AcceptsBeginning}
use Rattle.arrow_types.specs.Notes.{SchemaShape}
use Rattle.arrowflow_text.specs.Chosen.{AreRows, HaveChosen, IsChosenAt, LacksAt, LacksColumn, choice_of, chosen_given, form_of}
use Rattle.arrowflow_text.specs.Columns.{BeginWithout, LacksInput}
use Rattle.arrowflow_input.specs.Consumer.{Comes, HasEnded, IsEndedBy, entry_of}
use Rattle.arrowflow_input.specs.Driver.{CallForMore, Driven, EndBadly, FailToRead, NeedMemory}
use Rattle.arrowflow_text.specs.Windows.{AreLeft, IsEnoughOf, IsOver, IsPartIn, IsPartReported, IsShortAt, ShowsWindow, ShowsWindowOf, window_after}
use Rattle.arrowflow_input.specs.Reads.{IsReadWhile}
use Rattle.arrowflow_input.specs.Endings.{EndsBadly, EndsWell, IsOpenAt, SendsSome, SendsText}
use Rattle.arrowflow_text.specs.Reports.{IsAdded, IsBegun, IsEnding, IsLast, IsTextOf, IsReported, IsWritten, Reports, ReportsInput}
use Rattle.arrowflow_text.specs.SchemaCall.{AreNoMessage}
use Rattle.arrowflow_input.specs.Session.{IsReaderAfter}
use Rattle.arrowflow_text.specs.ReportWriting.{HasEnoughBy, HasReported, IsLastBy, IsReportedBy, LeftAre, ShowsOrLacks, ShowsSo, ReportWritingBegan, ReportsSo}
use Rattle.arrowflow_input.specs.Through.{IsThrough}
use Rattle.arrowflow_text.specs.declared.report.ReportKind.{ReportKind}
use Rattle.arrowflow_text.specs.declared.report.ReportKind.TheVariants.{Messages, Rows}
use Rattle.arrowflow_text.specs.declared.report_writer.ReportWriter.{ReportWriter}
use Rattle.arrowflow_input.specs.declared.tool_fault.ToolFault.{ToolFault}
use Rattle.arrowflow_text.specs.declared.window.Window.{Window}
use Rattle.arrowflow_input.specs.declared.tool_fault.ToolFault.TheVariants.{Input, Output, Stream, Refused, Memory}
use Rattle.arrowflow_input.proofs.Driving.{badly_at, read_while_so, snapshot_of, well_at}
use Rattle.arrowflow_input.proofs.First.{one_entry, state_stays}
use Rattle.arrowflow_text.proofs.WindowReported.{first_longer, begun_so, ending_cut, ending_reported, first_badly, first_enough_flushed, first_enough_through, first_input, first_memory, flushed_by}
use Rattle.arrowflow_text.proofs.Windows.{not_there, nothing_within, rows_text, within_before}
use Rattle.arrowflow_text.proofs.WindowText.{part_cut, part_enough, part_reported}
use Rattle.arrowflow_text.proofs.Growing.{have_before, nothing_before, text_before}
use Rattle.arrowflow_text.proofs.Lacking.{lack_waits, lacks_rows, lacks_schema, none_before}
use Rattle.arrowflow_text.proofs.Reporting.{cut_begun, flushed, more_begun, more_written, written}
use Rattle.arrowflow_input.proofs.Beginnings.{begun_all, begun_after}
use Rattle.arrowflow_text.proofs.Reported.{cut_next, reported_next}

-- of a text that was not sent completely only a prefix was sent: the output failed, or an allocation failed
cut_short : {P : Type 0} (text : List ℕ) (held held' : Option (List ℕ)) (failed failed' : ℕ) (f : ToolFault) → SendsText held failed text (Err f) held' failed' → (AcceptsBeginning held held' text → (failed' ≡ failed + 1) × (f ≡ Output) → P)
    → (AcceptsBeginning held held' text → (failed' ≡ failed) × (f ≡ Memory) → P) → P
cut_short text held held' failed failed' Output sent out memory = out sent.0 (sent.1, refl)
cut_short text held held' failed failed' Memory sent out memory = memory sent.0 (sent.1, refl)
cut_short text held held' failed failed' (Input n) sent out memory = absurd sent
cut_short text held held' failed failed' (Stream fault) sent out memory = absurd sent
cut_short text held held' failed failed' (Refused what kind) sent out memory = absurd sent

-- and such an error does not say how a stream ended
cut_through : (enough : Type 0) (text : List ℕ) (held held' : Option (List ℕ)) (failed failed' : ℕ) (f : ToolFault) → SendsText held failed text (Err f) held' failed' → (r : ReaderView) (bytes : List ℕ) → IsThrough enough (Err f) r bytes
cut_through enough text held held' failed failed' Output sent r bytes = tt
cut_through enough text held held' failed failed' Memory sent r bytes = tt
cut_through enough text held held' failed failed' (Input n) sent r bytes = absurd sent
cut_through enough text held held' failed failed' (Stream fault) sent r bytes = absurd sent
cut_through enough text held held' failed failed' (Refused what kind) sent r bytes = absurd sent

-- a text that was sent after all bytes were read
all_through : (enough : Type 0) (text : List ℕ) (held held' : Option (List ℕ)) (failed failed' : ℕ) (answer : Result (Unit {0}) ToolFault) → SendsText held failed text answer held' failed' → (r : ReaderView) (bytes : List ℕ) → IsReaderAfter bytes r → IsThrough enough answer r bytes
all_through enough text held held' failed failed' (Ok done) sent r bytes at = inl at
all_through enough text held held' failed failed' (Err f) sent r bytes at = cut_through enough text held held' failed failed' f sent r bytes

-- nothing was written before the schema
nothing_by : (wanted : Option Window) (report : ReportKind) → AreRows report → (es : List Entry) (text : List ℕ) → IsReportedBy wanted report None es text → text ≡ []
nothing_by None report rows es text is = text_before (form_of report) (choice_of report) (tables_of es) text (rows_text report rows None es text is).1
nothing_by (Some w) report rows es text is = within_before (form_of report) (choice_of report) w (tables_of es) text is.1

-- the schema of a text has the chosen columns
chosen_by : (wanted : Option Window) (report : ReportKind) → AreRows report → (schema : Option SchemaShape) (es : List Entry) (text : List ℕ) → IsReportedBy wanted report schema es text → HaveChosen (choice_of report) schema
chosen_by None report rows schema es text is = (rows_text report rows schema es text is).0
chosen_by (Some w) report rows schema es text is = is.0

-- either the rows in a window are to be reported, or all
is_window : {w : Option Window} {u : Window} → w ≡ None → w ≡ Some u → ⊥
is_window none some = let q = sym none ∙ some in absurd (cc)

module _ {S : Type 0} (contents : S → Option (List ℕ)) (failed : S → ℕ) (is_passed_on : S → Type 0) (began : ReportWritingBegan) where
  -- the text of the messages so far, for the bytes that the reader has read
  abbrev reported_at : (c : ReportWriter S) (r : ReaderView) (t : List ℕ) (es : List Entry) → IsReaderAt r t es → (x : HasReported contents failed began c r.limits r.at.state es) → IsTextOf c.report r.at.state.schema es x.text
      → IsReported c.report began.first (contents c.output) c.number r t es
  reported_at c r t es at x is = record { text = x.text; position = at; is = is; wrote = x.wrote; counted = x.counted }

  -- the same if the rows in a window are to be reported
  abbrev part_at : (c : ReportWriter S) (r : ReaderView) (t : List ℕ) (es : List Entry) → IsReaderAt r t es → (x : HasReported contents failed began c r.limits r.at.state es) → (w : Window) → IsReportedBy (Some w) c.report r.at.state.schema es x.text → AreLeft w c.window es
      → IsPartReported (form_of c.report) (choice_of c.report) w began.first (contents c.output) c.number c.window r t es
  part_at c r t es at x w is left = record { position = at; has = is.0; text = x.text; is = is.1; wrote = x.wrote; counted = x.counted; left_are = left }

  -- an answer for a schema that lacks no column
  answered : (c c' : ReportWriter S) (r : ReaderView) (bytes : List ℕ) (left : Option (List ℕ)) (answer : Result (Unit {0}) ToolFault) → c.report ≡ began.report → c'.lacks ≡ None
      → ShowsSo began.window c.report r.limits bytes left began.first began.failures answer (contents c'.output) (failed c'.output) → OnOk answer (is_passed_on c'.output)
      → IsThrough (HasEnoughBy began.window c.report r.limits bytes began.first (contents c'.output)) answer r bytes → ReportsSo contents failed is_passed_on began c' answer r bytes left
  answered c c' r bytes left answer same none shows passed through = (
    subst (λ l. ShowsOrLacks l began r.limits bytes left answer (contents c'.output) (failed c'.output)) (sym none)
        (subst (λ p. ShowsSo began.window p r.limits bytes left began.first began.failures answer (contents c'.output) (failed c'.output)) same shows),
    λ q. passed,
    λ q. subst (λ p. IsThrough (HasEnoughBy began.window p r.limits bytes began.first (contents c'.output)) answer r bytes) same through,
  )

  -- ---- a message

  module _ (c : ReportWriter S) (place : ℕ) (item : Item) (old new : ReaderView) (t : List ℕ) (es : List Entry) (piece : List ℕ) (n : ℕ) (comes : Comes place item old new t es piece n) (x : HasReported contents failed began c old.limits old.at.state es) where
    abbrev reported : IsTextOf c.report old.at.state.schema es x.text → IsReported c.report began.first (contents c.output) c.number old t es
    reported is = reported_at c old t es comes.before x is

    -- the rows of a window were written so far
    part : (v : Window) → c.window ≡ Some v → (w : Window) → IsReportedBy (Some w) c.report old.at.state.schema es x.text → AreLeft w c.window es → IsPartReported (form_of c.report) (choice_of c.report) w began.first (contents c.output) c.number (Some v) old t es
    part v is w text left = subst (λ u. IsPartReported (form_of c.report) (choice_of c.report) w began.first (contents c.output) c.number u old t es) is (part_at c old t es comes.before x w text left)

    -- the message is a schema that lacks a column that is asked for
    pub message_lacks : (column : ℕ) → LacksAt (choice_of c.report) new.at.state.schema (given item) column → (c' : ReportWriter S) → c'.report ≡ c.report → c'.output ≡ c.output → c'.lacks ≡ Some column → (left : Option (List ℕ))
        → ReportsSo contents failed is_passed_on began c' (Ok tt) new (t ++ piece) left
    message_lacks column lacks c' same output is left =
        let choice = choice_of c.report in
        let schema = lacks_schema choice new.at.state.schema (given item) column lacks in
        let rows = lacks_rows c.report new.at.state.schema column schema.1 in
        let none = none_before es (entry_of item t n) comes.gives.position.front schema.0 in
        let nothing : x.text ≡ [] = nothing_by began.window c.report rows es x.text (subst (λ (s : StreamState). IsReportedBy began.window c.report s.schema es x.text) (state_stays comes.before.front none) x.is) in
        let opens = one_entry comes.gives.position.front refl (entry_of item t n) (ap (λ fs. fs ++ entry_of item t n ∷ []) none) in
        let joined : t ++ piece ≡ (t ++ take n piece) ++ drop n piece = ap (λ y. t ++ y) (sym (take-append-drop n piece)) ∙ sym (append_assoc t (take n piece) (drop n piece)) in
        let begins : BeginWithout choice new.limits (t ++ piece) column =
        (opens.shape, record { message = t ++ take n piece; after = drop n piece; joined = joined; size = opens.size; comes = opens.comes }, subst (λ s. LacksColumn choice s column) opens.shown schema.1) in
        let held : Appends began.first (contents c'.output) [] = subst (λ o. Appends began.first (contents o) []) (sym output) (subst (Appends began.first (contents c.output)) nothing x.wrote) in
        let count : failed c'.output ≡ began.failures = ap failed output ∙ x.failures_are in (
          subst (λ l. ShowsOrLacks l began new.limits (t ++ piece) left (Ok tt) (contents c'.output) (failed c'.output)) (sym is)
              (subst (λ p. AreRows p × BeginWithout (choice_of p) new.limits (t ++ piece) column × Appends began.first (contents c'.output) [] × (failed c'.output ≡ began.failures)) x.report_is (rows, begins, held, count)),
          λ q. let z = sym is ∙ q in absurd (cc),
          λ q. let z = sym is ∙ q in absurd (cc),
        )

    -- its rows in the window were sent, and no further row is to be reported: the output was flushed
    pub message_enough : (v : Window) → c.window ≡ Some v → IsChosenAt (choice_of c.report) new.at.state.schema (given item) → (held' : Option (List ℕ)) (failed' : ℕ)
        → SendsSome (IsPartIn (form_of c.report) v (chosen_schema (choice_of c.report) new.at.state.schema) c.number (chosen_given (choice_of c.report) (given item))) (contents c.output) (failed c.output) (Ok tt) held' failed'
        → IsOver (window_after v c.number (table_in (given item))) (c.number + length (table_in (given item)))
        → (c' : ReportWriter S) → c'.report ≡ c.report → c'.lacks ≡ c.lacks → (answer : Result (Unit {0}) ToolFault) → SendsText held' failed' [] answer (contents c'.output) (failed c'.output) → OnOk answer (is_passed_on c'.output) → (left : Option (List ℕ))
        → ReportsSo contents failed is_passed_on began c' answer new (t ++ piece) left
    message_enough v window has held' failed' sent over c' same lacks answer flush passed left =
        answered c c' new (t ++ piece) left answer x.report_is (lacks ∙ x.lacks_none) (by began.window x.left_are x.is) passed (through began.window x.left_are x.is)
      where
        through : (wanted : Option Window) → LeftAre wanted c.window c.report es → IsReportedBy wanted c.report old.at.state.schema es x.text
            → IsThrough (HasEnoughBy wanted c.report new.limits (t ++ piece) began.first (contents c'.output)) answer new (t ++ piece)
        through None none is = absurd (is_window none window)
        through (Some w) wants is =
            let enough = part_enough (form_of c.report) (choice_of c.report) w v began.first (contents c.output) c.number old new t piece es (part v window w is wants.1) n item comes.is_open comes.limits comes.gives has sent.0 sent.1 held' sent.2.0 over in
            first_enough_through (form_of c.report) (choice_of c.report) w new.limits t piece left began.first held' began.failures (failed c.output) failed' new refl x.failures_are enough (contents c'.output) (failed c'.output) answer flush

        by : (wanted : Option Window) → LeftAre wanted c.window c.report es → IsReportedBy wanted c.report old.at.state.schema es x.text → ShowsSo wanted c.report new.limits (t ++ piece) left began.first began.failures answer (contents c'.output) (failed c'.output)
        by None none is = absurd (is_window none window)
        by (Some w) wants is =
            let enough = part_enough (form_of c.report) (choice_of c.report) w v began.first (contents c.output) c.number old new t piece es (part v window w is wants.1) n item comes.is_open comes.limits comes.gives has sent.0 sent.1 held' sent.2.0 over in
            first_enough_flushed (form_of c.report) (choice_of c.report) w new.limits t piece left began.first held' began.failures (failed c.output) failed' new refl x.failures_are enough sent.2.1 (contents c'.output) (failed c'.output) answer flush

    -- more rows are to be reported
    pub part_message_reported : (v : Window) → c.window ≡ Some v → IsChosenAt (choice_of c.report) new.at.state.schema (given item) → (c' : ReportWriter S)
        → SendsSome (IsPartIn (form_of c.report) v (chosen_schema (choice_of c.report) new.at.state.schema) c.number (chosen_given (choice_of c.report) (given item))) (contents c.output) (failed c.output) (Ok tt) (contents c'.output) (failed c'.output)
        → (IsOver (window_after v c.number (table_in (given item))) (c.number + length (table_in (given item))) → ⊥)
        → c'.number ≡ c.number + length (table_in (given item)) → c'.window ≡ Some (window_after v c.number (table_in (given item))) → c'.report ≡ c.report → c'.lacks ≡ c.lacks
        → HasReported contents failed began c' new.limits new.at.state (es ++ entry_of item t n ∷ [])
    part_message_reported v window has c' sent more count lefts same lacks = by began.window refl x.left_are x.is
      where
        by : (wanted : Option Window) → began.window ≡ wanted → LeftAre wanted c.window c.report es → IsReportedBy wanted c.report old.at.state.schema es x.text → HasReported contents failed began c' new.limits new.at.state (es ++ entry_of item t n ∷ [])
        by None asked none is = absurd (is_window none window)
        by (Some w) asked wants is =
            let next = part_reported (form_of c.report) (choice_of c.report) w v began.first (contents c.output) c.number old new t piece es (part v window w is wants.1) n item comes.is_open comes.limits comes.gives has sent.0 sent.1 (contents c'.output) sent.2.0 more in
            let text : IsReportedBy (Some w) c'.report new.at.state.schema (es ++ entry_of item t n ∷ []) next.text =
            subst (λ p. IsReportedBy (Some w) p new.at.state.schema (es ++ entry_of item t n ∷ []) next.text) (sym same) (next.has, next.is) in
            let left : LeftAre (Some w) c'.window c'.report (es ++ entry_of item t n ∷ []) = (subst AreRows (sym same) wants.0, subst (λ l. AreLeft w l (es ++ entry_of item t n ∷ [])) (sym lefts) next.left_are) in
            record {
              report_is = same ∙ x.report_is;
              text = next.text;
              is = subst (λ a. IsReportedBy a c'.report new.at.state.schema (es ++ entry_of item t n ∷ []) next.text) (sym asked) text;
              wrote = next.wrote;
              counted = count ∙ next.counted;
              failures_are = sent.2.1 ∙ x.failures_are;
              left_are = subst (λ a. LeftAre a c'.window c'.report (es ++ entry_of item t n ∷ [])) (sym asked) left;
              lacks_none = lacks ∙ x.lacks_none;
            }

    -- or they were not sent completely
    pub message_cut : (v : Window) → c.window ≡ Some v → IsChosenAt (choice_of c.report) new.at.state.schema (given item) → (c' : ReportWriter S) → c'.report ≡ c.report → c'.lacks ≡ c.lacks → (f : ToolFault)
        → SendsSome (IsPartIn (form_of c.report) v (chosen_schema (choice_of c.report) new.at.state.schema) c.number (chosen_given (choice_of c.report) (given item))) (contents c.output) (failed c.output) (Err f) (contents c'.output) (failed c'.output)
        → (left : Option (List ℕ)) → ReportsSo contents failed is_passed_on began c' (Err f) new (t ++ piece) left
    message_cut v window has c' same lacks f sent left =
        answered c c' new (t ++ piece) left (Err f) x.report_is (lacks ∙ x.lacks_none) (by began.window x.left_are x.is) tt (cut_through (HasEnoughBy began.window c.report new.limits (t ++ piece) began.first (contents c'.output)) sent.0 (contents c.output) (contents c'.output) (failed c.output) (failed c'.output) f sent.2 new (t ++ piece))
      where
        by : (wanted : Option Window) → LeftAre wanted c.window c.report es → IsReportedBy wanted c.report old.at.state.schema es x.text → ShowsSo wanted c.report new.limits (t ++ piece) left began.first began.failures (Err f) (contents c'.output) (failed c'.output)
        by None none is = absurd (is_window none window)
        by (Some w) wants is =
            let begun = λ (h : AcceptsBeginning (contents c.output) (contents c'.output) sent.0).
            begun_so (form_of c.report) (choice_of c.report) w new.limits t piece left began.first (contents c'.output) began.failures (failed c.output) (failed c'.output) new refl x.failures_are
            (part_cut (form_of c.report) (choice_of c.report) w v began.first (contents c.output) c.number old new t piece es (part v window w is wants.1) n item comes.is_open comes.limits comes.gives has sent.0 sent.1 (contents c'.output) h) in
            cut_short sent.0 (contents c.output) (contents c'.output) (failed c.output) (failed c'.output) f sent.2
            (λ h z. subst (λ g. ShowsWindow (form_of c.report) (choice_of c.report) w new.limits (t ++ piece) left began.first began.failures (Err g) (contents c'.output) (failed c'.output)) (sym z.1) (begun h, z.0 ∙ ap (λ m. m + 1) x.failures_are))
            (λ h z. subst (λ g. ShowsWindow (form_of c.report) (choice_of c.report) w new.limits (t ++ piece) left began.first began.failures (Err g) (contents c'.output) (failed c'.output)) (sym z.1) (begun h, z.0 ∙ x.failures_are))

    -- the text that was sent is the one that the message adds at the offset where it began
    here : (text : List ℕ) → IsAdded c.report new.at.state.schema place c.number (given item) text → IsAdded c.report new.at.state.schema old.at.place c.number (given item) text
    here text h = subst (λ p. IsAdded c.report new.at.state.schema p c.number (given item) text) comes.begins h

    -- all rows are to be reported, and its text was sent
    pub message_reported : c.window ≡ None → (c' : ReportWriter S) → SendsSome (IsAdded c.report new.at.state.schema place c.number (given item)) (contents c.output) (failed c.output) (Ok tt) (contents c'.output) (failed c'.output)
        → c'.number ≡ c.number + length (table_in (given item)) → c'.window ≡ c.window → c'.report ≡ c.report → c'.lacks ≡ c.lacks
        → HasReported contents failed began c' new.limits new.at.state (es ++ entry_of item t n ∷ [])
    message_reported all c' sent count lefts same lacks = by began.window refl x.left_are x.is
      where
        by : (wanted : Option Window) → began.window ≡ wanted → LeftAre wanted c.window c.report es → IsReportedBy wanted c.report old.at.state.schema es x.text → HasReported contents failed began c' new.limits new.at.state (es ++ entry_of item t n ∷ [])
        by (Some w) asked wants is = absurd (subst (λ l. AreLeft w l es) all wants.1)
        by None asked none is =
            let next = reported_next c.report began.first (contents c.output) c.number old new t piece es n item comes.is_open comes.limits (reported is) comes.gives sent.0 (here sent.0 sent.1) (contents c'.output) sent.2.0 in
            record {
              report_is = same ∙ x.report_is;
              text = next.text;
              is = subst (λ a. IsReportedBy a c'.report new.at.state.schema (es ++ entry_of item t n ∷ []) next.text) (sym asked) (subst (λ p. IsTextOf p new.at.state.schema (es ++ entry_of item t n ∷ []) next.text) (sym same) next.is);
              wrote = next.wrote;
              counted = count ∙ next.counted;
              failures_are = sent.2.1 ∙ x.failures_are;
              left_are = subst (λ a. LeftAre a c'.window c'.report (es ++ entry_of item t n ∷ [])) (sym asked) (lefts ∙ all);
              lacks_none = lacks ∙ x.lacks_none;
            }

    -- or it was not sent completely
    pub message_broken : c.window ≡ None → (c' : ReportWriter S) → c'.report ≡ c.report → c'.lacks ≡ c.lacks → (f : ToolFault)
        → SendsSome (IsAdded c.report new.at.state.schema place c.number (given item)) (contents c.output) (failed c.output) (Err f) (contents c'.output) (failed c'.output) → (left : Option (List ℕ))
        → ReportsSo contents failed is_passed_on began c' (Err f) new (t ++ piece) left
    message_broken all c' same lacks f sent left =
        answered c c' new (t ++ piece) left (Err f) x.report_is (lacks ∙ x.lacks_none) (by began.window x.left_are x.is) tt (cut_through (HasEnoughBy began.window c.report new.limits (t ++ piece) began.first (contents c'.output)) sent.0 (contents c.output) (contents c'.output) (failed c.output) (failed c'.output) f sent.2 new (t ++ piece))
      where
        by : (wanted : Option Window) → LeftAre wanted c.window c.report es → IsReportedBy wanted c.report old.at.state.schema es x.text → ShowsSo wanted c.report new.limits (t ++ piece) left began.first began.failures (Err f) (contents c'.output) (failed c'.output)
        by (Some w) wants is = absurd (subst (λ l. AreLeft w l es) all wants.1)
        by None none is =
            let begun = λ (h : AcceptsBeginning (contents c.output) (contents c'.output) sent.0).
            cut_begun c.report new.limits t piece began.first (contents c'.output) new refl (cut_next c.report began.first (contents c.output) c.number old new t piece es n item comes.is_open comes.limits (reported is) comes.gives sent.0 (here sent.0 sent.1) (contents c'.output) h) in
            cut_short sent.0 (contents c.output) (contents c'.output) (failed c.output) (failed c'.output) f sent.2
            (λ h w. subst (λ g. Reports c.report new.limits (t ++ piece) left began.first began.failures (Err g) (contents c'.output) (failed c'.output)) (sym w.1) (begun h, w.0 ∙ ap (λ m. m + 1) x.failures_are))
            (λ h w. subst (λ g. Reports c.report new.limits (t ++ piece) left began.first began.failures (Err g) (contents c'.output) (failed c'.output)) (sym w.1) (begun h, w.0 ∙ x.failures_are))

  -- ---- the end of a stream that ended well

  module _ (c : ReportWriter S) (marked : Bool) (r : ReaderView) (bytes : List ℕ) (left : Option (List ℕ)) (es : List Entry) (ended : HasEnded marked r bytes left es) (x : HasReported contents failed began c r.limits r.at.state es) where
    abbrev part_all : (k : Window) → IsReportedBy (Some k) c.report r.at.state.schema es x.text → AreLeft k c.window es → IsPartReported (form_of c.report) (choice_of c.report) k began.first (contents c.output) c.number c.window r bytes es
    part_all k is wants = part_at c r bytes es ended.position x k is wants

    abbrev e : Snapshot
    e = snapshot_of r ended.position.rest

    abbrev w : IsTextOf c.report r.at.state.schema es x.text → IsWritten c.report r.limits bytes e began.first (contents c.output)
    w is = written c.report r.limits bytes left began.first began.failures (contents c.output) c.number r es refl (reported_at c r bytes es ended.position x is)

    -- the last text is one that may come last
    last_is : (last : List ℕ) → IsLastBy marked c.report r.at.place last → IsLast c.report e.verdict e.place last
    last_is last is = by marked ended.ended_by is
      where
        by : (m : Bool) → IsEndedBy m r.at.verdict → IsLastBy m c.report r.at.place last → IsLast c.report r.at.verdict r.at.place last
        by true done is = subst (λ v. IsLast c.report v r.at.place last) (sym done) is
        by false open_still is = subst (λ v. IsLast c.report v r.at.place last) (sym open_still) is

    -- nothing comes last after rows
    rows_last : AreRows c.report → (last : List ℕ) → IsLastBy marked c.report r.at.place last → IsEnding c.report r.at.place last
    rows_last rows last is = by marked is c.report rows refl
      where
        by : (m : Bool) → IsLastBy m c.report r.at.place last → (p : ReportKind) → AreRows p → c.report ≡ p → IsEnding c.report r.at.place last
        by true none (Rows layout) rows same = subst (λ q. IsEnding q r.at.place last) (sym same) none
        by true none Messages rows same = absurd rows
        by false is p rows same = is

    -- it was sent, and the output was flushed
    pub end_reported : (last : List ℕ) → IsLastBy marked c.report r.at.place last → (held' : Option (List ℕ)) (failed' : ℕ) → SendsText (contents c.output) (failed c.output) last (Ok tt) held' failed' → (c' : ReportWriter S) → c'.report ≡ c.report → c'.lacks ≡ c.lacks
        → (answer : Result (Unit {0}) ToolFault) → SendsText held' failed' [] answer (contents c'.output) (failed c'.output) → OnOk answer (is_passed_on c'.output) → ReportsSo contents failed is_passed_on began c' answer r bytes left
    end_reported last is held' failed' sent c' same lacks answer flush passed =
        answered c c' r bytes left answer x.report_is (lacks ∙ x.lacks_none) (by began.window x.left_are x.is) passed (all_through (HasEnoughBy began.window c.report r.limits bytes began.first (contents c'.output)) [] held' (contents c'.output) failed' (failed c'.output) answer flush r bytes (es, ended.position))
      where
        well : EndsWell left e
        well = well_at r bytes es left ended.position ended.well

        by : (wanted : Option Window) → LeftAre wanted c.window c.report es → IsReportedBy wanted c.report r.at.state.schema es x.text → ShowsSo wanted c.report r.limits bytes left began.first began.failures answer (contents c'.output) (failed c'.output)
        by None none reported =
            flushed c.report r.limits bytes left began.first began.failures e held' (contents c'.output) failed' (failed c'.output) answer
            (more_written c.report r.limits bytes left began.first began.failures e (contents c.output) held' last (w reported) (last_is last is) sent.0) well (sent.1 ∙ x.failures_are) flush
        by (Some k) wants reported =
            let y = part_all k reported wants.1 in
            let text = ending_reported k c.report wants.0 r.limits bytes left began.first began.failures (contents c.output) c.number (failed c.output) c.window r refl x.failures_are es y last (rows_last wants.0 last is) held' sent.0 in
            flushed_by k c.report wants.0 r.limits bytes left began.first began.failures (contents c.output) c.number (failed c.output) c.window r refl x.failures_are es y held' (contents c'.output) failed' (failed c'.output) answer text well (sent.1 ∙ x.failures_are) flush

    -- or it was not sent completely
    pub end_broken : (last : List ℕ) → IsLastBy marked c.report r.at.place last → (c' : ReportWriter S) → c'.report ≡ c.report → c'.lacks ≡ c.lacks → (f : ToolFault)
        → SendsText (contents c.output) (failed c.output) last (Err f) (contents c'.output) (failed c'.output) → ReportsSo contents failed is_passed_on began c' (Err f) r bytes left
    end_broken last is c' same lacks f sent =
        answered c c' r bytes left (Err f) x.report_is (lacks ∙ x.lacks_none) (by began.window x.left_are x.is) tt (cut_through (HasEnoughBy began.window c.report r.limits bytes began.first (contents c'.output)) last (contents c.output) (contents c'.output) (failed c.output) (failed c'.output) f sent r bytes)
      where
        by : (wanted : Option Window) → LeftAre wanted c.window c.report es → IsReportedBy wanted c.report r.at.state.schema es x.text → ShowsSo wanted c.report r.limits bytes left began.first began.failures (Err f) (contents c'.output) (failed c'.output)
        by None none reported =
            let begun = λ (h : AcceptsBeginning (contents c.output) (contents c'.output) last). begun_last last is h in
            cut_short last (contents c.output) (contents c'.output) (failed c.output) (failed c'.output) f sent
            (λ h v. subst (λ g. Reports c.report r.limits bytes left began.first began.failures (Err g) (contents c'.output) (failed c'.output)) (sym v.1) (begun h, v.0 ∙ ap (λ m. m + 1) x.failures_are))
            (λ h v. subst (λ g. Reports c.report r.limits bytes left began.first began.failures (Err g) (contents c'.output) (failed c'.output)) (sym v.1) (begun h, v.0 ∙ x.failures_are))
          where
            begun_last : (last : List ℕ) → IsLastBy marked c.report r.at.place last → AcceptsBeginning (contents c.output) (contents c'.output) last → IsBegun c.report r.limits bytes began.first (contents c'.output)
            begun_last last is h = by_mark marked is
              where
                by_mark : (m : Bool) → IsLastBy m c.report r.at.place last → IsBegun c.report r.limits bytes began.first (contents c'.output)
                by_mark false ending = more_begun c.report r.limits bytes left began.first began.failures e (contents c.output) (contents c'.output) last (w reported) ending h
                by_mark true none = record {
                  taken = bytes;
                  rest = [];
                  whole = append-nil bytes;
                  snapshot = e;
                  entries = es;
                  front = (w reported).front;
                  text = x.text;
                  is = reported;
                  last = [];
                  is_last = inl refl;
                  wrote = subst (λ l. AcceptsBeginning began.first (contents c'.output) (x.text ++ l)) none (begun_after began.first (contents c.output) (contents c'.output) x.text last x.wrote h);
                }
        by (Some k) wants reported =
            let y = part_all k reported wants.1 in
            let begun = λ (h : AcceptsBeginning (contents c.output) (contents c'.output) last).
            ending_cut k c.report wants.0 r.limits bytes left began.first began.failures (contents c.output) c.number (failed c.output) c.window r refl x.failures_are es y last (rows_last wants.0 last is) (contents c'.output) h in
            cut_short last (contents c.output) (contents c'.output) (failed c.output) (failed c'.output) f sent
            (λ h v. subst (λ g. ShowsWindow (form_of c.report) (choice_of c.report) k r.limits bytes left began.first began.failures (Err g) (contents c'.output) (failed c'.output)) (sym v.1) (begun h, v.0 ∙ ap (λ m. m + 1) x.failures_are))
            (λ h v. subst (λ g. ShowsWindow (form_of c.report) (choice_of c.report) k r.limits bytes left began.first began.failures (Err g) (contents c'.output) (failed c'.output)) (sym v.1) (begun h, v.0 ∙ x.failures_are))

  -- ---- a call

  -- a report writer that has reported nothing is in its initial state
  pub nothing_reported : (c : ReportWriter S) (limits : LimitNumbers) → c.report ≡ began.report → began.first ≡ contents c.output → began.failures ≡ failed c.output → began.window ≡ c.window → c.number ≡ 0 → c.lacks ≡ None → ((c.window ≡ None) ⊎ AreRows c.report)
      → HasReported contents failed began c limits nothing_yet []
  nothing_reported c limits same first failures rows none lacks limited = record {
    report_is = same;
    text = [];
    is = by_window began.window c.report;
    wrote = subst (λ h. Appends h (contents c.output) []) (sym first) (Appends-nil (contents c.output));
    counted = none;
    failures_are = sym failures;
    left_are = subst (λ w. LeftAre w c.window c.report []) (sym rows) (left_by c.window refl);
    lacks_none = lacks;
  }
    where
      by : (p : ReportKind) → IsTextOf p None [] []
      by Messages = refl
      by (Rows layout) = (have_before (choice_by layout.columns), nothing_before (form_by layout) (choice_by layout.columns) [])

      by_window : (wanted : Option Window) (p : ReportKind) → IsReportedBy wanted p None [] []
      by_window None p = by p
      by_window (Some w) p = (have_before (choice_of p), nothing_within (form_of p) (choice_of p) w [])

      rows_by : (n : Window) → ((c.window ≡ None) ⊎ AreRows c.report) → c.window ≡ Some n → AreRows c.report
      rows_by n (inl all) some = let q = sym all ∙ some in absurd (cc)
      rows_by n (inr rows) some = rows

      left_by : (w : Option Window) → c.window ≡ w → LeftAre w c.window c.report []
      left_by None is = is
      left_by (Some n) is = (rows_by n limited is, subst (λ l. AreLeft n l []) (sym is) (refl, λ q. refl))

  module _ (c : ReportWriter S) (bytes : List ℕ) (left : Option (List ℕ)) (r : ReaderView) where
    -- the stream ended badly
    call_badly : (fault : ToolFault) → EndBadly (HasReported contents failed began c) bytes left r fault → ReportsSo contents failed is_passed_on began c (Err fault) r bytes left
    call_badly fault ends =
        subst (λ f. ReportsSo contents failed is_passed_on began c (Err f) r bytes left) (sym ends.reported) (answered c c r bytes left (Err (Stream ends.of_stream)) x.report_is x.lacks_none (by began.window x.left_are x.is) tt (ends.given.entries, ends.given.position))
      where
        x : HasReported contents failed began c r.limits r.at.state ends.given.entries
        x = ends.given.kept

        badly : EndsBadly left (snapshot_of r ends.given.position.rest) ends.of_stream
        badly = badly_at r bytes ends.given.entries left ends.of_stream ends.given.position ends.badly

        by : (wanted : Option Window) → LeftAre wanted c.window c.report ends.given.entries → IsReportedBy wanted c.report r.at.state.schema ends.given.entries x.text → ShowsSo wanted c.report r.limits bytes left began.first began.failures (Err (Stream ends.of_stream)) (contents c.output) (failed c.output)
        by None none is =
            (snapshot_of r ends.given.position.rest, written c.report r.limits bytes left began.first began.failures (contents c.output) c.number r ends.given.entries refl (reported_at c r bytes ends.given.entries ends.given.position ends.given.kept is), badly, ends.given.kept.failures_are)
        by (Some k) wants is =
            first_badly k c.report wants.0 r.limits bytes left began.first began.failures (contents c.output) c.number (failed c.output) c.window r refl ends.given.kept.failures_are ends.given.entries
            (part_at c r bytes ends.given.entries ends.given.position ends.given.kept k is wants.1) ends.of_stream badly

    -- a read failed
    call_failed : (fault : ToolFault) → FailToRead (HasReported contents failed began c) bytes r fault → ReportsSo contents failed is_passed_on began c (Err fault) r bytes left
    call_failed fault fails =
        subst (λ f. ReportsSo contents failed is_passed_on began c (Err f) r bytes left) (sym fails.reported) (answered c c r bytes left (Err (Input 0)) fails.given.kept.report_is fails.given.kept.lacks_none (by began.window fails.given.kept.left_are fails.given.kept.is) tt (fails.given.entries, fails.given.position))
      where
        by : (wanted : Option Window) → LeftAre wanted c.window c.report fails.given.entries → IsReportedBy wanted c.report r.at.state.schema fails.given.entries fails.given.kept.text → ShowsSo wanted c.report r.limits bytes left began.first began.failures (Err (Input 0)) (contents c.output) (failed c.output)
        by None none is = (
          refl,
          (
            snapshot_of r fails.given.position.rest,
            fails.is_open,
            written c.report r.limits bytes left began.first began.failures (contents c.output) c.number r fails.given.entries refl (reported_at c r bytes fails.given.entries fails.given.position fails.given.kept is),
          ),
          fails.given.kept.failures_are,
        )
        by (Some k) wants is =
            first_input k c.report wants.0 r.limits bytes left began.first began.failures (contents c.output) c.number (failed c.output) c.window r refl fails.given.kept.failures_are fails.given.entries
            (part_at c r bytes fails.given.entries fails.given.position fails.given.kept k is wants.1) fails.is_open

    -- an allocation failed
    call_needing : (fault : ToolFault) → NeedMemory (HasReported contents failed began c) bytes r fault → ReportsSo contents failed is_passed_on began c (Err fault) r bytes left
    call_needing fault wants =
        subst (λ f. ReportsSo contents failed is_passed_on began c (Err f) r bytes left) (sym wants.is_memory) (answered c c r bytes left (Err Memory) wants.given.kept.report_is wants.given.kept.lacks_none (by began.window wants.given.kept.left_are wants.given.kept.is) tt tt)
      where
        by : (wanted : Option Window) → LeftAre wanted c.window c.report wants.given.entries → IsReportedBy wanted c.report r.at.state.schema wants.given.entries wants.given.kept.text → ShowsSo wanted c.report r.limits bytes left began.first began.failures (Err Memory) (contents c.output) (failed c.output)
        by None none is = (
          record {
            taken = wants.taken;
            rest = wants.rest;
            whole = wants.whole;
            snapshot = snapshot_of r wants.given.position.rest;
            entries = wants.given.entries;
            front = wants.given.position.front;
            text = wants.given.kept.text;
            is = is;
            last = [];
            is_last = inl refl;
            wrote = subst (AcceptsBeginning began.first (contents c.output)) (sym (append-nil wants.given.kept.text)) (begun_all began.first (contents c.output) wants.given.kept.text wants.given.kept.wrote);
          },
          wants.given.kept.failures_are,
        )
        by (Some k) some is =
            let memory = first_memory k c.report some.0 r.limits wants.taken left began.first began.failures (contents c.output) c.number (failed c.output) c.window r refl wants.given.kept.failures_are wants.given.entries
            (part_at c r wants.taken wants.given.entries wants.given.position wants.given.kept k is some.1) in
            (first_longer (form_of c.report) (choice_of c.report) k r.limits wants.taken wants.rest bytes began.first (contents c.output) wants.whole memory.0, memory.1)

    -- how the call ended: by the report writer's answer, or before it had one
    pub call_reported : (answer : Result (Unit {0}) ToolFault) → Driven (HasReported contents failed began c) (ReportsSo contents failed is_passed_on began c) bytes left r answer → ReportsSo contents failed is_passed_on began c answer r bytes left
    call_reported (Ok done) answers = answers
    call_reported (Err fault) (inl answers) = answers
    call_reported (Err fault) (inr (inl ends)) = call_badly fault ends
    call_reported (Err fault) (inr (inr (inl fails))) = call_failed fault fails
    call_reported (Err fault) (inr (inr (inr wants))) = call_needing fault wants

  -- ---- what bytes that call for more are

  -- the stream goes on
  abbrev pub more_open : (limits : LimitNumbers) (bytes : List ℕ) → CallForMore (HasReported contents failed began) limits bytes → IsOpenAt limits bytes
  more_open limits bytes more = record { entries = more.entries; snapshot = more.snapshot; front = more.front; goes_on = more.is_open }

  -- more rows in the window are to be reported
  pub more_short : (k : Window) → began.window ≡ Some k → (limits : LimitNumbers) (bytes : List ℕ) → CallForMore (HasReported contents failed began) limits bytes → IsShortAt k limits bytes
  more_short k is limits bytes more =
      let wants = subst (λ w. LeftAre w more.consumer.window more.consumer.report more.entries) is more.kept.left_are in
      record { open_at = more_open limits bytes more; short = not_there k more.consumer.window more.front wants.1 }

  -- before a schema that lacks a column there was no message
  pub more_none : AreRows began.report → (limits : LimitNumbers) (place : ℕ) (before piece : List ℕ) → BeginWithout (choice_of began.report) limits (before ++ piece) place → CallForMore (HasReported contents failed began) limits before → AreNoMessage limits before
  more_none rows limits place before piece lacks more =
      let x = more.kept in
      let is = subst (λ p. IsReportedBy began.window p more.snapshot.state.schema more.entries x.text) x.report_is x.is in
      lack_waits (choice_of began.report) limits place before piece lacks more.entries more.snapshot more.front more.is_open (chosen_by began.window began.report rows more.snapshot.state.schema more.entries x.text is)

  -- so no piece was read after the one in which the schema ends
  pub none_while : AreRows began.report → (limits : LimitNumbers) (place : ℕ) (bytes : List ℕ) → BeginWithout (choice_of began.report) limits bytes place → IsReadWhile (CallForMore (HasReported contents failed began) limits) bytes → IsReadWhile (AreNoMessage limits) bytes
  none_while rows limits place bytes lacks w = record {
    before = w.before;
    piece = w.piece;
    joined = w.joined;
    size = w.size;
    needing = more_none rows limits place w.before w.piece (subst (λ b. BeginWithout (choice_of began.report) limits b place) w.joined lacks) w.needing;
  }

  -- ---- what a call says of its input

  module _ (c : ReportWriter S) (limits : LimitNumbers) (had left : Option (List ℕ)) (r : ReaderView) (same : r.limits ≡ limits) (answer : Result (Unit {0}) ToolFault)
      (driven : (bytes : List ℕ) × Consumes had left bytes × IsReadWhile (CallForMore (HasReported contents failed began) limits) bytes × Driven (HasReported contents failed began c) (ReportsSo contents failed is_passed_on began c) bytes left r answer) where
    reported_so : ReportsSo contents failed is_passed_on began c answer r driven.0 left
    reported_so = call_reported c driven.0 left r answer driven.3

    -- what was shown, depending on what the schema was found to lack
    shown_by : (lacks : Option ℕ) → c.lacks ≡ lacks → ShowsOrLacks lacks began limits driven.0 left answer (contents c.output) (failed c.output)
    shown_by lacks is = subst (λ l. ShowsOrLacks l began limits driven.0 left answer (contents c.output) (failed c.output)) is (subst (λ l. ShowsOrLacks c.lacks began l driven.0 left answer (contents c.output) (failed c.output)) same reported_so.0)

    -- everything was reported
    pub call_all : c.lacks ≡ None → began.window ≡ None → ReportsInput began.report limits had left began.first began.failures answer (contents c.output) (failed c.output)
    call_all none all = (
      driven.0,
      driven.1,
      read_while_so (more_open limits) driven.2,
      subst (λ w. ShowsSo w began.report limits driven.0 left began.first began.failures answer (contents c.output) (failed c.output)) all (shown_by None none),
    )

    -- the rows in the window were reported
    pub call_window : c.lacks ≡ None → (n : Window) → began.window ≡ Some n → ShowsWindowOf (form_of began.report) (choice_of began.report) n limits had left began.first began.failures answer (contents c.output) (failed c.output)
    call_window none n some = (
      driven.0,
      driven.1,
      read_while_so (more_short n some limits) driven.2,
      subst (λ w. ShowsSo w began.report limits driven.0 left began.first began.failures answer (contents c.output) (failed c.output)) some (shown_by None none),
    )

    -- the schema lacks a column
    pub call_lacks : (place : ℕ) → c.lacks ≡ Some place → LacksInput (choice_of began.report) limits had left began.first began.failures place (contents c.output) (failed c.output)
    call_lacks place some =
        let lacks = shown_by (Some place) some in
        (driven.0, driven.1, none_while lacks.0 limits place driven.0 lacks.1 driven.2, lacks.1, lacks.2, lacks.3)

    -- if all columns are reported, none is lacking
    pub call_has : choice_of began.report ≡ None → c.lacks ≡ None
    call_has all = by c.lacks refl
      where
        by : (lacks : Option ℕ) → c.lacks ≡ lacks → c.lacks ≡ None
        by None is = is
        by (Some place) is = let lacks = shown_by (Some place) is in absurd (subst (λ choice. LacksColumn choice (Some lacks.1.0) place) all lacks.1.2)

    -- and if no column was lacking, the output has passed on what it accepted
    pub call_passed : c.lacks ≡ None → OnOk answer (is_passed_on c.output)
    call_passed none = reported_so.1 none

  -- ---- what a call says of an input with bounds

  module _ (c : ReportWriter S) (none : c.lacks ≡ None) (limits : LimitNumbers) (left : Option (List ℕ)) (bytes : List ℕ) (r : ReaderView) (same : r.limits ≡ limits) (answer : Result (Unit {0}) ToolFault)
      (driven : Driven (HasReported contents failed began c) (ReportsSo contents failed is_passed_on began c) bytes left r answer) where
    shown_in : ShowsSo began.window began.report limits bytes left began.first began.failures answer (contents c.output) (failed c.output)
    shown_in =
        subst (λ l. ShowsOrLacks l began limits bytes left answer (contents c.output) (failed c.output)) none
        (subst (λ l. ShowsOrLacks c.lacks began l bytes left answer (contents c.output) (failed c.output)) same (call_reported c bytes left r answer driven).0)

    through_in : IsThrough (HasEnoughBy began.window began.report limits bytes began.first (contents c.output)) answer r bytes
    through_in = subst (λ l. IsThrough (HasEnoughBy began.window began.report l bytes began.first (contents c.output)) answer r bytes) same ((call_reported c bytes left r answer driven).2 none)

    -- everything was reported
    pub all_in : began.window ≡ None → Reports began.report limits bytes left began.first began.failures answer (contents c.output) (failed c.output) × IsThrough ⊥ answer r bytes
    all_in all = (
      subst (λ w. ShowsSo w began.report limits bytes left began.first began.failures answer (contents c.output) (failed c.output)) all shown_in,
      subst (λ w. IsThrough (HasEnoughBy w began.report limits bytes began.first (contents c.output)) answer r bytes) all through_in,
    )

    -- the rows in the window were reported
    pub window_in : (n : Window) → began.window ≡ Some n
        → ShowsWindow (form_of began.report) (choice_of began.report) n limits bytes left began.first began.failures answer (contents c.output) (failed c.output)
        × IsThrough (IsEnoughOf (form_of began.report) (choice_of began.report) n limits bytes began.first (contents c.output)) answer r bytes
    window_in n some = (
      subst (λ w. ShowsSo w began.report limits bytes left began.first began.failures answer (contents c.output) (failed c.output)) some shown_in,
      subst (λ w. IsThrough (HasEnoughBy w began.report limits bytes began.first (contents c.output)) answer r bytes) some through_in,
    )
