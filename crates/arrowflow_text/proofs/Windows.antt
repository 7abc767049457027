-- The text of the rows in a window, message by message.
use Rattle.std.proofs.Common.{◌≡◌, ◌+◌, ℕ, suc, true, List, [], ◌∷◌, ◌++◌, length, Option, None, Some, refl, sym, ap, ◌∙◌, subst, arith, append_assoc, append-nil, is_some}
use Rattle.std.specs.List.{AllByRecursion}
use Rattle.std.proofs.lemmas.Bool.{false≢true}
use Rattle.arrow_types.specs.Limits.{LimitNumbers}
use Rattle.arrow_types.specs.Notes.{SchemaShape}
use Rattle.arrow_data.specs.Batch.{Table}
use Rattle.arrow_csv.specs.Layouts.{Form}
use Rattle.arrow_csv.specs.Named.{Choice, chosen_schema, chosen_shape, chosen_tables}
use Rattle.arrow_csv.specs.Records.{header_record}
use Rattle.arrow_stream_reader.specs.declared.reader.Verdict.TheVariants.{Open}
use Rattle.arrow_stream_reader.specs.Front.{Entry, Snapshot, FrontOf}
use Rattle.arrow_stream_reader.specs.State.{Given, schema_given, dictionary_given, batch_given, ended}
use Rattle.arrow_stream_reader.specs.Tables.{table_in, tables_of}
use Rattle.arrowflow_text.specs.Chosen.{AreRows, HaveChosen, IsChosenText, choice_of, chosen_given, form_of}
use Rattle.arrowflow_text.specs.Windows.{AreLeft, AreRowsIn, HaveAll, IsChosenWithin, IsOver, IsPartIn, IsTextWithin, after_batch, window_after}
use Rattle.arrowflow_text.specs.Reports.{IsTextOf}
use Rattle.arrowflow_text.specs.declared.report.ReportKind.{ReportKind}
use Rattle.arrowflow_text.specs.declared.report.ReportKind.TheVariants.{Messages, Rows}
use Rattle.arrowflow_text.specs.declared.window.Window.{Window}
use Rattle.arrowflow_input.proofs.First.{state_stays}
use Rattle.arrowflow_text.proofs.Growing.{chosen_in, chosen_join, chosen_length, given_schema, no_schema, no_tables, same_rest, shape_shown}
use Rattle.arrowflow_input.proofs.Feeding.{one_table}
use Rattle.arrowflow_input.proofs.Schemas.{front_begins, front_after, front_keeps}

-- ---- windows and their records

-- the window after two appended lists of batches
pub after_join : (w : Window) (n : ℕ) (ts us : List Table) → window_after w n (ts ++ us) ≡ window_after (window_after w n ts) (n + length ts) us
after_join w n [] us = let e : n ≡ n + 0 = omega arith in ap (λ k. window_after w k us) e
after_join w n (t ∷ ts) us =
    let e : n + 1 + length ts ≡ n + suc (length ts) = omega arith in
    after_join (after_batch w n t.rows) (n + 1) ts us ∙ ap (λ k. window_after (window_after (after_batch w n t.rows) (n + 1) ts) k us) e

-- the records of two appended lists of batches are those of all batches
within_join : (form : Form) (w : Window) (n : ℕ) (ts us : List Table) (first second : List ℕ) → AreRowsIn form w n ts first → AreRowsIn form (window_after w n ts) (n + length ts) us second → AreRowsIn form w n (ts ++ us) (first ++ second)
within_join form w n [] us first second none h =
    let e : n + 0 ≡ n = omega arith in
    subst (λ t. AreRowsIn form w n us (t ++ second)) (sym none) (subst (λ k. AreRowsIn form w k us second) e h)
within_join form w n (t ∷ ts) us first second (own, others, is, rest, whole) h =
    let e : n + suc (length ts) ≡ n + 1 + length ts = omega arith in
    (own, others ++ second, is, within_join form (after_batch w n t.rows) (n + 1) ts us others second rest (subst (λ k. AreRowsIn form (window_after (after_batch w n t.rows) (n + 1) ts) k us second) e h), ap (λ t. t ++ second) whole ∙ append_assoc own others second)

-- batches with only the chosen columns have as many rows
after_named : (names : List (List ℕ)) (w : Window) (n : ℕ) (ts : List Table) → window_after w n (chosen_tables (Some names) ts) ≡ window_after w n ts
after_named names w n [] = refl
after_named names w n (t ∷ ts) = after_named names (after_batch w n t.rows) (n + 1) ts

after_chosen : (choice : Choice) (w : Window) (n : ℕ) (ts : List Table) → window_after w n (chosen_tables choice ts) ≡ window_after w n ts
after_chosen None w n ts = refl
after_chosen (Some names) w n ts = after_named names w n ts

-- what a message after the schema adds
part_text : (form : Form) (w : Window) (schema : SchemaShape) (n : ℕ) (g : Given) (added : List ℕ) → (g ≡ schema_given → ⊥) → IsPartIn form w (Some schema) n g added → AreRowsIn form w n (table_in g) added
part_text form w schema n schema_given added h is = absurd (h refl)
part_text form w schema n (dictionary_given id) added h is = is
part_text form w schema n (batch_given b) added h is = (added, [], is, refl, sym (append-nil added))
part_text form w schema n ended added h is = is

-- before the schema nothing is shown
pub within_before : (form : Form) (choice : Choice) (w : Window) (ts : List Table) (text : List ℕ) → IsChosenWithin form choice w None ts text → text ≡ []
within_before form None w ts text is = is
within_before form (Some names) w ts text is = is

pub nothing_within : (form : Form) (choice : Choice) (w : Window) (ts : List Table) → IsChosenWithin form choice w None ts []
nothing_within form None w ts = refl
nothing_within form (Some names) w ts = refl

-- a message after an open stream's messages adds the records of its rows that lie in the window
abbrev pub GrowsWithin : Form → Choice → Window → List Entry → Entry → Snapshot → Snapshot → Type 0
GrowsWithin form choice w es x e f = (text added : List ℕ) → IsChosenWithin form choice w e.state.schema (tables_of es) text
    → IsPartIn form (window_after w 0 (tables_of es)) (chosen_schema choice f.state.schema) (length (tables_of es)) (chosen_given choice x.given) added → IsChosenWithin form choice w f.state.schema (tables_of (es ++ x ∷ [])) (text ++ added)

pub grows_within : (form : Form) (choice : Choice) (w : Window) {l : LimitNumbers} {b : List ℕ} (c : List ℕ) {es : List Entry} {e f : Snapshot} (x : Entry) → FrontOf l b es e → e.verdict ≡ Open → FrontOf l (b ++ c) (es ++ x ∷ []) f → GrowsWithin form choice w es x e f
grows_within form choice w {l} {b} c {es} {e} {f} x old o new = by e.state.schema refl
  where
    g : Given
    g = chosen_given choice x.given

    after_schema : (shape : SchemaShape) → e.state.schema ≡ Some shape → GrowsWithin form choice w es x e f
    after_schema shape k text added is own =
        let v = front_after c old o new in
        let keep = front_keeps v.after shape k in
        let other = (subst (λ more. AllByRecursion (λ (y : Entry). y.given ≡ schema_given → ⊥) more) (sym (same_rest es x v.more v.joined)) keep.others).0 in
        let ts = tables_of es in
        let seen = chosen_tables choice ts in
        let one = chosen_tables choice (table_in x.given) in
        let shown = chosen_shape choice shape in
        let n = length ts in
        let left = window_after w 0 ts in
        let count : n ≡ 0 + length seen = omega (arith, chosen_length choice ts) in
        let before : IsTextWithin form w (Some shown) seen text = subst (λ s. IsTextWithin form w s seen text) (ap (chosen_schema choice) k ∙ shape_shown choice shape) is in
        let now : chosen_schema choice f.state.schema ≡ Some shown = ap (chosen_schema choice) keep.schema ∙ shape_shown choice shape in
        let batch = part_text form left shown n g added (λ z. other (no_schema choice x.given z)) (subst (λ s. IsPartIn form left s n g added) now own) in
        let there : AreRowsIn form left (0 + length seen) one added = subst (λ m. AreRowsIn form left m one added) count (subst (λ us. AreRowsIn form left n us added) (sym (chosen_in choice x.given)) batch) in
        let moved : AreRowsIn form (window_after w 0 seen) (0 + length seen) one added = subst (λ v. AreRowsIn form v (0 + length seen) one added) (sym (after_chosen choice w 0 ts)) there in
        let tables : seen ++ one ≡ chosen_tables choice (tables_of (es ++ x ∷ [])) = sym (chosen_join choice ts (table_in x.given)) ∙ ap (chosen_tables choice) (sym (one_table es x)) in
        let all = subst (λ us. AreRowsIn form w 0 us (before.0 ++ added)) tables (within_join form w 0 seen one before.0 added before.1 moved) in
        let whole : IsTextWithin form w (Some shown) (chosen_tables choice (tables_of (es ++ x ∷ []))) (text ++ added) =
        (before.0 ++ added, all, ap (λ t. t ++ added) before.2 ∙ append_assoc (header_record form shown.fields) before.0 added) in
        subst (λ s. IsTextWithin form w s (chosen_tables choice (tables_of (es ++ x ∷ []))) (text ++ added)) (sym now) whole

    before_schema : (es : List Entry) → e.state.schema ≡ None → FrontOf l b es e → FrontOf l (b ++ c) (es ++ x ∷ []) f → GrowsWithin form choice w es x e f
    before_schema [] k old new text added is own =
        let v = front_begins new refl (λ q. cc) in
        let first : v.first ≡ x = let q = v.joined in cc in
        let given : x.given ≡ schema_given = ap (λ (y : Entry). y.given) (sym first) ∙ v.given in
        let none : [] ≡ table_in x.given ++ [] = ap (λ h. table_in h ++ []) (sym given) in
        let shown = chosen_shape choice v.shape in
        let head = header_record form shown.fields in
        let schema : chosen_schema choice f.state.schema ≡ Some shown = ap (chosen_schema choice) v.schema ∙ shape_shown choice v.shape in
        let nothing : text ≡ [] = within_before form choice w [] text (subst (λ s. IsChosenWithin form choice w s [] text) k is) in
        let header : IsPartIn form w (Some shown) 0 schema_given added =
        subst (λ h. IsPartIn form w (Some shown) 0 h added) (ap (chosen_given choice) given ∙ given_schema choice) (subst (λ s. IsPartIn form w s 0 g added) schema own) in
        let both : text ++ added ≡ head ++ [] = ap (λ t. t ++ added) nothing ∙ header ∙ sym (append-nil head) in
        let whole : IsTextWithin form w (Some shown) [] (text ++ added) = ([], refl, both) in
        subst (λ s. IsTextWithin form w s (chosen_tables choice (table_in x.given ++ [])) (text ++ added)) (sym schema)
        (subst (λ ts. IsTextWithin form w (Some shown) ts (text ++ added)) (sym (no_tables choice) ∙ ap (chosen_tables choice) none) whole)
    before_schema (y ∷ ys) k old new text added is own = let v = front_begins old refl (λ q. cc) in let q : Some v.shape ≡ None = sym v.schema ∙ k in absurd (cc)

    by : (s : Option SchemaShape) → e.state.schema ≡ s → GrowsWithin form choice w es x e f
    by None k = before_schema es k old new
    by (Some shape) k = after_schema shape k

-- ---- what is left

never_empty : (es : List Entry) (x : Entry) → es ++ x ∷ [] ≡ [] → ⊥
never_empty [] x q = absurd (cc)
never_empty (y ∷ es) x q = absurd (cc)

-- a stream with a message has a schema
schema_there : {l : LimitNumbers} {b : List ℕ} (es : List Entry) (x : Entry) {f : Snapshot} → FrontOf l b (es ++ x ∷ []) f → is_some f.state.schema ≡ true
schema_there es x new = let v = front_begins new refl (never_empty es x) in ap is_some v.schema

-- while more rows are to be reported, not all are written
pub not_there : (w : Window) (left : Option Window) {l : LimitNumbers} {b : List ℕ} {es : List Entry} {e : Snapshot} → FrontOf l b es e → AreLeft w left es → HaveAll w e.state.schema es → ⊥
not_there w None front a h = absurd a
not_there w (Some v) {es = es} {e = e} front a h =
    let none = a.1 (subst (λ u. IsOver u (length (tables_of es))) (sym a.0) h.1) in
    absurd (false≢true (sym (ap (λ s. is_some s.schema) (state_stays front none)) ∙ h.0))

-- the window after one more message
after_one : (w v : Window) (number : ℕ) (es : List Entry) (x : Entry) → v ≡ window_after w 0 (tables_of es) → number ≡ length (tables_of es) → window_after v number (table_in x.given) ≡ window_after w 0 (tables_of (es ++ x ∷ []))
after_one w v number es x is count =
    let at : number ≡ 0 + length (tables_of es) = omega (arith, count) in
    ap (λ u. window_after u number (table_in x.given)) is ∙ ap (λ k. window_after (window_after w 0 (tables_of es)) k (table_in x.given)) at ∙ sym (after_join w 0 (tables_of es) (table_in x.given)) ∙ ap (window_after w 0) (sym (one_table es x))

-- more rows are to be reported
pub left_next : (w v : Window) (number number' : ℕ) (es : List Entry) (x : Entry) → v ≡ window_after w 0 (tables_of es) → number ≡ length (tables_of es) → number' ≡ length (tables_of (es ++ x ∷ [])) → (IsOver (window_after v number (table_in x.given)) number' → ⊥)
    → AreLeft w (Some (window_after v number (table_in x.given))) (es ++ x ∷ [])
left_next w v number number' es x is count next more = (after_one w v number es x is count, λ q. absurd (more (subst (IsOver (window_after v number (table_in x.given))) (sym next) q)))

-- or all are written
pub all_there : (w v : Window) (number number' : ℕ) {l : LimitNumbers} {b : List ℕ} (es : List Entry) (x : Entry) {f : Snapshot} → FrontOf l b (es ++ x ∷ []) f → v ≡ window_after w 0 (tables_of es) → number ≡ length (tables_of es) → number' ≡ length (tables_of (es ++ x ∷ []))
    → IsOver (window_after v number (table_in x.given)) number' → HaveAll w f.state.schema (es ++ x ∷ [])
all_there w v number number' es x new is count next over =
    (schema_there es x new, subst (λ u. IsOver u (length (tables_of (es ++ x ∷ [])))) (after_one w v number es x is count) (subst (IsOver (window_after v number (table_in x.given))) next over))

-- ---- of reports of only rows

pub rows_text : (report : ReportKind) → AreRows report → (schema : Option SchemaShape) (es : List Entry) (text : List ℕ) → IsTextOf report schema es text
    → HaveChosen (choice_of report) schema × IsChosenText (form_of report) (choice_of report) schema (tables_of es) text
rows_text (Rows layout) e schema es text is = is
rows_text Messages e schema es text is = absurd e
