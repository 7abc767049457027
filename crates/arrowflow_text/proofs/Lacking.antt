-- A schema that lacks a column which is asked for.
use Rattle.std.proofs.Common.{◌≡◌, ℕ, List, [], ◌∷◌, ◌++◌, Option, None, Some, refl, sym, ap, ◌∙◌, subst}
use Rattle.std.specs.List.{AllByRecursion}
use Rattle.arrow_types.specs.Limits.{LimitNumbers}
use Rattle.arrow_types.specs.Notes.{SchemaShape}
use Rattle.arrow_csv.specs.Named.{Choice}
use Rattle.arrow_stream_reader.specs.declared.reader.Verdict.TheVariants.{Open}
use Rattle.arrow_stream_reader.specs.Frame.{First, whole}
use Rattle.arrow_stream_reader.specs.Front.{Entry, Snapshot, Front, FrontOf, rests, fails, closes, goes_on}
use Rattle.arrow_stream_reader.specs.State.{StreamState, Given, nothing_yet, schema_given, dictionary_given, batch_given, ended}
use Rattle.arrowflow_text.specs.Chosen.{AreRows, HaveChosen, LacksAt, LacksColumn, choice_of}
use Rattle.arrowflow_text.specs.Columns.{BeginWithout}
use Rattle.arrowflow_text.specs.SchemaCall.{AreNoMessage}
use Rattle.arrowflow_text.specs.declared.report.ReportKind.{ReportKind}
use Rattle.arrowflow_text.specs.declared.report.ReportKind.TheVariants.{Messages, Rows}
use Rattle.arrowflow_input.proofs.First.{not_marker, open_waits}
use Rattle.arrowflow_input.proofs.Schemas.{front_begins, front_keeps}
use Rattle.arrow_stream_reader.proofs.Firsts.{First-append, one_first}

-- only the schema message can lack a column
pub lacks_schema : (choice : Choice) (schema : Option SchemaShape) (g : Given) (place : ℕ) → LacksAt choice schema g place → (g ≡ schema_given) × LacksColumn choice schema place
lacks_schema choice schema schema_given place h = (refl, h)
lacks_schema choice schema (dictionary_given id) place h = absurd h
lacks_schema choice schema (batch_given b) place h = absurd h
lacks_schema choice schema ended place h = absurd h

-- and only if rows are reported
pub lacks_rows : (report : ReportKind) (schema : Option SchemaShape) (place : ℕ) → LacksColumn (choice_of report) schema place → AreRows report
lacks_rows Messages schema place h = absurd h
lacks_rows (Rows layout) schema place h = tt

-- a schema that has all columns lacks none
has_none : (choice : Choice) (schema : Option SchemaShape) (place : ℕ) → HaveChosen choice schema → LacksColumn choice schema place → ⊥
has_none None schema place has h = absurd h
has_none (Some names) None place has h = absurd h
has_none (Some names) (Some shape) place has h = let q = sym has ∙ h in absurd (cc)

last_other : (es : List Entry) (x : Entry) → AllByRecursion (λ (y : Entry). y.given ≡ schema_given → ⊥) (es ++ x ∷ []) → x.given ≡ schema_given → ⊥
last_other [] x others is = others.0 is
last_other (e ∷ es) x others is = last_other es x others.1 is

-- no message came before the message that gives a schema
pub none_before : {l : LimitNumbers} {b : List ℕ} (es : List Entry) (x : Entry) {f : Snapshot} → FrontOf l b (es ++ x ∷ []) f → x.given ≡ schema_given → es ≡ []
none_before [] x front is = refl
none_before (e ∷ es) x front is =
    let w = front_begins front refl (λ q. cc) in
    let rest : es ++ x ∷ [] ≡ w.rest = let q = w.joined in cc in
    absurd (last_other es x (subst (AllByRecursion (λ (y : Entry). y.given ≡ schema_given → ⊥)) (sym rest) w.others) is)

-- after a schema that lacks a column the stream's schema has not all columns
none_lacks : (choice : Choice) (place : ℕ) {l : LimitNumbers} {s : StreamState} {p : ℕ} {b : List ℕ} {es : List Entry} {e : Snapshot} (c : List ℕ) (n : ℕ) (shape : SchemaShape) → Front l s p b es e → s ≡ nothing_yet → (es ≡ [] → ⊥)
    → First l s p (b ++ c) (whole n (record { schema = Some shape; dictionaries = [] }) schema_given) → LacksColumn choice (Some shape) place → HaveChosen choice e.state.schema → ⊥
none_lacks choice place c n shape (rests x) start some begins lacks has = absurd (some refl)
none_lacks choice place c n shape (fails x) start some begins lacks has = absurd (some refl)
none_lacks choice place c n shape (closes x) start some begins lacks has = absurd (not_marker x start refl)
none_lacks choice place {e = e} c n shape (goes_on {n = m} {s' = s'} {g = g} first after) start some begins lacks has =
    let same = one_first begins (First-append c (λ q. cc) first) in
    let state : record { schema = Some shape; dictionaries = [] } ≡ s' = cc in
    let keep = front_keeps after shape (sym (ap (λ (t : StreamState). t.schema) state)) in
    has_none choice e.state.schema place has (subst (λ t. LacksColumn choice t place) (sym keep.schema) lacks)

-- If bytes begin with a schema that lacks a column, a prefix of them after which the stream went on with all columns
-- held no message.
pub lack_waits : (choice : Choice) (limits : LimitNumbers) (place : ℕ) (before piece : List ℕ) → BeginWithout choice limits (before ++ piece) place → (es : List Entry) (e : Snapshot) → FrontOf limits before es e → e.verdict ≡ Open
    → HaveChosen choice e.state.schema → AreNoMessage limits before
lack_waits choice limits place before piece lacks [] e front o has = (open_waits front refl o).0
lack_waits choice limits place before piece lacks (z ∷ zs) e front o has =
    let begins = subst (λ b. First limits nothing_yet 0 b (whole lacks.1.size (record { schema = Some lacks.0; dictionaries = [] }) schema_given)) (sym lacks.1.joined) (First-append lacks.1.after (λ q. cc) lacks.1.comes) in
    absurd (none_lacks choice place piece lacks.1.size lacks.0 front refl (λ q. cc) begins lacks.2 has)
