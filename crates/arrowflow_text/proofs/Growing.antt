-- How the text of a stream grows with its messages.
use Rattle.std.proofs.Common.{◌≡◌, ◌+◌, ℕ, suc, List, [], ◌∷◌, ◌++◌, length, Option, None, Some, refl, sym, ap, ◌∙◌, subst, arith, append_assoc, append-nil}
use Rattle.std.specs.List.{AllByRecursion}
use Rattle.arrow_types.specs.Limits.{LimitNumbers}
use Rattle.arrow_types.specs.Notes.{SchemaShape}
use Rattle.arrow_data.specs.Batch.{Table}
use Rattle.arrow_csv.specs.Layouts.{Form}
use Rattle.arrow_csv.specs.Named.{Choice, chosen, chosen_schema, chosen_shape, chosen_tables}
use Rattle.arrow_csv.specs.Records.{AreBatches, IsStreamText, header_record}
use Rattle.arrow_stream_reader.specs.declared.reader.Verdict.TheVariants.{Open}
use Rattle.arrow_stream_reader.specs.Front.{Entry, Snapshot, FrontOf}
use Rattle.arrow_stream_reader.specs.State.{Given, schema_given, dictionary_given, batch_given, ended}
use Rattle.arrow_stream_reader.specs.Tables.{table_in, tables_of}
use Rattle.arrowflow_text.specs.Chosen.{HaveChosen, IsChosenAt, chosen_given, IsChosenText}
use Rattle.arrowflow_text.specs.Shown.{IsTextIn, TextGrows}
use Rattle.arrowflow_input.proofs.Feeding.{tables-append}
use Rattle.arrowflow_input.proofs.Schemas.{front_begins, front_after, front_keeps}
use Rattle.arrowflow_input.proofs.Feeding.{one_table}

-- the records of two appended lists of batches are those of all batches
pub batches_join : (form : Form) (n : ℕ) (ts us : List Table) (first second : List ℕ) → AreBatches form n ts first → AreBatches form (n + length ts) us second → AreBatches form n (ts ++ us) (first ++ second)
batches_join form n [] us first second none h =
    let e : n + 0 ≡ n = omega arith in
    subst (λ t. AreBatches form n us (t ++ second)) (sym none) (subst (λ k. AreBatches form k us second) e h)
batches_join form n (t ∷ ts) us first second (own, others, is, rest, whole) h =
    let e : n + suc (length ts) ≡ n + 1 + length ts = omega arith in
    (own, others ++ second, is, batches_join form (n + 1) ts us others second rest (subst (λ k. AreBatches form k us second) e h), ap (λ t. t ++ second) whole ∙ append_assoc own others second)

-- what a message after the schema adds
given_text : (form : Form) (schema : SchemaShape) (n : ℕ) (g : Given) (added : List ℕ) → (g ≡ schema_given → ⊥) → IsTextIn form (Some schema) n g added → AreBatches form n (table_in g) added
given_text form schema n schema_given added h is = absurd (h refl)
given_text form schema n (dictionary_given id) added h is = is
given_text form schema n (batch_given b) added h is = (added, [], is, refl, sym (append-nil added))
given_text form schema n ended added h is = is

pub same_rest : (es : List Entry) (x : Entry) (more : List Entry) → es ++ x ∷ [] ≡ es ++ more → x ∷ [] ≡ more
same_rest [] x more q = q
same_rest (e ∷ es) x more q = let rest : es ++ x ∷ [] ≡ es ++ more = cc in same_rest es x more rest

-- ---- with only the chosen columns

pub chosen_join : (choice : Choice) (ts us : List Table) → chosen_tables choice (ts ++ us) ≡ chosen_tables choice ts ++ chosen_tables choice us
chosen_join None ts us = refl
chosen_join (Some names) [] us = refl
chosen_join (Some names) (t ∷ ts) us = ap (λ vs. chosen (Some names) t ∷ vs) (chosen_join (Some names) ts us)

pub chosen_length : (choice : Choice) (ts : List Table) → length (chosen_tables choice ts) ≡ length ts
chosen_length None ts = refl
chosen_length (Some names) [] = refl
chosen_length (Some names) (t ∷ ts) = ap suc (chosen_length (Some names) ts)

pub no_tables : (choice : Choice) → chosen_tables choice [] ≡ []
no_tables None = refl
no_tables (Some names) = refl

-- the batch of a message
pub chosen_in : (choice : Choice) (g : Given) → chosen_tables choice (table_in g) ≡ table_in (chosen_given choice g)
chosen_in None g = refl
chosen_in (Some names) schema_given = refl
chosen_in (Some names) (dictionary_given id) = refl
chosen_in (Some names) (batch_given b) = refl
chosen_in (Some names) ended = refl

-- a message that is not a schema is still none after the columns are chosen
pub no_schema : (choice : Choice) (g : Given) → chosen_given choice g ≡ schema_given → g ≡ schema_given
no_schema None g e = e
no_schema (Some names) schema_given e = refl
no_schema (Some names) (dictionary_given id) e = absurd (cc)
no_schema (Some names) (batch_given b) e = absurd (cc)
no_schema (Some names) ended e = absurd (cc)

pub given_schema : (choice : Choice) → chosen_given choice schema_given ≡ schema_given
given_schema None = refl
given_schema (Some names) = refl

pub shape_shown : (choice : Choice) (shape : SchemaShape) → chosen_schema choice (Some shape) ≡ Some (chosen_shape choice shape)
shape_shown None shape = refl
shape_shown (Some names) shape = refl

-- before the schema nothing is shown, and no column is lacking
pub text_before : (form : Form) (choice : Choice) (ts : List Table) (text : List ℕ) → IsChosenText form choice None ts text → text ≡ []
text_before form None ts text is = is
text_before form (Some names) ts text is = is

pub nothing_before : (form : Form) (choice : Choice) (ts : List Table) → IsChosenText form choice None ts []
nothing_before form None ts = refl
nothing_before form (Some names) ts = refl

pub have_before : (choice : Choice) → HaveChosen choice None
have_before None = tt
have_before (Some names) = tt

-- a message after an open stream's messages adds its text
abbrev pub Grows : Form → Choice → List Entry → Entry → Snapshot → Snapshot → Type 0
Grows form choice es x e f = (text added : List ℕ) → IsChosenText form choice e.state.schema (tables_of es) text
    → IsTextIn form (chosen_schema choice f.state.schema) (length (tables_of es)) (chosen_given choice x.given) added → IsChosenText form choice f.state.schema (tables_of (es ++ x ∷ [])) (text ++ added)

pub text_grows : (form : Form) (choice : Choice) {l : LimitNumbers} {b : List ℕ} (c : List ℕ) {es : List Entry} {e f : Snapshot} (x : Entry) → FrontOf l b es e → e.verdict ≡ Open → FrontOf l (b ++ c) (es ++ x ∷ []) f → Grows form choice es x e f
text_grows form choice {l} {b} c {es} {e} {f} x old o new = by e.state.schema refl
  where
    g : Given
    g = chosen_given choice x.given

    after_schema : (shape : SchemaShape) → e.state.schema ≡ Some shape → Grows form choice es x e f
    after_schema shape k text added is own =
        let w = front_after c old o new in
        let keep = front_keeps w.after shape k in
        let other = (subst (λ more. AllByRecursion (λ (y : Entry). y.given ≡ schema_given → ⊥) more) (sym (same_rest es x w.more w.joined)) keep.others).0 in
        let ts = tables_of es in
        let seen = chosen_tables choice ts in
        let one = chosen_tables choice (table_in x.given) in
        let shown = chosen_shape choice shape in
        let n = length ts in
        let count : n ≡ 0 + length seen = omega (arith, chosen_length choice ts) in
        let before : IsStreamText form (Some shown) seen text = subst (λ s. IsStreamText form s seen text) (ap (chosen_schema choice) k ∙ shape_shown choice shape) is in
        let now : chosen_schema choice f.state.schema ≡ Some shown = ap (chosen_schema choice) keep.schema ∙ shape_shown choice shape in
        let batch = given_text form shown n g added (λ z. other (no_schema choice x.given z)) (subst (λ s. IsTextIn form s n g added) now own) in
        let there : AreBatches form (0 + length seen) one added = subst (λ m. AreBatches form m one added) count (subst (λ us. AreBatches form n us added) (sym (chosen_in choice x.given)) batch) in
        let tables : seen ++ one ≡ chosen_tables choice (tables_of (es ++ x ∷ [])) = sym (chosen_join choice ts (table_in x.given)) ∙ ap (chosen_tables choice) (sym (one_table es x)) in
        let all = subst (λ us. AreBatches form 0 us (before.0 ++ added)) tables (batches_join form 0 seen one before.0 added before.1 there) in
        let whole : IsStreamText form (Some shown) (chosen_tables choice (tables_of (es ++ x ∷ []))) (text ++ added) =
        (before.0 ++ added, all, ap (λ t. t ++ added) before.2 ∙ append_assoc (header_record form shown.fields) before.0 added) in
        subst (λ s. IsStreamText form s (chosen_tables choice (tables_of (es ++ x ∷ []))) (text ++ added)) (sym now) whole

    before_schema : (es : List Entry) → e.state.schema ≡ None → FrontOf l b es e → FrontOf l (b ++ c) (es ++ x ∷ []) f → Grows form choice es x e f
    before_schema [] k old new text added is own =
        let w = front_begins new refl (λ q. cc) in
        let first : w.first ≡ x = let q = w.joined in cc in
        let given : x.given ≡ schema_given = ap (λ (y : Entry). y.given) (sym first) ∙ w.given in
        let none : [] ≡ table_in x.given ++ [] = ap (λ h. table_in h ++ []) (sym given) in
        let shown = chosen_shape choice w.shape in
        let head = header_record form shown.fields in
        let schema : chosen_schema choice f.state.schema ≡ Some shown = ap (chosen_schema choice) w.schema ∙ shape_shown choice w.shape in
        let nothing : text ≡ [] = text_before form choice [] text (subst (λ s. IsChosenText form choice s [] text) k is) in
        let header : IsTextIn form (Some shown) 0 schema_given added =
        subst (λ h. IsTextIn form (Some shown) 0 h added) (ap (chosen_given choice) given ∙ given_schema choice) (subst (λ s. IsTextIn form s 0 g added) schema own) in
        let both : text ++ added ≡ head ++ [] = ap (λ t. t ++ added) nothing ∙ header ∙ sym (append-nil head) in
        let whole : IsStreamText form (Some shown) [] (text ++ added) = ([], refl, both) in
        subst (λ s. IsStreamText form s (chosen_tables choice (table_in x.given ++ [])) (text ++ added)) (sym schema)
        (subst (λ ts. IsStreamText form (Some shown) ts (text ++ added)) (sym (no_tables choice) ∙ ap (chosen_tables choice) none) whole)
    before_schema (y ∷ ys) k old new text added is own = let w = front_begins old refl (λ q. cc) in let q : Some w.shape ≡ None = sym w.schema ∙ k in absurd (cc)

    by : (s : Option SchemaShape) → e.state.schema ≡ s → Grows form choice es x e f
    by None k = before_schema es k old new
    by (Some shape) k = after_schema shape k

-- the schema after a message has the chosen columns, if it had them before or has them when it comes
pub have_next : (choice : Choice) {l : LimitNumbers} {b : List ℕ} (c : List ℕ) {es : List Entry} {e f : Snapshot} (x : Entry) → FrontOf l b es e → e.verdict ≡ Open → FrontOf l (b ++ c) (es ++ x ∷ []) f
    → HaveChosen choice e.state.schema → IsChosenAt choice f.state.schema x.given → HaveChosen choice f.state.schema
have_next choice {l} {b} c {es} {e} {f} x old o new had has = by e.state.schema refl
  where
    before_schema : (es : List Entry) → e.state.schema ≡ None → FrontOf l b es e → FrontOf l (b ++ c) (es ++ x ∷ []) f → HaveChosen choice f.state.schema
    before_schema [] k old new =
        let w = front_begins new refl (λ q. cc) in
        let first : w.first ≡ x = let q = w.joined in cc in
        subst (IsChosenAt choice f.state.schema) (ap (λ (y : Entry). y.given) (sym first) ∙ w.given) has
    before_schema (y ∷ ys) k old new = let w = front_begins old refl (λ q. cc) in let q : Some w.shape ≡ None = sym w.schema ∙ k in absurd (cc)

    by : (s : Option SchemaShape) → e.state.schema ≡ s → HaveChosen choice f.state.schema
    by None k = before_schema es k old new
    by (Some shape) k = subst (HaveChosen choice) (k ∙ sym (front_keeps (front_after c old o new).after shape k).schema) had

-- the same for all streams, as the law says it
pub text_grows_law : TextGrows
text_grows_law form limits bytes more entries x e f text added old o new = text_grows form None more x old o new text added
