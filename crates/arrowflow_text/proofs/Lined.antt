-- The lines of messages, with one more message.
use Rattle.std.proofs.Common.{◌≡◌, ℕ, ◌+◌, List, [], ◌∷◌, ◌++◌, length, Option, refl, sym, ap, ◌∙◌, subst, arith, append_assoc, append-nil}
use Rattle.std.proofs.lemmas.List.{length-append}
use Rattle.arrow_types.specs.Limits.{LimitNumbers}
use Rattle.arrow_types.specs.Notes.{SchemaShape}
use Rattle.arrow_stream_reader.specs.declared.reader.Verdict.TheVariants.{Open}
use Rattle.arrow_stream_reader.specs.Front.{Entry, Snapshot, Front, FrontOf, rests, fails, closes, goes_on}
use Rattle.arrow_stream_reader.specs.State.{StreamState}
use Rattle.arrow_stream_reader.specs.Tables.{table_in, tables_of}
use Rattle.arrowflow_text.specs.Lines.{AreLines, IsLine}
use Rattle.arrowflow_input.proofs.Schemas.{front_begins, front_after, front_keeps}

-- the offset at which the last of some messages ends, if the first begins at this offset
abbrev pub end_of : ℕ → List Entry → ℕ
end_of place [] = place
end_of place (x ∷ xs) = end_of x.end xs

-- a stream's offset is that at which its last message ends
pub front_end : {l : LimitNumbers} {s : StreamState} {p : ℕ} {b : List ℕ} {es : List Entry} {e : Snapshot} → Front l s p b es e → e.place ≡ end_of p es
front_end (rests f) = refl
front_end (fails f) = refl
front_end (closes f) = refl
front_end (goes_on f rest) = front_end rest

-- one more line
pub lines_more : (schema : Option SchemaShape) (p n : ℕ) (es : List Entry) (x : Entry) (text line : List ℕ) → AreLines schema p n es text → IsLine schema (end_of p es) (n + length (tables_of es)) x.given line
    → AreLines schema p n (es ++ x ∷ []) (text ++ line)
lines_more schema p n [] x text line is more =
    let zero : n + 0 ≡ n = omega arith in
    (line, [], subst (λ k. IsLine schema p k x.given line) zero more, refl, ap (λ t. t ++ line) is ∙ sym (append-nil line))
lines_more schema p n (y ∷ es) x text line (first, rest, own, others, whole) more =
    let m = length (table_in y.given) in
    let count : n + length (table_in y.given ++ tables_of es) ≡ n + m + length (tables_of es) = omega (arith, length-append (table_in y.given) (tables_of es)) in (
      first,
      rest ++ line,
      own,
      lines_more schema y.end (n + m) es x rest line others (subst (λ k. IsLine schema (end_of y.end es) k x.given line) count more),
      ap (λ t. t ++ line) whole ∙ append_assoc first rest line,
    )

-- the lines after a schema stay the lines after it when one more message came
pub lines_kept : {l : LimitNumbers} {b : List ℕ} (c : List ℕ) {e f : Snapshot} (x : Entry) (text : List ℕ) (es : List Entry) → FrontOf l b es e → e.verdict ≡ Open → FrontOf l (b ++ c) (es ++ x ∷ []) f
    → AreLines e.state.schema 0 0 es text → AreLines f.state.schema 0 0 es text
lines_kept c x text [] old o new is = is
lines_kept c {e} {f} x text (y ∷ es) old o new is =
    let w = front_begins old refl (λ q. cc) in
    let keep = front_keeps (front_after c old o new).after w.shape w.schema in
    subst (λ s. AreLines s 0 0 (y ∷ es) text) (w.schema ∙ sym keep.schema) is
