-- A stream whose rows are written message by message.
use Rattle.std.proofs.Common.{◌≡◌, ℕ, List, [], ◌∷◌, ◌++◌, Option, Ok, Err, refl, sym, ap, ◌∙◌, subst}
use Rattle.arrow_json.specs.Lines.{AreFirstLines, AreLines, rows_of}
use Rattle.arrow_json.proofs.Rows.{first_join, lines_all, lines_join, lines_none, rows_append}
use Rattle.arrow_stream_reader.specs.declared.item.Item.{Item}
use Rattle.arrow_stream_reader.specs.Front.{Entry}
use Rattle.arrow_stream_reader.specs.Stream.{ReaderView}
use Rattle.arrow_stream_reader.specs.Tables.{table_in, tables_of}
use Rattle.arrow_stream_reader.specs.Views.{given}
use Rattle.arrowflow_input.specs.Consumer.{Comes, entry_of}
use Rattle.arrowflow_input.specs.declared.tool_fault.ToolFault.{ToolFault}
use Rattle.arrowflow_input.proofs.Feeding.{one_table}
use Rattle.arrowflow_json.specs.Forms.{Writes}
use Rattle.arrowflow_json.specs.Showing.{HaveWritten, SendsLines, WritingBegan}
use Rattle.arrowflow_json.specs.Shows.{rows_form}
use Rattle.arrowflow_json.proofs.Writing.{Fits, message_broken, message_written}

-- the lines of all rows are also a first part of them
pub rows_fit : Fits rows_form
rows_fit = record {
  none = lines_none;
  all = λ schema es text are. lines_all (rows_of (tables_of es)) text are;
  no_line = λ fault. refl;
}

-- one message more adds the rows of its batch, if it has one
rows_more : (es : List Entry) (x : Entry) → rows_of (tables_of (es ++ x ∷ [])) ≡ rows_of (tables_of es) ++ rows_of (table_in x.given)
rows_more es x = ap rows_of (one_table es x) ∙ rows_append (tables_of es) (table_in x.given)

module _ (began : WritingBegan) (held held' : Option (List ℕ)) (failed failed' place : ℕ) (item : Item) (old new : ReaderView) (t : List ℕ) (es : List Entry) (piece : List ℕ) (n : ℕ) (comes : Comes place item old new t es piece n)
    (x : HaveWritten rows_form began held failed old.at.state es) where
  abbrev entries : List Entry
  entries = es ++ entry_of item t n ∷ []

  -- the lines of a message were sent
  pub message_shown : SendsLines (rows_of (table_in (given item))) held failed (Ok tt) held' failed' → HaveWritten rows_form began held' failed' new.at.state entries
  message_shown sent =
      let are = subst (λ rs. AreLines rs (x.text ++ sent.0)) (sym (rows_more es (entry_of item t n))) (lines_join (rows_of (tables_of es)) (rows_of (table_in (given item))) x.text sent.0 x.are sent.1) in
      message_written rows_form rows_fit began held held' failed failed' place item old new t es piece n comes x sent.0 are sent.2.0 sent.2.1

  -- or they were not sent completely
  pub message_cut : (f : ToolFault) → SendsLines (rows_of (table_in (given item))) held failed (Err f) held' failed' → (left : Option (List ℕ)) → Writes rows_form new.limits (t ++ piece) left began.first began.failures (Err f) held' failed'
  message_cut f sent left =
      let are = subst (λ rs. AreFirstLines rs (x.text ++ sent.0)) (sym (rows_more es (entry_of item t n))) (first_join (rows_of (tables_of es)) (rows_of (table_in (given item))) x.text sent.0 x.are sent.1) in
      message_broken rows_form rows_fit began held held' failed failed' place item old new t es piece n comes x sent.0 f are sent.2 left
