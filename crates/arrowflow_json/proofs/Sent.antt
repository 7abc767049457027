-- Lines that are sent some at a time.
use Rattle.std.proofs.Common.{◌≡◌, ◌≤◌, ℕ, ◌+◌, List, [], ◌++◌, Option, Result, Ok, Err, refl, ap, ◌∙◌, arith}
use Rattle.std.specs.Io.KnownBytes.{Appends}
use Rattle.std.proofs.KnownBytes.{Appends-nil}
use Rattle.arrow_data.specs.Batch.{Table}
use Rattle.arrow_json.specs.Lines.{AreLines, Row, rows_between}
use Rattle.arrow_json.proofs.Rows.{first_join, first_longer, lines_all, lines_none, rows_join}
use Rattle.arrowflow_input.specs.Endings.{SendsText}
use Rattle.arrowflow_input.specs.declared.tool_fault.ToolFault.{ToolFault}
use Rattle.arrowflow_input.specs.declared.tool_fault.ToolFault.TheVariants.{Input, Output, Stream, Refused, Memory}
use Rattle.arrowflow_input.proofs.Beginnings.{begun_after, begun_nothing}
use Rattle.arrowflow_json.specs.Showing.{SendsLines}

-- the text of lines was sent
pub sends_text : (rows : List Row) (text : List ℕ) (before after : Option (List ℕ)) (failed failed' : ℕ) (answer : Result (Unit {0}) ToolFault) → AreLines rows text → SendsText before failed text answer after failed' → SendsLines rows before failed answer after failed'
sends_text rows text before after failed failed' (Ok done) are sent = (text, are, sent)
sends_text rows text before after failed failed' (Err fault) are sent = (text, lines_all rows text are, sent)

-- the allocation for the lines failed, and none was sent
pub sends_nothing : (rows : List Row) (before : Option (List ℕ)) (failed : ℕ) → SendsLines rows before failed (Err Memory) before failed
sends_nothing rows before failed = ([], (0, lines_none), (begun_nothing before [], refl))

-- there are no lines
pub sends_none : (before : Option (List ℕ)) (failed : ℕ) → SendsLines [] before failed (Ok tt) before failed
sends_none before failed = ([], lines_none, (Appends-nil before, refl))

cut_after : (f : ToolFault) (a b c : Option (List ℕ)) (n m k : ℕ) (s t : List ℕ) → Appends a b s → m ≡ n → SendsText b m t (Err f) c k → SendsText a n (s ++ t) (Err f) c k
cut_after Output a b c n m k s t h same sent = (begun_after a b c s t h sent.0, sent.1 ∙ ap (λ j. j + 1) same)
cut_after Memory a b c n m k s t h same sent = (begun_after a b c s t h sent.0, sent.1 ∙ same)
cut_after (Input number) a b c n m k s t h same sent = absurd sent
cut_after (Stream fault) a b c n m k s t h same sent = absurd sent
cut_after (Refused what kind) a b c n m k s t h same sent = absurd sent

-- lines after others were not sent completely
pub sends_after : (f : ToolFault) (rows others rest : List Row) (a b c : Option (List ℕ)) (n m k : ℕ) (s : List ℕ) → AreLines rows s → Appends a b s → m ≡ n → SendsLines others b m (Err f) c k → SendsLines ((rows ++ others) ++ rest) a n (Err f) c k
sends_after f rows others rest a b c n m k s are h same sent =
    (s ++ sent.0, first_longer (rows ++ others) rest (s ++ sent.0) (first_join rows others s sent.0 are sent.1), cut_after f a b c n m k s sent.0 h same sent.2)

-- the rows of a batch in three parts
pub three_parts : (batch : Table) (start next end : ℕ) → start ≤ next → next ≤ end → rows_between batch 0 end ≡ (rows_between batch 0 start ++ rows_between batch start next) ++ rows_between batch next end
three_parts batch start next end low high =
    rows_join batch 0 next end (omega arith) high ∙ ap (λ rs. rs ++ rows_between batch next end) (rows_join batch 0 start next (omega arith) low)
