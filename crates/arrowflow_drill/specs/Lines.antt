-- The lines that report connections. (Specific to this project.)
use Rattle.std.specs.Prelude.{ℕ, ℤ, ◌+◌, List, [], ◌∷◌, ◌++◌, length, take, codes}
use Rattle.std.specs.List.{flat_map}
use Rattle.std.specs.Fmt.{decimal, signed_decimal}
use Rattle.arrow_data.specs.Batch.{Table}
use Rattle.arrow_data.specs.Column.{ValueList}
use Rattle.arrow_stream_reader.specs.Kind.{name_of}
use Rattle.arrow_stream_laws.specs.Text.{joined}
use Rattle.arrowflow_input.specs.Faults.{refusal_name}
use Rattle.arrowflow_input.specs.declared.session.Ending.{Ending}
use Rattle.arrowflow_input.specs.declared.session.Ending.TheVariants.{Clean, Fault}
use Rattle.arrowflow_input.specs.declared.what.RefusedItem.{RefusedItem}
use Rattle.arrowflow_input.specs.declared.what.RefusedItem.TheVariants.{Start, Batch, Finish}
use Rattle.arrowflow_session.specs.Asked.{Asked, asked_of}
use Rattle.arrowflow_session.specs.Report.{Reported, reported_by}
use Rattle.arrowflow_session.specs.declared.refusal.Refusal.{Refusal}
use Rattle.arrowflow_session.specs.declared.connection.Connection.{Connection}
use Rattle.arrowflow_session.specs.declared.session.Report.{Report}
use Rattle.arrowflow_drill.specs.Counts.{rows_in}

-- the connection that a line belongs to, by its number
abbrev pub line_start : ℕ → List ℕ
line_start number = codes "connection " ++ decimal number ++ codes ": "

-- the number of bytes in these parts, and how many of them, at most `deliver`, came in pieces of this length
unfoldable pub written_line : ℕ → List (List ℕ) → ℕ → ℕ → List ℕ
written_line number parts deliver piece =
    line_start number ++ codes "wrote " ++ decimal (length (joined parts)) ++ codes " bytes in " ++ decimal (length parts) ++ codes " parts, delivered "
    ++ decimal (length (take deliver (joined parts))) ++ codes " in pieces of " ++ decimal piece ++ codes "\n"

-- which of the writer's calls was rejected
abbrev pub call_name : RefusedItem → List ℕ
call_name Start = codes "start"
call_name (Batch number) = codes "batch " ++ decimal number
call_name Finish = codes "end"

-- what the writer rejected, and why
unfoldable pub refusal_line : ℕ → Refusal → List ℕ
refusal_line number refusal = line_start number ++ call_name refusal.what ++ codes " refused: " ++ refusal_name refusal.kind ++ codes "\n"

-- how many of `count` batches the reader delivered, and how many rows these have
unfoldable pub handed_line : ℕ → List Table → ℕ → List ℕ
handed_line number handed count =
    line_start number ++ codes "handed out " ++ decimal (length handed) ++ codes " of " ++ decimal count ++ codes " batches, " ++ decimal (rows_in handed) ++ codes " rows\n"

-- a dictionary by its id and its length
abbrev pub entry_text : ℤ × ValueList → List ℕ
entry_text entry = signed_decimal entry.0 ++ codes "=" ++ decimal (length entry.1.values)

-- dictionaries, with a semicolon between two of them
abbrev pub entries_text : List (ℤ × ValueList) → List ℕ
entries_text [] = codes "none"
entries_text (first ∷ rest) = entry_text first ++ flat_map (λ entry. codes ";" ++ entry_text entry) rest

-- the dictionaries of both ends
unfoldable pub dictionaries_line : ℕ → List (ℤ × ValueList) → List (ℤ × ValueList) → List ℕ
dictionaries_line number reader writer = line_start number ++ codes "dictionaries reader " ++ entries_text reader ++ codes ", writer " ++ entries_text writer ++ codes "\n"

-- how the delivered bytes ended
abbrev pub ending_text : Ending → List ℕ
ending_text Clean = codes "clean"
ending_text (Fault fault) = name_of fault.kind ++ codes " at " ++ decimal fault.place

-- the same, as a line
unfoldable pub ending_line : ℕ → Ending → List ℕ
ending_line number ending = line_start number ++ codes "ending " ++ ending_text ending ++ codes "\n"

-- The lines of the connection of this number, for this request and report: it came in pieces of this length.
abbrev pub connection_lines : ℕ → ℕ → Asked → Reported → List ℕ
connection_lines piece number c r =
    written_line number r.parts c.deliver piece ++ flat_map (refusal_line number) r.refused ++ handed_line number r.handed (length c.batches)
    ++ dictionaries_line number r.reader_dictionaries r.writer_dictionaries ++ ending_line number r.ending

-- the lines of connections with their reports, one after the other, the first of which has this number
abbrev pub lines_from : ℕ → ℕ → List Connection → List Report → List ℕ
lines_from piece number [] rs = []
lines_from piece number (c ∷ cs) [] = []
lines_from piece number (c ∷ cs) (r ∷ rs) = connection_lines piece number (asked_of c) (reported_by r) ++ lines_from piece (number + 1) cs rs
