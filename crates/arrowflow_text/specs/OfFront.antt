-- What was written of a stream before its output or an allocation failed, in terms of the complete messages at the
-- start of all bytes that were read.
use Rattle.std.specs.Prelude.{◌≡◌, ℕ, ◌⊎◌, List, [], ◌++◌, Option}
use Rattle.arrow_types.specs.Limits.{LimitNumbers}
use Rattle.arrow_sink.specs.Sinks.{AcceptsBeginning}
use Rattle.arrow_stream_reader.specs.Front.{Entry, Snapshot, FrontOf}
use Rattle.arrowflow_text.specs.Chosen.{HaveChosen, choice_of}
use Rattle.arrowflow_text.specs.Reports.{IsBegun, IsEnding, IsTextOf}
use Rattle.arrowflow_text.specs.declared.report.ReportKind.{ReportKind}

-- A prefix was written of the text of these messages, which leave the stream in this state, and of the text that may
-- follow it.
pub record IsBegunOf (report : ReportKind) (entries : List Entry) (e : Snapshot) (before after : Option (List ℕ)) : Type 0 where
  pub text : List ℕ
  pub is : IsTextOf report e.state.schema entries text
  pub last : List ℕ
  pub is_last : (last ≡ []) ⊎ IsEnding report e.place last
  pub wrote : AcceptsBeginning before after (text ++ last)

-- A law: what is begun of a prefix of bytes is begun of the complete messages at the start of all of them, if their
-- schema has the columns that are chosen, should not all be reported.
abbrev pub TextOfFront : Type 0
TextOfFront =
    (report : ReportKind) (limits : LimitNumbers) (bytes : List ℕ) (before after : Option (List ℕ)) (entries : List Entry) (e : Snapshot) →
    FrontOf limits bytes entries e → HaveChosen (choice_of report) e.state.schema → IsBegun report limits bytes before after → IsBegunOf report entries e before after
