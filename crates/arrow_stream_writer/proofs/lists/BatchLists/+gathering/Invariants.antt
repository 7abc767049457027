use Rattle.std.proofs.Common.{take}
use Rattle.std.specs.List.{AllByRecursion}
use Rattle.arrow_data.specs.Column.{IsColumn}
use Rattle.arrow_data.specs.Same.{parts_measure, slot_measure}
use Rattle.arrow_stream_writer.specs.Lists.{dictionary_in}
use Rattle.arrow_stream_writer.proofs.Gathering.{AreGathered}
use Rattle.arrow_stream_writer.proofs.lists.BatchLists.+gathering.Given as goal

-- the columns below one are smaller
abbrev pub decreases-add_columns : goal.decreases-add_columns
decreases-add_columns l = parts_measure l.columns.now

abbrev pub decreases-add_column : goal.decreases-add_column
decreases-add_column l = slot_measure l.column.now

-- the dictionaries of the columns so far were found
abbrev pub invariant-add_columns-loop-column : goal.invariant-add_columns-loop-column
invariant-add_columns-loop-column l =
    AreGathered l.columns l.column-index (dictionary_in l.initial.self) (dictionary_in l.self) × AllByRecursion IsColumn (take l.column-index l.columns)
