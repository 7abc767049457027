-- The view of a copier whose stream comes in pieces.
use Rattle.std.specs.Prelude.{Option}
use Rattle.arrow_stream_reader.specs.Stream.{ReaderView}
use Rattle.arrow_stream_writer.specs.Shown.{options_view}
use Rattle.arrowflow_copy.specs.Outbox.{contents_of, failed_of, waiting_in}
use Rattle.arrowflow_copy.specs.Pieces.{Answer, CopierView}
use Rattle.arrowflow_copy.specs.WriterState.{at_of, sink_in}
use Rattle.arrowflow_copy.specs.declared.part_copier.PartCopier.{PartCopier}
use Rattle.arrowflow_copy.specs.declared.stream_copier.StreamCopier.{StreamCopier}

-- from its fields: the copy, the reader and how the copy ended
abbrev pub parts_view : PartCopier → ReaderView → Option Answer → CopierView
parts_view part reader ended = record {
  limits = part.copier.terms.limits;
  options = options_view part.copier.terms.options;
  reader = reader;
  at = at_of contents_of failed_of part.copier.target;
  number = part.copier.number;
  ended = ended;
  waiting = waiting_in (sink_in part.copier.target);
}

abbrev pub copier_view : StreamCopier → CopierView
copier_view c = parts_view c.copier c.reader c.ended
