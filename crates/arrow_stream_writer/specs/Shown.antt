-- The view of a writer over a sink.
use Rattle.std.specs.Prelude.{ℕ, List, Option}
use Rattle.arrow_body_writer.specs.Align.{alignment_of}
use Rattle.arrow_stream_laws.specs.Sizes as sizes
use Rattle.arrow_stream_laws.specs.Writer.{WriterView}
use Rattle.arrow_stream_writer.specs.declared.options.Options.{Options}
use Rattle.arrow_stream_writer.specs.declared.stream_writer.StreamWriter.{StreamWriter}

-- how a writer with these options sends
abbrev pub options_view : Options → sizes.Options
options_view o = record { updates = o.updates; align = alignment_of o.align }

-- The view of a writer; these functions give what its sink accepted and how many of the sink's calls failed.
abbrev pub shown : {S : Type 0} → (S → Option (List ℕ)) → (S → ℕ) → StreamWriter S → WriterView
shown contents failed w = record {
  limits = w.builder.settings.limits;
  options = record { updates = w.builder.settings.updates; align = alignment_of w.builder.settings.align };
  shape = w.builder.settings.schema.value;
  sent = w.builder.tracker.sent;
  place = w.place;
  status = w.status;
  contents = contents w.sink;
  failures = failed w.sink;
}
