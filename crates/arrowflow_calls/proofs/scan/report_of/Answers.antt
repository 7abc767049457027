use Rattle.std.proofs.Common.{ap, ◌∙◌, refl, inl}
use Rattle.arrow_stream_reader.specs.Stream.{ReaderView}
use Rattle.arrowflow_calls.specs.Kinds.{kind_by}
use Rattle.arrowflow_calls.proofs.Surveying.{reports}
use Rattle.arrowflow_calls.proofs.scan.report_of.Goals as goal

pub returns-in-Ok : goal.returns-in-Ok
returns-in-Ok c =
    inl (reports c.args.limits c.args.bytes.now c.in-Ok.counts c.scan.new.reader _ c.in-Ok.ensures.counted (c.in-Ok.ensures.limits ∙ ap (λ (r : ReaderView). r.limits) c.new-reader.ensures.fresh)
    (c.kind_by.ensures ∙ ap kind_by c.end.ensures.ended) refl c.place.ensures.place refl refl)
