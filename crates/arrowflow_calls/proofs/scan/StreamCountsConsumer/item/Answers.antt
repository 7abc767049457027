use Rattle.std.proofs.Common.{false, sym, ap, ◌∙◌}
use Rattle.arrow_stream_reader.specs.Tables.{tables_of}
use Rattle.arrowflow_input.specs.Consumer.{entry_of}
use Rattle.arrowflow_input.proofs.Feeding.{one_table}
use Rattle.arrowflow_calls.specs.Survey.{counts_of}
use Rattle.arrowflow_calls.proofs.scan.StreamCountsConsumer.item.Goals as goal

pub returns-clause-takes : goal.returns-clause-takes
returns-clause-takes c start old t es piece n comes are =
    c.add.ensures (tables_of es) are ∙ ap (λ ts. counts_of ts false) (sym (one_table es (entry_of c.args.item t n)))
