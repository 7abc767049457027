use Rattle.std.proofs.Common.{sym, ap, ◌∙◌}
use Rattle.arrow_types.proofs.Fields.{width-fields_view}
use Rattle.arrow_types.specs.Field.{TypeShape, width}
use Rattle.arrow_body_reader.specs.Taken.{below}
use Rattle.arrow_body_writer.proofs.Sending.{sent_many}
use Rattle.arrow_body_writer.specs.Source.{column_in}
use Rattle.arrow_body_writer.proofs.source.ColumnSource.width.Goals as goal

-- a column for each child field
pub returns-in-None : goal.returns-in-None
returns-in-None c =
    let a = column_in c.args.self.now in
    sym (width-fields_view c.children.result.now) ∙ ap width (c.children.ensures.fields ∙ ap (λ (t : TypeShape). t.children) c.data_type.ensures)
    ∙ ap (λ e. width (below e a.data_type.children)) (sym c.in-None.is ∙ c.encoding.ensures) ∙ sym (sent_many a c.requires.raws)
