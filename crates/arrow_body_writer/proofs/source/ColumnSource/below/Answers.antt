use Rattle.std.proofs.Common.{ap, sym, ◌∙◌, subst, Some}
use Rattle.std.specs.List.{flat_map}
use Rattle.arrow_data.specs.Column.{IsList, type_of_field}
use Rattle.arrow_layout.specs.Form.{IsLists}
use Rattle.arrow_body_writer.proofs.Sending.{field_sent, items_sent, lists_of, sends_structs}
use Rattle.arrow_body_laws.specs.Raws.{items_in_value}
use Rattle.arrow_body_writer.specs.Sent.{column_by, form_of_column}
use Rattle.arrow_body_writer.specs.Source.{column_in}
use Rattle.arrow_body_writer.proofs.source.ColumnSource.below.Goals as goal

-- the items of lists
pub returns-in-Lists-clause-source : goal.returns-in-Lists-clause-source
returns-in-Lists-clause-source c =
    let a = column_in c.args.self.now in
    let lists : IsList a = subst IsLists (sym c.in-Lists.is ∙ c.form.ensures) tt in
    (c.requires.source, lists, (items_sent a c.args.k c.in-Lists.list (sym c.form.ensures ∙ c.in-Lists.is) c.requires.raws c.requires.inside).0)

pub returns-in-Lists-clause-same : goal.returns-in-Lists-clause-same
returns-in-Lists-clause-same c =
    let a = column_in c.args.self.now in
    (items_sent a c.args.k c.in-Lists.list (sym c.form.ensures ∙ c.in-Lists.is) c.requires.raws c.requires.inside).1
    ∙ ap (λ n. Some (column_by (type_of_field a.data_type.children 0) (flat_map (items_in_value n) a.raw))) (sym c.nulls_under.ensures)

-- a field of structs: no other column sends anything
pub returns-in_default : goal.returns-in_default
returns-in_default c =
    let a = column_in c.args.self.now in
    let no_lists : IsList a → ⊥ = λ lists. let list = lists_of (form_of_column a) lists in c.in_default.not-Lists list.0 (c.form.ensures ∙ list.1) in
    let structs = sends_structs a c.args.k no_lists c.requires.inside in
    let sent = field_sent a c.args.k structs c.requires.raws c.requires.inside in
    record { source = (c.requires.source, structs, sent.0); same = sent.1 }
