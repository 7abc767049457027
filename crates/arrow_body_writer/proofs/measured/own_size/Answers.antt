use Rattle.std.proofs.Common.{◌≡◌, true, false, refl, ap, sym, ◌∙◌, subst}
use Rattle.std.specs.List.{sum_by}
use Rattle.arrow_body_laws.specs.Raws.{IsSmall}
use Rattle.arrow_body_laws.specs.Size.{own_sizes}
use Rattle.arrow_body_laws.specs.Stored.{rounded}
use Rattle.arrow_body_writer.proofs.Measures.{represented_is}
use Rattle.arrow_body_writer.specs.Align.{alignment_of}
use Rattle.arrow_body_writer.specs.Source.{column_in}
use Rattle.arrow_body_writer.proofs.measured.own_size.Goals as goal

-- the node is representable, and the counts are exact
pub returns-then-is_small : goal.returns-then-is_small
returns-then-is_small c =
    let align = alignment_of c.args.align in
    let sent = (column_in c.args.source.now).raw in
    let form = c.form-form.result in
    let tally = c.count_sent-tally in
    let small : IsSmall form sent = (c.if-is_small.ensures.small sent tally.ensures).0 refl in (
      subst (λ f. IsSmall f sent) c.form-form.ensures small,
      c.node_size.ensures ∙ ap (sum_by (rounded align)) (represented_is form sent tally.result tally.ensures small (c.if-is_small.ensures.near refl))
          ∙ ap (λ f. sum_by (rounded align) (own_sizes f sent)) c.form-form.ensures,
    )

-- the node is not representable
pub returns-else-is_small : goal.returns-else-is_small
returns-else-is_small c = λ represented.
    let sent = (column_in c.args.source.now).raw in
    let no : false ≡ true = (c.if-is_small.ensures.small sent c.count_sent-tally.ensures).1 (subst (λ f. IsSmall f sent) (sym c.form-form.ensures) represented) in
    cc
