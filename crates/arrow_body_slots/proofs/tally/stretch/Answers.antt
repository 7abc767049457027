use Rattle.std.proofs.Common.{length, ap, sym, ◌∙◌}
use Rattle.std.proofs.lemmas.List.Concat.{length-flat_map}
use Rattle.arrow_data.specs.Column.{values_from}
use Rattle.arrow_body_laws.specs.Raws.{bytes_in_value, last_offset}
use Rattle.arrow_body_slots.proofs.tally.stretch.Goals as goal

-- the bytes of byte strings
pub returns-in-Bytes : goal.returns-in-Bytes
returns-in-Bytes c =
    let vs = values_from c.args.slice.array.now.raw c.args.slice.start c.args.slice.stop in
    ap length c.strings.ensures ∙ length-flat_map bytes_in_value vs ∙ ap (λ f. last_offset f vs) (sym c.in-Bytes.is)

-- and of texts
pub returns-in-Texts : goal.returns-in-Texts
returns-in-Texts c =
    let vs = values_from c.args.slice.array.now.raw c.args.slice.start c.args.slice.stop in
    ap length c.strings-in-Texts.ensures ∙ length-flat_map bytes_in_value vs ∙ ap (λ f. last_offset f vs) (sym c.in-Texts.is)

-- the items of lists
pub returns-in-Lists : goal.returns-in-Lists
returns-in-Lists c =
    let vs = values_from c.args.slice.array.now.raw c.args.slice.start c.args.slice.stop in
    c.list_stretch.ensures ∙ ap (λ f. last_offset f vs) (sym c.in-Lists.is)
