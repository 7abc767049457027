use Rattle.std.proofs.Common.{sym, ap, ◌∙◌}
use Rattle.std.proofs.lemmas.Option.{IfSome_then}
use Rattle.arrow_data.specs.Column.{values_from}
use Rattle.arrow_body_laws.specs.Raws.{last_offset}
use Rattle.arrow_body_slots.proofs.tally.reach.Goals as goal

-- the bytes of byte strings
pub returns-in-Bytes : goal.returns-in-Bytes
returns-in-Bytes c =
    let vs = values_from c.args.slice.array.now.raw c.args.slice.start c.args.slice.stop in
    IfSome_then c.string_reach.result c.string_reach.ensures (λ len is. is ∙ ap (λ f. last_offset f vs) (sym c.in-Bytes.is))

-- and of texts
pub returns-in-Texts : goal.returns-in-Texts
returns-in-Texts c =
    let vs = values_from c.args.slice.array.now.raw c.args.slice.start c.args.slice.stop in
    IfSome_then c.string_reach-in-Texts.result c.string_reach-in-Texts.ensures (λ len is. is ∙ ap (λ f. last_offset f vs) (sym c.in-Texts.is))

-- the items of lists
pub returns-in-Lists : goal.returns-in-Lists
returns-in-Lists c =
    let vs = values_from c.args.slice.array.now.raw c.args.slice.start c.args.slice.stop in
    IfSome_then c.list_reach.result c.list_reach.ensures (λ len is. is ∙ ap (λ f. last_offset f vs) (sym c.in-Lists.is))
