use Rattle.std.proofs.Common.{ap, sym, ◌∙◌, subst}
use Rattle.arrow_types.specs.View.{type_view}
use Rattle.arrow_data.specs.Column.{HasDictionary}
use Rattle.arrow_data.specs.Node.{AreRanges, column_by}
use Rattle.arrow_data.proofs.Entries.{dictionary_shown}
use Rattle.arrow_data.proofs.array.Array.dictionary.Goals as goal

pub returns-in-Indices : goal.returns-in-Indices
returns-in-Indices c =
    let a = c.self.inside in
    let t = type_view a.data_type.value in
    let ok = subst (AreRanges a.len t a.encoding a.body) c.in-Indices.is c.self.invariant.1 in
    let is = sym c.self.view_is ∙ ap (λ r. column_by t a.encoding a.len a.body r) c.in-Indices.is in
    subst (HasDictionary c.args.self.now) (sym c.deref.ensures) (dictionary_shown c.args.self.now t a.encoding a.len a.body c.in-Indices.field-0 c.in-Indices.dictionary is ok)
