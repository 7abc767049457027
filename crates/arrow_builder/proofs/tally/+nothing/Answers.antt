use Rattle.std.proofs.Common.{◌≡◌, ◌+◌, ◌<◌, false, [], ◌∷◌, ◌++◌, length, map, take, get_or, ap, sym, ◌∙◌, subst, arith}
use Rattle.std.proofs.lemmas.Grind.{common_steps}
use Rattle.std.proofs.lemmas.List.{map-append, take_more}
use Rattle.arrow_types.specs.Field.{fields_of, levels}
use Rattle.arrow_types.specs.View.{field_view}
use Rattle.arrow_builder.specs.Tally.{AreCounted}
use Rattle.arrow_builder.proofs.Beginning.{field_less_deep}
use Rattle.arrow_builder.proofs.Counting.{nothing_more}
use Rattle.arrow_builder.proofs.tally.+nothing.Goals as goal

pub nothing_below-nothing-requires : goal.nothing_below-nothing-requires
nothing_below-nothing-requires t c =
    let d = c.field-item.result in
    let inside : c.loop-field.field-index < length c.args.fields.now = grind (arith, common_steps) in
    (omega (arith, c.decreases, field_less_deep c.args.fields.now c.loop-field.field-index d inside, ap (λ f. levels (field_view f).children) c.field-item.is), tt)

pub nothing_below-loop-field-preserved : goal.nothing_below-loop-field-preserved
nothing_below-loop-field-preserved t c form k =
    let i = c.loop-field.field-index in
    let d = c.field-item.result in
    let before = map field_view (take i c.args.fields.now) in
    let tally = c.in_ok-nothing.field-0 in
    let inside : i < length c.args.fields.now = grind (arith, common_steps) in
    let all : map field_view (take (i + 1) c.args.fields.now) ≡ before ++ field_view d ∷ [] =
    ap (map field_view) (take_more c.args.fields.now i d inside) ∙ map-append field_view (take i c.args.fields.now) (get_or c.args.fields.now i d ∷ [])
    ∙ ap (λ f. before ++ field_view f ∷ []) (sym c.field-item.is) in
    let items : c.push.new.self.items ≡ c.loop-field.tallies.items ++ tally ∷ [] = grind (arith, common_steps) in
    subst (λ fs. AreCounted false form (fields_of fs) k [] c.push.new.self.items) (sym all)
    (subst (λ ts. AreCounted false form (fields_of (before ++ field_view d ∷ [])) k [] ts) (sym items)
    (nothing_more form before (field_view d) k c.loop-field.tallies.items tally (c.loop-field.invariant form k) c.in_ok-nothing.ensures))
