use Rattle.std.proofs.Common.{◌≡◌, ◌+◌, suc, None, take, sym, ap, ◌∙◌, subst, string_bytes, slice_index_or, arith, rules}
use Rattle.std.specs.Str.{bytes_eq}
use Rattle.arrow_types.specs.declared.field.Field.{the_lemmas}
use Rattle.arrow_types.specs.View.{field_view, fields_view}
use Rattle.arrow_csv.specs.Named.{place_named}
use Rattle.arrow_csv.proofs.Naming.{found_here, none_more}
use Rattle.arrow_csv.proofs.named.place_of.Goals as goal

-- the field there has the name, and none before
pub returns-then-eq-clause-place : goal.returns-then-eq-clause-place
returns-then-eq-clause-place c =
    let name = c.args.name.now in
    let here = slice_index_or c.args.fields.now c.loop-place.place c.index-fields-place.result in
    let own : (field_view here).head.name ≡ string_bytes here.name = search (rules, the_lemmas) in
    let is = ap (λ t. bytes_eq t name) (own ∙ sym c.as_str.ensures.value) ∙ sym c.eq.ensures ∙ c.if-eq.true in
    sym (found_here name c.args.fields.now c.loop-place.place c.index-fields-place.result (omega (arith, c.loop-place-test.true)) c.loop-place.invariant is)

-- it has another name
pub loop-place-preserved : goal.loop-place-preserved
loop-place-preserved c =
    let name = c.args.name.now in
    let place = c.loop-place.place in
    let here = slice_index_or c.args.fields.now c.loop-place.place c.index-fields-place.result in
    let own : (field_view here).head.name ≡ string_bytes here.name = search (rules, the_lemmas) in
    let is = ap (λ t. bytes_eq t name) (own ∙ sym c.as_str.ensures.value) ∙ sym c.eq.ensures ∙ c.if-eq.false in
    let next : suc place ≡ place + 1 = omega arith in
    subst (λ k. place_named name (fields_view (take k c.args.fields.now)) ≡ None) next
    (none_more name c.args.fields.now place c.index-fields-place.result (omega (arith, c.loop-place-test.true)) c.loop-place.invariant is)
