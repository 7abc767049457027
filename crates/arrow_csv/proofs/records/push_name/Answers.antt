use Rattle.std.proofs.Common.{◌≡◌, ◌++◌, ◌∷◌, [], sym, ap, ◌∙◌, slice_index_or, string_bytes, rules}
use Rattle.std.proofs.lemmas.Result.{on_ok_weaker}
use Rattle.csv.specs.Records.{fields_of}
use Rattle.arrow_types.specs.Field.{none}
use Rattle.arrow_types.specs.View.{field_view, fields_view}
use Rattle.arrow_types.specs.declared.field.Field.{the_lemmas}
use Rattle.arrow_csv.specs.Named.{with_field}
use Rattle.arrow_csv.specs.Records.{names}
use Rattle.arrow_csv.proofs.Naming.{name_before}
use Rattle.arrow_csv.proofs.records.push_name.Goals as goal

-- the name of the field at that index now follows the others
pub returns-in-Some-clause-name : goal.returns-in-Some-clause-name
returns-in-Some-clause-name c =
    let fs = c.args.fields.now in
    let k = c.in-Some.place in
    let here = slice_index_or fs k c.index-fields-place.result in
    let own : (field_view here).head.name ≡ string_bytes here.name = search (rules, the_lemmas) in
    let text : c.as_bytes.result.now ∷ [] ≡ names (with_field c.args.place (fields_view fs) none) =
    ap (λ t. t ∷ []) (c.as_bytes.ensures.value ∙ sym own) ∙ sym (name_before fs k c.index-fields-place.result none (rw c.in-Some.is at c.requires.inside)) ∙ ap (λ p. names (with_field p (fields_view fs) none)) (sym c.in-Some.is) in
    on_ok_weaker c.push_field.result (λ e. e ∙ ap (λ p. fields_of c.args.line.now ++ (p ++ c.as_bytes.result.now) ∷ []) c.requires.whole ∙ ap (λ t. fields_of c.args.line.now ++ t) text) c.push_field.ensures.fields
