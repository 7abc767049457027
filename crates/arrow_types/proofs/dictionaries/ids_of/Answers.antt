use Rattle.std.proofs.Common.{◌≡◌, false, sym, subst, rules}
use Rattle.arrow_types.proofs.Encodings.{no_ids}
use Rattle.arrow_types.specs.Schema.{has_encoding, dictionary_fields, AreIdsOfOneType}
use Rattle.arrow_types.specs.View.{fields_view}
use Rattle.arrow_types.proofs.dictionaries.ids_of.Goals as goal

-- fields without an encoding have no ids
pub returns-then-not-have_encoding-clause-gives : goal.returns-then-not-have_encoding-clause-gives
returns-then-not-have_encoding-clause-gives c =
    let s = fields_view c.args.fields.now in
    let plain : has_encoding s ≡ false = search rules in
    subst (λ ids. AreIdsOfOneType ids (dictionary_fields s)) (sym c.new.ensures.items) (no_ids s plain)
