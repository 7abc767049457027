use Rattle.std.proofs.Common.{◌++◌, [], ◌∷◌, subst, sym, w64}
use Rattle.std.specs.List.{AllByRecursion}
use Rattle.std.proofs.lemmas.Int.{to_z-of_z}
use Rattle.arrow_types.specs.Schema.{DictionaryField}
use Rattle.arrow_types.specs.View.{type_view}
use Rattle.arrow_dict.specs.ValueFields.{IsValueField}
use Rattle.arrow_dict.specs.ValueTypes.{NameSame}
use Rattle.arrow_dict.proofs.Kept.{all_kept, kept_new, kept_old, made_shown, made_typed}
use Rattle.arrow_dict.proofs.value_fields.ValueFields.add.Goals as goal

-- the id has a type already
pub returns-then-contains_key : goal.returns-then-contains_key
returns-then-contains_key c =
    let d : DictionaryField = record { id = c.args.id; value_type = type_view c.args.data_type.now } in
    subst (λ ds. NameSame ds (ds ++ d ∷ [])) c.self.view_is
    (kept_old c.self.inside.fields.entries d _ (to_z-of_z w64 c.args.id c.ranges.id) c.if-contains_key.ensures)

-- one more field
pub invariant_of-self-2 : goal.invariant_of-self-2
invariant_of-self-2 c =
    subst (λ es. AllByRecursion IsValueField es) (sym c.in_ok-insert.ensures.entries)
    (all_kept c.self.inside.fields.entries _ c.in_ok-of.field-0 c.self.invariant (made_shown c.args.id c.in_ok-of.field-0 (type_view c.args.data_type.now) c.in_ok-of.ensures))

-- the id has none yet
pub returns : goal.returns
returns c =
    let d : DictionaryField = record { id = c.args.id; value_type = type_view c.args.data_type.now } in
    rw (← c.self.view_is)
    (kept_new c.self.inside.fields.entries c.insert.new.self.entries d _ c.in_ok-of.field-0 (to_z-of_z w64 c.args.id c.ranges.id)
    (made_typed c.in_ok-of.field-0 (type_view c.args.data_type.now) c.in_ok-of.ensures) c.if-contains_key.ensures c.in_ok-insert.ensures.updates.0)
