-- Fields whose listed dictionaries have their types.
use Rattle.std.proofs.Common.{◌≡◌, ◌↔◌, ◌+◌, ◌<◌, ℕ, ℤ, List, [], ◌∷◌, ◌++◌, length, drop, get_or, subst, sym}
use Rattle.std.specs.List.{AllByRecursion}
use Rattle.arrow_types.specs.Schema.{dictionary_fields, dictionary_of}
use Rattle.arrow_types.specs.View.{field_view, fields_view}
use Rattle.arrow_types.specs.declared.field.Field.{Field}
use Rattle.arrow_types.proofs.Fields.{fields_from}
use Rattle.arrow_data.specs.Column.{ValueList}
use Rattle.arrow_builder.specs.Finished.{AreTyped, IsTyped}

-- a statement holds of all of two lists if and only if it holds of all of each
pub all_append : {A : Type 0} (P : A → Type 0) (xs ys : List A) → AllByRecursion P (xs ++ ys) ↔ (AllByRecursion P xs × AllByRecursion P ys)
all_append P [] ys = (λ h. (tt, h), λ h. h.1)
all_append P (x ∷ xs) ys =
    let rest = all_append P xs ys in
    (λ h. ((h.0, (rest.0 h.1).0), (rest.0 h.1).1), λ h. (h.0.0, rest.1 (h.0.1, h.1)))

-- the fields to come are the next one and those after it
pub typed_from : (ds : List (ℤ × ValueList)) (fields : List Field) (i : ℕ) (f : Field) → i < length fields → f ≡ get_or fields i f
    → AllByRecursion (IsTyped ds) (dictionary_fields (fields_view (drop i fields))) ↔ (AreTyped ds (field_view f) × AllByRecursion (IsTyped ds) (dictionary_fields (fields_view (drop (i + 1) fields))))
typed_from ds fields i f inside is =
    subst (λ v. AllByRecursion (IsTyped ds) (dictionary_fields v) ↔ (AreTyped ds (field_view f) × AllByRecursion (IsTyped ds) (dictionary_fields (fields_view (drop (i + 1) fields))))) (sym (fields_from fields i f inside is))
    (all_append (IsTyped ds) (dictionary_of (field_view f).head (field_view f).children ++ dictionary_fields (field_view f).children) (dictionary_fields (fields_view (drop (i + 1) fields))))
