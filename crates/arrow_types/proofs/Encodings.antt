-- Fields without an encoding refer to no dictionary.
use Rattle.std.proofs.Common.{◌≡◌, ◌++◌, ◌||◌, false, [], Option, Some, None, is_some, refl, sym, subst}
use Rattle.std.proofs.lemmas.Bool.{false≢true, or_parts}
use Rattle.arrow_types.specs.Field.{FieldHeader, FieldTree, none, more}
use Rattle.arrow_types.specs.Schema.{has_encoding, dictionary_of, dictionary_fields, AreIdsOfOneType}
use Rattle.arrow_types.specs.declared.field.Encoding.{Encoding}

-- a field that is not dictionary-encoded refers to no dictionary
encoding_says : (head : FieldHeader) (children : FieldTree) (e : Option Encoding) → head.encoding ≡ e → is_some e ≡ false → dictionary_of head children ≡ []
encoding_says head children None is h = rw is refl
encoding_says head children (Some e) is h = absurd (false≢true (sym h))

-- fields without an encoding on any level refer to no dictionaries
no_dictionaries : (s : FieldTree) → has_encoding s ≡ false → dictionary_fields s ≡ []
no_dictionaries none h = refl
no_dictionaries (more head children rest) h =
    let others = or_parts (is_some head.encoding || has_encoding children) (has_encoding rest) h in
    let own = or_parts (is_some head.encoding) (has_encoding children) others.0 in
    λ i. encoding_says head children head.encoding refl own.0 i ++ no_dictionaries children own.1 i ++ no_dictionaries rest others.1 i

-- so they have no ids, and one value type for each id
pub no_ids : (s : FieldTree) → has_encoding s ≡ false → AreIdsOfOneType [] (dictionary_fields s)
no_ids s h = subst (AreIdsOfOneType []) (sym (no_dictionaries s h)) (record { once = refl; one_type = refl })
