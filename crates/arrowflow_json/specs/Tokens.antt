-- JSON tokens on their way into text. Only the crate's private clauses cite these.
use Rattle.std.specs.Prelude.{◌≡◌, ℕ, List, [], ◌∷◌, ◌++◌, Option, codes, map}
use Rattle.json.specs.Json.{Json, array}
use Rattle.json.specs.Token.{Token, begin_object, boolean, key, string}
use Rattle.json.specs.Tree.{json_tokens}
use Rattle.json.specs.Value.{items_of}
use Rattle.json.specs.Written.{Written}
use Rattle.std.specs.List.{flat_map}
use Rattle.arrow_types.specs.DataType.{TypeId}
use Rattle.arrow_types.specs.Field.{FieldHeader}
use Rattle.arrow_types.specs.Notes.{KeyValue}
use Rattle.arrowflow_json.specs.Fields.{dictionary_json, in_file, pair_json}
use Rattle.arrowflow_json.specs.Messages.{whole}
use Rattle.arrowflow_text.specs.TypeWords.{format_of, type_name}

-- these tokens were appended
abbrev pub Adds : List Token → Written → Written → Type 0
Adds tokens old new = (new.tokens ≡ old.tokens ++ tokens) × (new.before ≡ old.before)

-- the tokens of a member
abbrev pub member_tokens : List ℕ × Json → List Token
member_tokens m = key m.0 ∷ json_tokens m.1

-- the tokens of some members
abbrev pub members_tokens : List (List ℕ × Json) → List Token
members_tokens ms = flat_map member_tokens ms

-- the tokens of a line's object up to its offset
abbrev pub front_tokens : Option (List ℕ) → ℕ → List Token
front_tokens file place = begin_object ∷ (members_tokens (in_file file) ++ member_tokens (codes "at", whole place))

-- the tokens of the name and the format string of a type
abbrev pub type_tokens : TypeId → List Token
type_tokens tag = key (codes "type") ∷ string (type_name tag) ∷ key (codes "format") ∷ string (format_of tag) ∷ []

-- the tokens of the members of a field before its children
abbrev pub head_tokens : FieldHeader → List KeyValue → List Token
head_tokens head pairs =
    key (codes "name") ∷ string head.name ∷ (type_tokens head.tag
    ++ key (codes "nullable") ∷ boolean head.nullable ∷ key (codes "dictionary") ∷ (json_tokens (dictionary_json head.encoding)
    ++ key (codes "metadata") ∷ json_tokens (array (items_of (map pair_json pairs)))))
