-- Tokens that are appended one after another.
use Rattle.std.proofs.Common.{◌≡◌, ℕ, Bool, true, false, List, [], ◌∷◌, ◌++◌, Option, None, Some, codes, map, refl, sym, ap, ap₂, ◌∙◌, append_assoc}
use Rattle.std.proofs.lemmas.Str.{IsUtf8-from_is_utf8, is_utf8-from_IsUtf8}
use Rattle.std.specs.List.{flat_map}
use Rattle.std.specs.Str.{IsUtf8, is_utf8}
use Rattle.hex.specs.Hex.{encode_lower}
use Rattle.json.specs.Json.{Json, array, object, string}
use Rattle.json.specs.Token as tokens
use Rattle.json.specs.Token.{Token, begin_array, begin_object, boolean, end_array, end_object, key}
use Rattle.json.specs.Print.{print}
use Rattle.json.specs.Tree as tree
use Rattle.json.specs.Tree.{items_tokens, json_tokens}
use Rattle.json.specs.Value.{items_of}
use Rattle.json.specs.Written.{Written}
use Rattle.arrow_types.specs.Field.{FieldHeader}
use Rattle.arrow_types.specs.Notes.{KeyValue}
use Rattle.arrow_json.specs.Lines.{line_of}
use Rattle.arrow_json.specs.Values.{members_of}
use Rattle.arrowflow_json.specs.Fields.{dictionary_json, field_json, field_members, in_file, pair_json, text_json}
use Rattle.arrowflow_json.specs.Messages.{place_json, whole}
use Rattle.arrowflow_json.specs.Tokens.{Adds, front_tokens, head_tokens, member_tokens, members_tokens, type_tokens}

-- appending some tokens, and then others
pub adds_more : (front back : List Token) (old mid new : Written) → Adds front old mid → Adds back mid new → Adds (front ++ back) old new
adds_more front back old mid new first second =
    (second.0 ∙ ap (λ ts. ts ++ back) first.0 ∙ append_assoc old.tokens front back, second.1 ∙ first.1)

-- ---- bytes

-- the JSON of a text is a string
pub text_is : (bytes : List ℕ) → IsUtf8 bytes → text_json bytes ≡ string bytes
text_is bytes h = rw (is_utf8-from_IsUtf8 bytes h)

-- the JSON of other bytes is an object
pub hex_is : (bytes : List ℕ) → (IsUtf8 bytes → ⊥) → text_json bytes ≡ object (members_of ((codes "hex", string (encode_lower bytes)) ∷ []))
hex_is bytes h = by (is_utf8 bytes) refl
  where
    by : (b : Bool) → is_utf8 bytes ≡ b → text_json bytes ≡ object (members_of ((codes "hex", string (encode_lower bytes)) ∷ []))
    by true e = absurd (h (IsUtf8-from_is_utf8 bytes e))
    by false e = rw e

-- ---- a field

-- the tokens of an array's items, and its end
items_end : (js : List Json) → items_tokens (items_of js) ≡ flat_map json_tokens js ++ end_array ∷ []
items_end [] = refl
items_end (j ∷ js) = ap (λ ts. json_tokens j ++ ts) (items_end js) ∙ sym (append_assoc (json_tokens j) (flat_map json_tokens js) (end_array ∷ []))

-- an object whose first member may be the name of a file
pub file_front : (file : Option (List ℕ)) (ms : List (List ℕ × Json)) → json_tokens (object (members_of (in_file file ++ ms))) ≡ begin_object ∷ (members_tokens (in_file file) ++ tree.members_tokens (members_of ms))
file_front None ms = refl
file_front (Some name) ms = refl

-- the tokens of a field's children, and the end
abbrev pub children_tokens : List Json → List Token
children_tokens children = key (codes "children") ∷ begin_array ∷ (flat_map json_tokens children ++ end_array ∷ end_object ∷ [])

-- the tokens of a field
pub field_tokens : (file : Option (List ℕ)) (head : FieldHeader) (pairs : List KeyValue) (children : List Json)
    → begin_object ∷ (members_tokens (in_file file) ++ (head_tokens head pairs ++ children_tokens children)) ≡ json_tokens (field_json file head pairs children)
field_tokens file head pairs children =
    let dictionary = json_tokens (dictionary_json head.encoding) in
    let metadata = json_tokens (array (items_of (map pair_json pairs))) in
    let front : List Token = key (codes "name") ∷ tokens.string head.name ∷ (type_tokens head.tag ++ key (codes "nullable") ∷ boolean head.nullable ∷ key (codes "dictionary") ∷ []) in
    let end : items_tokens (items_of children) ++ end_object ∷ [] ≡ flat_map json_tokens children ++ end_array ∷ end_object ∷ [] =
    ap (λ ts. ts ++ end_object ∷ []) (items_end children) ∙ append_assoc (flat_map json_tokens children) (end_array ∷ []) (end_object ∷ []) in
    let own : head_tokens head pairs ++ children_tokens children ≡ tree.members_tokens (members_of (field_members head pairs children)) =
    ap (λ ts. front ++ ts) (append_assoc dictionary (key (codes "metadata") ∷ metadata) (children_tokens children))
    ∙ ap (λ ts. front ++ (dictionary ++ key (codes "metadata") ∷ (metadata ++ key (codes "children") ∷ begin_array ∷ ts))) (sym end) in
    ap (λ ts. begin_object ∷ (members_tokens (in_file file) ++ ts)) own ∙ sym (file_front file (field_members head pairs children))

-- ---- a line with an offset

-- the tokens of an object's members, and its end
members_end : (ms : List (List ℕ × Json)) → tree.members_tokens (members_of ms) ≡ members_tokens ms ++ end_object ∷ []
members_end [] = refl
members_end (m ∷ ms) = ap (λ ts. key m.0 ∷ (json_tokens m.1 ++ ts)) (members_end ms) ∙ ap (λ ts. key m.0 ∷ ts) (sym (append_assoc (json_tokens m.1) (members_tokens ms) (end_object ∷ [])))

-- the tokens of a line's object
place_tokens : (file : Option (List ℕ)) (place : ℕ) (ms : List (List ℕ × Json)) → (front_tokens file place ++ members_tokens ms) ++ end_object ∷ [] ≡ json_tokens (place_json file place ms)
place_tokens file place ms =
    let first = members_tokens (in_file file) in
    let at = member_tokens (codes "at", whole place) in
    ap (λ ts. begin_object ∷ ts) (append_assoc (first ++ at) (members_tokens ms) (end_object ∷ []) ∙ append_assoc first at (members_tokens ms ++ end_object ∷ []) ∙ ap (λ ts. first ++ (at ++ ts)) (sym (members_end ms)))
    ∙ sym (file_front file ((codes "at", whole place) ∷ ms))

-- the text of these tokens, and a line feed
pub line_is : (file : Option (List ℕ)) (place : ℕ) (ms : List (List ℕ × Json)) (old new : Written) (line : List ℕ) → old.before ≡ [] → old.tokens ≡ front_tokens file place → Adds (members_tokens ms) old new
    → line ≡ new.before ++ (print (new.tokens ++ end_object ∷ []) ++ codes "\n") → line ≡ line_of (place_json file place ms)
line_is file place ms old new line none front added is =
    is ∙ ap₂ (λ b ts. b ++ (print ts ++ codes "\n")) (added.1 ∙ none) (ap (λ ts. ts ++ end_object ∷ []) (added.0 ∙ ap (λ ts. ts ++ members_tokens ms) front) ∙ place_tokens file place ms)
