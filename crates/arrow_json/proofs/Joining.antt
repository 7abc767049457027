-- Values that are written one by one.
use Rattle.std.proofs.Common.{◌≡◌, ◌<◌, ◌≤◌, ◌+◌, ◌-◌, ℕ, ℤ, zero, suc, List, [], ◌∷◌, ◌++◌, length, take, drop, get_or, refl, sym, ap, ◌∙◌, subst, arith, append_assoc, append-nil}
use Rattle.std.proofs.Math.Seq.{take-suc}
use Rattle.std.proofs.lemmas.Grind.{flat_map-append}
use Rattle.std.proofs.lemmas.List.{get_or-drop, length-drop, take_all}
use Rattle.std.specs.List.{flat_map}
use Rattle.json.specs.Json.{Json, array, object}
use Rattle.json.specs.Token.{Token, begin_array, end_array, begin_object, end_object, key}
use Rattle.json.specs.Tree.{items_tokens, json_tokens, members_tokens}
use Rattle.json.specs.Value.{items_of}
use Rattle.json.specs.Written.{Written}
use Rattle.arrow_types.specs.Field.{FieldHeader, FieldTree, none, more, TypeShape}
use Rattle.arrow_types.specs.View.{field_view, fields_view}
use Rattle.arrow_types.specs.declared.field.Field.{Field}
use Rattle.arrow_data.specs.Column.{Column, AreOf, resolved_row_of, values_from}
use Rattle.arrow_layout.specs.PlainValue.{PlainValue, binary_value, int_value, list_value, struct_value, null_value, value_at, values_of}
use Rattle.arrow_data.specs.Shown.{ListsItems}
use Rattle.arrow_csv.specs.Texts.{Each}
use Rattle.arrow_csv.proofs.Joining.{as_many, each_more}
use Rattle.arrow_json.specs.Kinds.{kind_of}
use Rattle.arrow_json.specs.declared.kind.JsonKind.{JsonKind}
use Rattle.arrow_json.specs.Scalars.{IsNumberJson, bytes_json}
use Rattle.arrow_json.specs.Values.{AreItems, AreMembers, IsArrayOf, IsJson, IsObjectOf, members_of}
use Rattle.arrow_json.specs.Written.{Adds}

-- a weaker fact about the value that was added
pub adds_weaker : (P Q : Json → Type 0) (old new : Written) → ((json : Json) → P json → Q json) → Adds P old new → Adds Q old new
adds_weaker P Q old new f h = (h.0, f h.0 h.1, h.2, h.3)

-- a known value has every property that holds of it
pub adds_same : (Q : Json → Type 0) (a : Json) (old new : Written) → Q a → Adds (λ json. json ≡ a) old new → Adds Q old new
adds_same Q a old new q h = (h.0, subst Q (sym h.1) q, h.2, h.3)

-- one token that is a value was added
pub adds_token : (Q : Json → Type 0) (a : Json) (old new : Written) → Q a → new.tokens ≡ old.tokens ++ json_tokens a → new.before ≡ old.before → Adds Q old new
adds_token Q a old new q put before = (a, q, put, before)

-- ---- the items of a list

-- the tokens of an array's items, and its end
items_end : (js : List Json) → items_tokens (items_of js) ≡ flat_map json_tokens js ++ end_array ∷ []
items_end [] = refl
items_end (j ∷ js) = ap (λ ts. json_tokens j ++ ts) (items_end js) ∙ sym (append_assoc (json_tokens j) (flat_map json_tokens js) (end_array ∷ []))

-- one more item
items_next : (js : List Json) (j : Json) → flat_map json_tokens (js ++ j ∷ []) ≡ flat_map json_tokens js ++ json_tokens j
items_next js j = flat_map-append json_tokens js (j ∷ []) ∙ ap (λ ts. flat_map json_tokens js ++ ts) (append-nil (json_tokens j))

-- the beginning of an array and the JSON of the values from `start` up to k were added
abbrev pub ItemsWritten : TypeShape → List PlainValue → ℕ → ℕ → Written → Written → Type 0
ItemsWritten type vs start k old new =
    (js : List Json) × Each (IsJson type) (values_from vs start k) js × (new.tokens ≡ old.tokens ++ begin_array ∷ flat_map json_tokens js) × (new.before ≡ old.before)

values_next : (vs : List PlainValue) (start k : ℕ) → start ≤ k → k < length vs → values_from vs start (k + 1) ≡ values_from vs start k ++ value_at vs k ∷ []
values_next vs start k low high =
    let rest = drop start vs in
    let inside : k - start < length rest = omega (arith, low, high, length-drop start vs) in
    let next : k + 1 - start ≡ suc (k - start) = omega (arith, low) in
    let place : start + (k - start) ≡ k = omega (arith, low) in
    ap (λ n. take n rest) next ∙ take-suc rest (k - start) null_value inside
    ∙ ap (λ v. take (k - start) rest ++ v ∷ []) (get_or-drop start vs (k - start) null_value ∙ ap (value_at vs) place)

-- none at first
pub items_none : (type : TypeShape) (vs : List PlainValue) (start : ℕ) (old new : Written) → new.tokens ≡ old.tokens ++ begin_array ∷ [] → new.before ≡ old.before → ItemsWritten type vs start start old new
items_none type vs start old new put before =
    let none : 0 ≡ start - start = omega arith in
    ([], subst (λ n. Each (IsJson type) (take n (drop start vs)) []) none tt, put, before)

-- one more item
pub items_more : (type : TypeShape) (vs : List PlainValue) (start k : ℕ) (old out new : Written) → start ≤ k → k < length vs → ItemsWritten type vs start k old out
    → Adds (IsJson type (value_at vs k)) out new → ItemsWritten type vs start (k + 1) old new
items_more type vs start k old out new low high written put =
    let js = written.0 in
    let j = put.0 in
    let each = subst (λ xs. Each (IsJson type) xs (js ++ j ∷ [])) (sym (values_next vs start k low high)) (each_more (IsJson type) (values_from vs start k) js (value_at vs k) j written.1 put.1) in (
      js ++ j ∷ [],
      each,
      put.2 ∙ ap (λ ts. ts ++ json_tokens j) written.2 ∙ append_assoc old.tokens (begin_array ∷ flat_map json_tokens js) (json_tokens j) ∙ ap (λ ts. old.tokens ++ begin_array ∷ ts) (sym (items_next js j)),
      put.3 ∙ written.3,
    )

-- all items
pub items_done : (type : TypeShape) (vs : List PlainValue) (start k end : ℕ) (old out new : Written) → k ≡ end → ItemsWritten type vs start k old out → new.tokens ≡ out.tokens ++ end_array ∷ [] → new.before ≡ out.before
    → Adds (IsArrayOf type (values_from vs start end)) old new
items_done type vs start k end old out new at written put before =
    let js = written.0 in
    let each = subst (λ n. Each (IsJson type) (values_from vs start n) js) at written.1 in (
      array (items_of js),
      (js, each, refl),
      put ∙ ap (λ ts. ts ++ end_array ∷ []) written.2 ∙ append_assoc old.tokens (begin_array ∷ flat_map json_tokens js) (end_array ∷ []) ∙ ap (λ ts. old.tokens ++ begin_array ∷ ts) (sym (items_end js)),
      before ∙ written.3,
    )

-- the JSON of a list's items is that of its values, each by the child's type
items_are : (fields : FieldTree) (child : Column) (vs : List PlainValue) (js : List Json) → AreOf fields (child ∷ []) → Each (IsJson child.data_type) vs js → AreItems fields (values_of vs) js
items_are none child vs js typed h = absurd typed
items_are (more head children rest) child [] [] typed h = refl
items_are (more head children rest) child [] (j ∷ js) typed h = absurd h
items_are (more head children rest) child (v ∷ vs) [] typed h = absurd h
items_are (more head children rest) child (v ∷ vs) (j ∷ js) typed h = (subst (λ type. IsJson type v j) typed.0 h.0, items_are (more head children rest) child vs js typed h.1)

-- an array of the items is the JSON of the list
pub list_json : (c child : Column) (i start stop : ℕ) (json : Json) → ListsItems c i start stop child → IsArrayOf child.data_type (values_from child.resolved start stop) json → IsJson c.data_type (value_at c.resolved i) json
list_json c child i start stop json h list =
    let is : IsJson c.data_type (list_value (values_of (values_from child.resolved start stop))) json =
    (list.0, items_are c.data_type.children child (values_from child.resolved start stop) list.0 h.typed list.1, list.2) in
    subst (λ v. IsJson c.data_type v json) (sym h.same) is

-- the JSON of the number is that of the value
pub number_json : (type : TypeShape) (kind : JsonKind) (v : PlainValue) (z : ℤ) (json : Json) → v ≡ int_value z → kind ≡ kind_of type.tag → IsNumberJson kind z json → IsJson type v json
number_json type kind v z json holds same is =
    subst (λ w. IsJson type w json) (sym holds) (subst (λ k. IsNumberJson k z json) same is)

-- the JSON of the bytes is that of the value
pub binary_json : (type : TypeShape) (kind : JsonKind) (v : PlainValue) (bytes : List ℕ) (json : Json) → v ≡ binary_value bytes → kind ≡ kind_of type.tag → json ≡ bytes_json kind bytes → IsJson type v json
binary_json type kind v bytes json holds same is =
    subst (λ w. IsJson type w json) (sym holds) (is ∙ ap (λ k. bytes_json k bytes) same)

-- an object of the parts is the JSON of the struct
pub struct_json : (type : TypeShape) (fields : FieldTree) (values : List PlainValue) (v : PlainValue) (json : Json) → v ≡ struct_value (values_of values) → fields ≡ type.children → IsObjectOf fields values json → IsJson type v json
struct_json type fields values v json holds same is =
    let own : IsJson type (struct_value (values_of values)) json = (is.0, subst (λ fs. AreMembers fs (values_of values) is.0) same is.1, is.2) in
    subst (λ w. IsJson type w json) (sym holds) own

-- ---- the values of a struct

-- the tokens of a member
abbrev member_tokens : List ℕ × Json → List Token
member_tokens m = key m.0 ∷ json_tokens m.1

-- the tokens of an object's members, and its end
members_end : (ms : List (List ℕ × Json)) → members_tokens (members_of ms) ≡ flat_map member_tokens ms ++ end_object ∷ []
members_end [] = refl
members_end (m ∷ ms) = ap (λ ts. key m.0 ∷ (json_tokens m.1 ++ ts)) (members_end ms) ∙ ap (λ ts. key m.0 ∷ ts) (sym (append_assoc (json_tokens m.1) (flat_map member_tokens ms) (end_object ∷ [])))

members_next : (ms : List (List ℕ × Json)) (m : List ℕ × Json) → flat_map member_tokens (ms ++ m ∷ []) ≡ flat_map member_tokens ms ++ member_tokens m
members_next ms m = flat_map-append member_tokens ms (m ∷ []) ∙ ap (λ ts. flat_map member_tokens ms ++ ts) (append-nil (member_tokens m))

-- the beginning of an object and the members of the first k fields were added
abbrev pub PartsWritten : List Field → List Column → ℕ → ℕ → Written → Written → Type 0
PartsWritten fs cs place k old new =
    (ms : List (List ℕ × Json)) × AreMembers (fields_view (take k fs)) (values_of (resolved_row_of (take k cs) place)) ms
    × (new.tokens ≡ old.tokens ++ begin_object ∷ flat_map member_tokens ms) × (new.before ≡ old.before)

part_json : (head : FieldHeader) (children : FieldTree) (d c : Column) (place : ℕ) (json : Json) → d.data_type ≡ record { tag = head.tag; children = children } → c ≡ d → IsJson c.data_type (value_at c.resolved place) json
    → IsJson (record { tag = head.tag; children = children }) (value_at d.resolved place) json
part_json head children d c place json typed same is =
    subst (λ type. IsJson type (value_at d.resolved place) json) typed (subst (λ (x : Column). IsJson x.data_type (value_at x.resolved place) json) same is)

parts_next : (fs : List Field) (cs : List Column) (place k : ℕ) (f : Field) (c : Column) (ms : List (List ℕ × Json)) (m : List ℕ × Json) → AreOf (fields_view fs) cs → k < length cs → f ≡ get_or fs k f → c ≡ get_or cs k c
    → AreMembers (fields_view (take k fs)) (values_of (resolved_row_of (take k cs) place)) ms
    → m.0 ≡ (field_view f).head.name → IsJson c.data_type (value_at c.resolved place) m.1
    → AreMembers (fields_view (take (suc k) fs)) (values_of (resolved_row_of (take (suc k) cs) place)) (ms ++ m ∷ [])
parts_next [] [] place k f c ms m typed h p q written named is = absurd (omega (arith, h))
parts_next [] (d ∷ ds) place k f c ms m typed h p q written named is = absurd typed
parts_next (g ∷ gs) [] place k f c ms m typed h p q written named is = absurd typed
parts_next (g ∷ gs) (d ∷ ds) place zero f c [] m typed h p q written named is =
    (named ∙ ap (λ x. (field_view x).head.name) p, part_json (field_view g).head (field_view g).children d c place m.1 typed.0 q is, refl)
parts_next (g ∷ gs) (d ∷ ds) place zero f c (n ∷ ms) m typed h p q written named is = absurd (cc written)
parts_next (g ∷ gs) (d ∷ ds) place (suc k) f c [] m typed h p q written named is = absurd written
parts_next (g ∷ gs) (d ∷ ds) place (suc k) f c (n ∷ ms) m typed h p q written named is =
    (written.0, written.1, parts_next gs ds place k f c ms m typed.2 (omega (arith, h)) p q written.2 named is)

-- none at first
pub parts_none : (fs : List Field) (cs : List Column) (place : ℕ) (old new : Written) → new.tokens ≡ old.tokens ++ begin_object ∷ [] → new.before ≡ old.before → PartsWritten fs cs place 0 old new
parts_none fs cs place old new put before = ([], refl, put, before)

-- one more member: its name, and the JSON of its value
pub parts_more : (fs : List Field) (cs : List Column) (place k : ℕ) (f : Field) (c : Column) (name : List ℕ) (old out named new : Written) → AreOf (fields_view fs) cs → k < length cs → f ≡ get_or fs k f → c ≡ get_or cs k c
    → PartsWritten fs cs place k old out → name ≡ (field_view f).head.name → named.tokens ≡ out.tokens ++ key name ∷ [] → named.before ≡ out.before
    → Adds (IsJson c.data_type (value_at c.resolved place)) named new → PartsWritten fs cs place (k + 1) old new
parts_more fs cs place k f c name old out named new typed h p q written is put before added =
    let ms = written.0 in
    let m : List ℕ × Json = (name, added.0) in
    let next : suc k ≡ k + 1 = omega arith in
    let all = subst (λ n. AreMembers (fields_view (take n fs)) (values_of (resolved_row_of (take n cs) place)) (ms ++ m ∷ [])) next (parts_next fs cs place k f c ms m typed h p q written.1 is added.1) in (
      ms ++ m ∷ [],
      all,
      added.2 ∙ ap (λ ts. ts ++ json_tokens added.0) (put ∙ ap (λ ts. ts ++ key name ∷ []) written.2) ∙ append_assoc (old.tokens ++ begin_object ∷ flat_map member_tokens ms) (key name ∷ []) (json_tokens added.0)
          ∙ append_assoc old.tokens (begin_object ∷ flat_map member_tokens ms) (member_tokens m) ∙ ap (λ ts. old.tokens ++ begin_object ∷ ts) (sym (members_next ms m)),
      added.3 ∙ before ∙ written.3,
    )

-- all members
pub parts_done : (fs : List Field) (cs : List Column) (place k : ℕ) (old out new : Written) → AreOf (fields_view fs) cs → length cs ≤ k → PartsWritten fs cs place k old out → new.tokens ≡ out.tokens ++ end_object ∷ [] → new.before ≡ out.before
    → Adds (IsObjectOf (fields_view fs) (resolved_row_of cs place)) old new
parts_done fs cs place k old out new typed h written put before =
    let ms = written.0 in
    let fields = take_all k fs (omega (arith, h, as_many fs cs typed)) in
    let columns = take_all k cs h in
    let are = subst (λ ds. AreMembers (fields_view fs) (values_of (resolved_row_of ds place)) ms) columns (subst (λ gs. AreMembers (fields_view gs) (values_of (resolved_row_of (take k cs) place)) ms) fields written.1) in (
      object (members_of ms),
      (ms, are, refl),
      put ∙ ap (λ ts. ts ++ end_object ∷ []) written.2 ∙ append_assoc old.tokens (begin_object ∷ flat_map member_tokens ms) (end_object ∷ []) ∙ ap (λ ts. old.tokens ++ begin_object ∷ ts) (sym (members_end ms)),
      before ∙ written.3,
    )
