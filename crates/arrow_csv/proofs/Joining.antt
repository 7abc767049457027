-- Texts that are joined one by one.
use Rattle.std.proofs.Common.{◌≡◌, ◌<◌, ◌≤◌, ◌+◌, ◌-◌, ℕ, ℤ, zero, suc, List, [], ◌∷◌, ◌++◌, length, take, drop, get_or, codes, refl, sym, ap, ◌∙◌, subst, arith, append_assoc, append-nil}
use Rattle.std.proofs.Math.Seq.{take-suc}
use Rattle.std.proofs.lemmas.List.{get_or-drop, length-drop, take_all}
use Rattle.arrow_types.specs.Field.{FieldHeader, FieldTree, none, more, TypeShape}
use Rattle.arrow_types.specs.View.{field_view, fields_view}
use Rattle.arrow_types.specs.declared.field.Field.{Field}
use Rattle.arrow_layout.specs.PlainValue.{PlainValue, int_value, list_value, struct_value, null_value, value_at, values_of}
use Rattle.arrow_data.specs.Column.{Column, AreOf, resolved_row_of, values_from}
use Rattle.arrow_data.specs.Shown.{ListsItems}
use Rattle.arrow_data.proofs.Sameness.{length-values_from}
use Rattle.arrow_csv.specs.Floats.{IsNumberText}
use Rattle.arrow_csv.specs.Made.{separator}
use Rattle.arrow_csv.specs.Texts.{Appends, ArePartTexts, AreItemTexts, Each, IsItemText, IsListOf, IsStructOf, IsText, after, joined}

-- one more text, after others that each come after a semicolon
after_next : (xs : List (List ℕ)) (y : List ℕ) → after (xs ++ y ∷ []) ≡ after xs ++ codes ";" ++ y
after_next [] y = append-nil (codes ";" ++ y)
after_next (x ∷ xs) y =
    let a = codes ";" ++ x in
    ap (λ t. a ++ t) (after_next xs y) ∙ sym (append_assoc a (after xs ++ codes ";") y) ∙ ap (λ t. t ++ y) (sym (append_assoc a (after xs) (codes ";")))

-- there is none before the first text
pub separator_first : (k : ℕ) → k ≡ 0 → separator k ≡ []
separator_first zero h = refl
separator_first (suc k) h = absurd (omega arith)

-- there is a semicolon before every other text
pub separator_later : (k : ℕ) → 0 < k → separator k ≡ codes ";"
separator_later zero h = absurd (omega arith)
separator_later (suc k) h = refl

-- one more text, after its separator
joined_next : (xs : List (List ℕ)) (y : List ℕ) → joined (xs ++ y ∷ []) ≡ joined xs ++ separator (length xs) ++ y
joined_next [] y = append-nil y
joined_next (x ∷ xs) y =
    ap (λ t. x ++ t) (after_next xs y) ∙ sym (append_assoc x (after xs ++ codes ";") y) ∙ ap (λ t. t ++ y) (sym (append_assoc x (after xs) (codes ";")))

-- one more text, after the texts that are there
joined_after : (xs : List (List ℕ)) (y old : List ℕ) (k : ℕ) → length xs ≡ k → old ++ joined xs ++ separator k ++ y ≡ old ++ joined (xs ++ y ∷ [])
joined_after xs y old k h =
    let j = joined xs in
    ap (λ t. t ++ y) (append_assoc old j (separator k)) ∙ append_assoc old (j ++ separator k) y ∙ ap (λ t. old ++ t) (ap (λ m. j ++ separator m ++ y) (sym h) ∙ sym (joined_next xs y))

-- one more element of each list
pub each_more : {A B : Type 0} (R : A → B → Type 0) (xs : List A) (ys : List B) (x : A) (y : B) → Each R xs ys → R x y → Each R (xs ++ x ∷ []) (ys ++ y ∷ [])
each_more R [] [] x y h one = (one, tt)
each_more R [] (z ∷ ys) x y h one = absurd h
each_more R (w ∷ xs) [] x y h one = absurd h
each_more R (w ∷ xs) (z ∷ ys) x y h one = (h.0, each_more R xs ys x y h.1 one)

-- the lists have the same length
each_long : {A B : Type 0} (R : A → B → Type 0) (xs : List A) (ys : List B) → Each R xs ys → length xs ≡ length ys
each_long R [] [] h = refl
each_long R [] (z ∷ ys) h = absurd h
each_long R (w ∷ xs) [] h = absurd h
each_long R (w ∷ xs) (z ∷ ys) h = ap suc (each_long R xs ys h.1)

-- ---- the items of a list

-- texts of the values from `start` up to k follow the old text
abbrev pub ItemsWritten : TypeShape → List PlainValue → ℕ → ℕ → List ℕ → List ℕ → Type 0
ItemsWritten type vs start k old out = (texts : List (List ℕ)) × Each (IsItemText type) (values_from vs start k) texts × (out ≡ old ++ joined texts)

values_next : (vs : List PlainValue) (start k : ℕ) → start ≤ k → k < length vs → values_from vs start (k + 1) ≡ values_from vs start k ++ value_at vs k ∷ []
values_next vs start k low high =
    let rest = drop start vs in
    let inside : k - start < length rest = omega (arith, low, high, length-drop start vs) in
    let next : k + 1 - start ≡ suc (k - start) = omega (arith, low) in
    let place : start + (k - start) ≡ k = omega (arith, low) in
    ap (λ n. take n rest) next ∙ take-suc rest (k - start) null_value inside
    ∙ ap (λ v. take (k - start) rest ++ v ∷ []) (get_or-drop start vs (k - start) null_value ∙ ap (value_at vs) place)

-- no values have no texts
pub items_none : (type : TypeShape) (vs : List PlainValue) (start : ℕ) (old : List ℕ) → ItemsWritten type vs start start old old
items_none type vs start old =
    let none : 0 ≡ start - start = omega arith in
    ([], subst (λ n. Each (IsItemText type) (take n (drop start vs)) []) none tt, sym (append-nil old))

-- one more item
pub items_more : (type : TypeShape) (vs : List PlainValue) (start k : ℕ) (old out before new : List ℕ) → start ≤ k → k < length vs → ItemsWritten type vs start k old out → before ≡ out ++ separator (k - start)
    → Appends (IsItemText type (value_at vs k)) before new → ItemsWritten type vs start (k + 1) old new
items_more type vs start k old out before new low high standing_text parted put =
    let texts = standing_text.0 in
    let text = put.0 in
    let long : length texts ≡ k - start = sym (each_long (IsItemText type) (values_from vs start k) texts standing_text.1) ∙ length-values_from vs start k (omega (arith, high)) in
    let each = subst (λ xs. Each (IsItemText type) xs (texts ++ text ∷ [])) (sym (values_next vs start k low high)) (each_more (IsItemText type) (values_from vs start k) texts (value_at vs k) text standing_text.1 put.1) in
    (texts ++ text ∷ [], each, put.2 ∙ ap (λ t. t ++ text) (parted ∙ ap (λ t. t ++ separator (k - start)) standing_text.2) ∙ joined_after texts text old (k - start) long)

-- the text between two brackets
between : (old first inner last out new : List ℕ) → out ≡ old ++ first ++ inner → new ≡ out ++ last → new ≡ old ++ (first ++ inner ++ last)
between old first inner last out new is all =
    all ∙ ap (λ t. t ++ last) (is ∙ append_assoc old first inner) ∙ append_assoc old (first ++ inner) last

-- all items
pub items_done : (type : TypeShape) (vs : List PlainValue) (start k end : ℕ) (old out new : List ℕ) → k ≡ end → ItemsWritten type vs start k (old ++ codes "[") out → new ≡ out ++ codes "]"
    → Appends (IsListOf type (values_from vs start end)) old new
items_done type vs start k end old out new at standing_text all =
    let texts = standing_text.0 in
    let each = subst (λ n. Each (IsItemText type) (values_from vs start n) texts) at standing_text.1 in
    (codes "[" ++ joined texts ++ codes "]", (texts, each, refl), between old (codes "[") (joined texts) (codes "]") out new standing_text.2 all)

-- texts of a list's items are those of its values, each by the child's type
items_are : (fields : FieldTree) (child : Column) (vs : List PlainValue) (texts : List (List ℕ)) → AreOf fields (child ∷ []) → Each (IsItemText child.data_type) vs texts → AreItemTexts fields (values_of vs) texts
items_are none child vs texts typed h = absurd typed
items_are (more head children rest) child [] [] typed h = refl
items_are (more head children rest) child [] (t ∷ texts) typed h = absurd h
items_are (more head children rest) child (v ∷ vs) [] typed h = absurd h
items_are (more head children rest) child (v ∷ vs) (t ∷ texts) typed h = (subst (λ type. IsItemText type v t) typed.0 h.0, items_are (more head children rest) child vs texts typed h.1)

-- a text of the items is a text of the list
pub list_text : (c child : Column) (i start stop : ℕ) (null text : List ℕ) → ListsItems c i start stop child → IsListOf child.data_type (values_from child.resolved start stop) text → IsText null c.data_type (value_at c.resolved i) text
list_text c child i start stop null text h list =
    let is : IsText null c.data_type (list_value (values_of (values_from child.resolved start stop))) text =
    (list.0, items_are c.data_type.children child (values_from child.resolved start stop) list.0 h.typed list.1, list.2) in
    subst (λ v. IsText null c.data_type v text) (sym h.same) is

-- a text of the number is a text of the value
pub number_text : (null : List ℕ) (type from : TypeShape) (v : PlainValue) (z : ℤ) (text : List ℕ) → v ≡ int_value z → from ≡ type → IsNumberText from.tag z text → IsText null type v text
number_text null type from v z text holds same is =
    subst (λ w. IsText null type w text) (sym holds) (subst (λ (x : TypeShape). IsNumberText x.tag z text) same is)

-- a text of the parts is a text of the struct
pub struct_text : (null : List ℕ) (type : TypeShape) (fields : FieldTree) (values : List PlainValue) (v : PlainValue) (text : List ℕ) → v ≡ struct_value (values_of values) → fields ≡ type.children → IsStructOf fields values text → IsText null type v text
struct_text null type fields values v text holds same is =
    let own : IsText null type (struct_value (values_of values)) text = (is.0, subst (λ fs. ArePartTexts fs (values_of values) is.0) same is.1, is.2) in
    subst (λ w. IsText null type w text) (sym holds) own

-- a weaker fact about the text that was appended
pub appends_weaker : (P Q : List ℕ → Type 0) (old new : List ℕ) → ((text : List ℕ) → P text → Q text) → Appends P old new → Appends Q old new
appends_weaker P Q old new f h = (h.0, f h.0 h.1, h.2)

-- ---- the values of a struct

-- there are as many fields as columns
pub as_many : (fs : List Field) (cs : List Column) → AreOf (fields_view fs) cs → length fs ≡ length cs
as_many [] [] h = refl
as_many [] (c ∷ cs) h = absurd h
as_many (f ∷ fs) [] h = absurd h
as_many (f ∷ fs) (c ∷ cs) h = ap suc (as_many fs cs h.2)

-- texts of the first k fields follow the old text
abbrev pub PartsWritten : List Field → List Column → ℕ → ℕ → List ℕ → List ℕ → Type 0
PartsWritten fs cs place k old out = (texts : List (List ℕ)) × ArePartTexts (fields_view (take k fs)) (values_of (resolved_row_of (take k cs) place)) texts × (out ≡ old ++ joined texts)

part_text : (head : FieldHeader) (children : FieldTree) (d c : Column) (place : ℕ) (own text : List ℕ) → d.data_type ≡ record { tag = head.tag; children = children } → c ≡ d → IsItemText c.data_type (value_at c.resolved place) own → text ≡ head.name ++ codes "=" ++ own
    → (w : List ℕ) × IsText (codes "null") (record { tag = head.tag; children = children }) (value_at d.resolved place) w × (text ≡ head.name ++ codes "=" ++ w)
part_text head children d c place own text typed same is named =
    (own, subst (λ type. IsItemText type (value_at d.resolved place) own) typed (subst (λ (x : Column). IsItemText x.data_type (value_at x.resolved place) own) same is), named)

parts_next : (fs : List Field) (cs : List Column) (place k : ℕ) (f : Field) (c : Column) (texts : List (List ℕ)) (own text : List ℕ) → AreOf (fields_view fs) cs → k < length cs → f ≡ get_or fs k f → c ≡ get_or cs k c
    → ArePartTexts (fields_view (take k fs)) (values_of (resolved_row_of (take k cs) place)) texts
    → IsItemText c.data_type (value_at c.resolved place) own → text ≡ (field_view f).head.name ++ codes "=" ++ own
    → ArePartTexts (fields_view (take (suc k) fs)) (values_of (resolved_row_of (take (suc k) cs) place)) (texts ++ text ∷ [])
parts_next [] [] place k f c texts own text typed h p q standing_text is named = absurd (omega arith)
parts_next [] (d ∷ ds) place k f c texts own text typed h p q standing_text is named = absurd typed
parts_next (g ∷ gs) [] place k f c texts own text typed h p q standing_text is named = absurd typed
parts_next (g ∷ gs) (d ∷ ds) place zero f c [] own text typed h p q standing_text is named =
    (part_text (field_view g).head (field_view g).children d c place own text typed.0 q is (named ∙ ap (λ x. (field_view x).head.name ++ codes "=" ++ own) p), refl)
parts_next (g ∷ gs) (d ∷ ds) place zero f c (t ∷ texts) own text typed h p q standing_text is named = absurd (cc standing_text)
parts_next (g ∷ gs) (d ∷ ds) place (suc k) f c [] own text typed h p q standing_text is named = absurd standing_text
parts_next (g ∷ gs) (d ∷ ds) place (suc k) f c (t ∷ texts) own text typed h p q standing_text is named =
    (standing_text.0, parts_next gs ds place k f c texts own text typed.2 (omega (arith, h)) p q standing_text.1 is named)

parts_long : (fs : List Field) (cs : List Column) (place k : ℕ) (texts : List (List ℕ)) → AreOf (fields_view fs) cs → k ≤ length cs → ArePartTexts (fields_view (take k fs)) (values_of (resolved_row_of (take k cs) place)) texts → length texts ≡ k
parts_long fs cs place zero texts typed h standing_text = ap length standing_text
parts_long [] [] place (suc k) texts typed h standing_text = absurd (omega (arith, h))
parts_long [] (d ∷ ds) place (suc k) texts typed h standing_text = absurd typed
parts_long (g ∷ gs) [] place (suc k) texts typed h standing_text = absurd typed
parts_long (g ∷ gs) (d ∷ ds) place (suc k) [] typed h standing_text = absurd standing_text
parts_long (g ∷ gs) (d ∷ ds) place (suc k) (t ∷ texts) typed h standing_text = ap suc (parts_long gs ds place k texts typed.2 (omega (arith, h)) standing_text.1)

-- no fields have no texts
pub parts_none : (fs : List Field) (cs : List Column) (place : ℕ) (old : List ℕ) → PartsWritten fs cs place 0 old old
parts_none fs cs place old = ([], refl, sym (append-nil old))

-- one more field: its name, and a text of its value
pub parts_more : (fs : List Field) (cs : List Column) (place k : ℕ) (f : Field) (c : Column) (old out before named new : List ℕ) → AreOf (fields_view fs) cs → k < length cs → f ≡ get_or fs k f → c ≡ get_or cs k c → PartsWritten fs cs place k old out
    → before ≡ out ++ separator k → named ≡ before ++ (field_view f).head.name ++ codes "=" → Appends (IsItemText c.data_type (value_at c.resolved place)) named new → PartsWritten fs cs place (k + 1) old new
parts_more fs cs place k f c old out before named new typed h p q standing_text parted has put =
    let texts = standing_text.0 in
    let own = put.0 in
    let name = (field_view f).head.name in
    let text = name ++ codes "=" ++ own in
    let long = parts_long fs cs place k texts typed (omega (arith, h)) standing_text.1 in
    let next : suc k ≡ k + 1 = omega arith in
    let start = old ++ joined texts ++ separator k in
    let all = subst (λ n. ArePartTexts (fields_view (take n fs)) (values_of (resolved_row_of (take n cs) place)) (texts ++ text ∷ [])) next (parts_next fs cs place k f c texts own text typed h p q standing_text.1 put.1 refl) in (
      texts ++ text ∷ [],
      all,
      put.2 ∙ ap (λ t. t ++ own) (has ∙ ap (λ t. t ++ name ++ codes "=") (parted ∙ ap (λ t. t ++ separator k) standing_text.2))
          ∙ ap (λ t. t ++ own) (append_assoc start name (codes "=")) ∙ append_assoc start (name ++ codes "=") own ∙ joined_after texts text old k long,
    )

-- all fields
pub parts_done : (fs : List Field) (cs : List Column) (place k : ℕ) (old out new : List ℕ) → AreOf (fields_view fs) cs → length cs ≤ k → PartsWritten fs cs place k (old ++ codes "{") out → new ≡ out ++ codes "}"
    → Appends (IsStructOf (fields_view fs) (resolved_row_of cs place)) old new
parts_done fs cs place k old out new typed h standing_text all =
    let texts = standing_text.0 in
    let fields = take_all k fs (omega (arith, h, as_many fs cs typed)) in
    let columns = take_all k cs h in
    let are = subst (λ ds. ArePartTexts (fields_view fs) (values_of (resolved_row_of ds place)) texts) columns (subst (λ gs. ArePartTexts (fields_view gs) (values_of (resolved_row_of (take k cs) place)) texts) fields standing_text.1) in
    (codes "{" ++ joined texts ++ codes "}", (texts, are, refl), between old (codes "{") (joined texts) (codes "}") out new standing_text.2 all)
