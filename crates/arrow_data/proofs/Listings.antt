-- Which dictionaries every array lists, by the ids and the types of its fields.
use Rattle.std.proofs.Common.{◌≡◌, ◌||◌, ℤ, false, List, [], ◌∷◌, ◌++◌, map, is_some, IsTrue, Option, None, Some, refl, sym, ap, ◌∙◌, subst}
use Rattle.std.proofs.lemmas.Bool.{false≢true, or_parts}
use Rattle.std.proofs.lemmas.List.{map-append, append-nil}
use Rattle.std.specs.List.{AllByRecursion}
use Rattle.arrow_types.specs.Field.{FieldTree, FieldHeader, none, more, TypeShape}
use Rattle.arrow_types.specs.Schema.{dictionary_fields, dictionary_of, has_encoding}
use Rattle.arrow_types.specs.declared.field.Encoding.{Encoding}
use Rattle.arrow_data.specs.Column.{Column, ValueList, AreOf, IsColumn, IsValueList, column_dictionaries, field_of_listed, listed_of}
use Rattle.arrow_layout.specs.Form.{HasFieldsOf}
use Rattle.arrow_data.specs.Node.{IsFormat}
use Rattle.arrow_data.specs.declared.buffers.Ints.{Ints}
use Rattle.arrow_layout.specs.declared.form.Form.{Form}
use Rattle.arrow_layout.specs.declared.form.Form.TheVariants as forms

-- a field that is not dictionary-encoded refers to no dictionary of its own
encoding_says : (head : FieldHeader) (children : FieldTree) (e : Option Encoding) → head.encoding ≡ e → is_some e ≡ false → dictionary_of head children ≡ []
encoding_says head children None is h = rw is refl
encoding_says head children (Some e) is h = absurd (false≢true (sym h))

plain_says : (head : FieldHeader) (children : FieldTree) → is_some head.encoding ≡ false → dictionary_of head children ≡ []
plain_says head children h = encoding_says head children head.encoding refl h

-- fields without an encoding on any level refer to no dictionaries
none_listed : (fields : FieldTree) → has_encoding fields ≡ false → dictionary_fields fields ≡ []
none_listed none h = refl
none_listed (more head children rest) h =
    let others = or_parts (is_some head.encoding || has_encoding children) (has_encoding rest) h in
    let own = or_parts (is_some head.encoding) (has_encoding children) others.0 in
    λ i. plain_says head children own.0 i ++ none_listed children own.1 i ++ none_listed rest others.1 i

-- the dictionaries that one field and the fields below it refer to
own_listed : (head : FieldHeader) (children : FieldTree) (e : Option Encoding) → head.encoding ≡ e → (IsTrue (is_some e) → has_encoding children ≡ false)
    → dictionary_of head children ++ dictionary_fields children ≡ column_dictionaries e (record { tag = head.tag; children = children })
own_listed head children None is flat = rw is refl
own_listed head children (Some e) is flat = rw (is, none_listed children (flat refl)) refl

-- the dictionaries of columns are listed for their fields
pub fields_listed : (fields : FieldTree) (cs : List Column) → AreOf fields cs → AllByRecursion IsColumn cs → map field_of_listed (listed_of cs) ≡ dictionary_fields fields
fields_listed none [] typed known = refl
fields_listed none (c ∷ cs) typed known = absurd typed
fields_listed (more head children rest) [] typed known = absurd typed
fields_listed (more head children rest) (c ∷ cs) typed known =
    let below = ap (λ (t : TypeShape). t.children) typed.0 in
    let flat : IsTrue (is_some head.encoding) → has_encoding children ≡ false = λ some. subst (λ x. has_encoding x ≡ false) below (known.0.flat (subst (λ e. IsTrue (is_some e)) (sym typed.1) some)) in
    let here : map field_of_listed c.dictionaries ≡ dictionary_of head children ++ dictionary_fields children =
    known.0.lists ∙ (λ i. column_dictionaries (typed.1 i) (typed.0 i)) ∙ sym (own_listed head children head.encoding refl flat) in
    map-append field_of_listed c.dictionaries (listed_of cs) ∙ (λ i. here i ++ fields_listed rest cs typed.2 known.1 i)

-- those of the one child of lists
pub child_listed : (fields : FieldTree) (child : Column) → AreOf fields (child ∷ []) → IsColumn child → map field_of_listed child.dictionaries ≡ dictionary_fields fields
child_listed fields child typed known = ap (map field_of_listed) (sym (append-nil child.dictionaries)) ∙ fields_listed fields (child ∷ []) typed (known, tt)

-- a form without children refers to no dictionary
pub leaf_listed : (form leaf : Form) (fields : FieldTree) → HasFieldsOf form fields → form ≡ leaf → (HasFieldsOf leaf fields → fields ≡ none) → [] ≡ dictionary_fields fields
leaf_listed form leaf fields has is none_of = sym (ap dictionary_fields (none_of (subst (λ f. HasFieldsOf f fields) is has)))

-- nor does a form of numbers
pub number_listed : (form : Form) (n : Ints) (fields : FieldTree) → IsFormat form n → HasFieldsOf form fields → [] ≡ dictionary_fields fields
number_listed forms.Nulls n fields format has = absurd format
number_listed forms.Bits n fields format has = absurd format
number_listed (forms.Numbers number) n fields format has = sym (ap dictionary_fields has)
number_listed (forms.Bytes w) n fields format has = absurd format
number_listed (forms.Texts w) n fields format has = absurd format
number_listed (forms.FixedBytes w) n fields format has = absurd format
number_listed (forms.Lists w) n fields format has = absurd format
number_listed forms.Structs n fields format has = absurd format

-- a property of the dictionaries of two lists is one of those of both lists joined
both_known : (xs ys : List (ℤ × ValueList)) → AllByRecursion (λ (d : ℤ × ValueList). IsValueList d.1) xs → AllByRecursion (λ (d : ℤ × ValueList). IsValueList d.1) ys
    → AllByRecursion (λ (d : ℤ × ValueList). IsValueList d.1) (xs ++ ys)
both_known [] ys left right = right
both_known (x ∷ xs) ys left right = (left.0, both_known xs ys left.1 right)

-- each dictionary of columns satisfies `IsValueList`
pub all_listed_known : (cs : List Column) → AllByRecursion IsColumn cs → AllByRecursion (λ (d : ℤ × ValueList). IsValueList d.1) (listed_of cs)
all_listed_known [] known = tt
all_listed_known (c ∷ cs) known = both_known c.dictionaries (listed_of cs) known.0.listed_known (all_listed_known cs known.1)
