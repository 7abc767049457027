-- Dictionaries have the types of the fields that give their ids, as loading needs.
use Rattle.std.proofs.Common.{◌≡◌, ℕ, zero, suc, ℤ, Bool, true, false, cond, List, [], ◌∷◌, ◌++◌, Option, Some, None, IsTrue, is_some, refl, sym, ap, ◌∙◌, subst, ⊎_elim}
use Rattle.std.specs.Prelude.{◌||◌, ◌&&◌, slice_get, option_map}
use Rattle.std.specs.List.{AllByRecursion}
use Rattle.std.specs.Ordering.{int_eq}
use Rattle.std.proofs.lemmas.Bool.{cases_Bool}
use Rattle.std.proofs.lemmas.Bool.Decides.{Decides-int_eq}
use Rattle.std.proofs.lemmas.Bool.{or_parts}
use Rattle.arrow_types.specs.DataType.{TypeId}
use Rattle.arrow_types.specs.Field.{FieldTree, none, more, fields_of, FieldShape, TypeShape}
use Rattle.arrow_types.specs.Notes.{SchemaShape}
use Rattle.arrow_types.specs.Schema.{DictionaryField, IsSchema, dictionary_fields, dictionary_of, has_encoding, is_nested}
use Rattle.arrow_types.specs.declared.field.Encoding.{Encoding}
use Rattle.arrow_data.specs.Column.{ValueList}
use Rattle.arrow_data.specs.Listed.{listed, dictionary_for}
use Rattle.arrow_data.specs.Parts.{IsOfType}
use Rattle.arrow_body_reader.specs.Sound.{AreFit}
use Rattle.arrow_body_reader.specs.Taken.{IfFlattened}
use Rattle.arrow_dict.specs.Dictionaries.{placed}
use Rattle.arrow_dict.specs.ValueTypes.{value_field, value_type_of}
use Rattle.arrow_dict.proofs.Naming.{each_named}
use Rattle.arrow_dict.proofs.Placing.{listed_here, listed_elsewhere}
use Rattle.arrow_stream_reader.specs.Batch.{field_of_type, value_fields}
use Rattle.arrow_stream_reader.specs.State.{StreamState, fields_in}
use Rattle.arrow_stream_reader.specs.Views.{IsFit}

-- CONDITIONS ON ALL DICTIONARY-ENCODED FIELDS

module _ (P : DictionaryField → Type 0) where
  all_left : (xs ys : List DictionaryField) → AllByRecursion P (xs ++ ys) → AllByRecursion P xs
  all_left [] ys h = tt
  all_left (x ∷ xs) ys h = (h.0, all_left xs ys h.1)

  all_right : (xs ys : List DictionaryField) → AllByRecursion P (xs ++ ys) → AllByRecursion P ys
  all_right [] ys h = h
  all_right (x ∷ xs) ys h = all_right xs ys h.1

  all_both : (xs ys : List DictionaryField) → AllByRecursion P xs → AllByRecursion P ys → AllByRecursion P (xs ++ ys)
  all_both [] ys h g = g
  all_both (x ∷ xs) ys h g = (h.0, all_both xs ys h.1 g)

  all_places : (xs : List DictionaryField) → ((i : ℕ) (x : DictionaryField) → slice_get xs i ≡ Some x → P x) → AllByRecursion P xs
  all_places [] h = tt
  all_places (x ∷ xs) h = (h zero x refl, all_places xs (λ i y e. h (suc i) y e))

-- the dictionary field of a field with this encoding, if it has one
abbrev own_at : Option Encoding → TypeId → FieldTree → List DictionaryField
own_at o t c = elim o [ None ↦ [] | Some e ↦ record { id = e.id; value_type = record { tag = t; children = c } } ∷ [] ]

-- NO ENCODING BELOW A DICTIONARY

abbrev IsFlat : DictionaryField → Type 0
IsFlat d = has_encoding d.value_type.children ≡ false

own_flat : (o : Option Encoding) (t : TypeId) (c : FieldTree) → (is_some o && has_encoding c) ≡ false → AllByRecursion IsFlat (own_at o t c)
own_flat None t c e = tt
own_flat (Some x) t c e = (e, tt)

all_flat : (f : FieldTree) → is_nested f ≡ false → AllByRecursion IsFlat (dictionary_fields f)
all_flat none n = tt
all_flat (more h c r) n =
    let own = or_parts (is_some h.encoding && has_encoding c || is_nested c) (is_nested r) n in
    let both = or_parts (is_some h.encoding && has_encoding c) (is_nested c) own.0 in
    all_both IsFlat (dictionary_of h c ++ dictionary_fields c) (dictionary_fields r)
    (all_both IsFlat (dictionary_of h c) (dictionary_fields c) (own_flat h.encoding h.tag c both.0) (all_flat c both.1)) (all_flat r own.1)

first_flat : (b : Bool) (d : DictionaryField) (o : Option TypeShape) (t : TypeShape) → IsFlat d → (o ≡ Some t → has_encoding t.children ≡ false) →
    cond b (Some d.value_type) o ≡ Some t → has_encoding t.children ≡ false
first_flat true d o t here next e =
    let same : d.value_type ≡ t = cc in
    subst (λ (x : TypeShape). has_encoding x.children ≡ false) same here
first_flat false d o t here next e = next e

named_flat : (ds : List DictionaryField) (id : ℤ) (t : TypeShape) → AllByRecursion IsFlat ds → value_type_of ds id ≡ Some t → has_encoding t.children ≡ false
named_flat [] id t all e = absurd (cc)
named_flat (d ∷ ds) id t all e = first_flat (int_eq d.id id) d (value_type_of ds id) t all.0 (named_flat ds id t all.1) e

-- the values of a dictionary have no encoding below
pub values_flat : (f : FieldTree) (id : ℤ) (t : TypeShape) → IsSchema f → value_type_of (dictionary_fields f) id ≡ Some t → has_encoding t.children ≡ false
values_flat f id t s e = named_flat (dictionary_fields f) id t (all_flat f s.bounded.flat) e

-- FIT FIELDS

if_flattened : (o : Option Encoding) (P : Type 0) → P → IfFlattened o P
if_flattened None P p = p
if_flattened (Some e) P p = tt

flat_node : (ds : List (ℤ × ValueList)) (o : Option Encoding) (t : TypeShape) → is_some o ≡ false → IsOfType t (dictionary_for ds o)
flat_node ds None t e = tt
flat_node ds (Some x) t e = absurd (cc)

-- fields without an encoding fit all dictionaries
pub flat_fit : (ds : List (ℤ × ValueList)) (f : FieldTree) → has_encoding f ≡ false → AreFit ds f
flat_fit ds none e = tt
flat_fit ds (more h c r) e =
    let own = or_parts (is_some h.encoding || has_encoding c) (has_encoding r) e in
    let both = or_parts (is_some h.encoding) (has_encoding c) own.0 in (
      record { typed = flat_node ds h.encoding (record { tag = h.tag; children = c }) both.0; flat = λ _. both.1 },
      if_flattened h.encoding (AreFit ds c) (flat_fit ds c both.1),
      flat_fit ds r own.1,
    )

-- so does the field of a dictionary's values
pub value_fit : (ds : List (ℤ × ValueList)) (t : TypeShape) → has_encoding t.children ≡ false → AreFit ds (fields_of (value_field t ∷ []))
value_fit ds t e = (record { typed = tt; flat = λ h. e }, flat_fit ds t.children e, tt)

-- a dictionary that is listed for the id of a field has the field's value type
abbrev IsTyped : List (ℤ × ValueList) → DictionaryField → Type 0
IsTyped ds d = IsOfType d.value_type (listed ds d.id)

typed_node : (ds : List (ℤ × ValueList)) (o : Option Encoding) (t : TypeId) (c : FieldTree) → AllByRecursion (IsTyped ds) (own_at o t c) →
    IsOfType (record { tag = t; children = c }) (dictionary_for ds o)
typed_node ds None t c h = tt
typed_node ds (Some e) t c h = h.0

flat_below : (o : Option Encoding) (c : FieldTree) → (is_some o && has_encoding c) ≡ false → IsTrue (is_some o) → has_encoding c ≡ false
flat_below None c e h = absurd (cc)
flat_below (Some x) c e h = e

typed_fit : (ds : List (ℤ × ValueList)) (f : FieldTree) → is_nested f ≡ false → AllByRecursion (IsTyped ds) (dictionary_fields f) → AreFit ds f
typed_fit ds none n h = tt
typed_fit ds (more h c r) n all =
    let own = or_parts (is_some h.encoding && has_encoding c || is_nested c) (is_nested r) n in
    let both = or_parts (is_some h.encoding && has_encoding c) (is_nested c) own.0 in
    let first = all_left (IsTyped ds) (dictionary_of h c ++ dictionary_fields c) (dictionary_fields r) all in
    let next = all_right (IsTyped ds) (dictionary_of h c ++ dictionary_fields c) (dictionary_fields r) all in
    let here = all_left (IsTyped ds) (dictionary_of h c) (dictionary_fields c) first in
    let below = all_right (IsTyped ds) (dictionary_of h c) (dictionary_fields c) first in (
      record { typed = typed_node ds h.encoding h.tag c here; flat = flat_below h.encoding c both.0 },
      if_flattened h.encoding (AreFit ds c) (typed_fit ds c both.1 below),
      typed_fit ds r own.1 next,
    )

of_type : (o : Option ValueList) (t : TypeShape) → ((d : ValueList) → o ≡ Some d → d.data_type ≡ t) → IsOfType t o
of_type None t h = tt
of_type (Some d) t h = h d refl

-- the dictionaries of a stream fit its schema
pub state_fit : (s : StreamState) → IsFit s → IsSchema (fields_in s.schema) → AreFit s.dictionaries (fields_in s.schema)
state_fit s fit known =
    let fields = dictionary_fields (fields_in s.schema) in
    typed_fit s.dictionaries (fields_in s.schema) known.bounded.flat
    (all_places (IsTyped s.dictionaries) fields (λ i d e. of_type (listed s.dictionaries d.id) d.value_type
    (λ v there. fit.typed d.id d.value_type v (each_named fields i d known.one_type e) there)))

-- they still fit after a dictionary is placed that has the type of its id
pub placed_fit : (s : StreamState) (id : ℤ) (t : TypeShape) (d : ValueList) (ds : List (ℤ × ValueList)) → IsFit s →
    value_type_of (dictionary_fields (fields_in s.schema)) id ≡ Some t → d.data_type ≡ t → ds ≡ placed id d s.dictionaries →
    IsFit (record { schema = s.schema; dictionaries = ds })
placed_fit s id t d ds fit named same is = record {
  typed = λ other u v e there.
      ⊎_elim
      (λ (h : int_eq other id ≡ true).
      let one : other ≡ id = (Decides-int_eq other id).0 h in
      let here : listed ds id ≡ Some d = ap (λ x. listed x id) is ∙ listed_here s.dictionaries id d in
      let found : Some d ≡ Some v = sym here ∙ ap (listed ds) (sym one) ∙ there in
      let types : Some t ≡ Some u = sym named ∙ ap (value_type_of (dictionary_fields (fields_in s.schema))) (sym one) ∙ e in
      let a : d ≡ v = cc in
      let b : t ≡ u = cc in
      ap (λ (x : ValueList). x.data_type) (sym a) ∙ same ∙ b)
      (λ (h : int_eq other id ≡ false).
      let apart : other ≡ id → ⊥ = λ one. (let yes : int_eq other id ≡ true = (Decides-int_eq other id).1 one in cc) in
      fit.typed other u v e (sym (listed_elsewhere s.dictionaries id other d apart) ∙ ap (λ x. listed x other) (sym is) ∙ there))
      (cases_Bool (int_eq other id));
}

-- THE FIELD OF A DICTIONARY'S VALUES

-- a field was found for this type
pub record IsFound (o : Option TypeShape) (f : FieldShape) : Type 0 where
  pub type : TypeShape
  pub named : o ≡ Some type
  pub is : f ≡ value_field type

-- a field that is found is the field of some type's values
pub found_field : (o : Option TypeShape) (f : FieldShape) → Some f ≡ option_map value_field o → IsFound o f
found_field None f e = absurd (cc)
found_field (Some t) f e = record { type = t; named = refl; is = (cc) }

-- it is the field of the dictionary's values
pub one_value_field : (schema : Option SchemaShape) (id : ℤ) (f : FieldShape) → IsFound (value_type_of (dictionary_fields (fields_in schema)) id) f →
    fields_of (f ∷ []) ≡ value_fields schema id
one_value_field schema id f h = ap (λ x. fields_of (x ∷ [])) h.is ∙ sym (ap field_of_type h.named)

-- without dictionaries such a field is as loading needs
pub found_fit : (o : Option TypeShape) (f : FieldShape) → IsFound o f → ((t : TypeShape) → o ≡ Some t → has_encoding t.children ≡ false) → AreFit [] (fields_of (f ∷ []))
found_fit o f h flat = subst (λ x. AreFit [] (fields_of (x ∷ []))) (sym h.is) (value_fit [] h.type (flat h.type h.named))
