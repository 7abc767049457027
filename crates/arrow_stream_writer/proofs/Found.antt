-- The dictionaries of a whole batch.
use Rattle.std.proofs.Common.{◌≡◌, ◌&&◌, ℕ, suc, ℤ, Bool, true, false, cond, List, [], ◌∷◌, map, Option, Some, None, Ok, Err, refl, sym, ap, ◌∙◌, subst}
use Rattle.std.specs.Coded.{coded_list}
use Rattle.std.specs.List.{AllByRecursion, list_all}
use Rattle.std.specs.Option.{unwrap_or}
use Rattle.std.specs.Ordering.{int_eq}
use Rattle.std.specs.Prelude.{option_map, slice_get}
use Rattle.arrow_types.specs.DataType.{null}
use Rattle.arrow_types.specs.Field.{none}
use Rattle.arrow_types.specs.Equality.{is_equal_decides}
use Rattle.arrow_types.specs.Schema.{DictionaryField, dictionary_fields, dictionary_ids}
use Rattle.arrow_data.specs.Batch.{IsTable, Table}
use Rattle.arrow_data.specs.Column.{IsColumn, ValueList, listed_of}
use Rattle.arrow_layout.specs.PlainValue.{PlainValue}
use Rattle.arrow_layout.specs.Stored.{value_code}
use Rattle.arrow_data.specs.Column.{field_of_listed}
use Rattle.arrow_data.specs.Listed.{listed}
use Rattle.arrow_data.specs.Parts.{values_in}
use Rattle.arrow_data.proofs.Listings.{fields_listed}
use Rattle.arrow_dict.specs.Choice.{same_list}
use Rattle.arrow_dict.specs.ValueTypes.{value_type_of}
use Rattle.arrow_dict.proofs.Naming.{each_named}
use Rattle.arrow_stream_laws.specs.Plan.{value_type}
use Rattle.arrow_stream_laws.specs.Rows.{has_one_list, list_of}
use Rattle.arrow_stream_laws.proofs.Lists.{all_once}
use Rattle.arrow_stream_writer.specs.Lists.{AreFirst, AreFound, AreListsOf, AreNamed, FindsLists, Gathers, dictionary_for, first_values}
use Rattle.arrow_stream_writer.specs.declared.lists.ListsFault.{ListsFault}
use Rattle.arrow_stream_writer.specs.declared.lists.ListsFault.TheVariants.{DictionariesDiffer, Memory}
use Rattle.arrow_stream_writer.proofs.Finding.{HasFirst, all_there, nothing_found}
use Rattle.arrow_stream_writer.proofs.Gathering.{columns_named}

-- the values that are listed first for an id, or none if none are listed
first_is : (xs : List (ℤ × ValueList)) (id : ℤ) → values_in (listed xs id) ≡ unwrap_or (first_values xs id) []
first_is [] id = refl
first_is (x ∷ xs) id = under_test (int_eq x.0 id) (listed xs id) (first_values xs id) (first_is xs id) where
  under_test : (b : Bool) (l : Option ValueList) (o : Option (List PlainValue)) → values_in l ≡ unwrap_or o [] → values_in (cond b (Some x.1) l) ≡ unwrap_or (cond b (Some x.1.values) o) []
  under_test true l o h = refl
  under_test false l o h = h

list_is : (xs : List (ℤ × ValueList)) (id : ℤ) (v : List PlainValue) → first_values xs id ≡ Some v → values_in (listed xs id) ≡ v
list_is xs id v h = first_is xs id ∙ ap (λ o. unwrap_or o []) h

same_as_itself : (v : List PlainValue) → same_list v v ≡ true
same_as_itself v = (is_equal_decides (coded_list value_code) v v).1 refl

both_true : (a b : Bool) → a ≡ true → b ≡ true → (a && b) ≡ true
both_true true b h g = g
both_true false b h g = h

first_true : (a b : Bool) → (a && b) ≡ true → (a ≡ true) × (b ≡ true)
first_true true b h = (refl, h)
first_true false b h = absurd (cc)

-- all dictionaries are equal to the first of their ids
all_same : (all xs : List (ℤ × ValueList)) → AreFirst all xs → list_all (λ (d : ℤ × ValueList). same_list (values_in (listed all d.0)) d.1.values) xs ≡ true
all_same all [] h = refl
all_same all (x ∷ xs) h =
    both_true (same_list (values_in (listed all x.0)) x.1.values) (list_all (λ (d : ℤ × ValueList). same_list (values_in (listed all d.0)) d.1.values) xs)
    (ap (λ v. same_list v x.1.values) (list_is all x.0 x.1.values h.0) ∙ same_as_itself x.1.values) (all_same all xs h.1)

all_first : (all xs : List (ℤ × ValueList)) → AllByRecursion (λ (d : ℤ × ValueList). HasFirst all d.0) xs
    → list_all (λ (d : ℤ × ValueList). same_list (values_in (listed all d.0)) d.1.values) xs ≡ true → AreFirst all xs
all_first all [] there h = tt
all_first all (x ∷ xs) there h =
    let parts = first_true (same_list (values_in (listed all x.0)) x.1.values) (list_all (λ (d : ℤ × ValueList). same_list (values_in (listed all d.0)) d.1.values) xs) h in
    let same : values_in (listed all x.0) ≡ x.1.values = (is_equal_decides (coded_list value_code) (values_in (listed all x.0)) x.1.values).0 parts.0 in (
      there.0.first ∙ ap (λ v. Some v) (sym (list_is all x.0 there.0.values there.0.first) ∙ same),
      all_first all xs there.1 parts.1,
    )

-- two dictionaries of one id differ
pub lists_differ : (t : Table) → (AreFirst (listed_of t.columns) (listed_of t.columns) → ⊥) → has_one_list t ≡ false
lists_differ t differ = by_test (has_one_list t) (λ h. differ (all_first (listed_of t.columns) (listed_of t.columns) (all_there (listed_of t.columns)) h)) where
  by_test : (b : Bool) → (b ≡ true → ⊥) → b ≡ false
  by_test true f = absurd (f refl)
  by_test false f = refl

-- a proposition that holds at each index holds of all elements
all_by_place : {X : Type 0} (P : X → Type 0) (xs : List X) → ((i : ℕ) (x : X) → slice_get xs i ≡ Some x → P x) → AllByRecursion P xs
all_by_place P [] f = tt
all_by_place P (x ∷ xs) f = (f 0 x refl, all_by_place P xs (λ i y h. f (suc i) y h))

-- the fields of a schema name their types
pub schema_named : (t : Table) → IsTable t → AreNamed (dictionary_fields t.schema.fields) t.columns
schema_named t table =
    let fields = dictionary_fields t.schema.fields in
    columns_named fields t.schema.fields t.columns table.typed
    (all_by_place (λ (d : DictionaryField). value_type_of fields d.id ≡ Some d.value_type) fields (λ i d at. each_named fields i d table.schema.one_type at))

all_mapped : {X Y : Type 0} (f : X → Y) (P : Y → Type 0) (xs : List X) → AllByRecursion (λ x. P (f x)) xs → AllByRecursion P (map f xs)
all_mapped f P [] h = tt
all_mapped f P (x ∷ xs) h = (h.0, all_mapped f P xs h.1)

all_changed : {X : Type 0} (P Q : X → Type 0) → ((x : X) → P x → Q x) → (xs : List X) → AllByRecursion P xs → AllByRecursion Q xs
all_changed P Q f [] h = tt
all_changed P Q f (x ∷ xs) h = (f x h.0, all_changed P Q f xs h.1)

-- what was found for all columns are the dictionaries of the batch
pub lists_found : (t : Table) (find : ℤ → Option ValueList) → IsTable t → AllByRecursion IsColumn t.columns
    → AreFound (dictionary_fields t.schema.fields) (listed_of t.columns) find → AreListsOf t find
lists_found t find table columns found = record {
  known = record { table = table; columns = columns };
  one = all_same all all found.one;
  each = all_changed (HasFirst all) (λ id. find id ≡ Some (dictionary_for t.schema.fields t id)) (λ id h. its_list id (find id) refl h) (dictionary_ids t.schema.fields) ids_there;
} where
  all : List (ℤ × ValueList)
  all = listed_of t.columns

  ids_there : AllByRecursion (HasFirst all) (dictionary_ids t.schema.fields)
  ids_there =
      all_once (HasFirst all) (map (λ (d : DictionaryField). d.id) (dictionary_fields t.schema.fields))
      (all_mapped (λ (d : DictionaryField). d.id) (HasFirst all) (dictionary_fields t.schema.fields)
      (subst (AllByRecursion (λ (d : DictionaryField). HasFirst all d.id)) (fields_listed t.schema.fields t.columns table.typed columns)
      (all_mapped field_of_listed (λ (d : DictionaryField). HasFirst all d.id) all (all_there all))))

  its_list : (id : ℤ) (o : Option ValueList) → find id ≡ o → HasFirst all id → o ≡ Some (dictionary_for t.schema.fields t id)
  its_list id None is h =
      let clash : None ≡ Some h.values = ap (option_map (λ (d : ValueList). d.values)) (sym is) ∙ found.first id ∙ h.first in
      absurd (cc)
  its_list id (Some d) is h =
      let first : first_values all id ≡ Some d.values = sym (found.first id) ∙ ap (option_map (λ (x : ValueList). x.values)) is in
      let values : d.values ≡ list_of t id = sym (list_is all id d.values first) in
      let its_type : d.data_type ≡ value_type t.schema.fields id = sym (ap (λ o. unwrap_or o (record { tag = null; children = none })) (found.typed id d is)) in
      λ i. Some (record { data_type = its_type i; values = values i })

-- if nothing was found before, what all columns give are the dictionaries of the batch
pub all_found : (t : Table) (before after : ℤ → Option ValueList) → IsTable t → AllByRecursion IsColumn t.columns → ((id : ℤ) → before id ≡ None)
    → Gathers t.columns before (Ok tt) after → AreListsOf t after
all_found t before after table columns empty gathered =
    let fields = dictionary_fields t.schema.fields in
    lists_found t after table columns (gathered fields [] (schema_named t table) (nothing_found fields before empty))

-- and a fault at the columns is a fault of the batch
pub not_found : (t : Table) (fault : ListsFault) (before after : ℤ → Option ValueList) → IsTable t → ((id : ℤ) → before id ≡ None)
    → Gathers t.columns before (Err fault) after → FindsLists (Err fault) t
not_found t DictionariesDiffer before after table empty gathered =
    let fields = dictionary_fields t.schema.fields in
    lists_differ t (gathered fields [] (schema_named t table) (nothing_found fields before empty))
not_found t Memory before after table empty gathered = tt
