-- The dictionaries of columns, column by column.
use Rattle.std.proofs.Common.{◌≡◌, ◌+◌, ◌<◌, ℕ, zero, suc, ℤ, List, [], ◌∷◌, ◌++◌, length, take, drop, get_or, Option, Some, None, Result, Ok, Err, refl, sym, ap, ◌∙◌, subst, arith, append_assoc, map}
use Rattle.std.proofs.lemmas.List.{append-nil, take-append-drop, take_more}
use Rattle.std.specs.List.{AllByRecursion}
use Rattle.arrow_types.specs.Field.{FieldTree, none, more, TypeShape}
use Rattle.arrow_types.specs.Schema.{DictionaryField, dictionary_fields, dictionary_of}
use Rattle.arrow_types.specs.declared.field.Encoding.{Encoding}
use Rattle.arrow_data.specs.Column.{AreOf, Column, HasDictionary, IsColumn, ValueList, column_dictionaries, field_of_listed, listed_of}
use Rattle.arrow_dict.specs.ValueTypes.{value_type_of}
use Rattle.arrow_stream_writer.specs.Lists.{AddsList, AllNamed, AreFirst, AreFound, AreNamed, Gathers, HaveBelow, IsNamedBy}
use Rattle.arrow_stream_writer.specs.declared.lists.ListsFault.{ListsFault}
use Rattle.arrow_stream_writer.specs.declared.lists.ListsFault.TheVariants.{DictionariesDiffer, Memory}
use Rattle.arrow_stream_laws.proofs.Lists.{all_left, all_right}
use Rattle.arrow_stream_writer.proofs.Finding.{beginning_first}

-- a proposition that holds of all elements holds of one of them
pub all_at : {X : Type 0} (P : X → Type 0) (xs : List X) (i : ℕ) (d x : X) → AllByRecursion P xs → i < length xs → x ≡ get_or xs i d → P x
all_at P [] i d x all h is = absurd (omega arith)
all_at P (y ∷ xs) zero d x all h is = subst P (sym is) all.0
all_at P (y ∷ xs) (suc i) d x all h is = all_at P xs i d x all.1 (omega arith) is

-- the dictionaries of columns and of those after them
pub listed_both : (xs ys : List Column) → listed_of (xs ++ ys) ≡ listed_of xs ++ listed_of ys
listed_both [] ys = refl
listed_both (x ∷ xs) ys = ap (λ r. x.dictionaries ++ r) (listed_both xs ys) ∙ sym (append_assoc x.dictionaries (listed_of xs) (listed_of ys))

-- the dictionaries of the first columns were found
abbrev pub AreGathered : List Column → ℕ → (ℤ → Option ValueList) → (ℤ → Option ValueList) → Type 0
AreGathered cs i before now = (fields : List DictionaryField) (listed : List (ℤ × ValueList)) → AreNamed fields cs
    → AreFound fields listed before → AreFound fields (listed ++ listed_of (take i cs)) now

-- the dictionaries of no column
pub none_gathered : (cs : List Column) (find : ℤ → Option ValueList) → AreGathered cs 0 find find
none_gathered cs find fields listed named found = subst (λ l. AreFound fields l find) (sym (append-nil listed)) found

-- the dictionaries that are listed up to one column, and for it
one_more : (cs : List Column) (i : ℕ) (c : Column) (listed : List (ℤ × ValueList)) → i < length cs → c ≡ get_or cs i c
    → (listed ++ listed_of (take i cs)) ++ listed_of (c ∷ []) ≡ listed ++ listed_of (take (i + 1) cs)
one_more cs i c listed h is =
    append_assoc listed (listed_of (take i cs)) (listed_of (c ∷ []))
    ∙ ap (λ r. listed ++ r) (sym (listed_both (take i cs) (c ∷ [])) ∙ ap (λ x. listed_of (take i cs ++ x ∷ [])) is ∙ ap listed_of (sym (take_more cs i c h)))

-- the dictionaries of one more column
pub more_gathered : (cs : List Column) (i : ℕ) (c : Column) (before mid after : ℤ → Option ValueList) → i < length cs → c ≡ get_or cs i c
    → AreGathered cs i before mid → Gathers (c ∷ []) mid (Ok tt) after → AreGathered cs (i + 1) before after
more_gathered cs i c before mid after h is so_far one fields listed named found =
    let its_name = all_at (λ (x : Column). IsNamedBy fields x.data_type x.encoding) cs i c c named h is in
    subst (λ l. AreFound fields l after) (one_more cs i c listed h is)
    (one fields (listed ++ listed_of (take i cs)) (its_name, tt) (so_far fields listed named found))

-- a fault at one column is a fault of all
pub stops_at : (cs : List Column) (i : ℕ) (c : Column) (fault : ListsFault) (before mid after : ℤ → Option ValueList) → i < length cs → c ≡ get_or cs i c
    → AreGathered cs i before mid → Gathers (c ∷ []) mid (Err fault) after → Gathers cs before (Err fault) after
stops_at cs i c Memory before mid after h is so_far one = tt
stops_at cs i c DictionariesDiffer before mid after h is so_far one = λ fields listed named found all.
    let its_name = all_at (λ (x : Column). IsNamedBy fields x.data_type x.encoding) cs i c c named h is in
    let start = (listed ++ listed_of (take i cs)) ++ listed_of (c ∷ []) in
    let rest = listed_of (drop (i + 1) cs) in
    let parts : listed ++ listed_of cs ≡ start ++ rest =
    ap (λ xs. listed ++ listed_of xs) (sym (take-append-drop (i + 1) cs)) ∙ ap (λ r. listed ++ r) (listed_both (take (i + 1) cs) (drop (i + 1) cs))
    ∙ sym (append_assoc listed (listed_of (take (i + 1) cs)) rest) ∙ ap (λ l. l ++ rest) (sym (one_more cs i c listed h is)) in
    one fields (listed ++ listed_of (take i cs)) (its_name, tt) (so_far fields listed named found)
    (beginning_first start rest (subst (λ l. AreFirst l l) parts all))

-- the dictionary of an encoded column is the only one that it lists
pub one_gathers : (c : Column) (e : Encoding) (d : ValueList) (before after : ℤ → Option ValueList) (answer : Result (Unit {0}) ListsFault) → HasDictionary c d → c.encoding ≡ Some e
    → AddsList e.id d before answer after → Gathers (c ∷ []) before answer after
one_gathers c e d before after answer has is added = by_answer answer added where
  its_list : c.dictionaries ++ [] ≡ (e.id, d) ∷ []
  its_list =
      let same : has.listed.0 ≡ e = let both : Some has.listed.0 ≡ Some e = sym has.listed.1 ∙ is in cc in
      append-nil c.dictionaries ∙ has.listed.2 ∙ ap (λ (x : Encoding). (x.id, d) ∷ []) same

  by_answer : (r : Result (Unit {0}) ListsFault) → AddsList e.id d before r after → Gathers (c ∷ []) before r after
  by_answer (Ok done) a = λ fields listed named found.
      let its_type : value_type_of fields e.id ≡ Some d.data_type = subst (IsNamedBy fields c.data_type) is named.0 ∙ ap (λ t. Some t) (sym has.typed) in
      subst (λ l. AreFound fields (listed ++ l) after) (sym its_list) (a fields listed its_type found)
  by_answer (Err DictionariesDiffer) a = λ fields listed named found all.
      a fields listed found (subst (λ l. AreFirst (listed ++ l) (listed ++ l)) its_list all)
  by_answer (Err Memory) a = tt

-- the types that are named for fields are named for the columns of these fields
pub columns_named : (fields : List DictionaryField) (s : FieldTree) (cs : List Column) → AreOf s cs → AllNamed fields (dictionary_fields s) → AreNamed fields cs
columns_named fields none [] typed named = tt
columns_named fields none (c ∷ cs) typed named = absurd typed
columns_named fields (more head children rest) [] typed named = absurd typed
columns_named fields (more head children rest) (c ∷ cs) typed named =
    let P = λ (d : DictionaryField). value_type_of fields d.id ≡ Some d.value_type in
    let own = all_left P (dictionary_of head children ++ dictionary_fields children) (dictionary_fields rest) named in (
      its_own head.encoding refl
          (all_left P (dictionary_of head children) (dictionary_fields children) own)
          (all_right P (dictionary_of head children) (dictionary_fields children) own),
      columns_named fields rest cs typed.2 (all_right P (dictionary_of head children ++ dictionary_fields children) (dictionary_fields rest) named),
    ) where
      its_own : (e : Option Encoding) → head.encoding ≡ e → AllNamed fields (dictionary_of head children) → AllNamed fields (dictionary_fields children) → IsNamedBy fields c.data_type c.encoding
      its_own None is own below =
          subst (IsNamedBy fields c.data_type) (sym (typed.1 ∙ is)) (subst (λ (t : TypeShape). AllNamed fields (dictionary_fields t.children)) (sym typed.0) below)
      its_own (Some e) is own below =
          let here : dictionary_of head children ≡ record { id = e.id; value_type = record { tag = head.tag; children = children } } ∷ [] = rw is refl in
          subst (IsNamedBy fields c.data_type) (sym (typed.1 ∙ is)) ((subst (AllNamed fields) here own).0 ∙ ap (λ t. Some t) (sym typed.0))

-- the dictionaries of a column that is not encoded are those of the columns below it
pub below_gathers : (c : Column) (cs : List Column) (before after : ℤ → Option ValueList) (answer : Result (Unit {0}) ListsFault) → c.encoding ≡ None → HaveBelow c cs
    → Gathers cs before answer after → Gathers (c ∷ []) before answer after
below_gathers c cs before after answer is has gathered = by_answer answer gathered where
  its_list : c.dictionaries ++ [] ≡ listed_of cs
  its_list = append-nil c.dictionaries ∙ sym has.listed

  named_below : (fields : List DictionaryField) → AreNamed fields (c ∷ []) → AreNamed fields cs
  named_below fields named = columns_named fields c.data_type.children cs has.typed (subst (IsNamedBy fields c.data_type) is named.0)

  by_answer : (r : Result (Unit {0}) ListsFault) → Gathers cs before r after → Gathers (c ∷ []) before r after
  by_answer (Ok done) g = λ fields listed named found.
      subst (λ l. AreFound fields (listed ++ l) after) (sym its_list) (g fields listed (named_below fields named) found)
  by_answer (Err DictionariesDiffer) g = λ fields listed named found all.
      g fields listed (named_below fields named) found (subst (λ l. AreFirst (listed ++ l) (listed ++ l)) its_list all)
  by_answer (Err Memory) g = tt

-- a column that is not encoded and has none below it lists no dictionary
pub none_below : (c : Column) (find : ℤ → Option ValueList) → c.dictionaries ≡ [] → Gathers (c ∷ []) find (Ok tt) find
none_below c find is fields listed named found =
    subst (λ l. AreFound fields l find) (sym (ap (λ l. listed ++ l) (append-nil c.dictionaries ∙ is) ∙ append-nil listed)) found

-- nor does a column without fields below its type
pub leaf_lists : (c : Column) → IsColumn c → c.encoding ≡ None → c.data_type.children ≡ none → c.dictionaries ≡ []
leaf_lists c known is leaf = empty c.dictionaries (known.lists ∙ ap (λ e. column_dictionaries e c.data_type) is ∙ ap dictionary_fields leaf) where
  empty : (ds : List (ℤ × ValueList)) → map field_of_listed ds ≡ [] → ds ≡ []
  empty [] h = refl
  empty (d ∷ ds) h = absurd (cc)
