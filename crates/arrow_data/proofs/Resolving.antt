-- Why the resolved values of every array are what its raw values resolve to.
use Rattle.std.proofs.Common.{◌≡◌, ◌≤◌, ◌<◌, ◌||◌, ◌+◌, ◌-◌, ◌*◌, ℕ, zero, suc, ℤ, pos, negsuc, Bool, true, false, List, [], ◌∷◌, ◌++◌, length, map, take, drop, get_or, is_some, Option, Some, None, refl, sym, ap, ◌∙◌, subst, arith, if◌then◌else◌}
use Rattle.std.proofs.lemmas.Bool.{false≢true}
use Rattle.std.proofs.lemmas.List.{take-map, drop-map}
use Rattle.std.proofs.lemmas.Option.{slice_get-get_or}
use Rattle.std.specs.List.{AllByRecursion, range_with_len}
use Rattle.std.specs.Prelude.{slice_range, option_map}
use Rattle.std.proofs.lemmas.Bool.{or_parts}
use Rattle.arrow_bits.specs.Numbers.{int_of}
use Rattle.arrow_types.specs.Field.{FieldTree, none, more, TypeShape}
use Rattle.arrow_types.specs.Schema.{dictionary_fields, has_encoding}
use Rattle.arrow_types.specs.View.{type_view}
use Rattle.arrow_types.specs.declared.field.Encoding.{Encoding}
use Rattle.arrow_layout.specs.PlainValue.{PlainValue, PlainValues, value_at, null_value, list_value, struct_value, more_values, values_of}
use Rattle.arrow_layout.specs.Fits.{AllFit, plain_type}
use Rattle.arrow_layout.specs.Form.{form_of}
use Rattle.arrow_layout.specs.Resolve.{resolve, resolve_items, resolve_parts, entry_of, before}
use Rattle.arrow_data.specs.Column.{Column, ValueList, AreOf, Agree, IsColumn, IsValueList, field_of_listed, listed_of}
use Rattle.arrow_layout.specs.Slots.{slots, list_slot, struct_slot, is_valid_at, item_place, entry_at, IsIndex}
use Rattle.arrow_layout.specs.ByteRanges.{AreBytes, bytes_of}
use Rattle.arrow_data.specs.Node.{HasOwnFields, column_by, column_of, raw_slot, resolved_slot, AreRanges, IsArray}
use Rattle.arrow_data.specs.declared.array.Array.TheInside.{Inside}
use Rattle.arrow_data.specs.declared.array.Ranges.{Ranges}
use Rattle.arrow_data.specs.declared.array.Ranges.TheVariants as ranges
use Rattle.arrow_data.proofs.Fitting.{ranges_fit}
use Rattle.arrow_data.proofs.ResolvedFitting.{no_encoding, ranges_resolved_fit}
use Rattle.arrow_layout.specs.declared.form.Form.TheVariants as forms
use Rattle.arrow_data.proofs.Listings.{all_listed_known, child_listed, fields_listed, leaf_listed, number_listed}
use Rattle.arrow_data.proofs.Shown.{length_slots}

-- slot by slot
counted : (n a : ℕ) (f : PlainValue → Option PlainValue) (raw resolved : ℕ → PlainValue) → ((j : ℕ) → j < a + n → f (raw j) ≡ Some (resolved j))
    → map f (map raw (range_with_len a n)) ≡ map Some (map resolved (range_with_len a n))
counted zero a f raw resolved h = refl
counted (suc n) a f raw resolved h = λ i. h a (omega arith) i ∷ counted n (a + 1) f raw resolved (λ j l. h j (omega arith)) i

-- if each slot resolves, all do
pub slots_resolve : (n : ℕ) (f : PlainValue → Option PlainValue) (raw resolved : ℕ → PlainValue) → ((j : ℕ) → j < n → f (raw j) ≡ Some (resolved j))
    → map f (slots n raw) ≡ map Some (slots n resolved)
slots_resolve n f raw resolved h = counted n 0 f raw resolved (λ j l. h j (omega arith))

-- null resolves to itself
pub null_resolves : (e : Option Encoding) (fields : FieldTree) (d : ℤ → List PlainValue) → resolve e fields d null_value ≡ Some null_value
null_resolves None fields d = refl
null_resolves (Some e) fields d = refl

-- a slot resolves if its value resolves when the slot is valid
pub shown_resolves : (e : Option Encoding) (fields : FieldTree) (d : ℤ → List PlainValue) (valid : Bool) (x y : PlainValue) → (valid ≡ true → resolve e fields d x ≡ Some y)
    → resolve e fields d (if valid then x else null_value) ≡ Some (if valid then y else null_value)
shown_resolves e fields d true x y h = h refl
shown_resolves e fields d false x y h = null_resolves e fields d

-- the items of a list
pub items_resolve : (fields : FieldTree) (d : ℤ → List PlainValue) (f : PlainValue → Option PlainValue) (xs ys : List PlainValue)
    → ((value : PlainValue) (others : PlainValues) → resolve_items fields d (more_values value others) ≡ before (f value) (resolve_items fields d others))
    → map f xs ≡ map Some ys → resolve_items fields d (values_of xs) ≡ Some (values_of ys)
items_resolve fields d f [] [] step p = refl
items_resolve fields d f (x ∷ xs) (y ∷ ys) step p =
    let here : f x ≡ Some y = cc in
    let there : map f xs ≡ map Some ys = cc in
    step x (values_of xs) ∙ (λ i. before (here i) (items_resolve fields d f xs ys step there i))
items_resolve fields d f [] (y ∷ ys) step p = cc
items_resolve fields d f (x ∷ xs) [] step p = cc

-- a range of values that resolve resolves
pub range_resolves : (f : PlainValue → Option PlainValue) (xs ys : List PlainValue) (a b : ℕ) → map f xs ≡ map Some ys → map f (slice_range xs a b) ≡ map Some (slice_range ys a b)
range_resolves f xs ys a b p =
    sym (ap (take (b - a)) (drop-map f a xs) ∙ take-map f (b - a) (drop a xs)) ∙ ap (λ zs. take (b - a) (drop a zs)) p ∙ ap (take (b - a)) (drop-map Some a ys) ∙ take-map Some (b - a) (drop a ys)

list_resolves : (fields : FieldTree) (child : Column) (d : ℤ → List PlainValue) (a b : ℕ) → AreOf fields (child ∷ []) → IsColumn child → Agree child.dictionaries d
    → resolve_items fields d (values_of (slice_range child.raw a b)) ≡ Some (values_of (slice_range child.resolved a b))
list_resolves none child d a b typed known agree = absurd typed
list_resolves (more head children rest) child d a b typed known agree =
    let own = known.resolves d agree in
    let coded = subst (λ e. map (resolve e child.data_type.children d) child.raw ≡ map Some child.resolved) typed.1 own in
    let all = subst (λ (t : TypeShape). map (resolve head.encoding t.children d) child.raw ≡ map Some child.resolved) typed.0 coded in
    items_resolve (more head children rest) d (resolve head.encoding children d) (slice_range child.raw a b) (slice_range child.resolved a b) (λ value others. refl) (range_resolves (resolve head.encoding children d) child.raw child.resolved a b all)

-- the values of a struct
pub at_resolves : (f : PlainValue → Option PlainValue) (xs ys : List PlainValue) (j : ℕ) → f null_value ≡ Some null_value → map f xs ≡ map Some ys → f (value_at xs j) ≡ Some (value_at ys j)
at_resolves f [] [] j z p = z
at_resolves f (x ∷ xs) (y ∷ ys) zero z p = cc
at_resolves f (x ∷ xs) (y ∷ ys) (suc j) z p = let rest : map f xs ≡ map Some ys = cc in at_resolves f xs ys j z rest
at_resolves f [] (y ∷ ys) j z p = cc
at_resolves f (x ∷ xs) [] j z p = cc

agree_left : (xs ys : List (ℤ × ValueList)) (d : ℤ → List PlainValue) → Agree (xs ++ ys) d → Agree xs d
agree_left [] ys d h = tt
agree_left (x ∷ xs) ys d h = (h.0, agree_left xs ys d h.1)

agree_right : (xs ys : List (ℤ × ValueList)) (d : ℤ → List PlainValue) → Agree (xs ++ ys) d → Agree ys d
agree_right [] ys d h = h
agree_right (x ∷ xs) ys d h = agree_right xs ys d h.1

struct_resolves : (fields : FieldTree) (cs : List Column) (d : ℤ → List PlainValue) (j : ℕ) → AreOf fields cs → AllByRecursion IsColumn cs → Agree (listed_of cs) d
    → resolve_parts fields d (values_of (map (λ values. value_at values j) (map (λ (c : Column). c.raw) cs))) ≡ Some (values_of (map (λ values. value_at values j) (map (λ (c : Column). c.resolved) cs)))
struct_resolves none [] d j typed known agree = refl
struct_resolves none (c ∷ cs) d j typed known agree = absurd typed
struct_resolves (more head children rest) [] d j typed known agree = absurd typed
struct_resolves (more head children rest) (c ∷ cs) d j typed known agree =
    let own = known.0.resolves d (agree_left c.dictionaries (listed_of cs) d agree) in
    let coded = subst (λ e. map (resolve e c.data_type.children d) c.raw ≡ map Some c.resolved) typed.1 own in
    let all = subst (λ (t : TypeShape). map (resolve head.encoding t.children d) c.raw ≡ map Some c.resolved) typed.0 coded in
    let here = at_resolves (resolve head.encoding children d) c.raw c.resolved j (null_resolves head.encoding children d) all in
    let others = struct_resolves rest cs d j typed.2 known.1 (agree_right c.dictionaries (listed_of cs) d agree) in
    λ i. before (here i) (others i)

-- an index of a dictionary that has a value for it resolves to that value
pub index_resolves : (values : List PlainValue) (z : ℤ) → IsIndex (length values) z → entry_of values z ≡ Some (entry_at values z)
index_resolves values (pos n) h = slice_get-get_or values n null_value h
index_resolves values (negsuc n) h = absurd h

-- without an encoding on any level, the resolved values of the columns of fields are their raw values
children_plain : (fields : FieldTree) (cs : List Column) → AreOf fields cs → AllByRecursion IsColumn cs → has_encoding fields ≡ false
    → map (λ (c : Column). c.resolved) cs ≡ map (λ (c : Column). c.raw) cs
children_plain none [] typed known flat = refl
children_plain none (c ∷ cs) typed known flat = absurd typed
children_plain (more head children rest) [] typed known flat = absurd typed
children_plain (more head children rest) (c ∷ cs) typed known flat =
    let others = or_parts (is_some head.encoding || has_encoding children) (has_encoding rest) flat in
    let own = or_parts (is_some head.encoding) (has_encoding children) others.0 in
    let here = known.0.plain (typed.1 ∙ no_encoding head.encoding own.0) (ap (λ (t : TypeShape). has_encoding t.children) typed.0 ∙ own.1) in
    λ i. here i ∷ children_plain rest cs typed.2 known.1 others.1 i

child_plain : (fields : FieldTree) (c : Column) → AreOf fields (c ∷ []) → IsColumn c → has_encoding fields ≡ false → c.resolved ≡ c.raw
child_plain fields c typed known flat = ap (λ vs. get_or vs 0 []) (children_plain fields (c ∷ []) typed (known, tt) flat)

-- a column of values
values_known : (t : TypeShape) (n : ℕ) (raw resolved : ℕ → PlainValue) (listed : List (ℤ × ValueList)) (offsets : List ℕ) (below : List (List PlainValue × List PlainValue)) → n ≤ 2147483647
    → AllFit t None (slots n (λ j. raw j)) → AllFit (plain_type t) None (slots n (λ j. resolved j)) → map field_of_listed listed ≡ dictionary_fields t.children → AllByRecursion (λ (d : ℤ × ValueList). IsValueList d.1) listed
    → (has_encoding t.children ≡ false → (j : ℕ) → resolved j ≡ raw j)
    → ((d : ℤ → List PlainValue) → Agree listed d → (j : ℕ) → j < n → resolve None t.children d (raw j) ≡ Some (resolved j))
    → IsColumn (record { data_type = t; encoding = None; raw = slots n (λ j. raw j); resolved = slots n (λ j. resolved j); dictionaries = listed; offsets = offsets; below = below })
values_known t n raw resolved listed offsets below few fits resolved_fits lists listed_known plain h = record {
  lists = lists;
  listed_known = listed_known;
  fits = fits;
  resolved_fits = resolved_fits;
  few = omega (arith, length_slots n (λ j. raw j));
  long = length_slots n (λ j. resolved j) ∙ sym (length_slots n (λ j. raw j));
  flat = λ some. absurd (false≢true some);
  plain = λ none flat. λ i. slots n (λ j. plain flat j i);
  resolves = λ d agree. slots_resolve n (resolve None t.children d) (λ j. raw j) (λ j. resolved j) (h d agree);
}

-- a slot of a value that holds no other values
pub plain_resolves : (e : Option Encoding) (fields : FieldTree) (d : ℤ → List PlainValue) (valid : Bool) (x : PlainValue) → resolve e fields d x ≡ Some x
    → resolve e fields d (if valid then x else null_value) ≡ Some (if valid then x else null_value)
plain_resolves e fields d valid x h = shown_resolves e fields d valid x x (λ _. h)

-- the values of a node without an encoding fit its type
none_fit : (len : ℕ) (t : TypeShape) (e : Option Encoding) (body : List ℕ) (r : Ranges) → AreBytes body → AreRanges len t e body r → e ≡ None → AllFit t None (slots len (raw_slot body r))
none_fit len t e body r small h plain = subst (λ x. AllFit t x (slots len (raw_slot body r))) plain (ranges_fit len t e body r small h)

-- what is known of the column of a node's ranges
pub ranges_known : (len : ℕ) (t : TypeShape) (e : Option Encoding) (body : List ℕ) (r : Ranges) → len ≤ 2147483647 → AreBytes body → HasOwnFields t → AreRanges len t e body r → IsColumn (column_by t e len body r)
ranges_known len t e body ranges.Nulls few small has h =
    subst (λ x. IsColumn (column_by t x len body ranges.Nulls)) (sym h.0) (values_known t len (λ j. null_value) (λ j. null_value) [] [] [] few (none_fit len t e body ranges.Nulls small h h.0) (ranges_resolved_fit len t e body ranges.Nulls small h) (leaf_listed (form_of t.tag) forms.Nulls t.children has h.1 (λ x. x)) tt (λ _ j. refl) (λ d agree j l. refl))
ranges_known len t e body (ranges.Bools b) few small has h =
    subst (λ x. IsColumn (column_by t x len body (ranges.Bools b))) (sym h.0) (values_known t len _ _ [] [] [] few (none_fit len t e body (ranges.Bools b) small h h.0) (ranges_resolved_fit len t e body (ranges.Bools b) small h) (leaf_listed (form_of t.tag) forms.Bits t.children has h.1 (λ x. x)) tt (λ _ j. refl) (λ d agree j l. plain_resolves None t.children d (is_valid_at (bytes_of body b.validity) j) _ refl))
ranges_known len t e body (ranges.Ints n) few small has h =
    subst (λ x. IsColumn (column_by t x len body (ranges.Ints n))) (sym h.0) (values_known t len _ _ [] [] [] few (none_fit len t e body (ranges.Ints n) small h h.0) (ranges_resolved_fit len t e body (ranges.Ints n) small h) (number_listed (form_of t.tag) n t.children h.1 has) tt (λ _ j. refl) (λ d agree j l. plain_resolves None t.children d (is_valid_at (bytes_of body n.validity) j) _ refl))
ranges_known len t e body (ranges.Binaries s) few small has h =
    subst (λ x. IsColumn (column_by t x len body (ranges.Binaries s))) (sym h.0) (values_known t len _ _ [] [] [] few (none_fit len t e body (ranges.Binaries s) small h h.0) (ranges_resolved_fit len t e body (ranges.Binaries s) small h) (leaf_listed (form_of t.tag) (forms.Bytes s.width) t.children has h.1 (λ x. x)) tt (λ _ j. refl) (λ d agree j l. plain_resolves None t.children d (is_valid_at (bytes_of body s.validity) j) _ refl))
ranges_known len t e body (ranges.Texts s) few small has h =
    subst (λ x. IsColumn (column_by t x len body (ranges.Texts s))) (sym h.0) (values_known t len _ _ [] [] [] few (none_fit len t e body (ranges.Texts s) small h h.0) (ranges_resolved_fit len t e body (ranges.Texts s) small h) (leaf_listed (form_of t.tag) (forms.Texts s.width) t.children has h.1 (λ x. x)) tt (λ _ j. refl) (λ d agree j l. plain_resolves None t.children d (is_valid_at (bytes_of body s.validity) j) _ refl))
ranges_known len t e body (ranges.FixedBytes f) few small has h =
    subst (λ x. IsColumn (column_by t x len body (ranges.FixedBytes f))) (sym h.0) (values_known t len _ _ [] [] [] few (none_fit len t e body (ranges.FixedBytes f) small h h.0) (ranges_resolved_fit len t e body (ranges.FixedBytes f) small h) (leaf_listed (form_of t.tag) (forms.FixedBytes f.width) t.children has h.1 (λ x. x)) tt (λ _ j. refl) (λ d agree j l. plain_resolves None t.children d (is_valid_at (bytes_of body f.validity) j) _ refl))
ranges_known len t e body (ranges.Lists w v o child) few small has h =
    let places = bytes_of body o in
    subst (λ x. IsColumn (column_by t x len body (ranges.Lists w v o child))) (sym h.0) (values_known t len _ _ child.value.dictionaries _ _ few (none_fit len t e body (ranges.Lists w v o child) small h h.0) (ranges_resolved_fit len t e body (ranges.Lists w v o child) small h) (child_listed t.children child.value h.2.typed h.2.known) h.2.known.listed_known
    (λ flat j. ap (λ vs. list_slot w (bytes_of body v) places vs j) (child_plain t.children child.value h.2.typed h.2.known flat)) (λ d agree j l.
    shown_resolves None t.children d (is_valid_at (bytes_of body v) j) _ _ (λ valid. ap (option_map list_value) (list_resolves t.children child.value d (item_place w places j) (item_place w places (j + 1)) h.2.typed h.2.known agree))))
ranges_known len t e body (ranges.Structs v children) few small has h =
    subst (λ x. IsColumn (column_by t x len body (ranges.Structs v children))) (sym h.0) (values_known t len _ _ (listed_of children.items) _ _ few (none_fit len t e body (ranges.Structs v children) small h h.0) (ranges_resolved_fit len t e body (ranges.Structs v children) small h) (fields_listed t.children children.items h.2.typed h.2.known) (all_listed_known children.items h.2.known)
    (λ flat j. ap (λ vs. struct_slot (bytes_of body v) vs j) (children_plain t.children children.items h.2.typed h.2.known flat)) (λ d agree j l.
    shown_resolves None t.children d (is_valid_at (bytes_of body v) j) _ _ (λ valid. ap (option_map struct_value) (struct_resolves t.children children.items d j h.2.typed h.2.known agree))))
ranges_known len t None body (ranges.Indices n d) few small has h = absurd h
ranges_known len t (Some e) body (ranges.Indices n d) few small has h = let index = λ (j : ℕ). int_of (bytes_of body n.values) (n.width * j) n.width n.signed in record {
  fits = ranges_fit len t (Some e) body (ranges.Indices n d) small h;
  resolved_fits = ranges_resolved_fit len t (Some e) body (ranges.Indices n d) small h;
  lists = λ i. record { id = e.id; value_type = h.typed i } ∷ [];
  listed_known = (h.known, tt);
  few = omega (arith, length_slots len (λ j. raw_slot body (ranges.Indices n d) j));
  long = length_slots len (λ j. resolved_slot body (ranges.Indices n d) j) ∙ sym (length_slots len (λ j. raw_slot body (ranges.Indices n d) j));
  flat = λ some. subst (λ (x : TypeShape). has_encoding x.children ≡ false) h.typed h.known.flat;
  plain = λ none flat. absurd (cc);
  resolves = λ ds agree. slots_resolve len (resolve (Some e) t.children ds) (λ j. raw_slot body (ranges.Indices n d) j) (λ j. resolved_slot body (ranges.Indices n d) j)
      (λ j l. shown_resolves (Some e) t.children ds (is_valid_at (bytes_of body n.validity) j) _ _ (λ valid. ap (λ vs. entry_of vs (index j)) agree.0 ∙ index_resolves d.value.values (index j) (h.indices j l valid)));
}

-- what is known of every array
pub array_known : (a : Inside) (c : Column) → column_of a ≡ c → IsArray a → IsColumn c
array_known a c view ok = subst IsColumn view (ranges_known a.len (type_view a.data_type.value) a.encoding a.body a.ranges ok.0 ok.2 ok.3 ok.1)
