-- Why the resolved values of every array fit its type without any encoding.
use Rattle.std.proofs.Common.{◌≡◌, ◌||◌, ◌+◌, ◌-◌, ◌*◌, ℕ, ℤ, pos, negsuc, false, List, [], ◌∷◌, map, drop, Option, None, Some, is_some, refl, sym, ap, ◌∙◌, subst}
use Rattle.std.proofs.lemmas.Bool.{false≢true, or_parts}
use Rattle.std.specs.List.{AllByRecursion}
use Rattle.std.specs.Prelude.{slice_range}
use Rattle.arrow_bits.specs.Numbers.{int_of}
use Rattle.arrow_types.specs.Field.{FieldTree, FieldHeader, none, more, TypeShape}
use Rattle.arrow_types.specs.Schema.{has_encoding}
use Rattle.arrow_types.specs.declared.field.Encoding.{Encoding}
use Rattle.arrow_data.specs.Column.{Column, ValueList, AreOf, IsColumn, IsValueList}
use Rattle.arrow_layout.specs.Fits.{AllFit, FitsType, ItemsFit, PartsFit, plain_fields, plain_head, plain_type}
use Rattle.arrow_layout.specs.Form.{form_of}
use Rattle.arrow_layout.specs.ByteRanges.{AreBytes, bytes_of}
use Rattle.arrow_data.specs.Node.{AreRanges, resolved_slot}
use Rattle.arrow_layout.specs.PlainValue.{PlainValue, value_at, values_of}
use Rattle.arrow_layout.specs.Slots.{slots, entry_at, is_valid_at, item_place, HasItemPlaces}
use Rattle.arrow_data.specs.declared.array.Ranges.{Ranges}
use Rattle.arrow_data.specs.declared.array.Ranges.TheVariants as ranges
use Rattle.arrow_data.proofs.Fitting.{all_at, all_drop, all_take, items_fit, list_many, ranges_fit, shown_fits, slots_fit}

-- an encoding that is not there is `None`
pub no_encoding : (e : Option Encoding) → is_some e ≡ false → e ≡ None
no_encoding None h = refl
no_encoding (Some e) h = absurd (false≢true (sym h))

-- fields without an encoding on any level are unchanged by `plain_fields`
plain_same : (fields : FieldTree) → has_encoding fields ≡ false → plain_fields fields ≡ fields
plain_same none h = refl
plain_same (more head children rest) h =
    let others = or_parts (is_some head.encoding || has_encoding children) (has_encoding rest) h in
    let own = or_parts (is_some head.encoding) (has_encoding children) others.0 in
    let coded = no_encoding head.encoding own.0 in
    let same : plain_head head ≡ head = λ i. record { name = head.name; nullable = head.nullable; tag = head.tag; encoding = sym coded i } in
    λ i. more (same i) (plain_same children own.1 i) (plain_same rest others.1 i)

-- the resolved values of a column of a field fit the field without its encodings
field_resolved_fits : (head : FieldHeader) (children : FieldTree) (c : Column) → c.data_type ≡ record { tag = head.tag; children = children } → IsColumn c
    → AllFit (record { tag = head.tag; children = plain_fields children }) None c.resolved
field_resolved_fits head children c typed known = subst (λ t. AllFit (plain_type t) None c.resolved) typed known.resolved_fits

-- a range of the child's values
list_resolved_fits : (fields : FieldTree) (child : Column) (a b : ℕ) → AreOf fields (child ∷ []) → IsColumn child → ItemsFit (plain_fields fields) (values_of (slice_range child.resolved a b))
list_resolved_fits none child a b typed known = absurd typed
list_resolved_fits (more head children rest) child a b typed known =
    let P = FitsType (record { tag = head.tag; children = plain_fields children }) None in
    items_fit (plain_head head) (plain_fields children) (plain_fields rest) (slice_range child.resolved a b)
    (all_take P (b - a) (drop a child.resolved) (all_drop P a child.resolved (field_resolved_fits head children child typed.0 known)))

-- a slot of each of the children
struct_resolved_fits : (fields : FieldTree) (cs : List Column) (j : ℕ) → AreOf fields cs → AllByRecursion IsColumn cs
    → PartsFit (plain_fields fields) (values_of (map (λ values. value_at values j) (map (λ (c : Column). c.resolved) cs)))
struct_resolved_fits none [] j typed known = tt
struct_resolved_fits none (c ∷ cs) j typed known = absurd typed
struct_resolved_fits (more head children rest) [] j typed known = absurd typed
struct_resolved_fits (more head children rest) (c ∷ cs) j typed known =
    (all_at (FitsType (record { tag = head.tag; children = plain_fields children }) None) c.resolved j tt (field_resolved_fits head children c typed.0 known.0), struct_resolved_fits rest cs j typed.2 known.1)

-- a dictionary holds values without an encoding on any level
values_fit : (t : TypeShape) (d : ValueList) → d.data_type ≡ t → IsValueList d → AllFit (plain_type t) None d.values
values_fit t d typed known =
    let flat = ap (λ (x : TypeShape). has_encoding x.children) (sym typed) ∙ known.flat in
    let own : AllFit t None d.values = subst (λ x. AllFit x None d.values) typed known.fits in
    subst (λ fields. AllFit (record { tag = t.tag; children = fields }) None d.values) (sym (plain_same t.children flat)) own

-- the value that an index refers to is one of them, or null
entry_fits : (t : TypeShape) (values : List PlainValue) (z : ℤ) → AllFit t None values → FitsType t None (entry_at values z)
entry_fits t values (pos n) h = all_at (FitsType t None) values n tt h
entry_fits t values (negsuc n) h = tt

-- the resolved values of a node's ranges fit its type without any encoding
pub ranges_resolved_fit : (len : ℕ) (t : TypeShape) (e : Option Encoding) (body : List ℕ) (r : Ranges) → AreBytes body → AreRanges len t e body r
    → AllFit (plain_type t) None (slots len (resolved_slot body r))
ranges_resolved_fit len t e body ranges.Nulls small h = slots_fit (FitsType (plain_type t) None) len _ (λ j l. tt)
ranges_resolved_fit len t e body (ranges.Bools b) small h = ranges_fit len (plain_type t) None body (ranges.Bools b) small (refl, h.1, h.2)
ranges_resolved_fit len t e body (ranges.Ints n) small h = ranges_fit len (plain_type t) None body (ranges.Ints n) small (refl, h.1, h.2)
ranges_resolved_fit len t e body (ranges.Binaries s) small h = ranges_fit len (plain_type t) None body (ranges.Binaries s) small (refl, h.1, h.2)
ranges_resolved_fit len t e body (ranges.Texts s) small h = ranges_fit len (plain_type t) None body (ranges.Texts s) small (refl, h.1, h.2, h.3)
ranges_resolved_fit len t e body (ranges.FixedBytes f) small h = ranges_fit len (plain_type t) None body (ranges.FixedBytes f) small (refl, h.1, h.2)
ranges_resolved_fit len t e body (ranges.Lists w v o child) small h =
    let places = bytes_of body o in
    slots_fit (FitsType (plain_type t) None) len _ (λ j l.
    shown_fits (form_of t.tag) (plain_fields t.children) (is_valid_at (bytes_of body v) j) _ (λ _. (
      list_many (form_of t.tag) w len j places child.value.resolved h.1 (subst (λ n. HasItemPlaces w len n places) (sym h.2.known.long) h.2.laid.rising) l,
      list_resolved_fits t.children child.value (item_place w places j) (item_place w places (j + 1)) h.2.typed h.2.known,
    )))
ranges_resolved_fit len t e body (ranges.Structs v children) small h =
    slots_fit (FitsType (plain_type t) None) len _ (λ j l.
    shown_fits (form_of t.tag) (plain_fields t.children) (is_valid_at (bytes_of body v) j) _ (λ _. (h.1, struct_resolved_fits t.children children.items j h.2.typed h.2.known)))
ranges_resolved_fit len t None body (ranges.Indices n d) small h = absurd h
ranges_resolved_fit len t (Some e) body (ranges.Indices n d) small h =
    slots_fit (FitsType (plain_type t) None) len _ (λ j l.
    shown_fits (form_of t.tag) (plain_fields t.children) (is_valid_at (bytes_of body n.validity) j) _ (λ _.
    entry_fits (plain_type t) d.value.values (int_of (bytes_of body n.values) (n.width * j) n.width n.signed) (values_fit t d.value h.typed h.known)))
