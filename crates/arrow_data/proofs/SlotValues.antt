-- The value of a slot after indices are looked up.
use Rattle.std.proofs.Common.{◌≡◌, ◌<◌, ℕ, ℤ, Bool, true, false, List, [], ◌∷◌, length, Option, None, Some, is_some, IsTrue, refl, sym, ap, ◌∙◌, subst, arith, if◌then◌else◌}
use Rattle.std.proofs.lemmas.Bool.{false≢true}
use Rattle.arrow_types.specs.Field.{TypeShape}
use Rattle.arrow_types.specs.View.{type_view}
use Rattle.arrow_types.specs.Schema.{has_encoding}
use Rattle.arrow_types.specs.declared.field.Encoding.{Encoding}
use Rattle.arrow_layout.specs.PlainValue.{PlainValue, value_at, null_value, int_value, list_value, struct_value}
use Rattle.arrow_data.specs.Column.{Column, AreOf, IsColumn, HasEntry, HasNoIndex}
use Rattle.arrow_layout.specs.ByteRanges.{bytes_of}
use Rattle.arrow_data.specs.Node.{AreRanges, IsArray, column_of, raw_slot, resolved_slot}
use Rattle.arrow_data.specs.Shown.{HoldsValue, Shows, value_shown}
use Rattle.arrow_layout.specs.Slots.{is_valid_at}
use Rattle.arrow_data.specs.declared.array.Array.TheInside.{Inside}
use Rattle.arrow_data.specs.declared.array.Ranges.{Ranges}
use Rattle.arrow_data.specs.declared.array.Ranges.TheVariants as ranges
use Rattle.arrow_data.specs.declared.array.SlotRef.{SlotRef}
use Rattle.arrow_data.specs.declared.array.SlotRef.TheVariants.{Nothing, Truth, Number, Binary, Text, Items, Parts}
use Rattle.arrow_data.specs.declared.array.SlotValue.{SlotValue}
use Rattle.arrow_data.specs.declared.array.SlotValue.TheVariants as values
use Rattle.arrow_data.proofs.Sameness.{longer}
use Rattle.arrow_data.proofs.Shown.{at_slots, length_slots}

-- a value that holds no others
abbrev is_alone : PlainValue → Bool
is_alone (list_value items) = false
is_alone (struct_value parts) = false
is_alone value = true

-- a list or a struct that is seen as a value without others is null, and its resolved value too
alone_slot : (valid : Bool) (x y : PlainValue) → is_alone x ≡ false → is_alone (if valid then x else null_value) ≡ true → (if valid then y else null_value) ≡ (if valid then x else null_value)
alone_slot true x y h a = absurd (false≢true (sym h ∙ a))
alone_slot false x y h a = refl

-- an index that is seen as null is null, and its resolved value too
index_slot : (valid : Bool) (z : ℤ) (y : PlainValue) → (if valid then int_value z else null_value) ≡ null_value → (if valid then y else null_value) ≡ (if valid then int_value z else null_value)
index_slot true z y h = absurd (cc)
index_slot false z y h = refl

-- a value that holds no others and is not an index is its own resolved value
own_slot_same : (len : ℕ) (t : TypeShape) (e : Option Encoding) (body : List ℕ) (r : Ranges) (j : ℕ) → AreRanges len t e body r
    → (IsTrue (is_some e) → raw_slot body r j ≡ null_value) → is_alone (raw_slot body r j) ≡ true → resolved_slot body r j ≡ raw_slot body r j
own_slot_same len t e body ranges.Nulls j ok own alone = refl
own_slot_same len t e body (ranges.Bools b) j ok own alone = refl
own_slot_same len t e body (ranges.Ints n) j ok own alone = refl
own_slot_same len t e body (ranges.Binaries s) j ok own alone = refl
own_slot_same len t e body (ranges.Texts s) j ok own alone = refl
own_slot_same len t e body (ranges.FixedBytes f) j ok own alone = refl
own_slot_same len t e body (ranges.Lists w v o child) j ok own alone = alone_slot (is_valid_at (bytes_of body v) j) _ _ refl alone
own_slot_same len t e body (ranges.Structs v children) j ok own alone = alone_slot (is_valid_at (bytes_of body v) j) _ _ refl alone
own_slot_same len t None body (ranges.Indices n d) j ok own alone = absurd ok
own_slot_same len t (Some e) body (ranges.Indices n d) j ok own alone = index_slot (is_valid_at (bytes_of body n.validity) j) _ _ (own refl)

-- the same for a slot of a column
of_inside : (a : Inside) (i : ℕ) (v : PlainValue) → IsArray a → i < length (column_of a).raw → HasNoIndex (column_of a) i → value_at (column_of a).raw i ≡ v → is_alone v ≡ true
    → value_at (column_of a).resolved i ≡ v
of_inside a i v ok within own is alone =
    let inside : i < a.len = omega (arith, length_slots a.len (raw_slot a.body a.ranges)) in
    let raw = at_slots a.len (raw_slot a.body a.ranges) i inside in
    let same = own_slot_same a.len (type_view a.data_type.value) a.encoding a.body a.ranges i ok.1 (λ some. sym raw ∙ own some) (ap is_alone (sym raw ∙ is) ∙ alone) in
    at_slots a.len (resolved_slot a.body a.ranges) i inside ∙ same ∙ sym raw ∙ is

-- a slot that holds no index shows its resolved value
pub shown_holds : (a : Inside) (c : Column) (i : ℕ) (s : SlotRef) → column_of a ≡ c → IsArray a → i < length c.raw → HasNoIndex c i → Shows c i s → HoldsValue c i (value_shown i s)
shown_holds a c i s view ok within own = by s
  where
    alone : (v : PlainValue) → is_alone v ≡ true → value_at c.raw i ≡ v → value_at c.resolved i ≡ v
    alone v one is = subst (λ (x : Column). i < length x.raw → HasNoIndex x i → value_at x.raw i ≡ v → is_alone v ≡ true → value_at x.resolved i ≡ v) view (of_inside a i v ok) within own is one

    by : (s : SlotRef) → Shows c i s → HoldsValue c i (value_shown i s)
    by Nothing h = alone null_value refl h
    by (Truth b) h = alone _ refl h
    by (Number z) h = alone _ refl h
    by (Binary b) h = alone _ refl h
    by (Text x) h = alone _ refl h
    by (Items start stop child) h = record { typed = h.typed; ordered = h.ordered; inside = h.inside; long = h.long; same = h.same_resolved }
    by (Parts children) h = record { typed = h.typed; inside = longer (length c.raw) i children.now within h.longer; same = h.same_resolved }

-- an entry's value is the value of the slots that refer to it
pub entry_holds : (c entries : Column) (i place : ℕ) (r : SlotValue) → IsColumn c → IsColumn entries → HasEntry c i entries place → HoldsValue entries place r → HoldsValue c i r
entry_holds c entries i place r known plain entry h =
    let children = ap (λ (t : TypeShape). t.children) entry.typed in
    let flat = ap has_encoding children ∙ known.flat entry.encoded in
    let same : value_at c.resolved i ≡ value_at entries.resolved place = entry.same ∙ ap (λ vs. value_at vs place) (sym (plain.plain entry.plain flat)) in
    by r h children same
  where
    by : (r : SlotValue) → HoldsValue entries place r → entries.data_type.children ≡ c.data_type.children → value_at c.resolved i ≡ value_at entries.resolved place → HoldsValue c i r
    by values.Null h t same = same ∙ h
    by (values.Bool b) h t same = same ∙ h
    by (values.Int z) h t same = same ∙ h
    by (values.Bytes b) h t same = same ∙ h
    by (values.Text x) h t same = same ∙ h
    by (values.List start stop child) h t same = record { typed = subst (λ f. AreOf f (child.now ∷ [])) t h.typed; ordered = h.ordered; inside = h.inside; long = h.long; same = same ∙ h.same }
    by (values.Struct children p) h t same = record { typed = subst (λ f. AreOf f children.now) t h.typed; inside = h.inside; same = same ∙ h.same }
