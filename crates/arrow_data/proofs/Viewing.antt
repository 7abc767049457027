-- The buffers of an array are those of its column.
use Rattle.std.proofs.Common.{◌≡◌, ◌<◌, ◌*◌, ℕ, ℤ, pos, negsuc, nat_abs, Bool, true, false, List, [], ◌∷◌, length, Option, None, Some, IsTrue, is_some, if◌then◌else◌, refl, ap, sym, ◌∙◌, subst, arith}
use Rattle.std.specs.Global.{Box, Vec}
use Rattle.arrow_bits.specs.Numbers.{IsIntWidth, int_of}
use Rattle.arrow_types.specs.Field.{TypeShape}
use Rattle.arrow_layout.specs.declared.form.NumberForm.{NumberForm}
use Rattle.arrow_types.specs.declared.field.Encoding.{Encoding}
use Rattle.arrow_types.specs.View.{type_view}
use Rattle.arrow_data.specs.Column.{Column, HasDictionary, HasEntry, HasFields, HasValue, ValueList}
use Rattle.arrow_layout.specs.Form.{form_of, node_form}
use Rattle.arrow_layout.specs.ByteRanges.{bytes_of}
use Rattle.arrow_data.specs.Node.{AreEntriesBy, AreInts, AreRanges, IsArray, IsFormat, below_of, column_by, column_of, dictionaries_of, int_at, offsets_in, raw_slot, resolved_slot}
use Rattle.arrow_layout.specs.PlainValue.{PlainValue, int_in, int_value, is_null_value, null_value, value_at}
use Rattle.arrow_layout.specs.Slots.{AreIndices, IsIndex, entry_at, is_valid_at}
use Rattle.arrow_data.specs.View.{AreRaw, AreValues, HoldBinaries, HoldBools, HoldFixed, HoldIndices, HoldInts, HoldLists, HoldNulls, HoldStructs, HoldTexts, IsOfNumbers}
use Rattle.arrow_data.specs.declared.array.Array.{Array}
use Rattle.arrow_data.specs.declared.array.Array.TheInside.{Inside}
use Rattle.arrow_data.specs.declared.array.Ranges.{Ranges}
use Rattle.arrow_data.specs.declared.array.Ranges.TheVariants as ranges
use Rattle.arrow_data.specs.declared.buffers.Bools.{Bools}
use Rattle.arrow_data.specs.declared.buffers.Fixed.{Fixed}
use Rattle.arrow_data.specs.declared.buffers.Ints.{Ints}
use Rattle.arrow_data.specs.declared.buffers.Strings.{Strings}
use Rattle.arrow_layout.specs.declared.byte_range.ByteRange.{ByteRange}
use Rattle.arrow_data.specs.declared.array.Dictionary.{Dictionary}
use Rattle.arrow_layout.specs.declared.form.Form.{Form}
use Rattle.arrow_layout.specs.declared.form.Form.TheVariants as forms
use Rattle.arrow_layout.specs.declared.form.ListForm.{ListForm}
use Rattle.arrow_layout.specs.declared.form.OffsetWidth.{OffsetWidth}
use Rattle.arrow_data.proofs.Children.{child_shown, part_of_column}
use Rattle.arrow_data.proofs.Entries.{dictionary_shown}
use Rattle.arrow_data.proofs.Fitting.{part_small}
use Rattle.arrow_data.proofs.Shown.{at_slots, length_slots, longer_of_counts}

-- the column has as many slots as the array
long : (a : Inside) → length (column_of a).raw ≡ a.len
long a = length_slots a.len (raw_slot a.body a.ranges)

-- the value of each slot is that of its ranges
values : (a : Inside) (r : Ranges) → a.ranges ≡ r → AreValues (column_of a) (resolved_slot a.body r)
values a r is j h = at_slots a.len (resolved_slot a.body a.ranges) j (omega (arith, long a, h)) ∙ ap (λ x. resolved_slot a.body x j) is

-- the raw value of each slot is that of its ranges
raw_values : (a : Inside) (r : Ranges) → a.ranges ≡ r → AreRaw (column_of a) (raw_slot a.body r)
raw_values a r is j h = at_slots a.len (raw_slot a.body a.ranges) j (omega (arith, long a, h)) ∙ ap (λ x. raw_slot a.body x j) is

-- what is known of the ranges
known : (a : Inside) (r : Ranges) → a.ranges ≡ r → IsArray a → AreRanges a.len (type_view a.data_type.value) a.encoding a.body r
known a r is ok = subst (AreRanges a.len (type_view a.data_type.value) a.encoding a.body) is ok.1

-- a node without an encoding has the form of its type
own_form : (t : TypeShape) (e : Option Encoding) (form : Form) → e ≡ None → form_of t.tag ≡ form → (e ≡ None) × (node_form t.tag e ≡ form)
own_form t e form none is = (none, ap (node_form t.tag) none ∙ is)

-- the width and the sign of a column's numbers are those of its form
of_numbers : (form : Form) (n : Ints) → IsFormat form n → (number : NumberForm) × (form ≡ forms.Numbers number) × IsFormat (forms.Numbers number) n
of_numbers forms.Nulls n h = absurd h
of_numbers forms.Bits n h = absurd h
of_numbers (forms.Numbers number) n h = (number, refl, h)
of_numbers (forms.Bytes width) n h = absurd h
of_numbers (forms.Texts width) n h = absurd h
of_numbers (forms.FixedBytes width) n h = absurd h
of_numbers (forms.Lists width) n h = absurd h
of_numbers forms.Structs n h = absurd h

-- the column's numbers are of the width and the sign of its form
numbers_held : (c : Column) (n : Ints) → IsFormat (node_form c.data_type.tag c.encoding) n → IsIntWidth n.width n.signed → IsOfNumbers c n.width n.signed
numbers_held c n format whole =
    let of = of_numbers (node_form c.data_type.tag c.encoding) n format in
    record { number = of.0; form = of.1; bytes = of.2.0; sign = of.2.1; whole = whole }

-- no value at all
pub nulls_held : (a : Inside) (c : Column) → column_of a ≡ c → IsArray a → a.ranges ≡ ranges.Nulls → HoldNulls c
nulls_held a c view ok is =
    let k = known a ranges.Nulls is ok in
    subst HoldNulls view (own_form (type_view a.data_type.value) a.encoding forms.Nulls k.0 k.1, raw_values a ranges.Nulls is, values a ranges.Nulls is)

-- truth values
pub bools_held : (a : Inside) (c : Column) (b : Bools) (v vs : List ℕ) → column_of a ≡ c → IsArray a → a.ranges ≡ ranges.Bools b
    → v ≡ bytes_of a.body b.validity → vs ≡ bytes_of a.body b.values → HoldBools c v vs
bools_held a c b v vs view ok is e f =
    let r = ranges.Bools b in
    let k = known a r is ok in
    let held : HoldBools (column_of a) (bytes_of a.body b.validity) (bytes_of a.body b.values) =
    (own_form (type_view a.data_type.value) a.encoding forms.Bits k.0 k.1, rw (long a) k.2.laid, raw_values a r is, values a r is) in
    subst (λ (x : Column). HoldBools x v vs) view (rw (e, f) held)

-- numbers
pub ints_held : (a : Inside) (c : Column) (n : Ints) (w : ℕ) (s : Bool) (v vs : List ℕ) → column_of a ≡ c → IsArray a → a.ranges ≡ ranges.Ints n
    → w ≡ n.width → s ≡ n.signed → v ≡ bytes_of a.body n.validity → vs ≡ bytes_of a.body n.values → HoldInts c w s v vs
ints_held a c n w s v vs view ok is g h e f =
    let r = ranges.Ints n in
    let k = known a r is ok in
    let t = type_view a.data_type.value in
    let format : IsFormat (node_form t.tag a.encoding) n = subst (λ x. IsFormat (node_form t.tag x) n) (sym k.0) k.1 in
    let held : HoldInts (column_of a) n.width n.signed (bytes_of a.body n.validity) (bytes_of a.body n.values) =
    (k.0, numbers_held (column_of a) n format k.2.whole, rw (long a) k.2.laid, raw_values a r is, values a r is) in
    subst (λ (x : Column). HoldInts x w s v vs) view (rw (g, h, e, f) held)

-- byte strings
pub binaries_held : (a : Inside) (c : Column) (s : Strings) (w : OffsetWidth) (v o b : List ℕ) → column_of a ≡ c → IsArray a → a.ranges ≡ ranges.Binaries s
    → w ≡ s.width → v ≡ bytes_of a.body s.validity → o ≡ bytes_of a.body s.offsets → b ≡ bytes_of a.body s.bytes → HoldBinaries c w v o b
binaries_held a c s w v o b view ok is h e f g =
    let r = ranges.Binaries s in
    let k = known a r is ok in
    let held : HoldBinaries (column_of a) s.width (bytes_of a.body s.validity) (bytes_of a.body s.offsets) (bytes_of a.body s.bytes) =
    (own_form (type_view a.data_type.value) a.encoding (forms.Bytes s.width) k.0 k.1, rw (long a) k.2.laid, raw_values a r is, values a r is) in
    subst (λ (x : Column). HoldBinaries x w v o b) view (rw (h, e, f, g) held)

-- texts
pub texts_held : (a : Inside) (c : Column) (s : Strings) (w : OffsetWidth) (v o b : List ℕ) → column_of a ≡ c → IsArray a → a.ranges ≡ ranges.Texts s
    → w ≡ s.width → v ≡ bytes_of a.body s.validity → o ≡ bytes_of a.body s.offsets → b ≡ bytes_of a.body s.bytes → HoldTexts c w v o b
texts_held a c s w v o b view ok is h e f g =
    let r = ranges.Texts s in
    let k = known a r is ok in
    let held : HoldTexts (column_of a) s.width (bytes_of a.body s.validity) (bytes_of a.body s.offsets) (bytes_of a.body s.bytes) =
    (own_form (type_view a.data_type.value) a.encoding (forms.Texts s.width) k.0 k.1, rw (long a) k.2.laid, rw (long a) k.3, raw_values a r is, values a r is) in
    subst (λ (x : Column). HoldTexts x w v o b) view (rw (h, e, f, g) held)

-- byte strings of one length
pub fixed_held : (a : Inside) (c : Column) (b : Fixed) (v vs : List ℕ) → column_of a ≡ c → IsArray a → a.ranges ≡ ranges.FixedBytes b
    → v ≡ bytes_of a.body b.validity → vs ≡ bytes_of a.body b.values → HoldFixed c b.width v vs
fixed_held a c b v vs view ok is e f =
    let r = ranges.FixedBytes b in
    let k = known a r is ok in
    let held : HoldFixed (column_of a) b.width (bytes_of a.body b.validity) (bytes_of a.body b.values) =
    (own_form (type_view a.data_type.value) a.encoding (forms.FixedBytes b.width) k.0 k.1, rw (long a) k.2.laid, raw_values a r is, values a r is) in
    subst (λ (x : Column). HoldFixed x b.width v vs) view (rw (e, f) held)

-- lists, with their child
pub lists_held : (a : Inside) (c : Column) (w : ListForm) (v' o' : ByteRange) (child : Box Array) (v o : List ℕ) → column_of a ≡ c → IsArray a → a.ranges ≡ ranges.Lists w v' o' child
    → v ≡ bytes_of a.body v' → o ≡ bytes_of a.body o' → HoldLists c w v o child.value
lists_held a c w v' o' child v o view ok is e f =
    let r = ranges.Lists w v' o' child in
    let k = known a r is ok in
    let t = type_view a.data_type.value in
    let whole = ap (column_by t a.encoding a.len a.body) is ∙ ap (λ x. column_by t x a.len a.body r) k.0 in
    let below = child_shown (column_of a) t w a.len (bytes_of a.body v') (bytes_of a.body o') child.value whole k.1 k.2.typed k.2.known (part_small a.body o' ok.2) k.2.laid.rising in
    let held : HoldLists (column_of a) w (bytes_of a.body v') (bytes_of a.body o') child.value =
    (own_form t a.encoding (forms.Lists w) k.0 k.1, rw (long a) k.2.laid, below, rw (long a) (ap (offsets_in a.len a.body) is), raw_values a r is, values a r is) in
    subst (λ (x : Column). HoldLists x w v o child.value) view (rw (e, f) held)

-- structs, with their children
pub structs_held : (a : Inside) (c : Column) (v' : ByteRange) (children : Vec Array) (v : List ℕ) → column_of a ≡ c → IsArray a → a.ranges ≡ ranges.Structs v' children
    → v ≡ bytes_of a.body v' → HoldStructs c v children.items
structs_held a c v' children v view ok is e =
    let r = ranges.Structs v' children in
    let k = known a r is ok in
    let t = type_view a.data_type.value in
    let whole = ap (column_by t a.encoding a.len a.body) is ∙ ap (λ x. column_by t x a.len a.body r) k.0 in
    let form = own_form t a.encoding forms.Structs k.0 k.1 in
    let below : HasFields (column_of a) children.items = record {
      is_struct = form.1;
      typed = k.2.typed;
      whole = sym (ap below_of is);
      listed = sym (ap (dictionaries_of a.encoding) is);
      each = λ n child found. part_of_column (column_of a) t a.len (bytes_of a.body v') children.items n child whole k.1 k.2.typed k.2.known (longer_of_counts a.len children.items k.2.laid.longer) found;
    } in
    let held : HoldStructs (column_of a) (bytes_of a.body v') children.items =
    (form, rw (long a) k.2.laid.bits, below, raw_values a r is, values a r is) in
    subst (λ (x : Column). HoldStructs x v children.items) view (rw e held)

-- what is known of indices, whatever the encoding
entries : (e : Option Encoding) (len : ℕ) (t : TypeShape) (body : List ℕ) (n : Ints) (d : ValueList) → AreEntriesBy e len t body n d
    → IsFormat (node_form t.tag e) n × AreInts len body n × AreIndices len n.width n.signed (bytes_of body n.validity) (bytes_of body n.values) (length d.values)
entries None len t body n d ok = absurd ok
entries (Some e) len t body n d ok = (ok.format, ok.ints, ok.indices)

-- a column of indices is dictionary-encoded
encoded : (e : Option Encoding) (len : ℕ) (t : TypeShape) (body : List ℕ) (n : Ints) (d : ValueList) → AreEntriesBy e len t body n d → IsTrue (is_some e)
encoded None len t body n d ok = absurd ok
encoded (Some e) len t body n d ok = refl

-- indices into a dictionary
pub indices_held : (a : Inside) (c : Column) (n : Ints) (d : Box Dictionary) (w : ℕ) (s : Bool) (v vs : List ℕ) → column_of a ≡ c → IsArray a → a.ranges ≡ ranges.Indices n d
    → w ≡ n.width → s ≡ n.signed → v ≡ bytes_of a.body n.validity → vs ≡ bytes_of a.body n.values → HoldIndices c w s v vs d.value
indices_held a c n d w s v vs view ok is g h e f =
    let t = type_view a.data_type.value in
    let r = ranges.Indices n d in
    let k = known a r is ok in
    let p = entries a.encoding a.len t a.body n d.value k in
    let shown = dictionary_shown (column_of a) t a.encoding a.len a.body n d (ap (column_by t a.encoding a.len a.body) is) k in
    let held : HoldIndices (column_of a) n.width n.signed (bytes_of a.body n.validity) (bytes_of a.body n.values) d.value =
    (numbers_held (column_of a) n p.0 p.1.whole, rw (long a) p.1.laid, rw (long a) p.2, encoded a.encoding a.len t a.body n d.value k, shown, raw_values a r is, values a r is) in
    subst (λ (x : Column). HoldIndices x w s v vs d.value) view (rw (g, h, e, f) held)

-- the columns of one dictionary have the same one
abbrev the_first : ValueList → List (ℤ × ValueList) → ValueList
the_first d [] = d
the_first d (x ∷ xs) = x.1

same_dictionary : (c : Column) (d x : ValueList) → HasDictionary c d → HasDictionary c x → d ≡ x
same_dictionary c d x h g = ap (the_first d) (sym h.listed.2 ∙ g.listed.2)

-- an index that is there refers to its entry
abbrev number_or : Option ℤ → ℤ
number_or None = pos 0
number_or (Some z) = z

entry_where : (valid : Bool) (x z : ℤ) (vs : List PlainValue) → (if valid then int_value x else null_value) ≡ int_value z → (if valid then entry_at vs x else null_value) ≡ entry_at vs z
entry_where true x z vs h = ap (λ v. entry_at vs (number_or (int_in v))) h
entry_where false x z vs h = absurd (cc)

-- and is one of an entry
index_where : (valid : Bool) (x z : ℤ) (count : ℕ) → (if valid then int_value x else null_value) ≡ int_value z → (valid ≡ true → IsIndex count x) → IsIndex count z
index_where true x z count h there = subst (IsIndex count) (ap (λ v. number_or (int_in v)) h) (there refl)
index_where false x z count h there = absurd (cc)

counts_up : (z : ℤ) (count : ℕ) → IsIndex count z → z ≡ pos (nat_abs z)
counts_up (pos n) count h = refl
counts_up (negsuc n) count h = absurd h

-- the index of the value that a slot refers to
pub entry_shown : (a : Inside) (c : Column) (n : Ints) (d : Box Dictionary) (i : ℕ) (z : ℤ) (vs : Column) (place : ℕ) → column_of a ≡ c → IsArray a → a.ranges ≡ ranges.Indices n d
    → i < length c.raw → int_at a.body n i ≡ int_value z → HasValue d.value (nat_abs z) vs place → HasEntry c i vs place
entry_shown a c n d i z vs place view ok is inside number has =
    let t = type_view a.data_type.value in
    let k = known a (ranges.Indices n d) is ok in
    let shown = dictionary_shown (column_of a) t a.encoding a.len a.body n d (ap (λ r. column_by t a.encoding a.len a.body r) is) k in
    let within : i < length (column_of a).raw = subst (λ (x : Column). i < length x.raw) (sym view) inside in
    let valid = is_valid_at (bytes_of a.body n.validity) i in
    let own = int_of (bytes_of a.body n.values) (n.width * i) n.width n.signed in
    let there = (entries a.encoding a.len t a.body n d.value k).2 i (omega (arith, within, long a)) in
    let means : z ≡ pos (nat_abs z) = counts_up z (length d.value.values) (index_where valid own z (length d.value.values) number there) in
    let raw : value_at (column_of a).raw i ≡ int_value z = raw_values a (ranges.Indices n d) is i within ∙ number in
    let resolved : value_at (column_of a).resolved i ≡ value_at d.value.values (nat_abs z) =
    values a (ranges.Indices n d) is i within ∙ entry_where valid own z d.value.values number ∙ ap (entry_at d.value.values) means in
    let entry : HasEntry (column_of a) i vs place = record {
      encoded = encoded a.encoding a.len t a.body n d.value k;
      full = ap is_null_value raw;
      inside = has.inside;
      typed = has.typed ∙ shown.typed;
      plain = has.plain;
      same = resolved ∙ has.same;
      index = nat_abs z;
      means = raw ∙ ap int_value means;
      found = λ x h. subst (λ y. HasValue y (nat_abs z) vs place) (same_dictionary (column_of a) d.value x shown h) has;
    } in
    subst (λ (x : Column). HasEntry x i vs place) view entry
