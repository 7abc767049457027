-- Consecutive slots without nulls: what they are in the buffers, and what they send.
use Rattle.std.proofs.Common.{◌≡◌, ◌≤◌, ◌<◌, ℕ, suc, ◌+◌, ◌-◌, ℤ, true, false, List, [], ◌∷◌, ◌++◌, length, map, take, drop, get_or, refl, sym, ap, ◌∙◌, subst, arith, None, append_assoc, length-append}
use Rattle.std.specs.Prelude.{cond}
use Rattle.std.specs.List.{AllByRecursion, flat_map}
use Rattle.std.proofs.lemmas.Grind.{flat_map-append}
use Rattle.std.proofs.lemmas.List.{map-append}
use Rattle.std.proofs.lemmas.List.Sums.{sum_by-append, sum_by-cons}
use Rattle.arrow_bits.specs.Numbers.{int_bytes}
use Rattle.arrow_types.specs.Field.{FieldTree}
use Rattle.arrow_layout.specs.declared.form.NumberForm.{NumberForm}
use Rattle.arrow_data.specs.Column.{Column, HasChild, IsColumn, values_from}
use Rattle.arrow_layout.specs.Fits.{Fits}
use Rattle.arrow_layout.specs.Form.{HoldsList, IsLists, node_form, number_width}
use Rattle.arrow_data.specs.FullSlots.{AreFull, value_bytes}
use Rattle.arrow_layout.specs.PlainValue.{PlainValue, null_value, bool_value, int_value, binary_value, utf8_value, list_value, struct_value, is_null_value, items_in, list_of_values, value_at}
use Rattle.arrow_layout.specs.declared.form.Form.{Form}
use Rattle.arrow_layout.specs.declared.form.Form.TheVariants as forms
use Rattle.arrow_layout.specs.declared.form.ListForm.TheVariants as lists
use Rattle.arrow_data.proofs.FullSlots.{LieBetween, joined_range, places_rise}
use Rattle.arrow_data.proofs.Sameness.{at_values_from, length-values_from}
use Rattle.arrow_body_laws.proofs.Slotted.{in_slot}
use Rattle.arrow_body_laws.specs.Raws.{bytes_in_value, fixed_in, items_in_value, last_offset, number_in}
use Rattle.arrow_body_laws.specs.Stored.{nulls_in, number_buffer}
use Rattle.arrow_body_slots.proofs.Shown.{items_are}
use Rattle.arrow_body_slots.specs.Part.{IsWritten}
use Rattle.arrow_body_slots.specs.Runs.{AreBytesOf, HasRun, are_strings}
use Rattle.arrow_body_slots.specs.Tally.{Counts, capped}
use Rattle.arrow_body_slots.specs.declared.part.BufferKind.{BufferKind}
use Rattle.arrow_body_slots.specs.declared.part.BufferKind.TheVariants.{Validity, Truths, Numbers, StringOffsets, ListOffsets, Strings, FixedBytes}
use Rattle.arrow_body_slots.specs.declared.tally.ByteTally.{ByteTally}
use Rattle.arrow_body_slots.specs.declared.writing.Writing.{Writing}

-- a property that holds at each index holds of all
all_by : (P : PlainValue → Type 0) (vs : List PlainValue) → ((j : ℕ) → j < length vs → P (value_at vs j)) → AllByRecursion P vs
all_by P [] each = tt
all_by P (v ∷ vs) each = (each 0 (omega arith), all_by P vs (λ j h. each (suc j) (omega (arith, h))))

-- a property of each slot of a range
pub all_between : (P : PlainValue → Type 0) (raw : List PlainValue) (start stop : ℕ) → stop ≤ length raw → ((i : ℕ) → start ≤ i → i < stop → P (value_at raw i)) → AllByRecursion P (values_from raw start stop)
all_between P raw start stop inside each =
    all_by P (values_from raw start stop) (λ j h.
    let few : j < stop - start = omega (arith, h, length-values_from raw start stop inside) in
    subst P (sym (at_values_from raw start stop j few)) (each (start + j) (omega arith) (omega (arith, few))))

-- a value that is not null and fits a node of the form
abbrev pub IsFullOf : Form → FieldTree → PlainValue → Type 0
IsFullOf form c v = (is_null_value v ≡ false) × Fits form c v

-- so are the values of an array's slots if none is null
pub full_of : (c : Column) (start stop : ℕ) → IsColumn c → stop ≤ length c.raw → AreFull c start stop
    → AllByRecursion (IsFullOf (node_form c.data_type.tag c.encoding) c.data_type.children) (values_from c.raw start stop)
full_of c start stop known inside full =
    let Own = IsFullOf (node_form c.data_type.tag c.encoding) c.data_type.children in
    all_between Own c.raw start stop inside (λ i low high.
    (full i low high, in_slot (Fits (node_form c.data_type.tag c.encoding) c.data_type.children) c.raw i (omega (arith, high, inside)) known.fits))

-- if two functions agree on each value, they agree on all
same_pieces : {A : Type 0} (P : PlainValue → Type 0) (f g : PlainValue → List A) (vs : List PlainValue) → ((v : PlainValue) → P v → f v ≡ g v) → AllByRecursion P vs → flat_map f vs ≡ flat_map g vs
same_pieces P f g [] same all = refl
same_pieces P f g (v ∷ vs) same all = λ i. same v all.0 i ++ same_pieces P f g vs same all.1 i

no_pieces : {A : Type 0} (P : PlainValue → Type 0) (f : PlainValue → List A) (vs : List PlainValue) → ((v : PlainValue) → P v → f v ≡ []) → AllByRecursion P vs → flat_map f vs ≡ []
no_pieces P f [] none all = refl
no_pieces P f (v ∷ vs) none all = λ i. none v all.0 i ++ no_pieces P f vs none all.1 i

-- a form that holds byte strings or texts holds no numbers
no_number : (form : Form) (c : FieldTree) (z : ℤ) → are_strings form ≡ true → Fits form c (int_value z) → ⊥
no_number forms.Nulls c z strings fit = cc
no_number forms.Bits c z strings fit = cc
no_number (forms.Numbers number) c z strings fit = cc
no_number (forms.Bytes w) c z strings fit = fit
no_number (forms.Texts w) c z strings fit = fit
no_number (forms.FixedBytes w) c z strings fit = fit
no_number (forms.Lists list) c z strings fit = cc
no_number forms.Structs c z strings fit = cc

string_value : (form : Form) (c : FieldTree) (v : PlainValue) → are_strings form ≡ true → IsFullOf form c v → value_bytes form v ≡ bytes_in_value v
string_value form c null_value strings own = refl
string_value form c (bool_value b) strings own = refl
string_value form c (int_value z) strings own = absurd (no_number form c z strings own.1)
string_value form c (binary_value b) strings own = refl
string_value form c (utf8_value b) strings own = refl
string_value form c (list_value b) strings own = refl
string_value form c (struct_value b) strings own = refl

-- their bytes
pub strings_are : (form : Form) (c : FieldTree) (vs : List PlainValue) → are_strings form ≡ true → AllByRecursion (IsFullOf form c) vs → flat_map (value_bytes form) vs ≡ flat_map bytes_in_value vs
strings_are form c vs strings all = same_pieces (IsFullOf form c) (value_bytes form) bytes_in_value vs (λ v own. string_value form c v strings own) all

-- other forms hold none
no_binary : (form : Form) (c : FieldTree) (b : List ℕ) → are_strings form ≡ false → Fits form c (binary_value b) → ⊥
no_binary forms.Nulls c b others fit = fit
no_binary forms.Bits c b others fit = fit
no_binary (forms.Numbers number) c b others fit = fit
no_binary (forms.Bytes w) c b others fit = cc
no_binary (forms.Texts w) c b others fit = fit
no_binary (forms.FixedBytes w) c b others fit = cc
no_binary (forms.Lists list) c b others fit = fit
no_binary forms.Structs c b others fit = fit

no_text : (form : Form) (c : FieldTree) (b : List ℕ) → are_strings form ≡ false → Fits form c (utf8_value b) → ⊥
no_text forms.Nulls c b others fit = fit
no_text forms.Bits c b others fit = fit
no_text (forms.Numbers number) c b others fit = fit
no_text (forms.Bytes w) c b others fit = fit
no_text (forms.Texts w) c b others fit = cc
no_text (forms.FixedBytes w) c b others fit = fit
no_text (forms.Lists list) c b others fit = fit
no_text forms.Structs c b others fit = fit

no_string : (form : Form) (c : FieldTree) (v : PlainValue) → are_strings form ≡ false → IsFullOf form c v → bytes_in_value v ≡ []
no_string form c null_value others own = refl
no_string form c (bool_value b) others own = refl
no_string form c (int_value z) others own = refl
no_string form c (binary_value b) others own = absurd (no_binary form c b others own.1)
no_string form c (utf8_value b) others own = absurd (no_text form c b others own.1)
no_string form c (list_value b) others own = refl
no_string form c (struct_value b) others own = refl

pub no_strings : (form : Form) (c : FieldTree) (vs : List PlainValue) → are_strings form ≡ false → AllByRecursion (IsFullOf form c) vs → [] ≡ flat_map bytes_in_value vs
no_strings form c vs others all = sym (no_pieces (IsFullOf form c) bytes_in_value vs (λ v own. no_string form c v others own) all)

-- numbers hold number values
number_value : (number : NumberForm) (c : FieldTree) (v : PlainValue) → IsFullOf (forms.Numbers number) c v → value_bytes (forms.Numbers number) v ≡ int_bytes (number_width number) (number_in v)
number_value number c null_value own = cc
number_value number c (bool_value b) own = absurd (no_bits own.1)
  where
    no_bits : forms.Numbers number ≡ forms.Bits → ⊥
    no_bits e = cc
number_value number c (int_value z) own = refl
number_value number c (binary_value b) own = absurd own.1
number_value number c (utf8_value b) own = absurd own.1
number_value number c (list_value b) own = absurd own.1.0
number_value number c (struct_value b) own = absurd (no_structs own.1.0)
  where
    no_structs : forms.Numbers number ≡ forms.Structs → ⊥
    no_structs e = cc

pub numbers_are : (number : NumberForm) (c : FieldTree) (vs : List PlainValue) → AllByRecursion (IsFullOf (forms.Numbers number) c) vs
    → flat_map (value_bytes (forms.Numbers number)) vs ≡ number_buffer (number_width number) vs
numbers_are number c [] all = refl
numbers_are number c (v ∷ vs) all = λ i. number_value number c v all.0 i ++ numbers_are number c vs all.1 i

-- fixed-size byte strings hold byte strings of that width
fixed_value : (w : ℕ) (c : FieldTree) (v : PlainValue) → IsFullOf (forms.FixedBytes w) c v → value_bytes (forms.FixedBytes w) v ≡ fixed_in w v
fixed_value w c null_value own = cc
fixed_value w c (bool_value b) own = absurd (no_bits own.1)
  where
    no_bits : forms.FixedBytes w ≡ forms.Bits → ⊥
    no_bits e = cc
fixed_value w c (int_value z) own = absurd own.1
fixed_value w c (binary_value b) own = refl
fixed_value w c (utf8_value b) own = absurd own.1
fixed_value w c (list_value b) own = absurd own.1.0
fixed_value w c (struct_value b) own = absurd (no_structs own.1.0)
  where
    no_structs : forms.FixedBytes w ≡ forms.Structs → ⊥
    no_structs e = cc

pub fixed_are : (w : ℕ) (c : FieldTree) (vs : List PlainValue) → AllByRecursion (IsFullOf (forms.FixedBytes w) c) vs → flat_map (value_bytes (forms.FixedBytes w)) vs ≡ flat_map (fixed_in w) vs
fixed_are w c vs all = same_pieces (IsFullOf (forms.FixedBytes w) c) (value_bytes (forms.FixedBytes w)) (fixed_in w) vs (λ v own. fixed_value w c v own) all

-- a form that holds a list holds lists
holds_lists : (form : Form) (count : ℕ) → HoldsList form count → IsLists form
holds_lists forms.Nulls count holds = holds
holds_lists forms.Bits count holds = holds
holds_lists (forms.Numbers number) count holds = holds
holds_lists (forms.Bytes w) count holds = holds
holds_lists (forms.Texts w) count holds = holds
holds_lists (forms.FixedBytes w) count holds = holds
holds_lists (forms.Lists list) count holds = tt
holds_lists forms.Structs count holds = holds

-- slots that are not lists have no items
no_list : (form : Form) (c : FieldTree) (v : PlainValue) → (IsLists form → ⊥) → IsFullOf form c v → items_in_value 0 v ≡ []
no_list form c null_value others own = refl
no_list form c (bool_value b) others own = refl
no_list form c (int_value z) others own = refl
no_list form c (binary_value b) others own = refl
no_list form c (utf8_value b) others own = refl
no_list form c (list_value b) others own = absurd (others (holds_lists form (length (list_of_values b)) own.1.0))
no_list form c (struct_value b) others own = refl

pub no_lists : (form : Form) (c : FieldTree) (vs : List PlainValue) → (IsLists form → ⊥) → AllByRecursion (IsFullOf form c) vs → flat_map (items_in_value 0) vs ≡ []
no_lists form c vs others all = no_pieces (IsFullOf form c) (items_in_value 0) vs (λ v own. no_list form c v others own) all

-- an empty range has no items
pub no_slots : {A : Type 0} (f : PlainValue → List A) (raw : List PlainValue) (start stop : ℕ) → start ≡ stop → flat_map f (values_from raw start stop) ≡ []
no_slots f raw start stop same = let none : stop - start ≡ 0 = omega (arith, same) in ap (λ n. flat_map f (take n (drop start raw))) none

-- the items of consecutive lists are consecutive
pub items_run : (c child : Column) (start stop first last : ℕ) → HasChild c child → start < stop → stop ≤ length c.raw → AreFull c start stop → first ≡ get_or c.offsets start 0 → last ≡ get_or c.offsets stop 0
    → HasRun c start stop first last child
items_run c child start stop first last has some inside full starts stops =
    let place = λ (j : ℕ). get_or c.offsets j 0 in
    let items = λ (j : ℕ) (low : start ≤ j) (high : j < stop). has.same j (omega (arith, high, inside)) (full j low high) in
    let each : (n : ℕ) → LieBetween (items_in_value n) c.raw child.raw place start stop = λ n j low high. ((items j low high).ordered, items_are n c j (place j) (place (j + 1)) child (items j low high)) in
    let end : start + (stop - start) ≡ stop = omega (arith, some) in
    let before : stop - 1 + 1 ≡ stop = omega (arith, some) in
    let rise : place start ≤ place (start + (stop - start)) = places_rise (items_in_value 0) c.raw child.raw place start (stop - start) (λ j low high. each 0 j low (omega (arith, high, some))) in
    let within : place (stop - 1 + 1) ≤ length child.raw = (items (stop - 1) (omega (arith, some)) (omega (arith, some))).inside in
    record {
      typed = has.typed;
      ordered = omega (arith, rise, ap place end, starts, stops);
      inside = omega (arith, within, ap place before, stops);
      same = λ n. sym (joined_range (items_in_value n) c.raw child.raw place start stop (omega (arith, some)) inside (each n)) ∙ (λ i. values_from child.raw (sym starts i) (sym stops i));
    }

-- a list that is not null
pub is_list : (c child : Column) (i : ℕ) → HasChild c child → i < length c.raw → is_null_value (value_at c.raw i) ≡ false → items_in (value_at c.raw i) ≡ None → ⊥
is_list c child i has here full none = let some = ap items_in (has.same i here full).same in cc

-- a value that is not null
abbrev pub IsFull : PlainValue → Type 0
IsFull v = is_null_value v ≡ false

pub none_of : (c : Column) (start stop : ℕ) → stop ≤ length c.raw → AreFull c start stop → AllByRecursion IsFull (values_from c.raw start stop)
none_of c start stop inside full = all_between IsFull c.raw start stop inside full

-- none of such values is null
pub none_null : (vs : List PlainValue) → AllByRecursion IsFull vs → nulls_in vs ≡ 0
none_null [] all = refl
none_null (v ∷ vs) all = omega (arith, sum_by-cons (λ x. cond (is_null_value x) 1 0) v vs, ap {B = ℕ} (λ b. cond b 1 0) all.0, none_null vs all.1)

-- the offset after several slots
pub offsets_more : (form : Form) (vs ws : List PlainValue) → last_offset form (vs ++ ws) ≡ last_offset form vs + last_offset form ws
offsets_more forms.Nulls vs ws = refl
offsets_more forms.Bits vs ws = refl
offsets_more (forms.Numbers number) vs ws = refl
offsets_more (forms.Bytes w) vs ws = sum_by-append (λ x. length (bytes_in_value x)) vs ws
offsets_more (forms.Texts w) vs ws = sum_by-append (λ x. length (bytes_in_value x)) vs ws
offsets_more (forms.FixedBytes w) vs ws = refl
offsets_more (forms.Lists (lists.Offsets w)) vs ws = sum_by-append (λ x. length (items_in_value 0 x)) vs ws
offsets_more (forms.Lists (lists.Fixed size)) vs ws = refl
offsets_more forms.Structs vs ws = refl

-- slots without nulls are counted
pub full_counted : (form : Form) (vs : List PlainValue) (old new : ByteTally) → AllByRecursion IsFull vs → new.slots ≡ capped (old.slots + length vs) → new.nulls ≡ old.nulls
    → new.end ≡ capped (old.end + last_offset form vs) → Counts form vs old new
full_counted form vs old new full slots nulls end = λ before t. record {
  slots = omega (arith, slots, t.slots, length-append before vs);
  nulls = omega (arith, nulls, t.nulls, sum_by-append (λ x. cond (is_null_value x) 1 0) before vs, none_null vs full);
  end = omega (arith, end, t.end, offsets_more form before vs);
}

-- pieces are appended
more_pieces : (f : PlainValue → List ℕ) (before items new bytes : List ℕ) (vs ws : List PlainValue) → items ≡ before ++ flat_map f vs → new ≡ items ++ bytes → bytes ≡ flat_map f ws → new ≡ before ++ flat_map f (vs ++ ws)
more_pieces f before items new bytes vs ws so_far more are =
    more ∙ (λ i. so_far i ++ are i) ∙ append_assoc before (flat_map f vs) (flat_map f ws) ∙ ap (λ b. before ++ b) (sym (flat_map-append f vs ws))

more_numbers : (w : ℕ) (before items new bytes : List ℕ) (vs ws : List PlainValue) → items ≡ before ++ number_buffer w vs → new ≡ items ++ bytes → bytes ≡ number_buffer w ws → new ≡ before ++ number_buffer w (vs ++ ws)
more_numbers w before items new bytes vs ws so_far more are =
    more ∙ (λ i. so_far i ++ are i) ∙ append_assoc before (number_buffer w vs) (number_buffer w ws)
    ∙ ap (λ b. before ++ b) (sym (ap (flat_map (int_bytes w)) (map-append number_in vs ws) ∙ flat_map-append (int_bytes w) (map number_in vs) (map number_in ws)))

-- so several slots are added at once
pub pieces_written : (part : BufferKind) (old new : Writing) (bytes : List ℕ) (ws : List PlainValue) → AreBytesOf part ws bytes → new.out.items ≡ old.out.items ++ bytes
    → (before : List ℕ) (vs : List PlainValue) → IsWritten part before vs old → IsWritten part before (vs ++ ws) new
pieces_written Validity old new bytes ws are more before vs so_far = absurd are
pieces_written Truths old new bytes ws are more before vs so_far = absurd are
pieces_written (Numbers number) old new bytes ws are more before vs so_far = more_numbers (number_width number) before old.out.items new.out.items bytes vs ws so_far more are
pieces_written (StringOffsets width) old new bytes ws are more before vs so_far = absurd are
pieces_written (ListOffsets width) old new bytes ws are more before vs so_far = absurd are
pieces_written Strings old new bytes ws are more before vs so_far = more_pieces bytes_in_value before old.out.items new.out.items bytes vs ws so_far more are
pieces_written (FixedBytes width) old new bytes ws are more before vs so_far = more_pieces (fixed_in width) before old.out.items new.out.items bytes vs ws so_far more are
