-- Slots by their validity bitmap.
use Rattle.std.proofs.Common.{◌≡◌, ◌≤◌, ◌<◌, ℕ, zero, suc, ◌+◌, ◌-◌, ◌*◌, ◌/◌, ◌%◌, ◌||◌, Bool, true, false, cond, List, [], ◌∷◌, ◌++◌, length, map, take, drop, refl, ap, ◌∙◌, sym, subst, arith, not, if◌then◌else◌, Option, None, Some, append_assoc, length-append, ◌^◌}
use Rattle.std.specs.Prelude.{count_by, replicate, ⊤, ◌==◌}
use Rattle.std.specs.List.{range_with_len, sum_by}
use Rattle.std.proofs.lemmas.List.{map-append, get_or-drop, length-drop, length-replicate, take_all}
use Rattle.std.proofs.lemmas.List.Sums.{sum_by-append, sum_by-cons}
use Rattle.arrow_bits.specs.Bitmap.{bit_of, bits_of}
use Rattle.arrow_bits.proofs.Counting.{bit_in_byte}
use Rattle.arrow_data.specs.Column.{Column, values_from}
use Rattle.arrow_layout.specs.PlainValue.{PlainValue, null_value, is_null_value, value_at}
use Rattle.arrow_layout.specs.Slots.{HasBits, is_valid_at, or_null}
use Rattle.arrow_data.specs.View.{AreBuffersOf}
use Rattle.arrow_layout.specs.declared.form.Form.{Form}
use Rattle.arrow_layout.specs.declared.form.Form.TheVariants as forms
use Rattle.arrow_layout.specs.declared.form.ListForm.TheVariants as lists
use Rattle.arrow_data.specs.declared.view.Buffers.{Buffers}
use Rattle.arrow_data.specs.declared.view.Buffers.TheVariants as buffers
use Rattle.arrow_body_laws.proofs.Slotted.{not_zero}
use Rattle.arrow_body_laws.specs.Raws.{bytes_in_value, items_in_value, last_offset}
use Rattle.arrow_body_laws.proofs.Kept.{nulls_taken}
use Rattle.arrow_body_laws.specs.Stored.{nulls_in}
use Rattle.arrow_body_slots.proofs.Ranges.{from_next, none_from}
use Rattle.arrow_body_slots.proofs.Running.{offsets_more}
use Rattle.arrow_body_slots.specs.Marks.{AreMarked, AreNulls, bits_from, validity_of}
use Rattle.arrow_body_slots.specs.Packing.{IsPacking}
use Rattle.arrow_body_slots.specs.Part.{IsWritten}
use Rattle.arrow_body_slots.specs.Tally.{Counts, capped}
use Rattle.arrow_body_slots.specs.declared.part.BufferKind.{BufferKind}
use Rattle.arrow_body_slots.specs.declared.part.BufferKind.TheVariants.{Validity}
use Rattle.arrow_body_slots.specs.declared.tally.ByteTally.{ByteTally}
use Rattle.arrow_body_slots.specs.declared.writing.Writing.{Writing}

-- a slot is not null if it is valid
valid_by : (valid : Bool) (payload : PlainValue) → is_null_value payload ≡ false → not (is_null_value (if valid then payload else null_value)) ≡ valid
valid_by true payload full = ap not full
valid_by false payload full = refl

-- the bits mark the slots if exactly those slots are null whose bit is 0
marks : (raw : List PlainValue) (bits : List ℕ) (payload : ℕ → PlainValue) → HasBits (length raw) bits → ((j : ℕ) → is_null_value (payload j) ≡ false)
    → ((j : ℕ) → j < length raw → value_at raw j ≡ or_null bits j (payload j)) → 0 < length bits → AreMarked raw bits
marks raw bits payload has full are some = record {
  long = has some;
  same = λ j h. ap (λ v. not (is_null_value v)) (are j h) ∙ valid_by (is_valid_at bits j) (payload j) (full j) ∙ ap (λ b. b || bit_of bits j) (not_zero (length bits) some);
}

-- a bitmap, if there is one, marks the slots
abbrev pub IfMarked : List PlainValue → Option (List ℕ) → Type 0
IfMarked raw None = ⊤
IfMarked raw (Some bits) = 0 < length bits → AreMarked raw bits

-- the bitmap of an array does
pub marked : (c : Column) (b : Buffers) → AreBuffersOf c b → IfMarked c.raw (validity_of b)
marked c buffers.Nulls h = tt
marked c (buffers.Bools validity values) h = marks c.raw validity.now _ h.1.bits (λ j. refl) h.2
marked c (buffers.Numbers of) h = marks c.raw of.validity.now _ h.2.bits (λ j. refl) h.3
marked c (buffers.Binaries of) h = marks c.raw of.validity.now _ h.1.bits (λ j. refl) h.2
marked c (buffers.Texts of) h = marks c.raw of.validity.now _ h.1.bits (λ j. refl) h.3
marked c (buffers.FixedBytes width validity values) h = marks c.raw validity.now _ h.1.bits (λ j. refl) h.2
marked c (buffers.Lists list validity offsets child) h = marks c.raw validity.now _ h.1.bits (λ j. refl) h.4
marked c (buffers.Structs validity children) h = marks c.raw validity.now _ h.1 (λ j. refl) h.3
marked c (buffers.Indices of dictionary) h = marks c.raw of.validity.now _ h.1.bits (λ j. refl) h.5

-- a function mapped over a range of numbers, and over the numbers after them
range_both : {A : Type 0} (f : ℕ → A) (a m n : ℕ) → map f (range_with_len a (m + n)) ≡ map f (range_with_len a m) ++ map f (range_with_len (a + m) n)
range_both f a zero n =
    let none : zero + n ≡ n = omega arith in
    let here : a ≡ a + zero = omega arith in
    λ i. map f (range_with_len (here i) (none i))
range_both f a (suc m) n =
    let more : suc m + n ≡ suc (m + n) = omega arith in
    let there : a + 1 + m ≡ a + suc m = omega arith in
    ap (λ k. map f (range_with_len a k)) more
    ∙ ap (λ xs. f a ∷ xs) (range_both f (a + 1) m n ∙ ap (λ k. map f (range_with_len (a + 1) m) ++ map f (range_with_len k n)) there)

-- a range of bits, and the one that follows it
pub bits_both : (bytes : List ℕ) (start i stop : ℕ) → start ≤ i → i ≤ stop → bits_from bytes start stop ≡ bits_from bytes start i ++ bits_from bytes i stop
bits_both bytes start i stop low high =
    let count : stop - start ≡ (i - start) + (stop - i) = omega (arith, low, high) in
    let place : start + (i - start) ≡ i = omega (arith, low) in
    ap (λ n. map (bit_of bytes) (range_with_len start n)) count ∙ range_both (bit_of bytes) start (i - start) (stop - i)
    ∙ ap (λ k. bits_from bytes start i ++ map (bit_of bytes) (range_with_len k (stop - i))) place

-- three consecutive ranges of bits
pub bits_three : (bytes : List ℕ) (start first last stop : ℕ) (was : List Bool) → start ≤ first → first ≤ last → last ≤ stop
    → ((was ++ bits_from bytes start first) ++ bits_from bytes first last) ++ bits_from bytes last stop ≡ was ++ bits_from bytes start stop
bits_three bytes start first last stop was low middle high =
    let one = bits_from bytes start first in
    let two = bits_from bytes first last in
    let three = bits_from bytes last stop in
    append_assoc (was ++ one) two three ∙ append_assoc was one (two ++ three)
    ∙ ap (λ bs. was ++ bs) (ap (λ bs. one ++ bs) (sym (bits_both bytes first last stop middle high)) ∙ sym (bits_both bytes start first stop low (omega (arith, middle, high))))

-- one bit
pub bits_one : (bytes : List ℕ) (i : ℕ) → bits_from bytes i (i + 1) ≡ bit_of bytes i ∷ []
bits_one bytes i = let one : i + 1 - i ≡ 1 = omega arith in ap (λ n. map (bit_of bytes) (range_with_len i n)) one

-- no bits
pub bits_none : (bytes : List ℕ) (i : ℕ) → bits_from bytes i i ≡ []
bits_none bytes i = let none : i - i ≡ 0 = omega arith in ap (λ n. map (bit_of bytes) (range_with_len i n)) none

-- one more bit
pub bits_next : (bytes : List ℕ) (start i : ℕ) → start ≤ i → bits_from bytes start (i + 1) ≡ bits_from bytes start i ++ bit_of bytes i ∷ []
bits_next bytes start i low = bits_both bytes start i (i + 1) low (omega arith) ∙ ap (λ bs. bits_from bytes start i ++ bs) (bits_one bytes i)

-- the bits of slots one after another
marks_first : (raw : List PlainValue) (bits : List ℕ) (start n : ℕ) → AreMarked raw bits → start + n ≤ length raw
    → map (λ v. not (is_null_value v)) (values_from raw start (start + n)) ≡ bits_from bits start (start + n)
marks_first raw bits start zero are inside =
    let here : start + zero ≡ start = omega arith in
    ap (λ k. map (λ v. not (is_null_value v)) (values_from raw start k)) here ∙ ap (map (λ v. not (is_null_value v))) (none_from raw start)
    ∙ sym (bits_none bits start) ∙ ap (bits_from bits start) (sym here)
marks_first raw bits start (suc n) are inside =
    let next : start + suc n ≡ start + n + 1 = omega arith in
    let more = start + n in
    ap (λ k. map (λ v. not (is_null_value v)) (values_from raw start k)) next
    ∙ ap (map (λ v. not (is_null_value v))) (from_next raw start more (omega arith) (omega (arith, inside)))
    ∙ map-append (λ v. not (is_null_value v)) (values_from raw start more) (value_at raw more ∷ [])
    ∙ (λ i. marks_first raw bits start n are (omega (arith, inside)) i ++ are.same more (omega (arith, inside)) i ∷ [])
    ∙ sym (bits_next bits start more (omega arith)) ∙ ap (bits_from bits start) (sym next)

pub marks_are : (raw : List PlainValue) (bits : List ℕ) (start stop : ℕ) → AreMarked raw bits → start ≤ stop → stop ≤ length raw
    → map (λ v. not (is_null_value v)) (values_from raw start stop) ≡ bits_from bits start stop
marks_are raw bits start stop are order inside =
    let end : start + (stop - start) ≡ stop = omega (arith, order) in
    subst (λ k. map (λ v. not (is_null_value v)) (values_from raw start k) ≡ bits_from bits start k) end
    (marks_first raw bits start (stop - start) are (omega (arith, order, inside)))

-- a null counts one, by its bit too
null_bit : (b : Bool) → ◌≡◌ {A = ℕ} (cond b 1 0) (cond (not (not b)) 1 0)
null_bit true = refl
null_bit false = refl

-- the number of null slots is the number of zero bits
nulls_by : (vs : List PlainValue) → nulls_in vs ≡ count_by not (map (λ v. not (is_null_value v)) vs)
nulls_by [] = refl
nulls_by (v ∷ vs) =
    let bit = not (is_null_value v) in
    let bits = map (λ v. not (is_null_value v)) vs in
    omega (arith, sum_by-cons (λ x. cond (is_null_value x) 1 0) v vs, sum_by-cons (λ (b : Bool). cond (not b) 1 0) bit bits, null_bit (is_null_value v), nulls_by vs)

pub nulls_are : (raw : List PlainValue) (bits : List ℕ) (start stop : ℕ) → AreMarked raw bits → start ≤ stop → stop ≤ length raw
    → nulls_in (values_from raw start stop) ≡ count_by not (bits_from bits start stop)
nulls_are raw bits start stop are order inside = nulls_by (values_from raw start stop) ∙ ap (count_by not) (marks_are raw bits start stop are order inside)

-- a bit after the first bytes
bit_after : (bytes : List ℕ) (first j : ℕ) → bit_of (drop first bytes) j ≡ bit_of bytes (8 * first + j)
bit_after bytes first j =
    let own : j ≡ 8 * (j / 8) + j % 8 = omega arith in
    let there : 8 * (first + j / 8) + j % 8 ≡ 8 * first + j = omega arith in
    ap (bit_of (drop first bytes)) own ∙ bit_in_byte (drop first bytes) (j / 8) (j % 8) (omega arith)
    ∙ ap (λ b. (b / 2 ^ (j % 8) % 2) == 1) (get_or-drop first bytes (j / 8) 0)
    ∙ sym (bit_in_byte bytes (first + j / 8) (j % 8) (omega arith)) ∙ ap (bit_of bytes) there

bits_after : (bytes : List ℕ) (first a n : ℕ) → map (bit_of (drop first bytes)) (range_with_len a n) ≡ map (bit_of bytes) (range_with_len (8 * first + a) n)
bits_after bytes first a zero = refl
bits_after bytes first a (suc n) =
    let next : 8 * first + (a + 1) ≡ 8 * first + a + 1 = omega arith in
    λ i. bit_after bytes first a i ∷ (bits_after bytes first (a + 1) n ∙ ap (λ k. map (bit_of bytes) (range_with_len k n)) next) i

-- the zeros of a range are those up to its end minus those before it
pub zeros_between : (bytes : List ℕ) (start stop : ℕ) → start ≤ stop
    → count_by not (bits_of (stop - 8 * (start / 8)) (drop (start / 8) bytes)) ≡ count_by not (bits_of (start % 8) (drop (start / 8) bytes)) + count_by not (bits_from bytes start stop)
zeros_between bytes start stop order =
    let first = start / 8 in
    let before = start % 8 in
    let rest = drop first bytes in
    let count : stop - 8 * first ≡ before + (stop - start) = omega (arith, order) in
    let none : 0 + before ≡ before = omega arith in
    let place : 8 * first + before ≡ start = omega arith in
    let both : bits_of (before + (stop - start)) rest ≡ bits_of before rest ++ bits_from bytes start stop =
    range_both (bit_of rest) 0 before (stop - start)
    ∙ ap (λ bs. bits_of before rest ++ bs) (ap (λ k. map (bit_of rest) (range_with_len k (stop - start))) none ∙ bits_after bytes first before (stop - start) ∙ ap (λ k. map (bit_of bytes) (range_with_len k (stop - start))) place) in
    ap (λ n. count_by not (bits_of n rest)) count ∙ ap (count_by not) both
    ∙ sum_by-append (λ (b : Bool). cond (not b) 1 0) (bits_of before rest) (bits_from bytes start stop)

-- the bytes after the first ones are all of the remaining bytes
pub rest_of_bytes : (bytes : List ℕ) (first : ℕ) → take (length bytes - first) (drop first bytes) ≡ drop first bytes
rest_of_bytes bytes first = take_all (length bytes - first) (drop first bytes) (omega (arith, length-drop first bytes))

-- slots are counted by their bits and by how far their offsets advance
pub marked_counted : (form : Form) (vs : List PlainValue) (old new : ByteTally) → new.slots ≡ capped (old.slots + length vs) → new.nulls ≡ capped (old.nulls + nulls_in vs)
    → new.end ≡ capped (old.end + last_offset form vs) → Counts form vs old new
marked_counted form vs old new slots nulls end = λ before t. record {
  slots = omega (arith, slots, t.slots, length-append before vs);
  nulls = omega (arith, nulls, t.nulls, sum_by-append (λ x. cond (is_null_value x) 1 0) before vs);
  end = omega (arith, end, t.end, offsets_more form before vs);
}

-- all of the values are null
nulls_many : (n : ℕ) → nulls_in (replicate n null_value) ≡ n
nulls_many zero = refl
nulls_many (suc n) = omega (arith, sum_by-cons (λ x. cond (is_null_value x) 1 0) null_value (replicate n null_value), nulls_many n)

-- so nothing lies between their offsets
none_many : (f : PlainValue → ℕ) → f null_value ≡ 0 → (n : ℕ) → sum_by f (replicate n null_value) ≡ 0
none_many f none zero = refl
none_many f none (suc n) = omega (arith, sum_by-cons f null_value (replicate n null_value), none, none_many f none n)

offset_many : (form : Form) (n : ℕ) → last_offset form (replicate n null_value) ≡ 0
offset_many forms.Nulls n = refl
offset_many forms.Bits n = refl
offset_many (forms.Numbers number) n = refl
offset_many (forms.Bytes w) n = none_many (λ v. length (bytes_in_value v)) refl n
offset_many (forms.Texts w) n = none_many (λ v. length (bytes_in_value v)) refl n
offset_many (forms.FixedBytes w) n = refl
offset_many (forms.Lists (lists.Offsets w)) n = none_many (λ v. length (items_in_value 0 v)) refl n
offset_many (forms.Lists (lists.Fixed size)) n = refl
offset_many forms.Structs n = refl

-- slots are counted that are all null
pub nulls_counted : (form : Form) (raw : List PlainValue) (start stop : ℕ) (old new : ByteTally) → start ≤ stop → stop ≤ length raw → AreNulls raw
    → new.slots ≡ capped (old.slots + (stop - start)) → new.nulls ≡ capped (old.nulls + (stop - start)) → new.end ≡ old.end
    → Counts form (values_from raw start stop) old new
nulls_counted form raw start stop old new order inside nulls slots count end =
    let n = stop - start in
    let vs = replicate n null_value in
    let same : values_from raw start stop ≡ vs = nulls_taken n start raw (omega (arith, order, inside)) (λ k h. nulls (start + k) (omega (arith, order, inside, h))) in
    subst (λ xs. Counts form xs old new) (sym same)
    (λ before t. record {
      slots = omega (arith, slots, t.slots, length-append before vs, length-replicate n null_value);
      nulls = omega (arith, count, t.nulls, sum_by-append (λ x. cond (is_null_value x) 1 0) before vs, nulls_many n);
      end = omega (arith, end, t.end, offsets_more form before vs, offset_many form n);
    })

-- the bits of slots are added to a validity buffer
pub bits_written : (part : BufferKind) (old new : Writing) (raw : List PlainValue) (bits : List ℕ) (start stop : ℕ) → part ≡ Validity → AreMarked raw bits → start ≤ stop → stop ≤ length raw
    → ((before : List ℕ) (was : List Bool) → IsPacking before was old.pending.byte old.pending.weight old.out.items
    → IsPacking before (was ++ bits_from bits start stop) new.pending.byte new.pending.weight new.out.items)
    → (before : List ℕ) (vs : List PlainValue) → IsWritten part before vs old → IsWritten part before (vs ++ values_from raw start stop) new
bits_written part old new raw bits start stop is are order inside step before vs =
    let f = λ (v : PlainValue). not (is_null_value v) in
    subst (λ p. IsWritten p before vs old → IsWritten p before (vs ++ values_from raw start stop) new) (sym is)
    (λ so_far. subst (λ bs. IsPacking before bs new.pending.byte new.pending.weight new.out.items)
    (ap (λ bs. map f vs ++ bs) (sym (marks_are raw bits start stop are order inside)) ∙ sym (map-append f vs (values_from raw start stop)))
    (step before (map f vs) so_far))
