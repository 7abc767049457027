-- One slot put after others.
use Rattle.std.proofs.Common.{rules, ◌≡◌, ℕ, Ok, Err, OnOk, OnErr, Result, ◌+◌, ◌*◌, ◌<◌, ◌≤◌, Bool, true, false, List, [], ◌∷◌, ◌++◌, length, take, refl, ap, sym, ◌∙◌, subst, arith, Option, None, Some, ℤ, length-append, length-take}
use Rattle.std.specs.Prelude.{is_some, IfSome, slice_range}
use Rattle.std.proofs.lemmas.Grind.{common_steps}
use Rattle.std.proofs.Math.Dec.{eqb-suc-zero}
use Rattle.std.proofs.Math.Nat.{mul-le-mul_left}
use Rattle.std.proofs.lemmas.List.{take-append-le, take-take}
use Rattle.bytes.proofs.Ranges.{slice_range_front, slice_range_grown}
use Rattle.arrow_bits.specs.Bitmap.{bit_of, PutsBit}
use Rattle.arrow_bits.specs.Numbers.{number_at, signed_at, int_of, FitsInt}
use Rattle.arrow_bits.proofs.Places.{number_in_part}
use Rattle.arrow_layout.specs.PlainValue.{PlainValue, bool_value, int_value, binary_value}
use Rattle.arrow_layout.specs.Slots.{is_valid_at, or_null, bool_slot, int_slot, fixed_slot}
use Rattle.arrow_builder.specs.Kept.{KeepsBools, KeepsFixed}
use Rattle.arrow_builder.specs.Puts.{PutsSlot, StaySlots, value_or_null}

-- what holds anyway holds after an error
pub after_err : {A E P : Type 0} (r : Result A E) → P → OnErr r P
after_err (Ok a) held = search rules
after_err (Err e) held = held

-- what follows from what holds after success
pub ok_gives : {A E P Q : Type 0} (r : Result A E) → (P → Q) → OnOk r P → OnOk r Q
ok_gives (Ok a) step held = step held
ok_gives (Err e) step held = held

pub err_gives : {A E P Q : Type 0} (r : Result A E) → (P → Q) → OnErr r P → OnErr r Q
err_gives (Ok a) step held = held
err_gives (Err e) step held = step held

-- if there is a bitmap, a slot is valid exactly if its bit is set
valid_by_bit : (validity : List ℕ) (j : ℕ) → 0 < length validity → is_valid_at validity j ≡ bit_of validity j
valid_by_bit [] j h = absurd (omega (arith, h))
valid_by_bit (byte ∷ validity) j h = rw (eqb-suc-zero (length validity)) refl

-- the validity of the first slots is unchanged
pub valid_stays : (at : ℕ) (bit : Bool) (old new : List ℕ) → at ≤ 8 * length old → PutsBit at bit old new → (j : ℕ) → j < at
    → is_valid_at new j ≡ is_valid_at old j
valid_stays at bit old new le puts j h =
    valid_by_bit new j (omega (arith, puts.long)) ∙ puts.same j (λ e. omega (arith, h, e)) ∙ sym (valid_by_bit old j (omega (arith, le, h)))

-- the bit after them is the validity of the slot after them
pub valid_put : (at : ℕ) (bit : Bool) (old new : List ℕ) → PutsBit at bit old new → is_valid_at new at ≡ bit
valid_put at bit old new puts = valid_by_bit new at (omega (arith, puts.long)) ∙ puts.put

-- a slot is the same if its validity bit and the value that it would hold are
pub or_null_same : (old new : List ℕ) (j : ℕ) (x y : PlainValue) → is_valid_at new j ≡ is_valid_at old j → y ≡ x
    → or_null new j y ≡ or_null old j x
or_null_same old new j x y valid same = rw (valid, same) refl

-- a slot is null if there is no value, and else holds the value
pub or_null_put : {A : Type 0} (value : A → PlainValue) (a : Option A) (validity : List ℕ) (at : ℕ) (x : PlainValue)
    → is_valid_at validity at ≡ is_some a → IfSome a (λ a. x ≡ value a) → or_null validity at x ≡ value_or_null value a
or_null_put value None validity at x valid same = rw valid refl
or_null_put value (Some a) validity at x valid same = rw valid same

-- numbers of the same first bytes are the same
pub number_by_start : (old new : List ℕ) (n place width : ℕ) → take n new ≡ take n old → place + width ≤ n
    → number_at new place width ≡ number_at old place width
number_by_start old new n place width start inside =
    let none_before : 0 + place ≡ place = omega arith in
    ap (λ p. number_at new p width) (sym none_before)
    ∙ sym (number_in_part new 0 n place width inside)
    ∙ ap (λ bytes. number_at bytes place width) start
    ∙ number_in_part old 0 n place width inside
    ∙ ap (λ p. number_at old p width) none_before

-- a slot of fixed width lies before the slots after it
pub place_inside : (width j at : ℕ) → j < at → width * j + width ≤ width * at
place_inside width j at h =
    let whole : width * (j + 1) ≤ width * at = mul-le-mul_left width (omega (arith, h)) in
    let one_more : width * (j + 1) ≡ width * j + width = grind arith in
    omega (arith, whole, one_more)

-- with a sign or without one
pub int_by_start : (old new : List ℕ) (n place width : ℕ) (signed : Bool) → take n new ≡ take n old → place + width ≤ n
    → int_of new place width signed ≡ int_of old place width signed
unfolding signed_at
int_by_start old new n place width true start inside = rw (number_by_start old new n place width start inside) refl
int_by_start old new n place width false start inside = rw (number_by_start old new n place width start inside) refl

-- appending to the first bytes leaves them unchanged
pub start_stays : (old more : List ℕ) (n : ℕ) → n ≤ length old → take n (take n old ++ more) ≡ take n old
start_stays old more n le =
    let long : length (take n old) ≡ n = grind (arith, length-take) in
    take-append-le n (take n old) more (omega (arith, long)) ∙ take-take n n old (omega arith)

-- the bit of a truth value is its value
bool_in_slot : (truth : Option Bool) (bit : Bool) (values : List ℕ) (at : ℕ) → bit_of values at ≡ bit → IfSome truth (λ b. bit ≡ b)
    → IfSome truth (λ b. bool_value (bit_of values at) ≡ bool_value b)
bool_in_slot None bit values at put same = same
bool_in_slot (Some b) bit values at put same = ap bool_value (put ∙ same)

-- a truth value
pub bools_put : (at : ℕ) (truth : Option Bool) (bit : Bool) (validity values validity' values' : List ℕ) → KeepsBools at validity values
    → PutsBit at bit values values' → PutsBit at (is_some truth) validity validity' → IfSome truth (λ b. bit ≡ b)
    → PutsSlot at (value_or_null bool_value truth) (bool_slot validity values) (bool_slot validity' values')
bools_put at truth bit validity values validity' values' kept puts valid same = record {
  same = λ j h. or_null_same validity validity' j (bool_value (bit_of values j)) (bool_value (bit_of values' j))
      (valid_stays at (is_some truth) validity validity' kept.bits valid j h) (ap bool_value (puts.same j (λ e. omega (arith, h, e))));
  put = or_null_put bool_value truth validity' at (bool_value (bit_of values' at)) (valid_put at (is_some truth) validity validity' valid)
      (bool_in_slot truth bit values' at puts.put same);
}

-- the first truth values stay if their bits do
pub bools_stay : (at : ℕ) (bit : Bool) (validity values values' : List ℕ) → PutsBit at bit values values'
    → StaySlots at (bool_slot validity values) (bool_slot validity values')
bools_stay at bit validity values values' puts = λ j h. or_null_same validity validity j (bool_value (bit_of values j)) (bool_value (bit_of values' j)) refl (ap bool_value (puts.same j (λ e. omega (arith, h, e))))

-- a number is the one that was stored
int_in_slot : (number : Option ℤ) (stored : ℤ) (values : List ℕ) (place width : ℕ) (signed : Bool)
    → ((sign : Bool) → FitsInt width sign stored → int_of values place width sign ≡ stored) → IfSome number (λ z. stored ≡ z)
    → IfSome number (FitsInt width signed) → IfSome number (λ z. int_value (int_of values place width signed) ≡ int_value z)
int_in_slot None stored values place width signed reads same fits = same
int_in_slot (Some z) stored values place width signed reads same fits = ap int_value (reads signed (subst (FitsInt width signed) (sym same) fits) ∙ same)

-- the first numbers stay
pub numbers_stay : (at width : ℕ) (signed : Bool) (validity validity' values values' : List ℕ)
    → ((j : ℕ) → j < at → is_valid_at validity' j ≡ is_valid_at validity j) → take (width * at) values' ≡ take (width * at) values
    → StaySlots at (int_slot width signed validity values) (int_slot width signed validity' values')
numbers_stay at width signed validity validity' values values' valid start = λ j h.
    or_null_same validity validity' j (int_value (int_of values (width * j) width signed)) (int_value (int_of values' (width * j) width signed))
    (valid j h) (ap int_value (int_by_start values values' (width * at) (width * j) width signed start (place_inside width j at h)))

-- a number
pub numbers_put : (at width : ℕ) (signed : Bool) (number : Option ℤ) (stored : ℤ) (validity validity' values values' : List ℕ)
    → KeepsFixed at width validity values → PutsBit at (is_some number) validity validity' → take (width * at) values' ≡ take (width * at) values
    → ((sign : Bool) → FitsInt width sign stored → int_of values' (width * at) width sign ≡ stored)
    → IfSome number (λ z. stored ≡ z) → IfSome number (FitsInt width signed)
    → PutsSlot at (value_or_null int_value number) (int_slot width signed validity values) (int_slot width signed validity' values')
numbers_put at width signed number stored validity validity' values values' kept valid start reads same fits = record {
  same = numbers_stay at width signed validity validity' values values' (valid_stays at (is_some number) validity validity' kept.bits valid) start;
  put = or_null_put int_value number validity' at (int_value (int_of values' (width * at) width signed)) (valid_put at (is_some number) validity validity' valid)
      (int_in_slot number stored values' (width * at) width signed reads same fits);
}

-- byte strings in the same first bytes are the same
pub range_by_start : (old new : List ℕ) (n start stop : ℕ) → take n new ≡ take n old → stop ≤ n → slice_range new start stop ≡ slice_range old start stop
range_by_start old new n start stop same inside =
    sym (slice_range_front (take n new) new start stop n refl inside)
    ∙ ap (λ bytes. slice_range bytes start stop) same
    ∙ slice_range_front (take n old) old start stop n refl inside

-- the first byte strings of a fixed width stay
pub fixed_stay : (at width : ℕ) (validity validity' values values' : List ℕ)
    → ((j : ℕ) → j < at → is_valid_at validity' j ≡ is_valid_at validity j) → take (width * at) values' ≡ take (width * at) values
    → StaySlots at (fixed_slot width validity values) (fixed_slot width validity' values')
fixed_stay at width validity validity' values values' valid start = λ j h.
    or_null_same validity validity' j (binary_value (slice_range values (width * j) (width * j + width)))
    (binary_value (slice_range values' (width * j) (width * j + width)))
    (valid j h) (ap binary_value (range_by_start values values' (width * at) (width * j) (width * j + width) start (place_inside width j at h)))

-- all of a list
take-all_of : (n : ℕ) (xs : List ℕ) → length xs ≡ n → take n xs ≡ xs
take-all_of n xs e = grind (arith, common_steps)

-- the range from an offset to itself is empty
empty_range : (xs : List ℕ) (n : ℕ) → slice_range xs n n ≡ []
empty_range xs n = grind (arith, common_steps)

-- the appended bytes follow the first bytes
pub range_after : (front bytes : List ℕ) (n width : ℕ) → length front ≡ n → length bytes ≡ width → slice_range (front ++ bytes) n (n + width) ≡ bytes
range_after front bytes n width at long =
    let all : length (front ++ bytes) ≡ n + width = omega (arith, at, long, length-append front bytes) in
    slice_range_grown front (front ++ bytes) bytes n n (n + width) (omega arith) (omega (arith, at))
    (take-all_of (n + width) (front ++ bytes) all ∙ ap (λ xs. xs ++ bytes) (sym (take-all_of n front at)))
    ∙ ap (λ xs. xs ++ bytes) (empty_range front n)

-- the byte string that was appended is that of the slot
pub fixed_in_slot : {A : Type 0} (view : A → List ℕ) (bytes : Option A) (front values : List ℕ) (n width : ℕ) → length front ≡ n
    → IfSome bytes (λ b. values ≡ front ++ view b) → IfSome bytes (λ b. length (view b) ≡ width)
    → IfSome bytes (λ b. binary_value (slice_range values n (n + width)) ≡ binary_value (view b))
fixed_in_slot view None front values n width at same long = same
fixed_in_slot view (Some b) front values n width at same long =
    ap binary_value (ap (λ xs. slice_range xs n (n + width)) same ∙ range_after front (view b) n width at long)

-- a byte string of a fixed width
pub fixed_put : {A : Type 0} (view : A → List ℕ) (at width : ℕ) (bytes : Option A) (validity validity' values values' : List ℕ)
    → KeepsFixed at width validity values → PutsBit at (is_some bytes) validity validity' → take (width * at) values' ≡ take (width * at) values
    → IfSome bytes (λ b. binary_value (slice_range values' (width * at) (width * at + width)) ≡ binary_value (view b))
    → PutsSlot at (value_or_null (λ b. binary_value (view b)) bytes) (fixed_slot width validity values) (fixed_slot width validity' values')
fixed_put view at width bytes validity validity' values values' kept valid start has = record {
  same = fixed_stay at width validity validity' values values' (valid_stays at (is_some bytes) validity validity' kept.bits valid) start;
  put = or_null_put (λ b. binary_value (view b)) bytes validity' at (binary_value (slice_range values' (width * at) (width * at + width)))
      (valid_put at (is_some bytes) validity validity' valid) has;
}

-- the first bytes stay if more were appended to them
pub kept_start : (old cut new : List ℕ) (n : ℕ) → n ≤ length old → cut ≡ take n old → take (length cut) new ≡ cut → take n new ≡ take n old
kept_start old cut new n inside is_cut start =
    let long : length cut ≡ n = ap (λ xs. length xs) is_cut ∙ grind (arith, length-take) in
    ap (λ k. take k new) (sym long) ∙ start ∙ is_cut

-- what follows from two things that hold after success
pub ok_both : {A E P Q R : Type 0} (r : Result A E) → (P → Q → R) → OnOk r P → OnOk r Q → OnOk r R
ok_both (Ok a) step first second = step first second
ok_both (Err e) step first second = first
