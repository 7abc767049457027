-- Ranges of slots, one slot at a time.
use Rattle.std.proofs.Common.{◌≡◌, ◌≤◌, ◌<◌, ℕ, zero, suc, ◌+◌, ◌-◌, List, [], ◌∷◌, ◌++◌, length, take, drop, refl, ap, ◌∙◌, sym, subst, arith, true}
use Rattle.std.specs.List.{AllByRecursion}
use Rattle.std.proofs.Math.Seq.{take-add}
use Rattle.std.proofs.lemmas.List.{drop-drop, get_or-drop, length-drop, take-append-drop, take_all}
use Rattle.arrow_data.specs.Column.{values_from}
use Rattle.arrow_layout.specs.PlainValue.{PlainValue, null_value, bool_value, int_value, binary_value, utf8_value, list_value, struct_value, is_null_value, value_at}
use Rattle.arrow_data.proofs.Sameness.{at_values_from, length-values_from}
use Rattle.arrow_body_laws.proofs.Slotted.{in_slot}

-- a null value is the null
pub null_of : (v : PlainValue) → is_null_value v ≡ true → v ≡ null_value
null_of null_value e = refl
null_of (bool_value b) e = cc
null_of (int_value z) e = cc
null_of (binary_value b) e = cc
null_of (utf8_value b) e = cc
null_of (list_value b) e = cc
null_of (struct_value b) e = cc

-- one more of the first values
take_next : (vs : List PlainValue) (k : ℕ) → k < length vs → take (suc k) vs ≡ take k vs ++ value_at vs k ∷ []
take_next [] k h = absurd (omega (arith, h))
take_next (v ∷ vs) zero h = refl
take_next (v ∷ vs) (suc k) h = ap (λ others. v ∷ others) (take_next vs k (omega (arith, h)))

-- no slots
pub none_from : (vs : List PlainValue) (start : ℕ) → values_from vs start start ≡ []
none_from vs start = let none : start - start ≡ 0 = omega arith in ap (λ n. take n (drop start vs)) none

-- one more slot
pub from_next : (vs : List PlainValue) (start i : ℕ) → start ≤ i → i < length vs → values_from vs start (i + 1) ≡ values_from vs start i ++ value_at vs i ∷ []
from_next vs start i low high =
    let one : i + 1 - start ≡ suc (i - start) = omega (arith, low) in
    let long : i - start < length (drop start vs) = omega (arith, length-drop start vs, low, high) in
    let place : start + (i - start) ≡ i = omega (arith, low) in
    ap (λ n. take n (drop start vs)) one ∙ take_next (drop start vs) (i - start) long
    ∙ ap (λ v. values_from vs start i ++ v ∷ []) (get_or-drop start vs (i - start) null_value ∙ ap (value_at vs) place)

-- a property of all slots of a range holds of each
pub of_slot : (P : PlainValue → Type 0) (vs : List PlainValue) (start stop i : ℕ) → stop ≤ length vs → start ≤ i → i < stop → AllByRecursion P (values_from vs start stop) → P (value_at vs i)
of_slot P vs start stop i inside low high all =
    let place : start + (i - start) ≡ i = omega (arith, low) in
    subst P (at_values_from vs start stop (i - start) (omega (arith, low, high)) ∙ ap (value_at vs) place)
    (in_slot P (values_from vs start stop) (i - start) (omega (arith, length-values_from vs start stop inside, low, high)) all)

-- all slots
pub all_from : (vs : List PlainValue) (n : ℕ) → n ≡ length vs → values_from vs 0 n ≡ vs
all_from vs n e = take_all (n - 0) vs (omega (arith, e))

-- a range, and the one after it
pub from_both : (vs : List PlainValue) (start i stop : ℕ) → start ≤ i → i ≤ stop → values_from vs start stop ≡ values_from vs start i ++ values_from vs i stop
from_both vs start i stop low high =
    let count : stop - start ≡ (i - start) + (stop - i) = omega (arith, low, high) in
    let place : start + (i - start) ≡ i = omega (arith, low) in
    ap (λ n. take n (drop start vs)) count ∙ take-add (i - start) (stop - i) (drop start vs)
    ∙ ap (λ others. values_from vs start i ++ take (stop - i) others) (drop-drop (i - start) start vs ∙ ap (λ n. drop n vs) place)

-- a range, and everything after it
pub rest_both : (vs : List PlainValue) (start stop : ℕ) → start ≤ stop → drop start vs ≡ values_from vs start stop ++ drop stop vs
rest_both vs start stop order =
    let place : start + (stop - start) ≡ stop = omega (arith, order) in
    sym (take-append-drop (stop - start) (drop start vs)) ∙ ap (λ others. values_from vs start stop ++ others) (drop-drop (stop - start) start vs ∙ ap (λ n. drop n vs) place)

-- the single slot after a range, which is null
pub null_next : (vs : List PlainValue) (start i : ℕ) → start ≤ i → i < length vs → is_null_value (value_at vs i) ≡ true → values_from vs start i ++ null_value ∷ [] ≡ values_from vs start (i + 1)
null_next vs start i low high null = ap (λ v. values_from vs start i ++ v ∷ []) (sym (null_of (value_at vs i) null)) ∙ sym (from_next vs start i low high)

-- a property of all values holds of the first ones and of the others
pub all_first : (P : PlainValue → Type 0) (vs ws : List PlainValue) → AllByRecursion P (vs ++ ws) → AllByRecursion P vs
all_first P [] ws all = tt
all_first P (v ∷ vs) ws all = (all.0, all_first P vs ws all.1)

pub all_last : (P : PlainValue → Type 0) (vs ws : List PlainValue) → AllByRecursion P (vs ++ ws) → AllByRecursion P ws
all_last P [] ws all = all
all_last P (v ∷ vs) ws all = all_last P vs ws all.1
