-- The index of a dictionary among those whose ids rise.
use Rattle.std.proofs.Common.{◌≡◌, ◌≤◌, ◌<◌, ◌+◌, ◌-◌, ℕ, ℤ, List, length, get_or, ⊎_elim, Some, None, true, false, sym, ap, ◌∙◌, subst, arith, int_lt}
use Rattle.std.specs.Prelude.{◌≤ℤ◌, ◌<ℤ◌}
use Rattle.std.proofs.lemmas.Bool.{cases_lt}
use Rattle.std.proofs.lemmas.Int.{ints}
use Rattle.std.proofs.lemmas.List.{get_or_default}
use Rattle.arrow_data.specs.Column.{ValueList}
use Rattle.arrow_data.specs.Listed.{listed}
use Rattle.arrow_data.proofs.Listing.{listed_absent, listed_at}

up_up : (a b c : ℤ) → a ≤ℤ b → b ≤ℤ c → a ≤ℤ c
up_up a b c h k = omega (arith, ints, h, k)

up_down : (a b : ℤ) → a ≤ℤ b → b <ℤ a → ⊥
up_down a b h k = omega (arith, ints, h, k)

up_below : (a b c : ℤ) → a ≤ℤ b → b <ℤ c → a <ℤ c
up_below a b c h k = omega (arith, ints, h, k)

both_up : (a b : ℤ) → a ≤ℤ b → b ≤ℤ a → a ≡ b
both_up a b h k = omega (arith, ints, h, k)

up_same : (a b : ℤ) → a ≡ b → a ≤ℤ b
up_same a b h = omega (arith, ints, h)

-- what `int_lt` means
below_from : (a b : ℤ) → int_lt a b ≡ true → a <ℤ b
below_from a b h = grind (arith, ints)

not_below_from : (a b : ℤ) → int_lt a b ≡ false → b ≤ℤ a
not_below_from a b h = grind (arith, ints)

is_below : (a b : ℤ) → a <ℤ b → int_lt a b ≡ true
is_below a b h = grind (arith, ints)

-- the ids of the first entries rise
abbrev pub RisesTo : List (ℤ × ValueList) → ℕ → Type 0
RisesTo ds n = (i j : ℕ) (d : ℤ × ValueList) → i ≤ j → j < n → (get_or ds i d).0 ≤ℤ (get_or ds j d).0

-- the next entry's id is not below any earlier id, if it is not below the last one's
above_last : (ds : List (ℤ × ValueList)) (k : ℕ) (a b : ℤ × ValueList) → 1 ≤ k → k < length ds → a ≡ get_or ds k a → b ≡ get_or ds (k - 1) b → b.0 ≤ℤ a.0 → RisesTo ds k
    → (i : ℕ) (d : ℤ × ValueList) → i < k → (get_or ds i d).0 ≤ℤ (get_or ds k d).0
above_last ds k a b one l is is' le up i d below =
    let here : (get_or ds k d).0 ≡ a.0 = ap (λ (e : ℤ × ValueList). e.0) (get_or_default ds k d a l ∙ sym is) in
    let last : (get_or ds (k - 1) d).0 ≡ b.0 = ap (λ (e : ℤ × ValueList). e.0) (get_or_default ds (k - 1) d b (omega arith) ∙ sym is') in
    let below_last = rw last at (up i (k - 1) d (omega arith) (omega arith)) in
    rw here (up_up (get_or ds i d).0 b.0 a.0 below_last le)

-- with the next entry the ids still rise, if its id is not below the last one's
pub rises_more : (ds : List (ℤ × ValueList)) (k : ℕ) (a b : ℤ × ValueList) → 1 ≤ k → k < length ds → a ≡ get_or ds k a → b ≡ get_or ds (k - 1) b → b.0 ≤ℤ a.0 → RisesTo ds k → RisesTo ds (k + 1)
rises_more ds k a b one l is is' le up i j d h below = ⊎_elim
    (λ (before : j < k). up i j d h before)
    (λ (past : k ≤ j). let at : k ≡ j = omega arith in subst (λ n. (get_or ds i d).0 ≤ℤ (get_or ds n d).0) at (⊎_elim
    (λ (lower : i < k). above_last ds k a b one l is is' le up i d lower)
    (λ (level : k ≤ i). let same : i ≡ k = omega arith in up_same (get_or ds i d).0 (get_or ds k d).0 (ap (λ n. (get_or ds n d).0) same))
    (cases_lt i k)))
    (cases_lt j k)

-- if an entry's id is below the one before it, the ids do not rise
pub never_rises : (ds : List (ℤ × ValueList)) (k : ℕ) (a b : ℤ × ValueList) → 1 ≤ k → k < length ds → a ≡ get_or ds k a → b ≡ get_or ds (k - 1) b → a.0 <ℤ b.0 → RisesTo ds (length ds) → ⊥
never_rises ds k a b one l is is' falls up =
    let last : (get_or ds (k - 1) a).0 ≡ b.0 = ap (λ (e : ℤ × ValueList). e.0) (get_or_default ds (k - 1) a b (omega arith) ∙ sym is') in
    let here : (get_or ds k a).0 ≡ a.0 = ap (λ (e : ℤ × ValueList). e.0) (sym is) in
    let rises = rw (here, last) at (up (k - 1) k a (omega arith) l) in
    up_down b.0 a.0 rises falls

-- if the ids rise, every entry before one that is below an id is also below that id
pub parted : (ds : List (ℤ × ValueList)) (id : ℤ) → RisesTo ds (length ds) → (i j : ℕ) (d : ℤ × ValueList) → i ≤ j → j < length ds → int_lt (get_or ds j d).0 id ≡ true → int_lt (get_or ds i d).0 id ≡ true
parted ds id up i j d h l below = is_below (get_or ds i d).0 id (up_below (get_or ds i d).0 (get_or ds j d).0 id (up i j d h l) (below_from (get_or ds j d).0 id below))

-- the entry at the first index whose id is not below the given one is listed, if it has the id
pub met : (ds : List (ℤ × ValueList)) (id : ℤ) (at : ℕ) (d : ℤ × ValueList) → ((k : ℕ) (e : ℤ × ValueList) → 0 ≤ k → k < at → int_lt (get_or ds k e).0 id ≡ true) → at < length ds → d ≡ get_or ds at d → d.0 ≡ id → Some d.1 ≡ listed ds id
met ds id at d before l is same =
    ap (λ (y : ℤ × ValueList). Some y.1) is ∙ sym (listed_at ds id at d
    (λ k h level. up_down id (get_or ds k d).0 (up_same id (get_or ds k d).0 (sym level)) (below_from (get_or ds k d).0 id (before k d (omega arith) h)))
    l (ap (λ (y : ℤ × ValueList). y.0) (sym is) ∙ same))

-- if the ids rise, an id is not listed if the entry at the first index whose id is not below it does not have the id
pub missed : (ds : List (ℤ × ValueList)) (id : ℤ) (at : ℕ) → RisesTo ds (length ds) → at ≤ length ds
    → ((k : ℕ) (e : ℤ × ValueList) → 0 ≤ k → k < at → int_lt (get_or ds k e).0 id ≡ true)
    → ((k : ℕ) (e : ℤ × ValueList) → at ≤ k → k < length ds → int_lt (get_or ds k e).0 id ≡ false)
    → ((e : ℤ × ValueList) → at < length ds → (get_or ds at e).0 ≡ id → ⊥)
    → None ≡ listed ds id
missed ds id at up bound before from other = sym (listed_absent ds id (λ k e l. ⊎_elim
    (λ (lower : k < at). λ same. up_down id (get_or ds k e).0 (up_same id (get_or ds k e).0 (sym same)) (below_from (get_or ds k e).0 id (before k e (omega arith) lower)))
    (λ (past : at ≤ k). λ same.
    let first : id ≤ℤ (get_or ds at e).0 = not_below_from (get_or ds at e).0 id (from at e (omega arith) (omega arith)) in
    other e (omega arith) (both_up (get_or ds at e).0 id (subst (λ z. (get_or ds at e).0 ≤ℤ z) same (up at k e past l)) first))
    (cases_lt k at)))
