-- When one list begins another, run by run.
use Rattle.std.proofs.Common.{◌≡◌, ◌<◌, ◌≤◌, ◌+◌, ◌-◌, ℕ, List, length, take, get_or, sym, ap, ◌∙◌, arith, inl, inr}
use Rattle.std.proofs.lemmas.List.{ext_get_or, get_or-take, length-take-le}
use Rattle.std.proofs.lemmas.Bool.{cases_lt}
use Rattle.arrow_data.specs.Column.{Column, values_from}
use Rattle.arrow_layout.specs.PlainValue.{PlainValue, null_value, value_at}
use Rattle.arrow_data.specs.Same.{Begins}
use Rattle.arrow_data.proofs.Sameness.{at_values_from, items_same}

-- a list begins another if its values are the first ones of the other
pub begins_by : (old new : List PlainValue) → length old ≤ length new → ((k : ℕ) → k < length old → value_at old k ≡ value_at new k) → Begins old new
begins_by old new few same =
    let long = length-take-le (length old) new few in
    ext_get_or null_value (take (length old) new) old long (λ k h. get_or-take (length old) new k null_value (omega (arith, long)) ∙ sym (same k (omega (arith, long))))

begun : (old new : List PlainValue) (k : ℕ) → Begins old new → k < length old → value_at old k ≡ value_at new k
begun old new k b h = ap (λ xs. value_at xs k) (sym b) ∙ get_or-take (length old) new k null_value h

-- the values of a list from index i on are in another list from an index on, up to its end
abbrev pub Follows : List PlainValue → ℕ → List PlainValue → ℕ → Type 0
Follows list i run place = (k : ℕ) → place + k < length run → (i + k < length list) × (value_at list (i + k) ≡ value_at run (place + k))

-- if two runs are equal, the lists are equal so far
pub equal_so_far : (old new a b : List PlainValue) (i place from count : ℕ) → place + count ≤ length a → from + count ≤ length b → Follows old i a place → Follows new i b from
    → values_from a place (place + count) ≡ values_from b from (from + count) → ((k : ℕ) → k < i → value_at old k ≡ value_at new k)
    → (k : ℕ) → k < i + count → value_at old k ≡ value_at new k
equal_so_far old new a b i place from count ra rb fa fb same before k h = elim (cases_lt k i) [ inl l ↦ before k l | inr g ↦ later (k - i) (omega arith) (omega arith) ] where
  later : (j : ℕ) → j < count → i + j ≡ k → value_at old k ≡ value_at new k
  later j l at =
      let first = fa j (omega arith) in
      let second = fb j (omega arith) in
      let middle : value_at a (place + j) ≡ value_at b (from + j) =
      sym (at_values_from a place (place + count) j (omega arith)) ∙ ap (λ xs. get_or xs j null_value) same ∙ at_values_from b from (from + count) j (omega arith) in
      ap (value_at old) (sym at) ∙ first.1 ∙ middle ∙ sym second.1 ∙ ap (value_at new) at

-- if one list begins the other, two runs are equal
pub runs_equal : (old new : List PlainValue) (a b : Column) (i place from count : ℕ) → place + count ≤ length a.raw → from + count ≤ length b.raw → Follows old i a.raw place → Follows new i b.raw from → Begins old new
    → values_from a.raw place (place + count) ≡ values_from b.raw from (from + count)
runs_equal old new a b i place from count ra rb fa fb begins =
    items_same a b place (place + count) from (from + count) ra rb (omega arith) (λ k h.
    let first = fa k (omega arith) in
    let second = fb k (omega arith) in
    sym first.1 ∙ begun old new (i + k) begins first.0 ∙ second.1)
