-- Positions that are capped at each step end at the same position as positions that are capped only at the end.
use Rattle.std.proofs.Common.{◌≡◌, ℕ, ◌≤◌, ◌+◌, ◌*◌, List, length, inl, inr, ap, ◌∙◌, arith}
use Rattle.std.proofs.lemmas.Bool.{cases_lt}
use Rattle.arrow_flatbuf.specs.Layout.{gap}
use Rattle.arrow_flatbuf.specs.Nodes.{after, pairs}
use Rattle.arrow_meta_writer.specs.Capped.{capped}

-- a position below the cap
pub uncapped : (n : ℕ) → n ≤ 1073741825 → capped n ≡ n
uncapped n h = omega (arith, h)

pub cap_step : (f : ℕ → ℕ) → ((q : ℕ) → q ≤ f q) → (n : ℕ) → capped (f (capped n)) ≡ capped (f n)
cap_step f grows n = elim (cases_lt n 1073741825) [
  | inl h ↦ ap (λ (m : ℕ). capped (f m)) (uncapped n (omega (arith, h)))
  | inr h ↦ omega (arith, h, grows n, grows (capped n))
]

-- one more step, from a position that may be capped
pub caps : (f : ℕ → ℕ) → ((q : ℕ) → q ≤ f q) → (r s n : ℕ) → r ≡ capped n → s ≡ capped (f r) → s ≡ capped (f n)
caps f grows r s n e h = h ∙ ap (λ (m : ℕ). capped (f m)) e ∙ cap_step f grows n

-- the position after a vector of pairs
pub pairs_after : (q n : ℕ) (xs : List (ℕ × ℕ)) (r : ℕ) → n ≡ length xs → r ≡ capped (q + gap 8 (q + 4) + 4 + 16 * n) → r ≡ capped (after q (pairs xs))
pairs_after q n xs r e h = h ∙ ap (λ (m : ℕ). capped (q + gap 8 (q + 4) + 4 + 16 * m)) e
