-- How many slots the shortest of some columns has. Only the crate's private clauses cite this.
use Rattle.std.specs.Prelude.{◌≤◌, ◌↔◌, ℕ, List}
use Rattle.std.specs.List.{AllByRecursion}

-- For any length up to 2147483647, which no node exceeds: it is at most the least count exactly when each of the
-- counts is at least that length (Columnar Format, "Struct Layout").
pub record IsLeast (least : ℕ) (counts : List ℕ) : Type 0 where
  pub reported : (len : ℕ) → len ≤ 2147483647 → (len ≤ least) ↔ AllByRecursion (λ count. len ≤ count) counts
