-- The index of an id among rising ids.
use Rattle.std.specs.Prelude.{◌≡◌, ◌≤◌, ◌<◌, ◌<ℤ◌, ℕ, ℤ, List, length, slice_index_or}
use Rattle.arrow_data.specs.Column.{ValueList}

-- the entry at index i has the id
pub record IsAt (ds : List (ℤ × ValueList)) (id : ℤ) (i : ℕ) : Type 0 where
  pub inside : i < length ds
  pub has : (e : ℤ × ValueList) → (slice_index_or ds i e).0 ≡ id

-- the id belongs at index i: lesser ids before it, greater ones from there on
pub record IsGap (ds : List (ℤ × ValueList)) (id : ℤ) (i : ℕ) : Type 0 where
  pub inside : i ≤ length ds
  pub below : (k : ℕ) (e : ℤ × ValueList) → k < i → (slice_index_or ds k e).0 <ℤ id
  pub above : (k : ℕ) (e : ℤ × ValueList) → i ≤ k → k < length ds → id <ℤ (slice_index_or ds k e).0
