-- The dictionaries that a writer sent, and those that it is about to send (Columnar Format, "Dictionary Messages").
use Rattle.std.specs.Prelude.{◌≤◌, ◌+◌, ℤ, List, [], ◌∷◌, refl}
use Rattle.std.specs.Coded.{Coded, code_by, coded×}
use Rattle.std.specs.Vec.{vec_len, vec_capacity}
use Rattle.arrow_data.specs.Column.{ValueList}
use Rattle.arrow_dict.specs.Dictionaries.{IsRising, placed, entries_code}
use Rattle.arrow_dict.specs.declared.tracker.Tracker.TheInside.{Inside}

-- A tracker in contracts: the dictionaries that were sent, and those that will have been sent once the staged ones
-- are.
pub record Tracked : Type 0 where
  pub sent : List (ℤ × ValueList)
  pub next : List (ℤ × ValueList)

-- how the logic stores trackers
abbrev pub tracked_code : Coded Tracked
tracked_code = code_by (List (ℤ × ValueList) × List (ℤ × ValueList)) (coded× entries_code entries_code)
    (λ t. (t.sent, t.next)) (λ p. record { sent = p.0; next = p.1 }) (λ _. refl)

-- the dictionaries with the staged ones placed among them
abbrev pub merged : List (ℤ × ValueList) → List (ℤ × ValueList) → List (ℤ × ValueList)
merged [] ds = ds
merged (e ∷ es) ds = placed e.0 e.1 (merged es ds)

-- a tracker in contracts, from its two lists
abbrev pub tracked_by : Inside → Tracked
tracked_by v = record { sent = v.sent.items; next = merged v.staged.items v.sent.items }

-- the ids of both lists rise, and the sent one has capacity for the staged ones
pub record IsTracker (v : Inside) : Type 0 where
  pub sent : IsRising v.sent.items
  pub staged : IsRising v.staged.items
  pub room : vec_len v.sent + vec_len v.staged ≤ vec_capacity v.sent
