-- Written bytes that wait until they are taken.
use Rattle.std.specs.Prelude.{◌≡◌, ℕ, min, List, ◌++◌, length, take, drop, Option, Some}
use Rattle.arrowflow_copy.specs.declared.outbox.Outbox.{Outbox}

-- the waiting bytes
abbrev pub waiting_in : Outbox → List ℕ
waiting_in o = drop o.start o.written.items

-- the content of a sink of them
abbrev pub contents_of : Outbox → Option (List ℕ)
contents_of o = Some (waiting_in o)

-- how many calls failed
abbrev pub failed_of : Outbox → ℕ
failed_of o = o.failures

-- n of the first bytes that waited, as many as fit, were moved to the start of a buffer.
pub record Moves (old : Outbox) (room : List ℕ) (n : ℕ) (new : Outbox) (room' : List ℕ) : Type 0 where
  pub count : n ≡ min (length (waiting_in old)) (length room)
  pub room_is : room' ≡ take n (waiting_in old) ++ drop n room
  pub waiting : waiting_in new ≡ drop n (waiting_in old)
  pub failures : new.failures ≡ old.failures
