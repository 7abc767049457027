use Rattle.std.proofs.Common.{◌≤◌, ◌++◌, ℕ, List}
use Rattle.arrow_data.specs.Column.{values_from}
use Rattle.arrow_layout.specs.PlainValue.{PlainValue}
use Rattle.arrow_body_slots.specs.Part.{IsWritten}
use Rattle.arrow_body_slots.proofs.writing.Writing.put_each.Given as goal

-- the slots so far are added
abbrev pub invariant-loop-i : goal.invariant-loop-i
invariant-loop-i l =
    (l.slice.start ≤ l.i) × (l.i ≤ l.slice.stop)
    × ((before : List ℕ) (vs : List PlainValue) → IsWritten l.part before vs l.fn.self → IsWritten l.part before (vs ++ values_from l.slice.array.now.raw l.slice.start l.i) l.self)
