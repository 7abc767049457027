-- Consecutive slots of an array.
use Rattle.std.specs.Prelude.{◌≤◌, List, length}
use Rattle.arrow_data.specs.Column.{values_from}
use Rattle.arrow_data.specs.FullSlots.{AreFull}
use Rattle.arrow_layout.specs.PlainValue.{PlainValue}
use Rattle.arrow_body_slots.specs.declared.slice.ColumnSlice.{ColumnSlice}

-- the array has these slots
pub record IsSlice (s : ColumnSlice) : Type 0 where
  pub order : s.start ≤ s.stop
  pub inside : s.stop ≤ length s.array.now.raw

-- their values
abbrev pub values_in : ColumnSlice → List PlainValue
values_in s = values_from s.array.now.raw s.start s.stop

-- none of them is null
abbrev pub IsFull : ColumnSlice → Type 0
IsFull s = AreFull s.array.now s.start s.stop
