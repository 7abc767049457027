-- What becomes of a slot that lends its reader, and of a handle.
use base.Fml.{Fml}
use Rattle.std.specs.Prelude.{◌≡◌, Some}
use Rattle.std.specs.Borrow.{Lends, MutBor}
use Rattle.std.specs.Io.BufRead.{Rests}
use Rattle.arrowflow_c.specs.declared.handle.ReaderC.{ReaderC}
use Rattle.arrowflow_calls.specs.declared.reading.Reading.{Reading}
use Rattle.arrowflow_c.specs.declared.slot.Slot.{Slot}
use Rattle.arrowflow_calls.specs.contracts.reading.Reading.{the_row as held_row}
use Rattle.arrowflow_c.specs.contracts.slot.Slot.{the_row}
use Rattle.arrowflow_c.specs.contracts.handle.ReaderC.{the_row as handle_row}

-- the slot with this reader at its address
abbrev pub with_held : Slot → Reading → Slot
with_held s w = record s { value = Some w }

-- the slot ends with the last value of the reader that it lent
abbrev pub LendsHeld : MutBor Slot → MutBor Reading → Fml
LendsHeld s r = Lends the_row held_row s r (with_held s.now)

-- the handle ends with the reader that it has
abbrev pub KeepsReader : MutBor ReaderC → Fml
KeepsReader h = Rests handle_row h (λ last. last.slot.value ≡ h.now.slot.value)
