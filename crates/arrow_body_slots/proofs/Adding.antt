-- Slots that are added to a buffer, and then others.
use Rattle.std.proofs.Common.{List, [], ◌++◌, sym, subst, append_assoc, append-nil}
use Rattle.arrow_layout.specs.PlainValue.{PlainValue}
use Rattle.arrow_body_slots.specs.Part.{IsWritten, Puts}
use Rattle.arrow_body_slots.specs.declared.part.BufferKind.{BufferKind}
use Rattle.arrow_body_slots.specs.declared.writing.Writing.{Writing}

-- nothing is added if nothing is done
pub puts_none : (part : BufferKind) (w : Writing) → Puts part [] w w
puts_none part w before was is = subst (λ vs. IsWritten part before vs w) (sym (append-nil was)) is

-- slots, and then others
pub puts_more : (part : BufferKind) (a b c : Writing) (vs ws : List PlainValue) → Puts part vs a b → Puts part ws b c → Puts part (vs ++ ws) a c
puts_more part a b c vs ws one other before was is = subst (λ all. IsWritten part before all c) (append_assoc was vs ws) (other before (was ++ vs) (one before was is))
