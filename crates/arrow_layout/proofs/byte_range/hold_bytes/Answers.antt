use Rattle.arrow_layout.proofs.byte_range.hold_bytes.Goals as goal

-- each element of the slice is a byte
pub returns : goal.returns
returns c = λ i. (c.type_inv.bytes i).fits
