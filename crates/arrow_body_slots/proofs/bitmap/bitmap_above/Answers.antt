use Rattle.std.proofs.lemmas.Option.{IfSome_then}
use Rattle.arrow_body_slots.proofs.Masking.{masked_field}
use Rattle.arrow_body_slots.proofs.bitmap.bitmap_above.Goals as goal

-- the bits of the structs are those of the child's values
pub returns-then-is_full : goal.returns-then-is_full
returns-then-is_full c =
    IfSome_then c.bitmap.result c.bitmap.ensures
    (λ bits marked k field. masked_field c.args.structs.now c.args.child.now k field (c.is_full.ensures.0 c.if-is_full.true) bits.now marked)
