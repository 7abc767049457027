use Rattle.std.proofs.Common.{◌≡◌, ◌+◌, ◌%◌, ◌∷◌, ◌++◌, [], cond, sym, ap, ◌∙◌, subst}
use Rattle.arrow_body_slots.specs.Packing.{IsPacking}
use Rattle.arrow_body_slots.proofs.Packs.{bit_fills, bit_kept}
use Rattle.arrow_body_slots.proofs.packing.BitPacker.push.Goals as goal
use Rattle.arrow_body_slots.proofs.packing.BitPacker.push.Goals.{then-bit, else-bit}

-- the byte is full
pub returns-in_ok-push : goal.returns-in_ok-push
returns-in_ok-push c before bits p =
    let grown : c.if-bit.byte ≡ cond c.args.bit ((c.args.self.now.byte + c.args.self.now.weight) % 256) c.args.self.now.byte = elim c.if-bit.branch [
      | then-bit w ↦ w.byte-is ∙ ap (λ b. cond b ((c.args.self.now.byte + c.args.self.now.weight) % 256) c.args.self.now.byte) (sym w.if-bit.true)
      | else-bit w ↦ w.byte-is ∙ ap (λ b. cond b ((c.args.self.now.byte + c.args.self.now.weight) % 256) c.args.self.now.byte) (sym w.if-bit.false)
    ] in
    let full = bit_fills c.args.bit before bits c.args.self.now.byte c.args.self.now.weight c.if-bit.byte c.args.out.now.items p c.if-self.true grown in
    subst (λ items. IsPacking before (bits ++ c.args.bit ∷ []) c.new.result.byte c.new.result.weight items) (sym c.in_ok-push.ensures.items)
    (subst (λ b. IsPacking before (bits ++ c.args.bit ∷ []) b c.new.result.weight (c.args.out.now.items ++ c.if-bit.byte ∷ [])) (sym c.new.ensures.kept.0)
    (subst (λ w. IsPacking before (bits ++ c.args.bit ∷ []) 0 w (c.args.out.now.items ++ c.if-bit.byte ∷ [])) (sym c.new.ensures.kept.1) full))

-- it is not
pub returns-else-self : goal.returns-else-self
returns-else-self c before bits p =
    let grown : c.if-bit.byte ≡ cond c.args.bit ((c.args.self.now.byte + c.args.self.now.weight) % 256) c.args.self.now.byte = elim c.if-bit.branch [
      | then-bit w ↦ w.byte-is ∙ ap (λ b. cond b ((c.args.self.now.byte + c.args.self.now.weight) % 256) c.args.self.now.byte) (sym w.if-bit.true)
      | else-bit w ↦ w.byte-is ∙ ap (λ b. cond b ((c.args.self.now.byte + c.args.self.now.weight) % 256) c.args.self.now.byte) (sym w.if-bit.false)
    ] in
    bit_kept c.args.bit before bits c.args.self.now.byte c.args.self.now.weight c.if-bit.byte c.args.out.now.items p c.if-self.false grown
