use Rattle.std.proofs.Common.{◌≡◌, ◌+◌, ◌∷◌, ◌++◌, [], ap, arith, rules, ◌∙◌}
use Rattle.std.proofs.lemmas.Grind.{common_steps}
use Rattle.arrow_bits.specs.Bitmap.{bits_of, PutsBit}
use Rattle.arrow_bits.proofs.Packing.{IsGrown, grown}
use Rattle.arrow_bits.proofs.bitmap_builder.BitsBuilder.push.Goals as goal

-- the bytes after the write
grows : (c : goal.After-self-1) → IsGrown c.self.inside.len c.self.inside.bytes.items c.put_bit.new.bytes.items c.args.bit
grows c =
    let puts : PutsBit c.self.inside.len c.args.bit c.self.inside.bytes.items c.put_bit.new.bytes.items = search rules in
    grown c.self.inside.len c.self.inside.bytes.items c.put_bit.new.bytes.items c.args.bit c.self.invariant puts

-- the number of bits is one more
counted : (c : goal.After-self-1) → c.in_ok-len.len ≡ c.self.inside.len + 1
counted c = grind (arith, common_steps)

-- the bytes are packed again
pub invariant_of-self-2 : goal.invariant_of-self-2
invariant_of-self-2 c = rw (counted c) (grows c).packed

-- they hold one more bit
pub returns-clause-ok : goal.returns-clause-ok
returns-clause-ok c = ap (λ n. bits_of n c.put_bit.new.bytes.items) (counted c) ∙ (grows c).more ∙ ap (λ bs. bs ++ c.args.bit ∷ []) c.self.view_is
