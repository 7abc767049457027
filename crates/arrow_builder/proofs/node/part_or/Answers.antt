use Rattle.std.proofs.Common.{◌≡◌, ℕ, zero, suc, ◌<◌, ◌≤◌, List, [], ◌∷◌, length, refl, ap, sym, ◌∙◌, arith, get_or}
use Rattle.std.proofs.lemmas.Grind.{common_steps}
use Rattle.arrow_layout.specs.PlainValue.{nth_value, null_value, values_of}
use Rattle.arrow_layout.specs.Value.{value_view, values_view}
use Rattle.arrow_layout.specs.declared.value.Value.{Value}
use Rattle.arrow_builder.proofs.node.part_or.Goals as goal

-- the value of a part
nth_of : (k : ℕ) (parts : List Value) (d : Value) → k < length parts → nth_value k (values_of (values_view parts)) ≡ value_view (get_or parts k d)
nth_of k [] d h = absurd (omega (arith, h))
nth_of zero (p ∷ parts) d h = refl
nth_of (suc k) (p ∷ parts) d h = nth_of k parts d (omega (arith, h))

-- no part past the last
nth_after : (k : ℕ) (parts : List Value) → length parts ≤ k → nth_value k (values_of (values_view parts)) ≡ null_value
nth_after k [] h = refl
nth_after zero (p ∷ parts) h = absurd (omega (arith, h))
nth_after (suc k) (p ∷ parts) h = nth_after k parts (omega (arith, h))

pub returns-then-k-parts : goal.returns-then-k-parts
returns-then-k-parts c = ap value_view c.index-parts-k.is ∙ sym (nth_of c.args.k c.args.parts.now c.index-parts-k.result (grind (arith, common_steps)))

pub returns-else-k-parts : goal.returns-else-k-parts
returns-else-k-parts c = c.requires ∙ sym (nth_after c.args.k c.args.parts.now (grind (arith, common_steps)))
