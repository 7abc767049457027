use Rattle.std.proofs.Common.{◌≡◌, ℕ, replicate, List, refl, subst, sym, arith}
use Rattle.std.proofs.lemmas.Grind.{common_steps}
use Rattle.arrow_bits.specs.Numbers.{number_at}
use Rattle.arrow_layout.specs.Form.{offset_bytes}
use Rattle.arrow_layout.specs.declared.form.OffsetWidth.{OffsetWidth}
use Rattle.arrow_layout.specs.declared.form.OffsetWidth.TheVariants.{Small, Large}
use Rattle.arrow_builder.specs.Kept.{KeepsRanges}
use Rattle.arrow_builder.proofs.begin.first_offset.Goals as goal

-- a first offset is 0
zeros : (width : OffsetWidth) (validity : List ℕ) → KeepsRanges width 0 validity (replicate (offset_bytes width) 0)
unfolding number_at
zeros Small validity = record { bits = omega arith; there = omega arith; zero = refl; never = λ j h. absurd (omega (arith, h)); low = omega arith }
zeros Large validity = record { bits = omega arith; there = omega arith; zero = refl; never = λ j h. absurd (omega (arith, h)); low = omega arith }

pub returns : goal.returns
returns c =
    let items : c.resize.new.self.items ≡ replicate (offset_bytes c.args.width) 0 = grind (arith, common_steps) in
    λ validity. subst (KeepsRanges c.args.width 0 validity) (sym items) (zeros c.args.width validity)
