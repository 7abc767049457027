-- The written form of decimals that their width allows is read as the same decimals, and fits into its fields.
use Rattle.std.proofs.Common.{◌≡◌, ◌<◌, ◌^◌, ℕ, ℤ, pos, negsuc, true, false, ◌&&◌, not, nat_lt, if◌then◌else◌, Some, None, refl, ap, ◌∙◌, arith}
use Rattle.std.specs.Int.{cast_signed, cast_unsigned, w32}
use Rattle.std.proofs.Math.Nat.{mod-eq_of_lt}
use Rattle.std.proofs.lemmas.Bool.{and_parts, ltb-false, ltb-true, not-true}
use Rattle.std.proofs.lemmas.Int.{to_z-of_z}
use Rattle.arrow_types.specs.DataType as tags
use Rattle.arrow_types.specs.DataType.{decimal_bits_of, digits_of, is_decimal, is_scale}
use Rattle.arrow_types.specs.declared.data_type.DecimalWidth.{DecimalWidth}
use Rattle.arrow_types.specs.declared.data_type.DecimalWidth.TheVariants as decimals
use Rattle.arrow_meta_tree.specs.Codes.{decimal_scale, decimal_width}
use Rattle.arrow_meta_tree.specs.Types.{decimal_by}

-- the conditions on a precision and on a scale
parts_of : (width : DecimalWidth) (precision : ℕ) (scale : ℤ) → is_decimal width precision scale ≡ true
    → (nat_lt (digits_of width) precision ≡ false) × (is_scale scale ≡ true)
parts_of width precision scale h =
    let both = and_parts (nat_lt 0 precision && not (nat_lt (digits_of width) precision)) (is_scale scale) h in
    let first = and_parts (nat_lt 0 precision) (not (nat_lt (digits_of width) precision)) both.0 in
    (not-true (nat_lt (digits_of width) precision) first.1, both.1)

few_digits : (width : DecimalWidth) (precision : ℕ) → nat_lt (digits_of width) precision ≡ false → precision < 256
few_digits decimals.ThirtyTwo precision h = omega (arith, ltb-false 9 precision h)
few_digits decimals.SixtyFour precision h = omega (arith, ltb-false 18 precision h)
few_digits decimals.OneHundredTwentyEight precision h = omega (arith, ltb-false 38 precision h)
few_digits decimals.TwoHundredFiftySix precision h = omega (arith, ltb-false 76 precision h)

-- a byte holds the precision
pub precision_fits : (width : DecimalWidth) (precision : ℕ) (scale : ℤ) → is_decimal width precision scale ≡ true → precision < 256
precision_fits width precision scale h = few_digits width precision ((parts_of width precision scale h).0)

-- 32 bits hold the scale
scale_small : (scale : ℤ) → is_scale scale ≡ true → cast_unsigned w32 scale < 2 ^ 32
scale_small (pos n) h = omega (arith, ltb-true n 77 h)
scale_small (negsuc n) h = omega arith

pub scale_fits : (width : DecimalWidth) (precision : ℕ) (scale : ℤ) → is_decimal width precision scale ≡ true → cast_unsigned w32 scale < 2 ^ 32
scale_fits width precision scale h = scale_small scale ((parts_of width precision scale h).1)

-- two bytes hold the width
pub decimal_bits_fit : (width : DecimalWidth) → decimal_bits_of width < 65536
decimal_bits_fit decimals.ThirtyTwo = omega arith
decimal_bits_fit decimals.SixtyFour = omega arith
decimal_bits_fit decimals.OneHundredTwentyEight = omega arith
decimal_bits_fit decimals.TwoHundredFiftySix = omega arith

decimal_width_again : (width : DecimalWidth) → decimal_width (decimal_bits_of width) ≡ Some width
decimal_width_again decimals.ThirtyTwo = refl
decimal_width_again decimals.SixtyFour = refl
decimal_width_again decimals.OneHundredTwentyEight = refl
decimal_width_again decimals.TwoHundredFiftySix = refl

signed_again : (scale : ℤ) → is_scale scale ≡ true → cast_signed w32 (cast_unsigned w32 scale) ≡ scale
signed_again (pos n) h = to_z-of_z w32 (pos n) (record { sfits = omega (arith, ltb-true n 77 h) })
signed_again (negsuc n) h = to_z-of_z w32 (negsuc n) (record { sfits = omega (arith, ltb-true n 76 h) })

scale_again : (scale : ℤ) → is_scale scale ≡ true → decimal_scale (cast_unsigned w32 scale) ≡ scale
scale_again scale h = ap (cast_signed w32) (mod-eq_of_lt (scale_small scale h)) ∙ signed_again scale h

-- the table of decimals decodes to the same decimals
pub decimal_again : (width : DecimalWidth) (precision : ℕ) (scale : ℤ) → is_decimal width precision scale ≡ true
    → decimal_by (decimal_width (decimal_bits_of width)) precision (decimal_scale (cast_unsigned w32 scale)) ≡ Some (tags.decimal width precision scale)
decimal_again width precision scale h =
    let same = scale_again scale ((parts_of width precision scale h).1) in
    (λ i. decimal_by (decimal_width_again width i) precision (same i)) ∙ ap (λ b. if b then Some (tags.decimal width precision scale) else None) h
