-- Intervals and decimals that are written as bytes are read back unchanged.
use Rattle.std.proofs.Common.{◌≡◌, ◌≤◌, ◌<◌, ◌+◌, ◌-◌, ◌/◌, ◌^◌, ◌*◌, ◌++◌, ℕ, zero, suc, ℤ, pos, negsuc, nat_abs, nat_eq, true, false, List, [], length, Some, None, if◌then◌else◌, refl, ap, sym, ◌∙◌, subst, arith, length-append, append_assoc}
use Rattle.std.proofs.lemmas.Int.{ints}
use Rattle.std.proofs.lemmas.List.{take-append-le}
use Rattle.std.proofs.Math.Seq.{drop-append_seam}
use mir.Syntax.{w32, w64, w128}
use mir.Val.{SFits}
use Rattle.arrow_bits.specs.Numbers.{FitsInt, int_bytes, number_at, number_bytes, number_of, signed_at, twos_complement}
use Rattle.arrow_bits.proofs.Written.{int_after}
use Rattle.arrow_types.specs.declared.data_type.IntervalUnit.TheVariants as units
use Rattle.arrow_layout.specs.Decimals.{decimal_of_bytes}
use Rattle.arrow_layout.specs.Intervals.{day_time_in, interval_of_bytes, month_day_nano_in}
use Rattle.arrow_layout.specs.declared.decimals.Decimal.{Decimal}
use Rattle.arrow_layout.specs.declared.intervals.Interval.TheVariants.{DayTime, MonthDayNano}

-- the number of bytes is the width
length_bytes : (width n : ℕ) → length (number_bytes width n) ≡ width
length_bytes zero n = refl
length_bytes (suc width) n = ap suc (length_bytes width (n / 256))

length_int : (width : ℕ) (z : ℤ) → length (int_bytes width z) ≡ width
length_int width (pos n) = length_bytes width n
length_int width (negsuc n) = length_bytes width (2 ^ (8 * width) - 1 - n)

-- the number of the first bytes
first_number : (width : ℕ) (a b : List ℕ) → length a ≡ width → number_at (a ++ b) 0 width ≡ number_at a 0 width
unfolding number_at
first_number width a b long = ap number_of (take-append-le width a b (omega (arith, long)))

-- the number after the first bytes
later_number : (place width : ℕ) (a b : List ℕ) → length a ≡ place → number_at (a ++ b) place width ≡ number_at b 0 width
unfolding number_at
later_number place width a b long = subst (λ p. number_at (a ++ b) p width ≡ number_at b 0 width) long (rw (drop-append_seam a b) refl)

-- a signed number by itself, at the beginning, and after other bytes
alone : (width : ℕ) (z : ℤ) → 1 ≤ width → FitsInt width true z → signed_at (int_bytes width z) 0 width ≡ z
alone width z one fits = int_after [] width z one true fits

first : (width : ℕ) (z : ℤ) (b : List ℕ) → 1 ≤ width → FitsInt width true z → signed_at (int_bytes width z ++ b) 0 width ≡ z
unfolding signed_at
first width z b one fits = ap (twos_complement width) (first_number width (int_bytes width z) b (length_int width z)) ∙ alone width z one fits

following : (place width : ℕ) (a b : List ℕ) (z : ℤ) → length a ≡ place → signed_at b 0 width ≡ z → signed_at (a ++ b) place width ≡ z
unfolding signed_at
following place width a b z long is = ap (twos_complement width) (later_number place width a b long) ∙ is

-- numbers of the program are in the range of their bytes
pub in_4 : (z : ℤ) → SFits w32 z → FitsInt 4 true z
in_4 (pos n) h = (omega (arith, ints), omega (arith, ints, h.sfits))
in_4 (negsuc n) h = (omega (arith, ints, h.sfits), omega (arith, ints))

pub in_8 : (z : ℤ) → SFits w64 z → FitsInt 8 true z
in_8 (pos n) h = (omega (arith, ints), omega (arith, ints, h.sfits))
in_8 (negsuc n) h = (omega (arith, ints, h.sfits), omega (arith, ints))

pub in_16 : (z : ℤ) → SFits w128 z → FitsInt 16 true z
in_16 (pos n) h = (omega (arith, ints), omega (arith, ints, h.sfits))
in_16 (negsuc n) h = (omega (arith, ints, h.sfits), omega (arith, ints))

-- the length of two numbers is the sum of their widths
both_long : (v w : ℕ) (y z : ℤ) → length (int_bytes v y ++ int_bytes w z) ≡ v + w
both_long v w y z = length-append (int_bytes v y) (int_bytes w z) ∙ (λ i. length_int v y i + length_int w z i)

-- days and milliseconds
pub day_time_again : (days ms : ℤ) → FitsInt 4 true days → FitsInt 4 true ms → interval_of_bytes units.DayTime (int_bytes 4 days ++ int_bytes 4 ms) ≡ Some (DayTime days ms)
day_time_again days ms d m =
    let bytes = int_bytes 4 days ++ int_bytes 4 ms in
    let one = first 4 days (int_bytes 4 ms) (omega arith) d in
    let two = following 4 4 (int_bytes 4 days) (int_bytes 4 ms) ms (length_int 4 days) (alone 4 ms (omega arith) m) in
    ap (λ n. if nat_eq n 8 then Some (day_time_in bytes) else None) (both_long 4 4 days ms) ∙ (λ i. Some (DayTime (one i) (two i)))

-- months, days and nanoseconds
pub month_day_nano_again : (months days ns : ℤ) → FitsInt 4 true months → FitsInt 4 true days → FitsInt 8 true ns
    → interval_of_bytes units.MonthDayNano (int_bytes 4 months ++ int_bytes 4 days ++ int_bytes 8 ns) ≡ Some (MonthDayNano months days ns)
month_day_nano_again months days ns m d n =
    let a = int_bytes 4 months in
    let b = int_bytes 4 days in
    let c = int_bytes 8 ns in
    let bytes = a ++ b ++ c in
    let turned : a ++ (b ++ c) ≡ bytes = sym (append_assoc a b c) in
    let long : length bytes ≡ 16 = length-append (a ++ b) c ∙ (λ i. both_long 4 4 months days i + length_int 8 ns i) in
    let one = ap (λ x. signed_at x 0 4) (sym turned) ∙ first 4 months (b ++ c) (omega arith) m in
    let two = ap (λ x. signed_at x 4 4) (sym turned) ∙ following 4 4 a (b ++ c) days (length_int 4 months) (first 4 days c (omega arith) d) in
    let three = following 8 8 (a ++ b) c ns (both_long 4 4 months days) (alone 8 ns (omega arith) n) in
    ap (λ k. if nat_eq k 16 then Some (month_day_nano_in bytes) else None) long ∙ (λ i. Some (MonthDayNano (one i) (two i) (three i)))

-- a decimal from its two halves
abbrev read : ℤ → ℤ → ℕ → Decimal
read scale high low = record { high = high; low = low; scale = scale }

-- a decimal of 256 bits
pub decimal_again : (scale high : ℤ) (low : ℕ) → FitsInt 16 true high → low < 2 ^ 128 → decimal_of_bytes scale (number_bytes 16 low ++ int_bytes 16 high) ≡ Some (record { high = high; low = low; scale = scale })
decimal_again scale high low fits small =
    let a = number_bytes 16 low in
    let b = int_bytes 16 high in
    let long : length (a ++ b) ≡ 32 = length-append a b ∙ (λ i. length_bytes 16 low i + length_int 16 high i) in
    let below = first_number 16 a b (length_bytes 16 low) ∙ ap nat_abs (int_after [] 16 (pos low) (omega arith) false (omega (arith, ints), omega (arith, ints, small))) in
    let above = following 16 16 a b high (length_bytes 16 low) (alone 16 high (omega arith) fits) in
    ap (λ n. if nat_eq n 32 then Some (read scale (signed_at (a ++ b) 16 16) (number_at (a ++ b) 0 16)) else None) long ∙ (λ i. Some (read scale (above i) (below i)))
