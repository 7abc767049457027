-- Texts of decimals, of bytes and of intervals are ASCII, and so UTF-8.
use Rattle.std.proofs.Common.{◌&&◌, nat_lt, ltb-true, ◌≡◌, ◌<◌, ◌+◌, ◌-◌, ◌/◌, ◌%◌, ◌==◌, if◌then◌else◌, ℕ, ℤ, zero, suc, pos, negsuc, Bool, true, false, List, [], ◌∷◌, ◌++◌, length, take, drop, codes, unsigned_abs, refl, sym, ◌∙◌, subst, arith}
use Rattle.std.proofs.lemmas.Bool.{and_parts}
use Rattle.std.proofs.lemmas.Str.Ascii.{IsAscii-cons, IsAscii-nil}
use Rattle.std.proofs.lemmas.Fmt.{IsAscii-from_digits}
use Rattle.std.proofs.lemmas.Str.{IsAscii-append, IsUtf8-append, IsUtf8-from_ascii}
use Rattle.std.specs.Fmt.{decimal, digit_glyph, digits, digits_onto, sign_text, signed_decimal}
use Rattle.std.specs.Int.{is_negative}
use Rattle.std.specs.Str.{IsAscii, IsUtf8}
use Rattle.std.specs.Str.Parse.{AllDigits}
use Rattle.hex.proofs.HexLemmas.{IsAscii-encode_with}
use Rattle.hex.specs.Hex.{encode_lower, lower_digits}
use Rattle.arrow_layout.specs.declared.intervals.Interval.{Interval}
use Rattle.arrow_layout.specs.declared.intervals.Interval.TheVariants.{DayTime, MonthDayNano, YearMonth}
use Rattle.arrow_csv.specs.Intervals.{counted, interval_text, months_text}
use Rattle.arrow_csv.specs.Decimals.{decimal_text, numeral, scaled, zero_filled}
use Rattle.arrow_csv.specs.Texts.{Appends, IsPlain}
use Rattle.arrow_json.proofs.DecimalNumbers.{drop_digits, filled_digits, numeral_digits, take_digits}

-- whether each byte is below 128
abbrev all_below : List ℕ → Bool
all_below [] = true
all_below (b ∷ bytes) = nat_lt b 128 && all_below bytes

-- one byte
one_ascii : (b : ℕ) → b < 128 → IsAscii (b ∷ [])
one_ascii b h zero = h
one_ascii b h (suc i) = omega arith

sign_ascii : (negative : Bool) → IsAscii (sign_text negative)
sign_ascii true = one_ascii 45 (omega arith)
sign_ascii false = λ i. omega arith

scaled_ascii : (scale : ℤ) (ds : List ℕ) → AllDigits 10 ds → IsAscii (scaled scale ds)
scaled_ascii (pos zero) ds h = IsAscii-from_digits ds h
scaled_ascii (pos (suc k)) ds h =
    let all = zero_filled (suc k + 1) ds in
    let digits = filled_digits (suc k + 1) ds h in
    let n = length all - suc k in
    IsAscii-append (take n all ++ codes ".") (drop n all)
    (IsAscii-append (take n all) (codes ".") (IsAscii-from_digits (take n all) (take_digits n all digits)) (one_ascii 46 (omega arith)))
    (IsAscii-from_digits (drop n all) (drop_digits n all digits))
scaled_ascii (negsuc k) ds h =
    IsAscii-append (ds ++ codes "e") (numeral (suc k))
    (IsAscii-append ds (codes "e") (IsAscii-from_digits ds h) (one_ascii 101 (omega arith)))
    (IsAscii-from_digits (numeral (suc k)) (numeral_digits (suc k)))

-- the text of a decimal
pub decimal_utf8 : (scale number : ℤ) → IsUtf8 (decimal_text scale number)
decimal_utf8 scale number =
    let digits = numeral (unsigned_abs number) in
    IsUtf8-from_ascii (decimal_text scale number)
    (IsAscii-append (sign_text (is_negative number)) (scaled scale digits) (sign_ascii (is_negative number)) (scaled_ascii scale digits (numeral_digits (unsigned_abs number))))

-- a list of bytes is ASCII if each of them is
all_ascii : (bytes : List ℕ) → all_below bytes ≡ true → IsAscii bytes
all_ascii [] h = IsAscii-nil
all_ascii (b ∷ bytes) h = let both = and_parts (nat_lt b 128) (all_below bytes) h in IsAscii-cons b bytes (ltb-true b 128 both.0) (all_ascii bytes both.1)

-- hexadecimal digits
pub hex_utf8 : (bytes : List ℕ) → IsUtf8 (encode_lower bytes)
hex_utf8 bytes = IsUtf8-from_ascii (encode_lower bytes) (IsAscii-encode_with lower_digits bytes (all_ascii lower_digits refl))

-- a digit is ASCII, and so are the digits of a number before an ASCII text
glyph_low : (b : Bool) (d : ℕ) → d < 10 → (if b then 48 + d else 87 + d) < 128
glyph_low true d h = omega (arith, h)
glyph_low false d h = omega (arith, h)

one_of_both : (b : Bool) (xs ys : List ℕ) → IsAscii xs → IsAscii ys → IsAscii (if b then xs else ys)
one_of_both true xs ys h k = h
one_of_both false xs ys h k = k

digits_ascii : (count n : ℕ) (rest : List ℕ) → IsAscii rest → IsAscii (digits_onto count 10 false n rest)
digits_ascii zero n rest h = h
digits_ascii (suc count) n rest h =
    let digit = digit_glyph false (n % 10) in
    let more : IsAscii (digit ∷ rest) = IsAscii-cons digit rest (glyph_low (nat_lt (n % 10) 10) (n % 10) (omega arith)) h in
    one_of_both (n / 10 == 0) (digit ∷ rest) (digits_onto count 10 false (n / 10) (digit ∷ rest)) more (digits_ascii count (n / 10) (digit ∷ rest) more)

-- a whole number
signed_ascii : (z : ℤ) → IsAscii (signed_decimal z)
unfolding digits
signed_ascii (pos n) = digits_ascii 64 n [] IsAscii-nil
signed_ascii (negsuc n) = IsAscii-cons 45 (decimal (suc n)) (omega arith) (digits_ascii 64 (suc n) [] IsAscii-nil)

-- a number and its unit
counted_utf8 : (z : ℤ) (unit : List ℕ) → all_below unit ≡ true → IsUtf8 (counted z unit)
counted_utf8 z unit h = IsUtf8-from_ascii (counted z unit) (IsAscii-append (signed_decimal z) unit (signed_ascii z) (all_ascii unit h))

-- a number of months
pub months_utf8 : (months : ℤ) → IsUtf8 (months_text months)
months_utf8 months = counted_utf8 months (codes "M") refl

-- an interval
pub interval_utf8 : (interval : Interval) → IsUtf8 (interval_text interval)
interval_utf8 (YearMonth months) = months_utf8 months
interval_utf8 (DayTime days milliseconds) =
    IsUtf8-append (counted days (codes "d")) (counted milliseconds (codes "ms")) (counted_utf8 days (codes "d") refl) (counted_utf8 milliseconds (codes "ms") refl)
interval_utf8 (MonthDayNano months days nanoseconds) =
    IsUtf8-append (months_text months ++ counted days (codes "d")) (counted nanoseconds (codes "ns"))
    (IsUtf8-append (months_text months) (counted days (codes "d")) (months_utf8 months) (counted_utf8 days (codes "d") refl)) (counted_utf8 nanoseconds (codes "ns") refl)

-- a property of a text holds of a list if the text was appended to the empty list
pub in_room : (P : List ℕ → Type 0) (old new whole : List ℕ) → old ≡ [] → Appends (IsPlain (λ text. text ≡ whole)) old new → P whole → P new
in_room P old new whole none put holds = subst P (sym (put.2 ∙ (λ i. none i ++ put.1.0 i))) holds
