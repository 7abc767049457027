-- One more bit, packed.
use Rattle.std.proofs.Common.{◌≡◌, ℕ, zero, suc, ◌+◌, ◌*◌, ◌^◌, ◌<◌, ◌≤◌, ◌%◌, Bool, true, false, cond, List, [], ◌∷◌, ◌++◌, length, map, take, drop, refl, ap, ◌∙◌, sym, arith, append_assoc, append-nil}
use Rattle.std.specs.List.{range_with_len}
use Rattle.std.specs.Int.{div_ceil}
use Rattle.std.proofs.lemmas.List.{take_all, length-append, take-append-le, drop-append-le, length-drop}
use Rattle.std.proofs.lemmas.List.FromFn.{map-range_with_len_more}
use Rattle.std.proofs.Math.Seq.{drop-append_seam}
use Rattle.std.proofs.Math.Nat.{pow-suc}
use Rattle.arrow_body_laws.specs.Packed.{number_of_bits, packed}
use Rattle.arrow_body_slots.specs.Packing.{IsPacking}

-- one more set bit adds its weight
pub set_more : (bits : List Bool) → number_of_bits (bits ++ true ∷ []) ≡ number_of_bits bits + 2 ^ length bits
set_more [] = refl
set_more (b ∷ bits) = omega (arith, set_more bits, pow-suc 2 (length bits))

-- one more unset bit adds nothing
pub clear_more : (bits : List Bool) → number_of_bits (bits ++ false ∷ []) ≡ number_of_bits bits
clear_more [] = refl
clear_more (b ∷ bits) = omega (arith, clear_more bits)

bit_small : (b : Bool) → ◌≤◌ (cond b 1 0) 1
bit_small true = omega arith
bit_small false = omega arith

-- a number of bits is below the weight of the next one
pub below_next : (bits : List Bool) → number_of_bits bits < 2 ^ length bits
below_next [] = omega arith
below_next (b ∷ bits) = omega (arith, pow-suc 2 (length bits), below_next bits, bit_small b)

-- byte k of packed bits
abbrev byte_of : List Bool → ℕ → ℕ
byte_of bits k = number_of_bits (take 8 (drop (8 * k) bits))

-- full bytes do not depend on what follows them
byte_before : (whole rest : List Bool) (k : ℕ) → 8 * k + 8 ≤ length whole → byte_of (whole ++ rest) k ≡ byte_of whole k
byte_before whole rest k h =
    ap (λ bits. number_of_bits (take 8 bits)) (drop-append-le (8 * k) whole rest (omega (arith, h)))
    ∙ ap number_of_bits (take-append-le 8 (drop (8 * k) whole) rest (omega (arith, h, length-drop (8 * k) whole)))

bytes_before : (whole rest : List Bool) (n : ℕ) → 8 * n ≤ length whole → map (byte_of (whole ++ rest)) (range_with_len 0 n) ≡ map (byte_of whole) (range_with_len 0 n)
bytes_before whole rest zero h = refl
bytes_before whole rest (suc n) h =
    let one : suc n ≡ n + 1 = omega arith in
    ap (λ m. map (byte_of (whole ++ rest)) (range_with_len 0 m)) one
    ∙ map-range_with_len_more (byte_of (whole ++ rest)) 0 n n (omega arith)
    ∙ (λ i. bytes_before whole rest n (omega (arith, h)) i ++ byte_before whole rest n (omega (arith, h)) i ∷ [])
    ∙ sym (map-range_with_len_more (byte_of whole) 0 n n (omega arith))
    ∙ ap (λ m. map (byte_of whole) (range_with_len 0 m)) (sym one)

-- bits that follow full bytes are one more byte
pub packed_more : (whole rest : List Bool) (n : ℕ) → length whole ≡ 8 * n → 0 < length rest → length rest ≤ 8 → packed (whole ++ rest) ≡ packed whole ++ number_of_bits rest ∷ []
packed_more whole rest n full some few =
    let long : div_ceil (length (whole ++ rest)) 8 ≡ n + 1 = omega (arith, length-append whole rest, full) in
    let long_whole : div_ceil (length whole) 8 ≡ n = omega (arith, full) in
    let after : drop (8 * n) (whole ++ rest) ≡ rest = ap (λ m. drop m (whole ++ rest)) (sym full) ∙ drop-append_seam whole rest in
    let last : byte_of (whole ++ rest) n ≡ number_of_bits rest = ap (λ bits. number_of_bits (take 8 bits)) after ∙ ap number_of_bits (take_all 8 rest few) in
    ap (λ m. map (byte_of (whole ++ rest)) (range_with_len 0 m)) long
    ∙ map-range_with_len_more (byte_of (whole ++ rest)) 0 n n (omega arith)
    ∙ (λ i. bytes_before whole rest n (omega (arith, full)) i ++ last i ∷ [])
    ∙ ap (λ m. map (byte_of whole) (range_with_len 0 m) ++ number_of_bits rest ∷ []) (sym long_whole)

-- the weight of the last bit of a byte
pub last_weight : (n : ℕ) → n < 8 → 2 ^ n ≡ 128 → n ≡ 7
last_weight zero h e = absurd (omega (arith, e))
last_weight (suc zero) h e = absurd (omega (arith, e))
last_weight (suc (suc zero)) h e = absurd (omega (arith, e))
last_weight (suc (suc (suc zero))) h e = absurd (omega (arith, e))
last_weight (suc (suc (suc (suc zero)))) h e = absurd (omega (arith, e))
last_weight (suc (suc (suc (suc (suc zero))))) h e = absurd (omega (arith, e))
last_weight (suc (suc (suc (suc (suc (suc zero)))))) h e = absurd (omega (arith, e))
last_weight (suc (suc (suc (suc (suc (suc (suc n))))))) h e = omega (arith, h)

-- the weights of the other bits are less
pub small_weight : (n : ℕ) → n < 8 → (2 ^ n ≡ 128 → ⊥) → n < 7
small_weight zero h other = omega arith
small_weight (suc zero) h other = omega arith
small_weight (suc (suc zero)) h other = omega arith
small_weight (suc (suc (suc zero))) h other = omega arith
small_weight (suc (suc (suc (suc zero)))) h other = omega arith
small_weight (suc (suc (suc (suc (suc zero))))) h other = omega arith
small_weight (suc (suc (suc (suc (suc (suc zero)))))) h other = omega arith
small_weight (suc (suc (suc (suc (suc (suc (suc zero))))))) h other = absurd (other refl)
small_weight (suc (suc (suc (suc (suc (suc (suc (suc n)))))))) h other = absurd (omega (arith, h))

-- no weight is above 128
pub weight_small : (n : ℕ) → n < 8 → 2 ^ n ≤ 128
weight_small zero h = omega arith
weight_small (suc zero) h = omega arith
weight_small (suc (suc zero)) h = omega arith
weight_small (suc (suc (suc zero))) h = omega arith
weight_small (suc (suc (suc (suc zero)))) h = omega arith
weight_small (suc (suc (suc (suc (suc zero))))) h = omega arith
weight_small (suc (suc (suc (suc (suc (suc zero)))))) h = omega arith
weight_small (suc (suc (suc (suc (suc (suc (suc zero))))))) h = omega arith
weight_small (suc (suc (suc (suc (suc (suc (suc (suc n)))))))) h = absurd (omega (arith, h))

-- the weight of the first bit
first_weight : (n : ℕ) → 2 ^ n ≡ 1 → n ≡ 0
first_weight zero e = refl
first_weight (suc n) e = absurd (omega (arith, pow-suc 2 n, e))

-- the kept byte with one more bit
pub byte_more : (b : Bool) (rest : List Bool) (byte : ℕ) → length rest < 8 → byte ≡ cond b ((number_of_bits rest + 2 ^ length rest) % 256) (number_of_bits rest) → byte ≡ number_of_bits (rest ++ b ∷ [])
byte_more true rest byte few is = omega (arith, is, set_more rest, below_next rest, weight_small (length rest) few)
byte_more false rest byte few is = is ∙ sym (clear_more rest)

-- no bit
pub no_bits : (before : List ℕ) → IsPacking before [] 0 1 before
no_bits before = record { whole = []; rest = []; count = 0; split = refl; full = refl; few = omega arith; kept = refl; next = refl; written = sym (append-nil before) }

-- one more bit, if it does not fill the byte
pub bit_kept : (b : Bool) (before : List ℕ) (bits : List Bool) (byte weight grown : ℕ) (items : List ℕ) → IsPacking before bits byte weight items → (weight ≡ 128 → ⊥)
    → grown ≡ cond b ((byte + weight) % 256) byte → IsPacking before (bits ++ b ∷ []) grown (weight * 2 % 256) items
bit_kept b before bits byte weight grown items p other is =
    let short = small_weight (length p.rest) p.few (λ e. other (p.next ∙ e)) in
    let more : length (p.rest ++ b ∷ []) ≡ suc (length p.rest) = length-append p.rest (b ∷ []) ∙ omega arith in
    record {
      whole = p.whole;
      rest = p.rest ++ b ∷ [];
      count = p.count;
      split = ap (λ bs. bs ++ b ∷ []) p.split ∙ append_assoc p.whole p.rest (b ∷ []);
      full = p.full;
      few = omega (arith, more, short);
      kept = byte_more b p.rest grown p.few (is ∙ (λ i. cond b ((p.kept i + p.next i) % 256) (p.kept i)));
      next = omega (arith, p.next, pow-suc 2 (length p.rest), weight_small (length p.rest) p.few, half (length p.rest) short) ∙ ap (λ n. 2 ^ n) (sym more);
      written = p.written;
    }
  where
    half : (n : ℕ) → n < 7 → 2 ^ suc n ≤ 128
    half n h = weight_small (suc n) (omega (arith, h))

-- one more bit, if it fills the byte
pub bit_fills : (b : Bool) (before : List ℕ) (bits : List Bool) (byte weight grown : ℕ) (items : List ℕ) → IsPacking before bits byte weight items → weight ≡ 128
    → grown ≡ cond b ((byte + weight) % 256) byte → IsPacking before (bits ++ b ∷ []) 0 1 (items ++ grown ∷ [])
bit_fills b before bits byte weight grown items p last is =
    let seven = last_weight (length p.rest) p.few (sym p.next ∙ last) in
    let more : length (p.rest ++ b ∷ []) ≡ 8 = length-append p.rest (b ∷ []) ∙ omega (arith, seven) in
    let byte_is = byte_more b p.rest grown p.few (is ∙ (λ i. cond b ((p.kept i + p.next i) % 256) (p.kept i))) in
    record {
      whole = p.whole ++ (p.rest ++ b ∷ []);
      rest = [];
      count = p.count + 1;
      split = ap (λ bs. bs ++ b ∷ []) p.split ∙ append_assoc p.whole p.rest (b ∷ []) ∙ sym (append-nil (p.whole ++ (p.rest ++ b ∷ [])));
      full = length-append p.whole (p.rest ++ b ∷ []) ∙ omega (arith, p.full, more);
      few = omega arith;
      kept = refl;
      next = refl;
      written = (λ i. p.written i ++ byte_is i ∷ []) ∙ append_assoc before (packed p.whole) (number_of_bits (p.rest ++ b ∷ []) ∷ [])
          ∙ ap (λ bytes. before ++ bytes) (sym (packed_more p.whole (p.rest ++ b ∷ []) p.count p.full (omega (arith, more)) (omega (arith, more))));
    }

-- the last byte is not full, but has bits
pub bits_end : (before : List ℕ) (bits : List Bool) (byte weight : ℕ) (items : List ℕ) → IsPacking before bits byte weight items → (weight ≡ 1 → ⊥) → items ++ byte ∷ [] ≡ before ++ packed bits
bits_end before bits byte weight items p other =
    let some : 0 < length p.rest = positive (length p.rest) (λ e. other (p.next ∙ ap (λ n. 2 ^ n) e)) in
    (λ i. p.written i ++ p.kept i ∷ []) ∙ append_assoc before (packed p.whole) (number_of_bits p.rest ∷ [])
    ∙ ap (λ bytes. before ++ bytes) (sym (packed_more p.whole p.rest p.count p.full some (omega (arith, p.few))) ∙ ap packed (sym p.split))
  where
    positive : (n : ℕ) → (n ≡ 0 → ⊥) → 0 < n
    positive zero no_zero = absurd (no_zero refl)
    positive (suc n) no_zero = omega arith

-- the last byte has no bits
pub no_bits_left : (before : List ℕ) (bits : List Bool) (byte weight : ℕ) (items : List ℕ) → IsPacking before bits byte weight items → weight ≡ 1 → items ≡ before ++ packed bits
no_bits_left before bits byte weight items p one =
    p.written ∙ ap (λ bs. before ++ packed bs) (sym (append-nil p.whole) ∙ ap (λ r. p.whole ++ r) (sym (empty p.rest (first_weight (length p.rest) (sym p.next ∙ one)))) ∙ sym p.split)
  where
    empty : (bs : List Bool) → length bs ≡ 0 → bs ≡ []
    empty [] e = refl
    empty (b ∷ bs) e = absurd (omega (arith, e))
