-- Numbers of a fixed width compared lane by lane.
use Rattle.std.proofs.Common.{◌≡◌, ◌↔◌, ℕ, zero, suc, ◌+◌, ◌-◌, ◌*◌, ◌%◌, ◌^◌, ◌<◌, ◌≤◌, List, [], ◌∷◌, Bool, true, false, true≢false, cond, leb, nat_eq, length, map, take, drop, get_or, replicate, min, refl, sym, ap, ◌∙◌, IsTrue, arith, w8, Fits, eq-eqb}
use mir.Syntax.{Width}
use mir.Val.{bits, hbits}
use Rattle.std.specs.Simd.Lanes.{zip2, mask_l, top as sign, chunk, number_l, digits_l}
use Rattle.std.proofs.Math.Nat.{pow-suc}
use Rattle.std.proofs.lemmas.Nat.{pow_pos, column_fits}
use Rattle.std.proofs.lemmas.Bool.{eqb-true, leb-true, le-leb}
use Rattle.std.proofs.lemmas.List.{get_or-replicate, length-replicate}
use Rattle.std.proofs.lemmas.Simd.{tops_compared, mask_l-mod, get_or-zip2, length-zip2, get_or_wider, chunk-fits, below_from_Fits}
use Rattle.arrow_bits.specs.Numbers.{number_of, number_at}
use Rattle.arrow_bits.specs.AtMost.{AreAtMost}
use Rattle.arrow_bits.specs.Offsets.{NeverFall}
use Rattle.arrow_bits.proofs.Places.{number_in_part}
use Rattle.arrow_bits.proofs.Reading.{number_at-lt}

-- std's function for the number of some bytes
number_l-number_of : (bytes : List ℕ) → number_l 256 bytes ≡ number_of bytes
number_l-number_of [] = refl
number_l-number_of (byte ∷ bytes) = ap (λ n. byte + 256 * n) (number_l-number_of bytes)

-- a lane is prepended
full_cons : (lanes : List Bool) → ((k : ℕ) → k < length lanes → get_or lanes k false ≡ true)
    → (k : ℕ) → k < suc (length lanes) → get_or (true ∷ lanes) k false ≡ true
full_cons lanes all zero h = refl
full_cons lanes all (suc k) h = all k (omega (arith, h))

-- a mask has all its bits set exactly if each lane has
mask_full : (lanes : List Bool) → (mask_l lanes ≡ 2 ^ length lanes - 1) ↔ ((k : ℕ) → k < length lanes → get_or lanes k false ≡ true)
mask_full [] = ((λ e k h. absurd (omega (arith, h))), (λ all. refl))
mask_full (true ∷ lanes) =
    let two = pow-suc 2 (length lanes) in
    let one = pow_pos (length lanes) in
    let rest = mask_full lanes in (
      (λ e k h. full_cons lanes (rest.0 (omega (arith, e, two, one))) k h),
      (λ all. let e = rest.1 (λ k h. all (suc k) (omega (arith, h))) in omega (arith, e, two, one)),
    )
mask_full (false ∷ lanes) =
    let two = pow-suc 2 (length lanes) in
    let one = pow_pos (length lanes) in (
      (λ e k h. absurd (omega (arith, e, two, one))),
      (λ all. absurd (true≢false (sym (all zero (omega arith))))),
    )

-- some bytes of a list
number_at_chunk : (width : ℕ) (bytes : List ℕ) (k : ℕ) → number_l 256 (chunk (width * k) width bytes) ≡ number_at bytes (width * k) width
unfolding number_at
number_at_chunk width bytes k = number_l-number_of (take width (drop (width * k) bytes))

-- so the mask of a comparison is full exactly if it holds in each lane
pub lanes_hold : (w : Width) (n : ℕ) (xs ys : List ℕ) → n ≤ 64 → length xs ≡ n → length ys ≡ n
    → IsTrue (nat_eq (mask_l (map (sign (hbits w)) (zip2 (λ a b. cond (leb a b) (2 ^ bits w - 1) 0) xs ys)) % 18446744073709551616) (2 ^ n - 1))
    ↔ ((k : ℕ) → k < n → get_or xs k 0 ≤ get_or ys k 0)
lanes_hold w n xs ys few low high =
    let lanes = zip2 leb xs ys in
    let long : length lanes ≡ n = length-zip2 leb xs ys (low ∙ sym high) ∙ low in
    let whole = mask_full lanes in
    let mask : mask_l (map (sign (hbits w)) (zip2 (λ a b. cond (leb a b) (2 ^ bits w - 1) 0) xs ys)) % 18446744073709551616 ≡ mask_l lanes =
    ap (λ bs. mask_l bs % 18446744073709551616) (tops_compared w leb xs ys) ∙ mask_l-mod lanes 64 (omega (arith, few, long)) in
    let lane : (k : ℕ) → k < n → get_or lanes k false ≡ leb (get_or xs k 0) (get_or ys k 0) =
    λ k h. get_or-zip2 leb xs ys k 0 0 false (omega (arith, h, low)) (omega (arith, h, high)) in (
      (λ t k h.
          let full : mask_l lanes ≡ 2 ^ length lanes - 1 = sym mask ∙ eqb-true _ _ t ∙ ap (λ m. 2 ^ m - 1) (sym long) in
          leb-true _ _ (sym (lane k h) ∙ whole.0 full k (omega (arith, h, long)))),
      (λ all.
          let full = whole.1 (λ k h. lane k (omega (arith, h, long)) ∙ le-leb _ _ (all k (omega (arith, h, long)))) in
          eq-eqb _ _ (mask ∙ full ∙ ap (λ m. 2 ^ m - 1) long)),
    )

-- a lane of `width` bytes is the number at its offset
pub lane_number : (width q : ℕ) → q ≡ 256 ^ width → (bytes : List ℕ) (at n : ℕ) → ((i : ℕ) → Fits w8 (get_or bytes i 0)) → (k : ℕ) → k < n
    → get_or (digits_l q n (number_l 256 (take (width * n) (drop at bytes)))) k 0 ≡ number_at bytes (at + width * k) width
lane_number width q base bytes at n fits k h =
    let part = take (width * n) (drop at bytes) in
    let below = below_from_Fits w8 part (chunk-fits w8 at (width * n) bytes fits) in
    get_or_wider 256 width q n part k base below h
    ∙ number_at_chunk width part k
    ∙ number_in_part bytes at (width * n) (width * k) width (column_fits width k width n h (omega arith))

-- the offset of a number further on
further : (width i k : ℕ) → width * i + width * k ≡ width * (i + k)
further width i k = omega arith

-- n lanes hold the numbers of `width` bytes from number i on and those after each of them
pub block_falls_not : (width : ℕ) (bytes : List ℕ) (i n : ℕ)
    → ((k : ℕ) → k < n → number_at bytes (width * i + width * k) width ≤ number_at bytes (width * (i + 1) + width * k) width)
    ↔ NeverFall width bytes i (i + n)
block_falls_not width bytes i n = (
  (λ lanes j from h.
      let k = j - i in
      let here : i + k ≡ j = omega (arith, from) in
      let next : i + 1 + k ≡ j + 1 = omega (arith, from) in
      let low : width * i + width * k ≡ width * j = further width i k ∙ ap (λ m. width * m) here in
      let high : width * (i + 1) + width * k ≡ width * (j + 1) = further width (i + 1) k ∙ ap (λ m. width * m) next in
      rw (sym low, sym high) (lanes k (omega (arith, from, h)))),
  (λ never k h.
      let next : i + 1 + k ≡ i + k + 1 = omega arith in
      let low : width * i + width * k ≡ width * (i + k) = further width i k in
      let high : width * (i + 1) + width * k ≡ width * (i + k + 1) = further width (i + 1) k ∙ ap (λ m. width * m) next in
      rw (low, high) (never (i + k) (omega arith) (omega (arith, h)))),
)

-- n lanes hold the numbers of `width` bytes from number i on
pub block_at_most : (width : ℕ) (bytes : List ℕ) (i n top : ℕ)
    → ((k : ℕ) → k < n → number_at bytes (width * i + width * k) width ≤ top) ↔ AreAtMost width bytes i (i + n) top
block_at_most width bytes i n top = (
  (λ lanes j from h.
      let k = j - i in
      let here : i + k ≡ j = omega (arith, from) in
      let low : width * i + width * k ≡ width * j = further width i k ∙ ap (λ m. width * m) here in
      rw (sym low) (lanes k (omega (arith, from, h)))),
  (λ all k h. rw (further width i k) (all (i + k) (omega arith) (omega (arith, h)))),
)

-- So their mask is full exactly if none is above the top. Each lane is compared with the top, or with the greatest
-- number of the width if the top is above that.
pub block_holds : (w : Width) (width n : ℕ) (bytes : List ℕ) (i place top clipped : ℕ) (xs : List ℕ) → ((j : ℕ) → get_or bytes j 0 < 256)
    → place ≡ width * i → place + width * n ≤ length bytes → n ≤ 64 → clipped ≡ min top (256 ^ width - 1) → length xs ≡ n
    → ((k : ℕ) → k < n → get_or xs k 0 ≡ number_at bytes (place + width * k) width)
    → IsTrue (nat_eq (mask_l (map (sign (hbits w)) (zip2 (λ a b. cond (leb a b) (2 ^ bits w - 1) 0) xs (replicate n clipped))) % 18446744073709551616) (2 ^ n - 1))
    ↔ AreAtMost width bytes i (i + n) top
block_holds w width n bytes i place top clipped xs small here inside few least long lanes =
    let next_to : (k : ℕ) → k < n → get_or (replicate n clipped) k 0 ≡ clipped = λ k h. get_or-replicate n k clipped 0 h in
    let there : (k : ℕ) → number_at bytes (place + width * k) width ≡ number_at bytes (width * i + width * k) width =
    λ k. ap (λ p. number_at bytes (p + width * k) width) here in
    let fits : (k : ℕ) → k < n → number_at bytes (place + width * k) width < 256 ^ width =
    λ k h. number_at-lt (place + width * k) width bytes small (omega (arith, inside, column_fits width k width n h (omega arith))) in
    let hold = lanes_hold w n xs (replicate n clipped) few long (length-replicate n clipped) in
    let numbers = block_at_most width bytes i n top in (
      (λ t. numbers.0 (λ k h. omega (arith, hold.0 t k h, next_to k h, lanes k h, there k, least))),
      (λ all. hold.1 (λ k h. omega (arith, numbers.1 all k h, next_to k h, lanes k h, there k, fits k h, least))),
    )
