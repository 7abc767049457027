-- Pieces one after another, read back.
use Rattle.std.proofs.Common.{◌≡◌, ℕ, zero, suc, ◌+◌, ◌*◌, ◌-◌, ◌/◌, ◌^◌, ◌<◌, ◌≤◌, Bool, true, false, List, [], ◌∷◌, ◌++◌, length, map, get_or, take, drop, refl, ap, ◌∙◌, sym, arith}
use Rattle.std.specs.Prelude.{ℤ, pos, negsuc}
use Rattle.std.specs.List.{AllByRecursion, flat_map, sum_by}
use Rattle.std.proofs.lemmas.List.{take_all, length-append, length-map}
use Rattle.std.proofs.Math.Seq.{take-append_seam, drop-append-add}
use Rattle.std.proofs.Math.Nat.{mul-suc}
use Rattle.std.proofs.lemmas.Int.{ints}
use Rattle.std.proofs.lemmas.List.Sums.{sum_by-cons, sum_by-take-le}
use Rattle.arrow_bits.specs.Numbers.{number_of, number_at, signed_at, twos_complement, int_of, FitsInt, number_bytes, int_bytes}
use Rattle.arrow_bits.proofs.Written.{int_after}
use Rattle.arrow_layout.specs.Form.{greatest_offset, offset_bytes}
use Rattle.arrow_layout.specs.declared.form.OffsetWidth.{OffsetWidth}
use Rattle.arrow_layout.specs.declared.form.OffsetWidth.TheVariants.{Small, Large}
use Rattle.arrow_body_laws.specs.Packed.{ints_bytes, sums_from, offsets_bytes}

-- the pieces of these elements are of one width
abbrev pub HaveWidth : {X A : Type 0} → (X → List A) → ℕ → List X → Type 0
HaveWidth f w xs = AllByRecursion (λ x. length (f x) ≡ w) xs

-- if every piece is of the width, those of these elements are
pub all_wide : {X A : Type 0} (f : X → List A) (w : ℕ) → ((x : X) → length (f x) ≡ w) → (xs : List X) → HaveWidth f w xs
all_wide f w long [] = tt
all_wide f w long (x ∷ xs) = (long x, all_wide f w long xs)

-- piece j of pieces of one width
pub piece : {X A : Type 0} (f : X → List A) (w : ℕ) (xs : List X) → HaveWidth f w xs → (j : ℕ) (d : X) → j < length xs → take w (drop (w * j) (flat_map f xs)) ≡ f (get_or xs j d)
piece f w [] long j d h = absurd (omega (arith, h))
piece f w (x ∷ xs) long zero d h =
    let nothing : w * 0 ≡ 0 = omega arith in
    ap (λ n. take w (drop n (f x ++ flat_map f xs))) nothing
    ∙ ap (λ n. take n (f x ++ flat_map f xs)) (sym long.0)
    ∙ take-append_seam (f x) (flat_map f xs)
piece f w (x ∷ xs) long (suc j) d h =
    let far : w * suc j ≡ length (f x) + w * j = omega (arith, mul-suc w j, long.0) in
    ap (λ n. take w (drop n (f x ++ flat_map f xs))) far
    ∙ ap (take w) (drop-append-add (f x) (flat_map f xs) (w * j))
    ∙ piece f w xs long.1 j d (omega (arith, h))

-- their total length
pub pieces_long : {X A : Type 0} (f : X → List A) (w : ℕ) (xs : List X) → HaveWidth f w xs → length (flat_map f xs) ≡ w * length xs
pieces_long f w [] long = omega arith
pieces_long f w (x ∷ xs) long =
    let more = mul-suc w (length xs) in
    length-append (f x) (flat_map f xs) ∙ omega (arith, long.0, pieces_long f w xs long.1, more)

-- piece j of pieces of any length
pub cut : {X A : Type 0} (g : X → List A) (xs : List X) (j : ℕ) (d : X) → j < length xs
    → take (length (g (get_or xs j d))) (drop (sum_by (λ x. length (g x)) (take j xs)) (flat_map g xs)) ≡ g (get_or xs j d)
cut g [] j d h = absurd (omega (arith, h))
cut g (x ∷ xs) zero d h = take-append_seam (g x) (flat_map g xs)
cut g (x ∷ xs) (suc j) d h =
    ap (λ n. take (length (g (get_or xs j d))) (drop n (g x ++ flat_map g xs))) (sum_by-cons (λ y. length (g y)) x (take j xs))
    ∙ ap (take (length (g (get_or xs j d)))) (drop-append-add (g x) (flat_map g xs) (sum_by (λ x. length (g x)) (take j xs)))
    ∙ cut g xs j d (omega (arith, h))

-- the number of bytes of a number is its width
pub length_number : (width n : ℕ) → length (number_bytes width n) ≡ width
length_number zero n = refl
length_number (suc width) n = ap suc (length_number width (n / 256))

pub length_int : (width : ℕ) (z : ℤ) → length (int_bytes width z) ≡ width
length_int width (pos n) = length_number width n
length_int width (negsuc n) = length_number width (2 ^ (8 * width) - 1 - n)

-- a number is read by its bytes
same_int : (a b : List ℕ) (p q w : ℕ) (signed : Bool) → number_at a p w ≡ number_at b q w → int_of a p w signed ≡ int_of b q w signed
unfolding signed_at
same_int a b p q w true same = ap (twos_complement w) same
same_int a b p q w false same = ap pos same

-- number j of numbers of one width
pub number_piece : {X : Type 0} (f : X → List ℕ) (w : ℕ) (xs : List X) → HaveWidth f w xs → (j : ℕ) (d : X) → j < length xs → number_at (flat_map f xs) (w * j) w ≡ number_of (f (get_or xs j d))
unfolding number_at
number_piece f w xs long j d h = ap number_of (piece f w xs long j d h)

-- the number in bytes that hold nothing else
number_alone : (w : ℕ) (bytes : List ℕ) → length bytes ≡ w → number_at bytes 0 w ≡ number_of bytes
unfolding number_at
number_alone w bytes long = ap number_of (take_all w bytes (omega (arith, long)))

-- number j, by its sign
pub int_read : (width : ℕ) (signed : Bool) (zs : List ℤ) (j : ℕ) → 1 ≤ width → j < length zs → FitsInt width signed (get_or zs j (pos 0)) → int_of (ints_bytes width zs) (width * j) width signed ≡ get_or zs j (pos 0)
int_read width signed zs j one h fits =
    let z = get_or zs j (pos 0) in
    same_int (ints_bytes width zs) (int_bytes width z) (width * j) 0 width signed
    (number_piece (int_bytes width) width zs (all_wide (int_bytes width) width (length_int width) zs) j (pos 0) h ∙ sym (number_alone width (int_bytes width z) (length_int width z)))
    ∙ int_after [] width z one signed fits

-- numbers that are not negative are the same as integers and as naturals
positive : (m n : ℕ) → pos m ≡ pos n → m ≡ n
positive m n e = cc

-- how many offsets there are
pub length_sums : (n : ℕ) (ks : List ℕ) → length (sums_from n ks) ≡ length ks + 1
length_sums n [] = refl
length_sums n (k ∷ ks) = omega (arith, length_sums (n + k) ks)

-- offset j is the sum of the lengths before it
pub sum_at : {X : Type 0} (f : X → ℕ) (n : ℕ) (xs : List X) (j : ℕ) → j ≤ length xs → get_or (sums_from n (map f xs)) j 0 ≡ n + sum_by f (take j xs)
sum_at f n [] zero h = omega arith
sum_at f n [] (suc j) h = absurd (omega (arith, h))
sum_at f n (x ∷ xs) zero h = omega arith
sum_at f n (x ∷ xs) (suc j) h =
    let rest : get_or (sums_from n (map f (x ∷ xs))) (suc j) 0 ≡ get_or (sums_from (n + f x) (map f xs)) j 0 = refl in
    omega (arith, rest, sum_by-cons f x (take j xs), sum_at f (n + f x) xs j (omega (arith, h)))

-- the sum with one more element
pub sum_next : {X : Type 0} (f : X → ℕ) (xs : List X) (j : ℕ) (d : X) → j < length xs → sum_by f (take (j + 1) xs) ≡ sum_by f (take j xs) + f (get_or xs j d)
sum_next f [] j d h = absurd (omega (arith, h))
sum_next f (x ∷ xs) zero d h = omega (arith, sum_by-cons f x [])
sum_next f (x ∷ xs) (suc j) d h =
    let one : suc j + 1 ≡ suc (j + 1) = omega arith in
    omega (arith, ap (λ n. sum_by f (take n (x ∷ xs))) one, sum_by-cons f x (take j xs), sum_by-cons f x (take (j + 1) xs), sum_next f xs j d (omega (arith, h)))

-- the number read from its own bytes
number_again : (width n : ℕ) → 1 ≤ width → n < 2 ^ (8 * width) → number_of (number_bytes width n) ≡ n
number_again width n one h =
    sym (number_alone width (number_bytes width n) (length_number width n))
    ∙ positive (number_at (number_bytes width n) 0 width) n (int_after [] width (pos n) one false (omega (arith, ints), omega (arith, ints, h)))

-- an offset has at least one byte
pub some_offset : (w : OffsetWidth) → 1 ≤ offset_bytes w
some_offset Small = omega arith
some_offset Large = omega arith

-- an offset has no sign bit
pub offset_half : (w : OffsetWidth) (n : ℕ) → n ≤ greatest_offset w → n < 2 ^ (8 * offset_bytes w - 1)
offset_half Small n h = omega (arith, h)
offset_half Large n h = omega (arith, h)

offset_whole : (w : OffsetWidth) (n : ℕ) → n ≤ greatest_offset w → n < 2 ^ (8 * offset_bytes w)
offset_whole Small n h = omega (arith, h)
offset_whole Large n h = omega (arith, h)

-- there is one more offset than ranges
pub offsets_long : {X : Type 0} (w : OffsetWidth) (f : X → ℕ) (xs : List X) → length (offsets_bytes w (map f xs)) ≡ offset_bytes w * (length xs + 1)
offsets_long w f xs =
    let sums = sums_from 0 (map f xs) in
    pieces_long (number_bytes (offset_bytes w)) (offset_bytes w) sums (all_wide (number_bytes (offset_bytes w)) (offset_bytes w) (length_number (offset_bytes w)) sums)
    ∙ ap (λ n. offset_bytes w * n) (length_sums 0 (map f xs) ∙ ap (λ n. n + 1) (length-map xs f))

-- offset j is the sum of the lengths before range j
pub place_read : {X : Type 0} (w : OffsetWidth) (f : X → ℕ) (xs : List X) (j : ℕ) → j ≤ length xs → sum_by f xs ≤ greatest_offset w
    → number_at (offsets_bytes w (map f xs)) (offset_bytes w * j) (offset_bytes w) ≡ sum_by f (take j xs)
place_read w f xs j h near =
    let width = offset_bytes w in
    let sums = sums_from 0 (map f xs) in
    let long = length_sums 0 (map f xs) in
    let sum = sum_at f 0 xs j h in
    let small = sum_by-take-le f xs j in
    let few : get_or sums j 0 ≤ greatest_offset w = omega (arith, sum, small, near) in
    number_piece (number_bytes width) width sums (all_wide (number_bytes width) width (length_number width) sums) j 0 (omega (arith, long, length-map xs f, h))
    ∙ number_again width (get_or sums j 0) (some_offset w) (offset_whole w (get_or sums j 0) few) ∙ omega (arith, sum)

-- the bytes of 0
zeros : (w : ℕ) → number_of (number_bytes w 0) ≡ 0
zeros zero = refl
zeros (suc w) = omega (arith, zeros w)

pub zero_again : (w : ℕ) → number_of (int_bytes w (pos 0)) ≡ 0
zero_again w = zeros w
