-- Bytes of a field checked by lanes, and the text of a field run by run.
use Rattle.std.proofs.Common.{◌≡◌, ◌==◌, ◌&&◌, ◌<◌, ◌≤◌, ◌+◌, ◌-◌, ◌*◌, ◌%◌, ◌^◌, ◌∷◌, ◌++◌, [], ℕ, zero, suc, Bool, true, false, not, cond, eqb, List, length, take, drop, get_or, map, replicate, refl, sym, ap, ◌∙◌, arith, append_assoc, w8}
use Rattle.std.proofs.lemmas.Bool.{OnTrue_from, and_parts, eq-eqb, eqb-true, ne_eqb}
use Rattle.std.proofs.lemmas.Simd.{bitmask_splat, chunk-drop, leading_from_mask_l, length-chunk, none_from_empty_mask, trailing_mask_l}
use Rattle.std.proofs.lemmas.List.{drop-drop, get_or-drop, length-drop}
use Rattle.std.proofs.lemmas.List.Folds.{prefix_len-append}
use Rattle.std.proofs.lemmas.List.Sums.{fails_before_first, passes_at_first, prefix_len-le-length}
use Rattle.std.specs.Bool.{OnTrue}
use Rattle.std.specs.List.{position_or_len}
use lib.Count.{count_trailing_zeros}
use Rattle.std.specs.Simd.Lanes.{chunk, mask_l, top, zip2}
use Rattle.csv.specs.Writing.{default_writer, escaped, needs_byte, needs_quotes}
use Rattle.arrow_csv.specs.Chunks.{AreAllPlain, is_mark}

-- whether none of n lanes is this byte
abbrev has_none : ℕ → List ℕ → ℕ → Bool
has_none n lanes byte = (mask_l (map (top 7) (zip2 (λ a b. cond (eqb a b) 255 0) lanes (replicate n byte))) % 2 ^ 64) == 0

-- then none of the bytes there is
none_there : (n : ℕ) (field : List ℕ) (place byte : ℕ) → place + n ≤ length field → n ≤ 64 → has_none n (chunk place n field) byte ≡ true
    → (k : ℕ) → place ≤ k → k < place + n → (get_or field k 0 == byte) ≡ false
none_there n field place byte room few none =
    none_from_empty_mask (λ x. x == byte) field place n 0 room (sym (bitmask_splat w8 eqb (chunk place n field) n byte (length-chunk place n field room) few) ∙ eqb-true _ 0 none)

-- a byte that is none of the four needs no quotes
byte_plain : (b : ℕ) → (b == 44) ≡ false → (b == 34) ≡ false → (b == 13) ≡ false → (b == 10) ≡ false → needs_byte default_writer b ≡ false
byte_plain b comma mark return feed = rw (comma, mark, return, feed) refl

-- the four tests of n lanes, in the form of the code
pub plain_by_lanes : (n : ℕ) (field : List ℕ) (place : ℕ) → place + n ≤ length field → n ≤ 64
    → OnTrue (((has_none n (chunk place n field) 44 && has_none n (chunk place n field) 34) && has_none n (chunk place n field) 13) && has_none n (chunk place n field) 10)
    (AreAllPlain field place (place + n))
plain_by_lanes n field place room few = OnTrue_from _ (AreAllPlain field place (place + n)) all
  where
    lanes : List ℕ
    lanes = chunk place n field

    all : (((has_none n lanes 44 && has_none n lanes 34) && has_none n lanes 13) && has_none n lanes 10) ≡ true → AreAllPlain field place (place + n)
    all tests k from to =
        let three = and_parts _ _ tests in
        let two = and_parts _ _ three.0 in
        let one = and_parts _ _ two.0 in
        byte_plain (get_or field k 0)
        (none_there n field place 44 room few one.0 k from to)
        (none_there n field place 34 room few one.1 k from to)
        (none_there n field place 13 room few two.1 k from to)
        (none_there n field place 10 room few three.1 k from to)

-- if no byte needs quotes, the field does not
pub plain_whole : (field : List ℕ) → AreAllPlain field 0 (length field) → needs_quotes default_writer field ≡ false
plain_whole [] plain = refl
plain_whole (b ∷ field) plain = rw (plain 0 (omega arith) (omega arith)) (plain_whole field (λ k from to. plain (suc k) (omega arith) (omega (arith, to))))

-- if no byte up to the end matches, no bit is set
no_bit : (b : Bool) (n l m : ℕ) → n ≤ l → cond (not b) (1 + n) 0 ≡ 1 + l → (n ≡ l → m ≡ 0) → cond b 1 0 + 2 * m ≡ 0
no_bit true n l m le e rest = let no : ⊥ = omega arith in absurd no
no_bit false n l m le e rest = let none = rest (omega arith) in omega arith

no_bits : (xs : List ℕ) → position_or_len is_mark xs ≡ length xs → mask_l (map is_mark xs) ≡ 0
no_bits [] e = refl
no_bits (x ∷ xs) e = no_bit (is_mark x) _ (length xs) _ (prefix_len-le-length (λ b. not (is_mark b)) xs) (omega (arith, e)) (no_bits xs)

-- the first double quote from an index on, by those of a chunk
by_chunk : (field : List ℕ) (i n : ℕ)
    → position_or_len is_mark (drop i field)
    ≡ cond (eqb (position_or_len is_mark (chunk i n field)) (length (chunk i n field))) (length (chunk i n field) + position_or_len is_mark (drop (i + n) field)) (position_or_len is_mark (chunk i n field))
by_chunk field i n = ap (position_or_len is_mark) (chunk-drop i n field) ∙ prefix_len-append (λ b. not (is_mark b)) (chunk i n field) (drop (i + n) field)

-- a chunk without one is skipped
pub chunk_passed : (field : List ℕ) (i n : ℕ) → i + n ≤ length field → mask_l (map is_mark (chunk i n field)) ≡ 0 → position_or_len is_mark (drop i field) ≡ n + position_or_len is_mark (drop (i + n) field)
chunk_passed field i n room none =
    let part = chunk i n field in
    by_chunk field i n ∙ ap (λ b. cond b (length part + position_or_len is_mark (drop (i + n) field)) (position_or_len is_mark part)) (eq-eqb _ _ (leading_from_mask_l is_mark part none))
    ∙ ap (λ k. k + position_or_len is_mark (drop (i + n) field)) (length-chunk i n field room)

-- in any other chunk the lowest bit is the first of them
pub chunk_marked : (field : List ℕ) (i n : ℕ) → i + n ≤ length field → n ≤ 64 → 0 < mask_l (map is_mark (chunk i n field)) → position_or_len is_mark (drop i field) ≡ count_trailing_zeros 64 (mask_l (map is_mark (chunk i n field)))
chunk_marked field i n room few some =
    let part = chunk i n field in
    by_chunk field i n ∙ ap (λ b. cond b (length part + position_or_len is_mark (drop (i + n) field)) (position_or_len is_mark part)) (ne_eqb _ _ (λ (e : position_or_len is_mark part ≡ length part). omega (arith, no_bits part e)))
    ∙ sym (trailing_mask_l is_mark 64 part (omega (arith, length-chunk i n field room)) some)

-- it lies inside the field, or is its end
pub mark_inside : (field : List ℕ) (i : ℕ) → i ≤ length field → i + position_or_len is_mark (drop i field) ≤ length field
mark_inside field i inside = omega (arith, prefix_len-le-length (λ b. not (is_mark b)) (drop i field), length-drop i field)

-- bytes without a double quote are written as they are
escaped_run : (field : List ℕ) (n : ℕ) → ((k : ℕ) → k < n → (get_or field k 0 == 34) ≡ false) → n ≤ length field → escaped default_writer field ≡ take n field ++ escaped default_writer (drop n field)
unfolding escaped
escaped_run field zero plain inside = refl
escaped_run [] (suc n) plain inside = absurd (omega arith)
escaped_run (b ∷ field) (suc n) plain inside = rw (plain 0 (omega arith)) (ap (λ t. b ∷ t) (escaped_run field n (λ k less. plain (suc k) (omega (arith, less))) (omega (arith, inside))))

-- a double quote is written twice
escaped_mark : (field : List ℕ) (n : ℕ) → n < length field → (get_or field n 0 == 34) ≡ true → escaped default_writer (drop n field) ≡ 34 ∷ 34 ∷ escaped default_writer (drop (suc n) field)
unfolding escaped
escaped_mark [] n inside mark = absurd (omega arith)
escaped_mark (b ∷ field) zero inside mark = rw (mark, eqb-true b 34 mark) refl
escaped_mark (b ∷ field) (suc n) inside mark = escaped_mark field n (omega (arith, inside)) mark

-- the bytes up to the next double quote are written
pub run_written : (field out items whole : List ℕ) (i end : ℕ) → i ≤ length field → end ≡ i + position_or_len is_mark (drop i field)
    → out ++ (escaped default_writer (drop i field) ++ (34 ∷ [])) ≡ whole → items ≡ out ++ take (end - i) (drop i field) → items ++ (escaped default_writer (drop end field) ++ (34 ∷ [])) ≡ whole
run_written field out items whole i end inside is before now =
    let rest = drop i field in
    let n = end - i in
    let first : n ≡ position_or_len is_mark rest = omega (arith, is) in
    let place : i + n ≡ end = omega (arith, is) in
    let run = escaped_run rest n (λ k less. fails_before_first is_mark rest k 0 (omega (arith, less, first))) (omega (arith, first, prefix_len-le-length (λ b. not (is_mark b)) rest)) in
    let left : drop n rest ≡ drop end field = drop-drop n i field ∙ ap (λ k. drop k field) place in
    let written = escaped default_writer (drop end field) in
    ap (λ t. t ++ (written ++ (34 ∷ []))) now ∙ append_assoc out (take n rest) (written ++ (34 ∷ []))
    ∙ ap (λ t. out ++ t) (sym (append_assoc (take n rest) written (34 ∷ [])))
    ∙ ap (λ t. out ++ (t ++ (34 ∷ []))) (ap (λ t. take n rest ++ escaped default_writer t) (sym left) ∙ sym run) ∙ before

-- and the double quote after them
pub mark_written : (field out items whole : List ℕ) (i end : ℕ) → i ≤ length field → end ≡ i + position_or_len is_mark (drop i field) → end < length field
    → out ++ (escaped default_writer (drop end field) ++ (34 ∷ [])) ≡ whole → items ≡ out ++ (34 ∷ 34 ∷ []) → items ++ (escaped default_writer (drop (end + 1) field) ++ (34 ∷ [])) ≡ whole
mark_written field out items whole i end inside is less before now =
    let rest = drop i field in
    let n = end - i in
    let first : position_or_len is_mark rest ≡ n = omega (arith, is) in
    let place : i + n ≡ end = omega (arith, is) in
    let next : suc end ≡ end + 1 = omega arith in
    let here : get_or rest n 0 ≡ get_or field end 0 = get_or-drop i field n 0 ∙ ap (λ k. get_or field k 0) place in
    let mark : (get_or field end 0 == 34) ≡ true =
    ap (λ b. b == 34) (sym here) ∙ ap (λ k. get_or rest k 0 == 34) (sym first) ∙ passes_at_first is_mark rest 0 (omega (arith, first, length-drop i field, less)) in
    let twice = escaped_mark field end less mark ∙ ap (λ k. 34 ∷ 34 ∷ escaped default_writer (drop k field)) next in
    let written = escaped default_writer (drop (end + 1) field) in
    ap (λ t. t ++ (written ++ (34 ∷ []))) now ∙ append_assoc out (34 ∷ 34 ∷ []) (written ++ (34 ∷ [])) ∙ ap (λ t. out ++ (t ++ (34 ∷ []))) (sym twice) ∙ before
