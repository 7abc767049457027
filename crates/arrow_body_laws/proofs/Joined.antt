-- Bytes whose pieces are known are those pieces.
use Rattle.std.proofs.Common.{◌≡◌, ℕ, zero, suc, ◌+◌, ◌*◌, ◌<◌, List, [], ◌∷◌, ◌++◌, length, get_or, take, drop, refl, ap, ◌∙◌, sym, arith, length-drop}
use Rattle.std.specs.List.{flat_map, sum_by}
use Rattle.std.proofs.lemmas.List.{drop-drop, take-append-drop}
use Rattle.std.proofs.lemmas.List.Sums.{sum_by-cons}
use Rattle.std.proofs.Math.Nat.{mul-suc}

-- a list without elements
pub no_elements : {A : Type 0} (xs : List A) → length xs ≡ 0 → xs ≡ []
no_elements [] long = refl
no_elements (x ∷ xs) long = absurd (omega (arith, long))

-- pieces of one width
pub unpieced : {X : Type 0} (f : X → List ℕ) (w : ℕ) (xs : List X) (d : X) (bytes : List ℕ) → length bytes ≡ w * length xs
    → ((j : ℕ) → j < length xs → take w (drop (w * j) bytes) ≡ f (get_or xs j d)) → bytes ≡ flat_map f xs
unpieced f w [] d bytes long each = no_elements bytes (omega (arith, long))
unpieced f w (x ∷ xs) d bytes long each =
    let nothing : w * 0 ≡ 0 = omega arith in
    let first : take w bytes ≡ f x = ap (λ n. take w (drop n bytes)) (sym nothing) ∙ each 0 (omega arith) in
    let more = mul-suc w (length xs) in
    let rest : length (drop w bytes) ≡ w * length xs = omega (arith, length-drop w bytes, long, more) in
    sym (take-append-drop w bytes)
    ∙ (λ i. first i ++ unpieced f w xs d (drop w bytes) rest
    (λ j h. let far : w + w * j ≡ w * suc j = omega (arith, mul-suc w j) in
    ap (take w) (drop-drop (w * j) w bytes) ∙ ap (λ n. take w (drop n bytes)) far ∙ each (suc j) (omega (arith, h))) i)

-- pieces of any length
pub uncut : {X A : Type 0} (g : X → List A) (xs : List X) (d : X) (bytes : List A) → length bytes ≡ sum_by (λ x. length (g x)) xs
    → ((j : ℕ) → j < length xs → take (length (g (get_or xs j d))) (drop (sum_by (λ x. length (g x)) (take j xs)) bytes) ≡ g (get_or xs j d)) → bytes ≡ flat_map g xs
uncut g [] d bytes long each = no_elements bytes long
uncut g (x ∷ xs) d bytes long each =
    let n = length (g x) in
    let rest : length (drop n bytes) ≡ sum_by (λ y. length (g y)) xs = omega (arith, length-drop n bytes, long, sum_by-cons (λ y. length (g y)) x xs) in
    sym (take-append-drop n bytes)
    ∙ (λ i. each 0 (omega arith) i ++ uncut g xs d (drop n bytes) rest
    (λ j h. ap (take (length (g (get_or xs j d)))) (drop-drop (sum_by (λ y. length (g y)) (take j xs)) n bytes)
    ∙ ap (λ k. take (length (g (get_or xs j d))) (drop k bytes)) (sym (sum_by-cons (λ y. length (g y)) x (take j xs)))
    ∙ each (suc j) (omega (arith, h))) i)
