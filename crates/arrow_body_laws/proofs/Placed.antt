-- Buffers with their padding, read back.
use Rattle.std.proofs.Common.{◌≡◌, ℕ, ◌+◌, ◌-◌, ◌<◌, ◌≤◌, List, [], ◌∷◌, ◌++◌, length, map, take, drop, refl, ap, ◌∙◌, sym, arith}
use Rattle.std.specs.Prelude.{replicate}
use Rattle.std.specs.List.{AllByRecursion, flat_map, sum_by}
use Rattle.std.proofs.lemmas.List.{length-append, length-replicate, append_assoc}
use Rattle.std.proofs.lemmas.List.Sums.{sum_by-cons}
use Rattle.std.proofs.Math.Seq.{take-append_seam, drop-append_seam}
use Rattle.std.proofs.lemmas.Grind.{div_ceil_times}
use Rattle.std.proofs.lemmas.Int.{ints}
use Rattle.arrow_body_reader.specs.Held.{IsHeld, bytes_in}
use Rattle.arrow_body_laws.specs.Stored.{rounded, padded, places_from}

-- rounding does not truncate
pub rounded-le : (align n : ℕ) → 0 < align → n ≤ rounded align n
rounded-le align n some = (div_ceil_times n align some).0

pub padded_long : (align : ℕ) (chunk : List ℕ) → 0 < align → length (padded align chunk) ≡ rounded align (length chunk)
padded_long align chunk some =
    let zeros = rounded align (length chunk) - length chunk in
    omega (arith, rounded-le align (length chunk) some, length-append chunk (replicate zeros 0), length-replicate {A = ℕ} zeros 0)

-- the length of the body is the sum of the rounded lengths of the buffers
pub body_long : (align : ℕ) (chunks : List (List ℕ)) → 0 < align → length (flat_map (padded align) chunks) ≡ sum_by (rounded align) (map length chunks)
body_long align [] some = refl
body_long align (c ∷ cs) some =
    omega (arith, length-append (padded align c) (flat_map (padded align) cs), padded_long align c some, body_long align cs some, sum_by-cons (rounded align) (length c) (map length cs))

-- each buffer has its bytes
pub places_read : (align : ℕ) (front body : List ℕ) (from : ℕ) (chunks : List (List ℕ)) → 0 < align
    → body ≡ front ++ flat_map (padded align) chunks → from ≡ length front → map (bytes_in body) (places_from align from chunks) ≡ chunks
places_read align front body from [] some is at = refl
places_read align front body from (c ∷ cs) some is at =
    let rest = flat_map (padded align) cs in
    let zeros : List ℕ = replicate (rounded align (length c) - length c) 0 in
    let here : take (length c) (drop from body) ≡ c =
    ap (λ n. take (length c) (drop n body)) at
    ∙ ap (λ b. take (length c) (drop (length front) b)) is
    ∙ ap (take (length c)) (drop-append_seam front ((c ++ zeros) ++ rest))
    ∙ ap (take (length c)) (append_assoc c zeros rest)
    ∙ take-append_seam c (zeros ++ rest) in
    let next : body ≡ (front ++ padded align c) ++ rest = is ∙ sym (append_assoc front (padded align c) rest) in
    let later : from + rounded align (length c) ≡ length (front ++ padded align c) = omega (arith, at, length-append front (padded align c), padded_long align c some) in
    λ i. here i ∷ places_read align (front ++ padded align c) body (from + rounded align (length c)) cs some next later i

-- and lies in the body
pub places_held : (align : ℕ) (front body : List ℕ) (from : ℕ) (chunks : List (List ℕ)) → 0 < align
    → body ≡ front ++ flat_map (padded align) chunks → from ≡ length front → AllByRecursion (IsHeld body) (places_from align from chunks)
places_held align front body from [] some is at = tt
places_held align front body from (c ∷ cs) some is at =
    let rest = flat_map (padded align) cs in
    let next : body ≡ (front ++ padded align c) ++ rest = is ∙ sym (append_assoc front (padded align c) rest) in
    let later : from + rounded align (length c) ≡ length (front ++ padded align c) = omega (arith, at, length-append front (padded align c), padded_long align c some) in
    let whole = ap length next ∙ length-append (front ++ padded align c) rest in
    let enough = rounded-le align (length c) some in (
      record { length_sign = omega (arith, ints); offset_sign = λ h. omega (arith, ints); inside = λ h. omega (arith, whole, later, enough) },
      places_held align (front ++ padded align c) body (from + rounded align (length c)) cs some next later,
    )
