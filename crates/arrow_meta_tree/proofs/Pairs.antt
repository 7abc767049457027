-- The pairs of a vector, one by one.
use Rattle.std.proofs.Common.{◌≡◌, ℕ, zero, suc, ◌+◌, ◌*◌, ◌-◌, ◌<◌, List, [], ◌∷◌, ◌++◌, length, Option, Some, sym, ap, ◌∙◌, arith, append_assoc, map}
use Rattle.std.specs.Option.{unwrap_or}
use Rattle.arrow_flatbuf.specs.Place.{number_at}
use Rattle.arrow_meta_tree.specs.Lies.{pair_at, pairs_from}

pairs_step : (b : List ℕ) (p n i : ℕ) → i < n → pairs_from b (p + i * 16) (n - i) ≡ pair_at b (p + i * 16) ∷ pairs_from b (p + (i + 1) * 16) (n - (i + 1))
pairs_step b p n i h =
    let count : n - i ≡ suc (n - (i + 1)) = omega arith in
    let next : p + i * 16 + 16 ≡ p + (i + 1) * 16 = omega arith in
    ap (λ (k : ℕ). pairs_from b (p + i * 16) k) count ∙ ap (λ (q : ℕ). pair_at b (p + i * 16) ∷ pairs_from b q (n - (i + 1))) next

pair_is : (b : List ℕ) (p i : ℕ) (xy : ℕ × ℕ) → Some xy.0 ≡ number_at 8 b (p + i * 16) → Some xy.1 ≡ number_at 8 b (p + i * 16 + 8) → xy ≡ pair_at b (p + i * 16)
pair_is b p i xy f g =
    let one : xy.0 ≡ unwrap_or (number_at 8 b (p + i * 16)) 0 = ap (λ (o : Option ℕ). unwrap_or o 0) f in
    let two : xy.1 ≡ unwrap_or (number_at 8 b (p + i * 16 + 8)) 0 = ap (λ (o : Option ℕ). unwrap_or o 0) g in
    ap (λ (u : ℕ). (u, xy.1)) one ∙ ap (λ (v : ℕ). (unwrap_or (number_at 8 b (p + i * 16)) 0, v)) two

-- the current pair and those that follow
next_pair : (b : List ℕ) (p n i : ℕ) (xy : ℕ × ℕ) → i < n → Some xy.0 ≡ number_at 8 b (p + i * 16) → Some xy.1 ≡ number_at 8 b (p + i * 16 + 8) → xy ∷ pairs_from b (p + (i + 1) * 16) (n - (i + 1)) ≡ pairs_from b (p + i * 16) (n - i)
next_pair b p n i xy h f g =
    ap (λ (z : ℕ × ℕ). z ∷ pairs_from b (p + (i + 1) * 16) (n - (i + 1))) (pair_is b p i xy f g) ∙ sym (pairs_step b p n i h)

-- the pairs so far and those that follow are all of them, after one more
pub one_pair : (b : List ℕ) (p n i : ℕ) (xy : ℕ × ℕ) (old new all : List (ℕ × ℕ)) → i < n → Some xy.0 ≡ number_at 8 b (p + i * 16) → Some xy.1 ≡ number_at 8 b (p + i * 16 + 8) → new ≡ old ++ xy ∷ [] → old ++ pairs_from b (p + i * 16) (n - i) ≡ all → new ++ pairs_from b (p + (i + 1) * 16) (n - (i + 1)) ≡ all
one_pair b p n i xy old new all h f g items before =
    let rest = pairs_from b (p + (i + 1) * 16) (n - (i + 1)) in
    ap (λ (xs : List (ℕ × ℕ)). xs ++ rest) items ∙ append_assoc old (xy ∷ []) rest ∙ ap (λ (r : List (ℕ × ℕ)). old ++ r) (next_pair b p n i xy h f g) ∙ before

-- the same of the values made from the pairs one by one
pub one_made : {X : Type 0} (make : ℕ × ℕ → X) (b : List ℕ) (p n i : ℕ) (xy : ℕ × ℕ) (old new all : List X) → i < n → Some xy.0 ≡ number_at 8 b (p + i * 16) → Some xy.1 ≡ number_at 8 b (p + i * 16 + 8) → new ≡ old ++ make xy ∷ [] → old ++ map make (pairs_from b (p + i * 16) (n - i)) ≡ all → new ++ map make (pairs_from b (p + (i + 1) * 16) (n - (i + 1))) ≡ all
one_made {X} make b p n i xy old new all h f g items before =
    let rest = map make (pairs_from b (p + (i + 1) * 16) (n - (i + 1))) in
    ap (λ (xs : List X). xs ++ rest) items ∙ append_assoc old (make xy ∷ []) rest ∙ ap (λ (ps : List (ℕ × ℕ)). old ++ map make ps) (next_pair b p n i xy h f g) ∙ before

-- A vector that has elements has pairs.
pub some_pairs : (b : List ℕ) (p n : ℕ) → 0 < n → 0 < length (pairs_from b p n)
some_pairs b p zero h = absurd (omega (arith, h))
some_pairs b p (suc n) h = omega arith
