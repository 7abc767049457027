-- Pairs that are put one after another.
use Rattle.std.proofs.Common.{◌≡◌, ◌<◌, ◌+◌, ℕ, suc, List, [], ◌∷◌, ◌++◌, length, take, map, flat_map, Vec, sym, ap, ◌∙◌, arith, append_assoc, append-nil}
use Rattle.std.proofs.lemmas.Grind.{flat_map-append}
use Rattle.std.proofs.lemmas.List.{length-map, map-append}
use Rattle.std.specs.declared.alloc.Global.{Global}
use Rattle.arrow_bits.specs.Numbers.{number_bytes}
use Rattle.arrow_types.specs.Notes.{pair_view, pairs_view}
use Rattle.arrowflow_calls.specs.Fields.{counted, metadata_bytes, pair_bytes}

-- a pair of the program
abbrev pub Pair : Type 0
Pair = Vec ℕ Global × Vec ℕ Global

-- one more pair comes after those before it
pub pairs_next : (ps : List Pair) (k : ℕ) (p : Pair) (key value : List ℕ) → take (k + 1) ps ≡ take k ps ++ p ∷ [] → key ≡ p.0.items → value ≡ p.1.items
    → (flat_map pair_bytes (pairs_view (take k ps)) ++ counted key) ++ counted value ≡ flat_map pair_bytes (pairs_view (take (k + 1) ps))
pairs_next ps k p key value next is_key is_value =
    let before = flat_map pair_bytes (pairs_view (take k ps)) in
    append_assoc before (counted key) (counted value) ∙ (λ i. before ++ (counted (is_key i) ++ counted (is_value i)))
    ∙ ap (λ bytes. before ++ bytes) (sym (append-nil (pair_bytes (pair_view p))))
    ∙ sym (flat_map-append pair_bytes (pairs_view (take k ps)) (pair_view p ∷ []))
    ∙ ap (flat_map pair_bytes) (sym (map-append pair_view (take k ps) (p ∷ [])))
    ∙ ap (λ l. flat_map pair_bytes (map pair_view l)) (sym next)

-- the number of some pairs precedes them
pub metadata_some : (ps : List Pair) → 0 < length ps → number_bytes 4 (length ps) ++ flat_map pair_bytes (pairs_view ps) ≡ metadata_bytes (pairs_view ps)
metadata_some [] some = absurd (omega (arith, some))
metadata_some (p ∷ ps) some = ap (λ n. number_bytes 4 (suc n) ++ flat_map pair_bytes (pairs_view (p ∷ ps))) (sym (length-map ps pair_view))
