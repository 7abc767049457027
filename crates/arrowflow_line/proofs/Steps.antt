-- One more step of a loop over rows of the tables.
use Rattle.std.proofs.Common.{◌≡◌, ◌∷◌, [], ◌+◌, ◌<◌, ℕ, List, length, map, take, fold, get_or, ap, ◌∙◌, sym}
use Rattle.std.proofs.lemmas.List.{take_more, map_more}
use Rattle.std.proofs.lemmas.List.Sums.{fold-append}

module _ {B X : Type 0} (start old new : B) (xs : List X) (i : ℕ) (d : X) (inside : i < length xs) where
  -- by the row itself
  pub fold_more : (step : B → X → B) → old ≡ fold step start (take i xs) → new ≡ step old (get_or xs i d) → new ≡ fold step start (take (i + 1) xs)
  fold_more step was is =
      is ∙ ap (λ b. step b (get_or xs i d)) was ∙ sym (ap (fold step start) (take_more xs i d inside) ∙ fold-append step start (take i xs) (get_or xs i d ∷ []))

  -- by what is made of the row
  pub fold_mapped : {A : Type 0} (step : B → A → B) (of : X → A) → old ≡ fold step start (map of (take i xs)) → new ≡ step old (of (get_or xs i d))
      → new ≡ fold step start (map of (take (i + 1) xs))
  fold_mapped step of was is =
      is ∙ ap (λ b. step b (of (get_or xs i d))) was ∙ sym (ap (fold step start) (map_more of xs i d inside) ∙ fold-append step start (map of (take i xs)) (of (get_or xs i d) ∷ []))
