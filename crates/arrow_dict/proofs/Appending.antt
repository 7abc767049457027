-- What happens to values for an id that has a dictionary.
use Rattle.std.proofs.Common.{◌≡◌, ◌≤◌, ◌<◌, ℕ, ℤ, List, get_or, set, sym, ap, ◌∙◌, subst}
use Rattle.arrow_data.specs.Column.{Column, ValueList}
use Rattle.arrow_data.specs.Listed.{listed}
use Rattle.arrow_dict.specs.Appends.{IsAppended, IsTooLong, IsRefused, count_with, with_values}
use Rattle.arrow_dict.specs.Dictionaries.{IsRising, placed}
use Rattle.arrow_dict.specs.Places.{IsAt}
use Rattle.arrow_dict.proofs.Placing.{rising_placed}
use Rattle.arrow_dict.proofs.Places.{id_found, found, placed_found, unchanged}

module _ (ds old : List (ℤ × ValueList)) (id : ℤ) (i : ℕ) (e : ℤ × ValueList) (values : Column) (rising : IsRising ds) (at : IsAt ds id i) (is : e ≡ get_or ds i e) (view : ds ≡ old) where
  -- the values would be too many
  pub too_long : 2147483647 < count_with e.1 values → IsTooLong old id values (set ds i (e.0, e.1))
  too_long many = record {
    base = e.1;
    there = ap (λ x. listed x id) (sym view) ∙ found ds id i e rising at is;
    many = many;
    same = unchanged ds id i e rising at is ∙ view;
  }

  -- an allocation failed
  pub refused : (d : ValueList) → count_with e.1 values ≤ 2147483647 → d ≡ e.1 → IsRefused old id values (set ds i (e.0, d))
  refused d few same = record {
    base = e.1;
    there = ap (λ x. listed x id) (sym view) ∙ found ds id i e rising at is;
    few = few;
    same = ap (λ x. set ds i (e.0, x)) same ∙ unchanged ds id i e rising at is ∙ view;
  }

  -- the values are appended to the others
  pub appended : (d : ValueList) → count_with e.1 values ≤ 2147483647 → d ≡ with_values e.1 values → IsAppended old id values (set ds i (e.0, d))
  appended d few grown = record {
    base = e.1;
    there = ap (λ x. listed x id) (sym view) ∙ found ds id i e rising at is;
    few = few;
    grown = ap (λ x. set ds i (x, d)) (id_found ds id i e rising at is) ∙ ap (λ x. set ds i (id, x)) grown
        ∙ sym (placed_found ds id i e rising at is (with_values e.1 values)) ∙ ap (placed id (with_values e.1 values)) view;
  }

  -- the ids rise as before
  pub still_rising : (d : ValueList) → IsRising (set ds i (e.0, d))
  still_rising d = subst IsRising (placed_found ds id i e rising at is d ∙ ap (λ x. set ds i (x, d)) (sym (id_found ds id i e rising at is))) (rising_placed ds id d rising)
