-- The dictionaries that a reader holds, by their ids (Columnar Format, "Dictionary Messages").
use Rattle.std.specs.Prelude.{ℤ, ◌<ℤ◌, List, [], ◌∷◌, ⊤}
use Rattle.std.specs.Coded.{Coded, coded×, coded_ℤ, coded_list}
use Rattle.std.specs.List.{AllByRecursion}
use Rattle.std.specs.Ordering.{int_cmp, match_ordering}
use Rattle.arrow_data.specs.Column.{ValueList, value_list_code}

-- how the logic stores dictionaries and their ids
abbrev pub entries_code : Coded (List (ℤ × ValueList))
entries_code = coded_list (coded× coded_ℤ value_list_code)

-- each id is less than those of all entries after it, so that no id comes twice
abbrev pub IsRising : List (ℤ × ValueList) → Type 0
IsRising [] = ⊤
IsRising (e ∷ es) = AllByRecursion (λ (f : ℤ × ValueList). e.0 <ℤ f.0) es × IsRising es

-- the dictionaries with this one for the id: it replaces the one that was there, or else is inserted by rising id
abbrev pub placed : ℤ → ValueList → List (ℤ × ValueList) → List (ℤ × ValueList)
placed id d [] = (id, d) ∷ []
placed id d (e ∷ es) = match_ordering (int_cmp id e.0) ((id, d) ∷ e ∷ es) ((id, d) ∷ es) (e ∷ placed id d es)
