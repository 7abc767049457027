-- When dictionaries have the entries of indices (Columnar Format, "Dictionary-encoded Layout").
use Rattle.std.specs.Prelude.{◌≡◌, ℤ, List, [], ◌∷◌, map, ⊤, Option, Some}
use Rattle.arrow_types.specs.Field.{FieldTree, none, more}
use Rattle.arrow_layout.specs.PlainValue.{PlainValue}
use Rattle.arrow_layout.specs.Resolve.{resolve}

-- each of the values resolves
abbrev pub ResolveTo : (PlainValue → Option PlainValue) → List PlainValue → Type 0
ResolveTo f raw = (resolved : List PlainValue) × (map f raw ≡ map Some resolved)

-- each valid index of these columns has its entry in the dictionaries, on every level
abbrev pub HaveEntries : (ℤ → List PlainValue) → FieldTree → List (List PlainValue) → Type 0
HaveEntries dictionaries none raws = ⊤
HaveEntries dictionaries (more head children rest) [] = ⊤
HaveEntries dictionaries (more head children rest) (raw ∷ raws) =
    ResolveTo (resolve head.encoding children dictionaries) raw × HaveEntries dictionaries rest raws
