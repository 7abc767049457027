-- Spaces before a line.
use Rattle.std.proofs.Common.{◌≡◌, ℕ, ◌+◌, ◌++◌, [], ◌∷◌, add-one}
use Rattle.arrowflow_text.specs.SchemaText.{indentation}

-- one more level appends two spaces to those of the levels so far
pub indentation_more : (level : ℕ) → indentation (level + 1) ≡ indentation level ++ 32 ∷ 32 ∷ []
indentation_more level = rw add-one
