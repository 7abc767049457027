-- The end marker (Columnar Format, "IPC Streaming Format").
use Rattle.std.specs.Prelude.{ℕ, List, [], ◌∷◌}

-- its bytes: the continuation, and the size 0
abbrev pub marker : List ℕ
marker = 255 ∷ 255 ∷ 255 ∷ 255 ∷ 0 ∷ 0 ∷ 0 ∷ 0 ∷ []
