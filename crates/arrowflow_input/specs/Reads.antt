-- How an input is read: piece by piece, and no further than the answer needs.
use Rattle.std.specs.Prelude.{◌≡◌, ◌≤◌, ℕ, List, ◌++◌, length}

-- The bytes came in pieces of 65,536 bytes at most, and all but those of the last piece call for more: so no piece
-- was read after the one that decided the answer.
pub record IsReadWhile (calls_for_more : List ℕ → Type 0) (bytes : List ℕ) : Type 0 where
  pub before : List ℕ
  pub piece : List ℕ
  pub joined : bytes ≡ before ++ piece
  pub size : length piece ≤ 65536
  pub needing : calls_for_more before
