-- The start of a copy whose output is taken while it is written.
use Rattle.std.specs.Prelude.{ℕ, List}
use Rattle.arrowflow_copy.specs.Copying.{Began}

-- how the copy began, and the bytes that were taken from its output
pub record PartBegan : Type 0 where
  pub began : Began
  pub taken : List ℕ
