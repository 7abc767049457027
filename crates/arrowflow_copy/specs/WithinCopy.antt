-- The output of a copied stream that has bounds.
use Rattle.std.specs.Prelude.{ℕ, List, Option, Result}
use Rattle.arrow_types.specs.Limits.{LimitNumbers}
use Rattle.arrow_stream_laws.specs.Sizes.{Options}
use Rattle.arrowflow_input.specs.Endings.{IsOpenAt}
use Rattle.arrowflow_input.specs.Within.{Within}
use Rattle.arrowflow_input.specs.declared.bounds.Excess.{Excess}
use Rattle.arrowflow_input.specs.declared.bounds.WholeLimits.{WholeLimits}
use Rattle.arrowflow_input.specs.declared.tool_fault.ToolFault.{ToolFault}
use Rattle.arrowflow_copy.specs.Copy.{Copies}

-- a stream is copied that has these bounds
abbrev pub CopiesWithin : WholeLimits → LimitNumbers → Options → Option (List ℕ) → Option (List ℕ) → Option Excess → Option (List ℕ) → ℕ → Result (Unit {0}) ToolFault → Option (List ℕ) → ℕ → Type 0
CopiesWithin whole limits o had left excess before failed answer after failed' =
    Within (IsOpenAt limits) (λ bytes rest end. Copies limits o bytes rest before failed end after failed') (λ bytes. ⊥) whole limits had left excess answer
