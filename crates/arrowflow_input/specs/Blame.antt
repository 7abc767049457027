-- When a fault may blame an input for having failed. (This project's own.)
use Rattle.std.specs.Prelude.{⊤}
use Rattle.arrowflow_input.specs.declared.tool_fault.ToolFault.{ToolFault}
use Rattle.arrowflow_input.specs.declared.tool_fault.ToolFault.TheVariants.{Input, Output, Stream, Refused, Memory}

-- A fault blames an input only if this holds: that the input failed.
abbrev pub BlamesOnly : Type 0 → ToolFault → Type 0
BlamesOnly failed (Input number) = failed
BlamesOnly failed Output = ⊤
BlamesOnly failed (Stream fault) = ⊤
BlamesOnly failed (Refused what kind) = ⊤
BlamesOnly failed Memory = ⊤

-- it blames no input
abbrev pub BlamesNone : ToolFault → Type 0
BlamesNone = BlamesOnly ⊥
