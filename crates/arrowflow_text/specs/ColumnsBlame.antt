-- When a fault may blame an input for having failed, if columns are asked for. (This project's own.)
use Rattle.std.specs.Prelude.{⊤}
use Rattle.arrowflow_input.specs.Blame.{BlamesOnly}
use Rattle.arrowflow_text.specs.declared.columns.ColumnsFault.{ColumnsFault}
use Rattle.arrowflow_text.specs.declared.columns.ColumnsFault.TheVariants.{Lacks, Tool}

-- a fault blames an input only if this holds; a missing column blames none
abbrev pub ColumnsBlameOnly : Type 0 → ColumnsFault → Type 0
ColumnsBlameOnly failed (Lacks place) = ⊤
ColumnsBlameOnly failed (Tool fault) = BlamesOnly failed fault
