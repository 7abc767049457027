use Rattle.std.proofs.Common.{◌≡◌, ◌++◌, string_bytes}
use Rattle.arrowflow_text.specs.SchemaText.{indentation}
use Rattle.arrowflow_text.proofs.schema_lines.push_indentation.Given as goal

-- two spaces are written for each level so far
abbrev pub invariant-loop-at : goal.invariant-loop-at
invariant-loop-at l = string_bytes l.text ≡ string_bytes l.initial.text ++ indentation l.at
