use Rattle.std.proofs.Common.{◌≡◌, ◌++◌, take, string_bytes, codes}
use Rattle.std.specs.List.{flat_map}
use Rattle.arrowflow_drill.specs.Lines.{entry_text}
use Rattle.arrowflow_drill.proofs.lines.push_entries.Given as goal

-- the dictionaries so far were appended after the first one
abbrev pub invariant-loop-entry : goal.invariant-loop-entry
invariant-loop-entry l = string_bytes l.text ≡ string_bytes l.initial.text ++ flat_map (λ entry. codes ";" ++ entry_text entry) (take l.entry-index l.rest)
