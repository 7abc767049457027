use Rattle.std.proofs.Common.{◌≡◌, ◌++◌, take, string_bytes}
use Rattle.std.specs.List.{flat_map}
use Rattle.arrowflow_drill.specs.Lines.{refusal_line}
use Rattle.arrowflow_drill.proofs.lines.push_refusals.Given as goal

-- the lines of the rejections so far were appended
abbrev pub invariant-loop-refusal : goal.invariant-loop-refusal
invariant-loop-refusal l = string_bytes l.text ≡ string_bytes l.fn.text ++ flat_map (refusal_line l.number) (take l.refusal-index l.report.refused.items)
