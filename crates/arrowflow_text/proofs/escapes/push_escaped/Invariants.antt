use Rattle.std.proofs.Common.{◌≡◌, ◌++◌, string_bytes}
use Rattle.std.specs.Str.Iter.{chars_rest}
use Rattle.arrowflow_text.specs.Escapes.{escaped}
use Rattle.arrowflow_text.proofs.escapes.push_escaped.Given as goal

-- the text written so far and the text to come are the whole text
abbrev pub invariant-loop-ch : goal.invariant-loop-ch
invariant-loop-ch l =
    string_bytes l.line ++ escaped (chars_rest l.ch-iterator) ≡ string_bytes l.initial.line ++ escaped l.text
