-- What is put into the caller's output buffer piece by piece. (How it is filled is this project's own.)
use Rattle.std.specs.Prelude.{◌≡◌, ℕ, ◌+◌, List, ◌++◌, length, take, drop}
use Rattle.arrowflow_calls.specs.declared.pens.TextPen.{TextPen}
use Rattle.arrowflow_calls.specs.Survey.{reported}
use Rattle.arrowflow_calls.specs.Texts.{filled}

-- the output buffer after a text was put at an offset: as much of the text's beginning as fits
abbrev pub written : List ℕ → ℕ → List ℕ → List ℕ
written room at text = take at room ++ filled (drop at room) text

-- the pen after a text
abbrev pub moved : TextPen → List ℕ → TextPen
moved p text = record { at = reported (p.at + length text); size = reported (p.size + length text) }

-- a text was put into the output buffer at the pen's position
pub record Puts (old : List ℕ) (p : TextPen) (text : List ℕ) (q : TextPen) (new : List ℕ) : Type 0 where
  pub room : new ≡ written old p.at text
  pub pen : q ≡ moved p text
