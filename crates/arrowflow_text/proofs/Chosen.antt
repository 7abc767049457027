-- What is returned if columns are asked for.
use Rattle.std.proofs.Common.{◌≡◌, ℕ, List, Option, None, Some, Result, Ok, Err, refl, ap}
use Rattle.std.specs.Prelude.{IfSome}
use Rattle.arrow_types.specs.Limits.{LimitNumbers}
use Rattle.arrow_csv.specs.Layouts.{form_by}
use Rattle.arrow_csv.specs.Named.{choice_by}
use Rattle.arrowflow_text.specs.Columns.{LacksInput, ShowsSelection, answer_by_lack, window_of}
use Rattle.arrowflow_text.specs.Windows.{ShowsWindowOf}
use Rattle.arrowflow_text.specs.WithinCalls.{ShowsWindowWithin, ShowsWithin}
use Rattle.arrowflow_input.specs.declared.bounds.Excess.{Excess}
use Rattle.arrowflow_input.specs.declared.bounds.WholeLimits.{WholeLimits}
use Rattle.arrowflow_text.specs.declared.columns.ColumnsFault.TheVariants.{Tool}
use Rattle.arrowflow_text.specs.declared.columns.Selection.{Selection}
use Rattle.arrowflow_input.specs.declared.tool_fault.ToolFault.{ToolFault}
use Rattle.arrowflow_input.specs.declared.tool_fault.ToolFault.TheVariants.{Input}

module _ (s : Selection) (limits : LimitNumbers) (had left before : Option (List ℕ)) (failed : ℕ) (answer : Result (Unit {0}) ToolFault) (after : Option (List ℕ)) (failed' : ℕ) where
  -- depending on what the schema lacks, the rows were shown, or none
  pub selection_shown : (lacks : Option ℕ) → (lacks ≡ None → ShowsWindowOf (form_by s.layout) (choice_by s.layout.columns) (window_of s) limits had left before failed answer after failed')
      → ((place : ℕ) → lacks ≡ Some place → LacksInput (choice_by s.layout.columns) limits had left before failed place after failed') → ShowsSelection s limits had left before failed (answer_by_lack lacks answer) after failed'
  selection_shown (Some place) shows lack = lack place refl
  selection_shown None shows lack = by answer (shows refl)
    where
      by : (a : Result (Unit {0}) ToolFault) → ShowsWindowOf (form_by s.layout) (choice_by s.layout.columns) (window_of s) limits had left before failed a after failed' → ShowsSelection s limits had left before failed (answer_by_lack None a) after failed'
      by (Ok done) x = x
      by (Err fault) x = x

module _ (s : Selection) (whole : WholeLimits) (limits : LimitNumbers) (had left : Option (List ℕ)) (excess : Option Excess) (before : Option (List ℕ)) (failed : ℕ) (answer : Result (Unit {0}) ToolFault) (after : Option (List ℕ)) (failed' : ℕ) where
  -- the same for a stream with bounds
  pub selection_within : (lacks : Option ℕ) → (lacks ≡ None → ShowsWindowWithin (form_by s.layout) (choice_by s.layout.columns) (window_of s) whole limits had left excess before failed answer after failed')
      → ((place : ℕ) → lacks ≡ Some place → LacksInput (choice_by s.layout.columns) limits had left before failed place after failed' × (excess ≡ None)) → ShowsWithin s whole limits had left excess before failed (answer_by_lack lacks answer) after failed'
  selection_within (Some place) shows lack = lack place refl
  selection_within None shows lack = by answer (shows refl)
    where
      by : (a : Result (Unit {0}) ToolFault) → ShowsWindowWithin (form_by s.layout) (choice_by s.layout.columns) (window_of s) whole limits had left excess before failed a after failed' → ShowsWithin s whole limits had left excess before failed (answer_by_lack None a) after failed'
      by (Ok done) x = x
      by (Err fault) x = x

-- a stream that passes a bound lacks no column
pub selection_stops : (lacks : Option ℕ) (excess : Option Excess) (answer : Result (Unit {0}) ToolFault) → ((place : ℕ) → lacks ≡ Some place → excess ≡ None) → IfSome excess (λ x. answer ≡ Err (Input 0)) → IfSome excess (λ x. answer_by_lack lacks answer ≡ Err (Tool (Input 0)))
selection_stops lacks None answer lack stops = tt
selection_stops (Some place) (Some x) answer lack stops = let q = lack place refl in absurd (cc)
selection_stops None (Some x) answer lack stops = ap (answer_by_lack None) stops
