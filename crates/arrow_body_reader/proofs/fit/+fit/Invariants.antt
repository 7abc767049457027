use Rattle.std.proofs.Common.{◌↔◌, ◌+◌, ◌*◌, drop}
use Rattle.arrow_types.specs.Field.{count}
use Rattle.arrow_types.specs.View.{fields_view}
use Rattle.arrow_body_reader.specs.Sound.{AreFit}
use Rattle.arrow_body_reader.proofs.fit.+fit.Given as goal

abbrev pub decreases-all_fit : goal.decreases-all_fit
decreases-all_fit l = 2 * count (fields_view l.fields.now)

abbrev pub decreases-all_below_fit : goal.decreases-all_below_fit
decreases-all_below_fit l = 2 * count (fields_view l.fields.now) + 1

-- all fields fit exactly when the remaining ones do
abbrev pub invariant-all_fit-loop-field : goal.invariant-all_fit-loop-field
invariant-all_fit-loop-field l = AreFit l.dictionaries.entries.now (fields_view (drop l.field-index l.fields)) ↔ AreFit l.dictionaries.entries.now (fields_view l.fields)
