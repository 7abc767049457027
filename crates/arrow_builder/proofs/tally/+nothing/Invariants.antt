use Rattle.std.proofs.Common.{◌+◌, ◌*◌, false, [], ℕ, take}
use Rattle.arrow_types.specs.Field.{levels}
use Rattle.arrow_types.specs.View.{field_view, fields_view}
use Rattle.arrow_layout.specs.declared.form.Form.{Form}
use Rattle.arrow_builder.specs.Tally.{AreCounted}
use Rattle.arrow_builder.proofs.tally.+nothing.Given as goal

-- the tallies of the fields so far
abbrev pub invariant-nothing_below-loop-field : goal.invariant-nothing_below-loop-field
invariant-nothing_below-loop-field l = (form : Form) (k : ℕ) → AreCounted false form (fields_view (take l.field-index l.fields)) k [] l.tallies.items

abbrev pub decreases-nothing : goal.decreases-nothing
decreases-nothing l = 2 * levels (field_view l.field.now).children + 1

abbrev pub decreases-nothing_below : goal.decreases-nothing_below
decreases-nothing_below l = 2 * levels (fields_view l.fields.now)
