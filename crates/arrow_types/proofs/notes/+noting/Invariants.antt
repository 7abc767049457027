use Rattle.std.proofs.Common.{◌+◌, ◌*◌, ◌≡◌, drop}
use Rattle.arrow_types.specs.Field.{count}
use Rattle.arrow_types.specs.Notes.{noted_count}
use Rattle.arrow_types.specs.Room.{left_of}
use Rattle.arrow_types.specs.View.{field_view, fields_view, notes_view}
use Rattle.arrow_types.proofs.notes.+noting.Given as goal

-- the fields below a field are fewer than with it, and these fewer than all fields of its list
abbrev pub decreases-after_notes : goal.decreases-after_notes
decreases-after_notes l = 2 * count (fields_view l.fields.now)

abbrev pub decreases-after_field_notes : goal.decreases-after_field_notes
decreases-after_field_notes l = 2 * count (field_view l.field.now).children + 1

-- what is left after the remaining fields is what is left after all
abbrev pub invariant-after_notes-loop-field : goal.invariant-after_notes-loop-field
invariant-after_notes-loop-field l =
    left_of l.left (noted_count (notes_view (drop l.field-index l.fields))) ≡ left_of l.most (noted_count (notes_view l.fields))
