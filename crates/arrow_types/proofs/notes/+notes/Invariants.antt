use Rattle.std.proofs.Common.{◌+◌, ◌*◌, ◌≡◌, ◌↔◌, drop}
use Rattle.arrow_types.specs.Field.{count}
use Rattle.arrow_types.specs.View.{field_view, fields_view, notes_view}
use Rattle.arrow_types.proofs.notes.+notes.Given as goal

-- the fields below a field are fewer than with it, and these fewer than all fields of its list
abbrev pub decreases-are_noted_alike : goal.decreases-are_noted_alike
decreases-are_noted_alike l = 2 * count (fields_view l.fields.now)

abbrev pub decreases-have_same_notes : goal.decreases-have_same_notes
decreases-have_same_notes l = 2 * count (field_view l.one.now).children + 1

-- the fields have the same custom metadata exactly if the remaining ones do
abbrev pub invariant-are_noted_alike-loop-i : goal.invariant-are_noted_alike-loop-i
invariant-are_noted_alike-loop-i l =
    (notes_view (drop l.i l.fields) ≡ notes_view (drop l.i l.others)) ↔ (notes_view l.fields ≡ notes_view l.others)
