use Rattle.std.proofs.Common.{◌≡◌, take, map}
use Rattle.arrow_types.specs.View.{field_notes, field_view}
use Rattle.arrow_types.proofs.+copy.Given as goal

-- the copies so far are equal to the fields so far, with the same custom metadata
abbrev pub invariant-copies::copy_fields-loop-field : goal.invariant-copies::copy_fields-loop-field
invariant-copies::copy_fields-loop-field l =
    (map field_view l.copies.items ≡ map field_view (take l.field-index l.fields))
    × (map field_notes l.copies.items ≡ map field_notes (take l.field-index l.fields))
