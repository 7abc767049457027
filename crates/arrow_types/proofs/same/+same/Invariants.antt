use Rattle.std.proofs.Common.{◌≡◌, ◌↔◌, drop}
use Rattle.arrow_types.specs.View.{fields_view}
use Rattle.arrow_types.proofs.same.+same.Given as goal

-- the fields are equal exactly if the remaining ones are
abbrev pub invariant-same_fields-loop-i : goal.invariant-same_fields-loop-i
invariant-same_fields-loop-i l =
    (fields_view (drop l.i l.fields) ≡ fields_view (drop l.i l.others)) ↔ (fields_view l.fields ≡ fields_view l.others)
