use Rattle.std.proofs.Common.{◌≡◌, ◌↔◌, drop}
use Rattle.arrow_layout.specs.Value.{values_view}
use Rattle.arrow_layout.proofs.value.+same.Given as goal

-- the values are equal exactly when the remaining ones are
abbrev pub invariant-same_list-loop-i : goal.invariant-same_list-loop-i
invariant-same_list-loop-i l = (values_view (drop l.i l.values) ≡ values_view (drop l.i l.others)) ↔ (values_view l.values ≡ values_view l.others)
