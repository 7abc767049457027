use Rattle.std.proofs.Common.{take}
use Rattle.std.specs.BTreeMap.{get}
use Rattle.std.specs.Ordering.{int_cmp}
use Rattle.arrow_types.proofs.Scan.{Scanned}
use Rattle.arrow_types.specs.Dictionaries.{encoded_views}
use Rattle.arrow_types.proofs.dictionaries.ids_of_one_type.Given as goal

-- what is known of the fields so far
abbrev pub invariant-loop-i : goal.invariant-loop-i
invariant-loop-i l = Scanned (encoded_views (take l.i l.fields)) l.ids.items (λ q. get int_cmp l.places q)
