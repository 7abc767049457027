use Rattle.std.specs.BTreeMap.{get}
use Rattle.std.specs.Ordering.{int_cmp}
use Rattle.arrow_meta_schema.proofs.Places.{IsLooked}
use Rattle.arrow_meta_schema.proofs.dictionary_types.encoded_differ.Given as goal

-- what is known of the fields so far
abbrev pub invariant-loop-i : goal.invariant-loop-i
invariant-loop-i l = IsLooked l.i l.fields (λ q. get int_cmp l.places q)
