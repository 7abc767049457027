-- The number of fields of a list of fields, on all levels.
use Rattle.std.proofs.Common.{◌≡◌, ◌≤◌, ◌+◌, Bool, true, false, cond, List, [], ◌∷◌, ◌++◌, arith}
use Rattle.arrow_types.specs.Field.{count, field_count}
use Rattle.arrow_types.specs.View.{field_view, fields_view}
use Rattle.arrow_types.specs.declared.field.Field.{Field}

-- the count of two appended lists is the sum of their counts
pub count_append : (fs gs : List Field) → count (fields_view (fs ++ gs)) ≡ count (fields_view fs) + count (fields_view gs)
count_append [] gs = omega arith
count_append (f ∷ fs) gs = omega (arith, count_append fs gs)

-- a list to which another one was appended, or was not
pub count_appended : (b : Bool) (fs gs : List Field) → count (fields_view (cond b (fs ++ gs) fs)) ≤ count (fields_view fs) + count (fields_view gs)
count_appended true fs gs = omega (arith, count_append fs gs)
count_appended false fs gs = omega arith

-- a list to which one field was appended, or was not
pub count_pushed : (b : Bool) (fs : List Field) (f : Field) → count (fields_view (cond b (fs ++ f ∷ []) fs)) ≤ count (fields_view fs) + field_count (field_view f)
count_pushed true fs f = omega (arith, count_append fs (f ∷ []))
count_pushed false fs f = omega arith
