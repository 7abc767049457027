use Rattle.arrow_csv.proofs.Nested.{FieldsMade}
use Rattle.arrow_csv.proofs.struct_text.field_texts.Given as goal

-- the fields before field k were made
abbrev pub invariant-loop-k : goal.invariant-loop-k
invariant-loop-k l = FieldsMade l.fields l.children l.k l.texts.items
