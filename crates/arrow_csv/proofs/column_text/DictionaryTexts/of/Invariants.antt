use Rattle.arrow_csv.specs.Made.{AreFirst}
use Rattle.arrow_csv.proofs.column_text.DictionaryTexts.of.Given as goal

-- the fields of the values before value n were made
abbrev pub invariant-loop-n : goal.invariant-loop-n
invariant-loop-n l = AreFirst l.dictionary l.bytes.items l.places.items l.n
