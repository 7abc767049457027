-- Why a value is not pushed, and why no array can be made of a column.
use Rattle.std.specs.Prelude.{ℕ, ℤ, List, codes}
use Rattle.arrow_data.specs.Column.{ValueList}
use Rattle.arrow_layout.specs.PlainValue.{PlainValue}
use Rattle.arrow_builder.specs.Built.{Built, with_value}
use Rattle.arrow_builder.specs.Fields.{FitsField}
use Rattle.arrow_builder.specs.Finished.{AreIndexed, AreTyped}
use Rattle.arrow_builder.specs.Within.{IsWithin}
use Rattle.arrow_builder.specs.declared.faults.ArrayFault.{ArrayFault}
use Rattle.arrow_builder.specs.declared.faults.ArrayFault.TheVariants as array
use Rattle.arrow_builder.specs.declared.faults.PushFault.{PushFault}
use Rattle.arrow_builder.specs.declared.faults.PushFault.TheVariants as push

-- the fault is the least that applies to the column and the listed dictionaries; it is a failed allocation only if no
-- other applies
abbrev pub ExplainsArray : ArrayFault → List (ℤ × ValueList) → Built → Type 0
ExplainsArray array.DictionaryType ds b = AreTyped ds b.field → ⊥
ExplainsArray array.IndexRange ds b = AreTyped ds b.field × (AreIndexed ds b → ⊥)
ExplainsArray array.Memory ds b = AreTyped ds b.field × AreIndexed ds b

-- the column can take the value after its others: the value fits, and with it no column exceeds a limit, neither the
-- field's nor one below it
abbrev pub TakesValue : Built → PlainValue → Type 0
TakesValue b value = FitsField b.field value × IsWithin (with_value b value)

-- The fault is the least that applies: the value does not fit; or it fits and some column would exceed a limit with
-- it; or neither, and there is no memory for it.
abbrev pub ExplainsPush : PushFault → Built → PlainValue → Type 0
ExplainsPush push.DoesNotFit b value = FitsField b.field value → ⊥
ExplainsPush push.TooLong b value = FitsField b.field value × (IsWithin (with_value b value) → ⊥)
ExplainsPush push.Memory b value = TakesValue b value

-- the number of a fault of an array
abbrev pub array_number : ArrayFault → ℕ
array_number array.DictionaryType = 1
array_number array.IndexRange = 2
array_number array.Memory = 3

-- its text
abbrev pub array_words : ArrayFault → List ℕ
array_words array.DictionaryType = codes "a dictionary of another type than the field's values"
array_words array.IndexRange = codes "an index without a value"
array_words array.Memory = codes "out of memory"

-- the number of a fault of a value
abbrev pub push_number : PushFault → ℕ
push_number push.DoesNotFit = 1
push_number push.TooLong = 2
push_number push.Memory = 3

-- its text
abbrev pub push_words : PushFault → List ℕ
push_words push.DoesNotFit = codes "a value that does not fit the field"
push_words push.TooLong = codes "more slots or bytes than a column can have"
push_words push.Memory = codes "out of memory"
