use Rattle.std.proofs.Common.{take}
use Rattle.arrow_csv.specs.Made.{AreHeadedTexts}
use Rattle.arrow_csv.specs.Texts.{Appends}
use Rattle.arrow_csv.proofs.struct_text.push_fields.Given as goal

-- texts of the fields before were written
abbrev pub invariant-loop-field : goal.invariant-loop-field
invariant-loop-field l = Appends (AreHeadedTexts (take l.field-index l.fn.fields) l.i) l.fn.out.items l.out.items
