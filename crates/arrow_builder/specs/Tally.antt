-- How many slots and bytes of data the columns of a field have, counted in addition to the columns.
use Rattle.std.specs.Prelude.{◌≡◌, ◌≤◌, ◌+◌, ℕ, Bool, true, false, List, [], ◌∷◌, ◌++◌, length, ⊤, Option, None, Some}
use denote.Param.Weighed.{most}
use Rattle.arrow_types.specs.Field.{FieldTree, FieldShape, none, more}
use Rattle.arrow_layout.specs.Form.{node_form}
use Rattle.arrow_layout.specs.PlainValue.{PlainValue}
use Rattle.arrow_layout.specs.declared.form.Form.{Form}
use Rattle.arrow_builder.specs.Columns.{AllBelow, AllNodes, child_column}
use Rattle.arrow_builder.specs.Fields.{field_form}
use Rattle.arrow_builder.specs.Within.{IsShort, IsShortNode, data_bytes}
use Rattle.arrow_builder.specs.declared.tally.Tally.{Tally, out-Tally, size-Tally}
use Rattle.arrow_builder.specs.declared.tally.Total.{Total}

-- the total is that of these values of a node of the form, which exceed no limit
pub record IsTotal (form : Form) (raw : List PlainValue) (total : Total) : Type 0 where
  pub slots : total.slots ≡ length raw
  pub bytes : total.bytes ≡ data_bytes form raw
  pub short : IsShort form raw

-- the total that is held, or the total with the value at hand
abbrev pub total_of : Bool → Tally → Total
total_of false t = (out-Tally t).held
total_of true t = (out-Tally t).next

-- the tallies are of these children, the first of them child k of a node of the form with these values, and of all below them
abbrev pub AreCounted : Bool → Form → FieldTree → ℕ → List PlainValue → List Tally → Type 0
AreCounted next form none k raw [] = ⊤
AreCounted next form none k raw (t ∷ ts) = ⊥
AreCounted next form (more head children rest) k raw [] = ⊥
AreCounted next form (more head children rest) k raw (t ∷ ts) =
    ((out-Tally t).form ≡ node_form head.tag head.encoding)
    × IsTotal (node_form head.tag head.encoding) (child_column form k raw) (total_of next t)
    × AreCounted next (node_form head.tag head.encoding) children 0 (child_column form k raw) (out-Tally t).below.items
    × AreCounted next form rest (k + 1) raw ts

-- the tally is of the column of this field with these values, and of all below it
pub record IsCounted (next : Bool) (field : FieldShape) (raw : List PlainValue) (t : Tally) : Type 0 where
  pub form : (out-Tally t).form ≡ field_form field
  pub own : IsTotal (field_form field) raw (total_of next t)
  pub below : AreCounted next (field_form field) field.children 0 raw (out-Tally t).below.items

-- the total with more values, or none if a limit would be exceeded
abbrev pub Grows : Form → List PlainValue → Total → Option Total → Type 0
Grows form values total None = (raw : List PlainValue) → IsTotal form raw total → IsShort form (raw ++ values) → ⊥
Grows form values total (Some grown) = (raw : List PlainValue) → IsTotal form raw total → IsTotal form (raw ++ values) grown

-- The values were counted after the others, or some column would exceed a limit with them. The held totals are
-- unchanged.
pub record Adds (values : List PlainValue) (old new : Tally) (within : Bool) : Type 0 where
  pub depth : size-Tally new ≤ size-Tally old
  pub held : (field : FieldShape) (raw : List PlainValue) → IsCounted false field raw old → IsCounted false field raw new
  pub next : within ≡ true → (field : FieldShape) (raw : List PlainValue) → IsCounted true field raw old → IsCounted true field (raw ++ values) new
  pub past : within ≡ false → (field : FieldShape) (raw : List PlainValue) → IsCounted true field raw old → AllNodes IsShortNode field (raw ++ values) → ⊥

-- the same for the children of a node of the form, by more values of the node
pub record AddsBelow (form : Form) (values : List PlainValue) (old new : List Tally) (within : Bool) : Type 0 where
  pub depth : most size-Tally new ≤ most size-Tally old
  pub held : (fields : FieldTree) (k : ℕ) (raw : List PlainValue) (f : Form) → AreCounted false f fields k raw old → AreCounted false f fields k raw new
  pub next : within ≡ true → (fields : FieldTree) (raw : List PlainValue) → AreCounted true form fields 0 raw old → AreCounted true form fields 0 (raw ++ values) new
  pub past : within ≡ false → (fields : FieldTree) (raw : List PlainValue) → AreCounted true form fields 0 raw old → AllBelow IsShortNode form fields 0 (raw ++ values) → ⊥

-- the held totals, or those with the value at hand, become both of them
abbrev pub Settles : Bool → Tally → Tally → Type 0
Settles next old new = (field : FieldShape) (raw : List PlainValue) → IsCounted next field raw old → IsCounted false field raw new × IsCounted true field raw new

-- the same for some tallies
abbrev pub AllSettle : Bool → List Tally → List Tally → Type 0
AllSettle next old new = (form : Form) (fields : FieldTree) (k : ℕ) (raw : List PlainValue) → AreCounted next form fields k raw old
    → AreCounted false form fields k raw new × AreCounted true form fields k raw new
