-- The counts of the slots that are sent to a node.
use Rattle.std.specs.Prelude.{◌≡◌, ℕ, ◌+◌, ◌*◌, min, nat_eq, if◌then◌else◌, List, [], ◌∷◌, ◌++◌, length}
use Rattle.std.specs.Int.{div_ceil}
use Rattle.arrow_layout.specs.Form.{number_width, offset_bytes}
use Rattle.arrow_layout.specs.PlainValue.{PlainValue, null_value}
use Rattle.arrow_layout.specs.declared.form.Form.{Form}
use Rattle.arrow_layout.specs.declared.form.Form.TheVariants as forms
use Rattle.arrow_body_laws.specs.Raws.{last_offset}
use Rattle.arrow_body_laws.specs.Size.{list_sizes}
use Rattle.arrow_body_laws.specs.Stored.{nulls_in}
use Rattle.arrow_body_slots.specs.declared.tally.ByteTally.{ByteTally}

-- a count, capped at the greatest 64-bit number
abbrev pub capped : ℕ → ℕ
capped n = min n 18446744073709551615

-- the number of slots with these values that a node of the form has, the number of nulls among them, and the end of
-- its offsets
pub record IsTally (form : Form) (vs : List PlainValue) (t : ByteTally) : Type 0 where
  pub slots : t.slots ≡ capped (length vs)
  pub nulls : t.nulls ≡ capped (nulls_in vs)
  pub end : t.end ≡ capped (last_offset form vs)

-- slots with these values are counted after the earlier ones
abbrev pub Counts : Form → List PlainValue → ByteTally → ByteTally → Type 0
Counts form vs old new = (before : List PlainValue) → IsTally form before old → IsTally form (before ++ vs) new

-- a null is counted, for a node of any form
abbrev pub CountsNull : ByteTally → ByteTally → Type 0
CountsNull old new = (form : Form) → Counts form (null_value ∷ []) old new

-- the size in bytes of each buffer of a node of the form, by the number of its slots, the number of nulls among them,
-- and the end of its offsets
abbrev pub sizes_represented : Form → ℕ → ℕ → ℕ → List ℕ
sizes_represented forms.Nulls slots nulls end = []
sizes_represented forms.Bits slots nulls end = (if nat_eq nulls 0 then 0 else div_ceil slots 8) ∷ div_ceil slots 8 ∷ []
sizes_represented (forms.Numbers number) slots nulls end = (if nat_eq nulls 0 then 0 else div_ceil slots 8) ∷ number_width number * slots ∷ []
sizes_represented (forms.Bytes w) slots nulls end = (if nat_eq nulls 0 then 0 else div_ceil slots 8) ∷ offset_bytes w * (slots + 1) ∷ end ∷ []
sizes_represented (forms.Texts w) slots nulls end = (if nat_eq nulls 0 then 0 else div_ceil slots 8) ∷ offset_bytes w * (slots + 1) ∷ end ∷ []
sizes_represented (forms.FixedBytes width) slots nulls end = (if nat_eq nulls 0 then 0 else div_ceil slots 8) ∷ width * slots ∷ []
sizes_represented (forms.Lists list) slots nulls end = (if nat_eq nulls 0 then 0 else div_ceil slots 8) ∷ list_sizes list slots
sizes_represented forms.Structs slots nulls end = (if nat_eq nulls 0 then 0 else div_ceil slots 8) ∷ []
