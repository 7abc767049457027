-- What the kept buffers hold.
use Rattle.std.proofs.Common.{ℕ, List}
use Rattle.arrow_bits.proofs.Rising.{offsets_from_numbers}
use Rattle.arrow_layout.specs.Form.{offset_bytes}
use Rattle.arrow_layout.specs.Layout.{HasLists, HoldsSlots}
use Rattle.arrow_layout.specs.Slots.{HasOffsets}
use Rattle.arrow_layout.specs.declared.form.Form.{Form}
use Rattle.arrow_layout.specs.declared.form.Form.TheVariants as forms
use Rattle.arrow_layout.specs.declared.form.ListForm.{ListForm}
use Rattle.arrow_layout.specs.declared.form.ListForm.TheVariants as lists
use Rattle.arrow_layout.specs.declared.form.OffsetWidth.{OffsetWidth}
use Rattle.arrow_builder.specs.Kept.{Keeps, KeepsLists, KeepsParts}

-- ranges that are kept have their offsets
has_offsets : (width : OffsetWidth) (len top : ℕ) (validity offsets : List ℕ) → KeepsParts width len top validity offsets → HasOffsets width len top offsets
has_offsets width len top validity offsets kept = λ _. offsets_from_numbers (offset_bytes width) offsets len top kept.ranges.there kept.ranges.low kept.inside (λ j from h. kept.ranges.never j h)

-- so have lists
has_lists : (list : ListForm) (len top : ℕ) (validity offsets : List ℕ) → KeepsLists list len top validity offsets → HasLists list len validity offsets top
has_lists (lists.Offsets width) len top validity offsets kept = record { bits = λ _. kept.ranges.bits; rising = has_offsets width len top validity offsets kept }
has_lists (lists.Fixed size) len top validity offsets kept = record { bits = λ _. kept.bits; rising = kept.inside }

-- buffers hold what they keep
pub keeps_holds : (form : Form) (len : ℕ) (b : List (List ℕ)) (counts : List ℕ) → Keeps form len b counts → HoldsSlots form len b counts
keeps_holds forms.Nulls len b counts kept = tt
keeps_holds forms.Bits len b counts kept = record { bits = λ _. kept.bits; long = kept.long }
keeps_holds (forms.Numbers number) len b counts kept = record { bits = λ _. kept.bits; long = kept.long }
keeps_holds (forms.Bytes width) len b counts kept = record { bits = λ _. kept.ranges.bits; rising = has_offsets width len _ _ _ kept }
keeps_holds (forms.Texts width) len b counts kept = record { bits = λ _. kept.ranges.bits; rising = has_offsets width len _ _ _ kept }
keeps_holds (forms.FixedBytes width) len b counts kept = record { bits = λ _. kept.bits; long = kept.long }
keeps_holds (forms.Lists list) len b counts kept = has_lists list len _ _ _ kept
keeps_holds forms.Structs len b counts kept = record { bits = λ _. kept.bits; longer = kept.longer }
