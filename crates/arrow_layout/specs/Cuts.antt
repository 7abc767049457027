-- Where the bytes of all slots may be cut, if they are a text. Only the crate's private clauses cite this.
use Rattle.std.specs.Prelude.{◌<◌, ◌+◌, ◌-◌, ℕ, List, IsCharBoundary}
use Rattle.arrow_layout.specs.Slots.{place_of}
use Rattle.arrow_layout.specs.declared.form.OffsetWidth.{OffsetWidth}

-- each slot ends between two characters of the text, which is the bytes of all slots
abbrev pub AreCuts : OffsetWidth → ℕ → List ℕ → List ℕ → Type 0
AreCuts width len offsets text = (j : ℕ) → j < len → IsCharBoundary text (place_of width offsets (j + 1) - place_of width offsets 0)
