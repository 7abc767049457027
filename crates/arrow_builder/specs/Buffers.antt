-- The buffers of a growing node.
use Rattle.std.specs.Prelude.{ℕ, List, [], ◌∷◌, ⊤}
use Rattle.arrow_layout.specs.declared.form.Form.{Form}
use Rattle.arrow_layout.specs.declared.form.Form.TheVariants as forms
use Rattle.arrow_builder.specs.declared.slots.SlotBuffers.{SlotBuffers}

-- the bytes of each buffer, in the order of the format; after them the buffers that the form does not have, which are
-- empty
abbrev pub buffers_in : SlotBuffers → List (List ℕ)
buffers_in b = b.validity.items ∷ b.values.items ∷ b.bytes.items ∷ []

-- a node of the form has no children
abbrev pub IsLeaf : Form → Type 0
IsLeaf forms.Nulls = ⊤
IsLeaf forms.Bits = ⊤
IsLeaf (forms.Numbers number) = ⊤
IsLeaf (forms.Bytes width) = ⊤
IsLeaf (forms.Texts width) = ⊤
IsLeaf (forms.FixedBytes width) = ⊤
IsLeaf (forms.Lists list) = ⊥
IsLeaf forms.Structs = ⊥
