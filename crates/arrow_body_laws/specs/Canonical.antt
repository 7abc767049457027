-- The properties of nodes, buffers and bytes that a writer sends, beyond those that a reader requires: they hold
-- nothing that no value needs, and nothing of the content under a null. The standard recommends some of it (Columnar
-- Format, "Buffer Alignment and Padding", "Validity bitmaps") and leaves the rest to writers.
use Rattle.std.specs.Prelude.{◌≡◌, ◌≤◌, ◌<◌, ℕ, ◌+◌, ◌*◌, ◌-◌, ◌%◌, pos, ◌≤ℤ◌, false, List, [], ◌∷◌, length, drop, replicate, slice_range, ⊤}
use Rattle.std.specs.List.{AllByRecursion}
use Rattle.std.specs.Int.{div_ceil}
use Rattle.arrow_bits.specs.Bitmap.{bit_of}
use Rattle.arrow_types.specs.Field.{FieldTree, FieldHeader, none, more}
use Rattle.arrow_types.specs.declared.node.FieldNode.{FieldNode}
use Rattle.arrow_types.specs.declared.node.Buffer.{Buffer}
use Rattle.arrow_layout.specs.Form.{node_form, number_width, offset_bytes}
use Rattle.arrow_layout.specs.Layout.{buffer, child_count}
use Rattle.arrow_layout.specs.Slots.{is_valid_at, place_of}
use Rattle.arrow_layout.specs.declared.form.Form.{Form}
use Rattle.arrow_layout.specs.declared.form.Form.TheVariants as forms
use Rattle.arrow_layout.specs.declared.form.ListForm.{ListForm}
use Rattle.arrow_layout.specs.declared.form.ListForm.TheVariants as lists
use Rattle.arrow_layout.specs.declared.form.OffsetWidth.{OffsetWidth}
use Rattle.arrow_body_reader.specs.Held.{count_of}
use Rattle.arrow_body_reader.specs.Sound.{lengths_of, node_at, nulls_of, own_bytes, slots_at}
use Rattle.arrow_body_reader.specs.Taken.{AllNodes, below, flattened, own_buffers, taken_nodes, taken_buffers}

-- the first multiple of the alignment at an end or after it (Columnar Format, "Buffer Alignment and Padding")
pub record IsNextMultiple (align end place : ℕ) : Type 0 where
  pub multiple : place % align ≡ 0
  pub past : end ≤ place
  pub near : place < end + align

-- The first buffer begins at `from`, each other one at the first multiple of the alignment after the one before, with
-- zero bytes between them, and the body ends at that multiple after the last. Lengths do not include these bytes
-- (Columnar Format, "Buffer Alignment and Padding").
abbrev pub LieInOrder : ℕ → List ℕ → ℕ → List Buffer → Type 0
LieInOrder align body from [] = length body ≡ from
LieInOrder align body from (b ∷ bs) =
    (b.offset ≡ pos from) × (pos 0 ≤ℤ b.length)
    × ((next : ℕ) × IsNextMultiple align (from + count_of b.length) next
    × (slice_range body (from + count_of b.length) next ≡ replicate (next - (from + count_of b.length)) 0)
    × LieInOrder align body next bs)

-- there is a bitmap only if some slot is null, and then it has no byte too many (Columnar Format, "Validity bitmaps")
abbrev pub IsCanonicalValidity : ℕ → List ℕ → Type 0
IsCanonicalValidity len validity = 0 < length validity → (length validity ≡ div_ceil len 8) × (0 < nulls_of len validity)

-- the bits after the last slot's are not set
abbrev pub IsSpare : ℕ → List ℕ → Type 0
IsSpare len bits = (j : ℕ) → len ≤ j → bit_of bits j ≡ false

-- a condition on each slot that is null
abbrev pub UnderNulls : ℕ → List ℕ → (ℕ → Type 0) → Type 0
UnderNulls len validity P = (j : ℕ) → j < len → is_valid_at validity j ≡ false → P j

-- `width` bytes for each slot and no more, zero bytes under a null
pub record IsCanonicalFixed (len width : ℕ) (validity values : List ℕ) : Type 0 where
  pub just : length values ≡ width * len
  pub zero_bytes : UnderNulls len validity (λ j. slice_range values (width * j) (width * j + width) ≡ replicate width 0)

-- a bit for each slot, not set under a null, and none after the last
pub record IsCanonicalBools (len : ℕ) (validity values : List ℕ) : Type 0 where
  pub just : length values ≡ div_ceil len 8
  pub spare : IsSpare len values
  pub zero_bits : UnderNulls len validity (λ j. bit_of values j ≡ false)

-- One offset more than slots, even without slots. They go from 0 to exactly `top`, the number of bytes or items that
-- there are, and the range of a null is empty.
pub record IsCanonicalOffsets (width : OffsetWidth) (len : ℕ) (validity offsets : List ℕ) (top : ℕ) : Type 0 where
  pub just : length offsets ≡ offset_bytes width * (len + 1)
  pub begins : place_of width offsets 0 ≡ 0
  pub ends : place_of width offsets len ≡ top
  pub empty : UnderNulls len validity (λ j. place_of width offsets (j + 1) ≡ place_of width offsets j)

-- all children have exactly as many slots as their parent needs
abbrev pub AreAsLong : ℕ → List ℕ → Type 0
AreAsLong len counts = AllByRecursion (λ count. count ≡ len) counts

-- the offsets of lists, if they are stored; for fixed-size lists the child has exactly as many slots as these have
-- items
abbrev pub AreCanonicalLists : ListForm → ℕ → List (List ℕ) → List ℕ → Type 0
AreCanonicalLists (lists.Offsets width) len b counts = IsCanonicalOffsets width len (buffer b 0) (buffer b 1) (child_count counts)
AreCanonicalLists (lists.Fixed size) len b counts = AreAsLong (size * len) counts

-- the buffers of a node of the form, and the slots below it
abbrev pub IsCanonicalLayout : Form → ℕ → List (List ℕ) → List ℕ → Type 0
IsCanonicalLayout forms.Nulls len b counts = ⊤
IsCanonicalLayout forms.Bits len b counts = IsCanonicalBools len (buffer b 0) (buffer b 1)
IsCanonicalLayout (forms.Numbers number) len b counts = IsCanonicalFixed len (number_width number) (buffer b 0) (buffer b 1)
IsCanonicalLayout (forms.Bytes width) len b counts = IsCanonicalOffsets width len (buffer b 0) (buffer b 1) (length (buffer b 2))
IsCanonicalLayout (forms.Texts width) len b counts = IsCanonicalOffsets width len (buffer b 0) (buffer b 1) (length (buffer b 2))
IsCanonicalLayout (forms.FixedBytes width) len b counts = IsCanonicalFixed len width (buffer b 0) (buffer b 1)
IsCanonicalLayout (forms.Lists list) len b counts = AreCanonicalLists list len b counts
IsCanonicalLayout forms.Structs len b counts = AreAsLong len counts

-- slot j of a node of the form is null
abbrev pub IsNullSlot : Form → List (List ℕ) → ℕ → Type 0
IsNullSlot forms.Nulls b j = ⊤
IsNullSlot forms.Bits b j = is_valid_at (buffer b 0) j ≡ false
IsNullSlot (forms.Numbers number) b j = is_valid_at (buffer b 0) j ≡ false
IsNullSlot (forms.Bytes width) b j = is_valid_at (buffer b 0) j ≡ false
IsNullSlot (forms.Texts width) b j = is_valid_at (buffer b 0) j ≡ false
IsNullSlot (forms.FixedBytes width) b j = is_valid_at (buffer b 0) j ≡ false
IsNullSlot (forms.Lists list) b j = is_valid_at (buffer b 0) j ≡ false
IsNullSlot forms.Structs b j = is_valid_at (buffer b 0) j ≡ false

-- slot j of each of the fields is null
abbrev pub AreNullSlots : List ℕ → ℕ → FieldTree → List FieldNode → List Buffer → Type 0
AreNullSlots body j none nodes buffers = ⊤
AreNullSlots body j (more head children rest) nodes buffers =
    IsNullSlot (node_form head.tag head.encoding) (own_bytes body head buffers) j
    × AreNullSlots body j rest (drop (1 + flattened head.encoding (taken_nodes children)) nodes) (drop (own_buffers head + flattened head.encoding (taken_buffers children)) buffers)

-- a condition on each slot of the child below a null list: for fixed-size lists on each of its items, else there is
-- none
abbrev pub BelowNullLists : ListForm → ℕ → List ℕ → (ℕ → Type 0) → Type 0
BelowNullLists (lists.Offsets width) len validity P = ⊤
BelowNullLists (lists.Fixed size) len validity P = UnderNulls len validity (λ j. (k : ℕ) → k < size → P (size * j + k))

-- a condition on the slots of the children that a null struct, or a null fixed-size list, has
abbrev pub BelowNulls : Form → ℕ → List ℕ → (ℕ → Type 0) → Type 0
BelowNulls forms.Nulls len validity P = ⊤
BelowNulls forms.Bits len validity P = ⊤
BelowNulls (forms.Numbers number) len validity P = ⊤
BelowNulls (forms.Bytes width) len validity P = ⊤
BelowNulls (forms.Texts width) len validity P = ⊤
BelowNulls (forms.FixedBytes width) len validity P = ⊤
BelowNulls (forms.Lists list) len validity P = BelowNullLists list len validity P
BelowNulls forms.Structs len validity P = UnderNulls len validity P

-- how many slots of a node of the form are null: all if the type is Null (Columnar Format, "Null count")
abbrev pub null_count_of : Form → ℕ → List ℕ → ℕ
null_count_of forms.Nulls len validity = len
null_count_of forms.Bits len validity = nulls_of len validity
null_count_of (forms.Numbers number) len validity = nulls_of len validity
null_count_of (forms.Bytes width) len validity = nulls_of len validity
null_count_of (forms.Texts width) len validity = nulls_of len validity
null_count_of (forms.FixedBytes width) len validity = nulls_of len validity
null_count_of (forms.Lists list) len validity = nulls_of len validity
null_count_of forms.Structs len validity = nulls_of len validity

-- a field's own node and buffers are canonical, and below a null of a struct or of a fixed-size list there are nulls
pub record IsNodeCanonical (body : List ℕ) (head : FieldHeader) (children : FieldTree) (nodes : List FieldNode) (buffers : List Buffer) : Type 0 where
  pub counted : (node_at nodes).null_count ≡ pos (null_count_of (node_form head.tag head.encoding) (slots_at nodes) (buffer (own_bytes body head buffers) 0))
  pub validity : IsCanonicalValidity (slots_at nodes) (buffer (own_bytes body head buffers) 0)
  pub spare : IsSpare (slots_at nodes) (buffer (own_bytes body head buffers) 0)
  pub layout : IsCanonicalLayout (node_form head.tag head.encoding) (slots_at nodes) (own_bytes body head buffers) (lengths_of (below head.encoding children) (drop 1 nodes))
  pub hidden : BelowNulls (node_form head.tag head.encoding) (slots_at nodes) (buffer (own_bytes body head buffers) 0)
      (λ j. AreNullSlots body j children (drop 1 nodes) (drop (own_buffers head) buffers))

-- The nodes and buffers are exactly those that the fields take, the buffers fill the body in their order, and each
-- node is canonical.
pub record IsCanonical (align : ℕ) (fields : FieldTree) (nodes : List FieldNode) (buffers : List Buffer) (body : List ℕ) : Type 0 where
  pub just_nodes : length nodes ≡ taken_nodes fields
  pub just_buffers : length buffers ≡ taken_buffers fields
  pub ordered : LieInOrder align body 0 buffers
  pub nodes_canonical : AllNodes (IsNodeCanonical body) fields nodes buffers
