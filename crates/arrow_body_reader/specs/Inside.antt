-- Where the things lie that the slots of a valid body refer to: inside the buffers and the children of their node,
-- and those buffers inside the body (Columnar Format, "Physical Memory Layout"). This is stated slot by slot, for the
-- offsets that are read.
use Rattle.std.specs.Prelude.{◌≡◌, ◌≤◌, ◌<◌, ◌+◌, ◌*◌, ◌/◌, ℕ, ℤ, pos, List, length, drop, take, ⊤}
use Rattle.std.specs.List.{AllByRecursion}
use Rattle.arrow_types.specs.Field.{FieldHeader, FieldTree}
use Rattle.arrow_types.specs.declared.node.FieldNode.{FieldNode}
use Rattle.arrow_types.specs.declared.node.Buffer.{Buffer}
use Rattle.arrow_data.specs.Column.{AreOf, ValueList, counts_of}
use Rattle.arrow_layout.specs.Form.{node_form, number_width, offset_bytes}
use Rattle.arrow_layout.specs.Layout.{buffer, child_count}
use Rattle.arrow_data.specs.Listed.{ResolvesBy}
use Rattle.arrow_layout.specs.ByteRanges.{AreBytes}
use Rattle.arrow_layout.specs.Slots.{place_of}
use Rattle.arrow_layout.specs.declared.form.Form.{Form}
use Rattle.arrow_layout.specs.declared.form.Form.TheVariants as forms
use Rattle.arrow_layout.specs.declared.form.ListForm.{ListForm}
use Rattle.arrow_layout.specs.declared.form.ListForm.TheVariants as lists
use Rattle.arrow_layout.specs.declared.form.OffsetWidth.{OffsetWidth}
use Rattle.arrow_body_reader.specs.Held.{IsHeld}
use Rattle.arrow_body_reader.specs.Sound.{IsSound, columns_of, lengths_of, node_at, own_bytes, slots_at}
use Rattle.arrow_body_reader.specs.Taken.{AllNodes, below, own_buffers}

-- bit j is there, in byte j / 8 (Columnar Format, "Validity bitmaps")
abbrev pub HasBit : ℕ → List ℕ → Type 0
HasBit j bits = j / 8 < length bits

-- so is the bit of a bitmap, which may be left out if no slot is null (Columnar Format, "Validity bitmaps")
abbrev pub HasValidity : ℕ → List ℕ → Type 0
HasValidity j validity = 0 < length validity → HasBit j validity

-- the `width` bytes of slot j are there (Columnar Format, "Fixed-size Primitive Layout")
abbrev pub HasWidth : ℕ → ℕ → List ℕ → Type 0
HasWidth width j values = width * j + width ≤ length values

-- Offsets j and j + 1 are there, and the range between them lies within `top` (Columnar Format, "Variable-size Binary
-- Layout" and "Variable-size List Layout").
pub record HasRange (width : OffsetWidth) (j top : ℕ) (offsets : List ℕ) : Type 0 where
  pub there : HasWidth (offset_bytes width) (j + 1) offsets
  pub order : place_of width offsets j ≤ place_of width offsets (j + 1)
  pub within : place_of width offsets (j + 1) ≤ top

-- The items of list j lie within the child's slots: up to the next offset, or as many as each list has (Columnar
-- Format, "Variable-size List Layout", "Fixed-Size List Layout").
abbrev pub HasItemsInside : ListForm → ℕ → ℕ → List (List ℕ) → Type 0
HasItemsInside (lists.Offsets width) j top b = HasRange width j top (buffer b 1)
HasItemsInside (lists.Fixed size) j top b = size * (j + 1) ≤ top

-- What slot j of a node of the form refers to is there: its bits and bytes in the buffers, a list's items and a
-- struct's values among the slots of the children (Columnar Format, "Buffer Listing for Each Layout").
abbrev pub IsSlotInside : Form → ℕ → List (List ℕ) → List ℕ → Type 0
IsSlotInside forms.Nulls j b counts = ⊤
IsSlotInside forms.Bits j b counts = HasValidity j (buffer b 0) × HasBit j (buffer b 1)
IsSlotInside (forms.Numbers number) j b counts = HasValidity j (buffer b 0) × HasWidth (number_width number) j (buffer b 1)
IsSlotInside (forms.Bytes width) j b counts = HasValidity j (buffer b 0) × HasRange width j (length (buffer b 2)) (buffer b 1)
IsSlotInside (forms.Texts width) j b counts = HasValidity j (buffer b 0) × HasRange width j (length (buffer b 2)) (buffer b 1)
IsSlotInside (forms.FixedBytes width) j b counts = HasValidity j (buffer b 0) × HasWidth width j (buffer b 1)
IsSlotInside (forms.Lists list) j b counts = HasValidity j (buffer b 0) × HasItemsInside list j (child_count counts) b
IsSlotInside forms.Structs j b counts = HasValidity j (buffer b 0) × AllByRecursion (λ count. j < count) counts

-- The field has its own node, which gives the number of slots, and all of its buffers. They lie inside the body, and
-- each slot lies inside them (Columnar Format, "RecordBatch message").
pub record IsNodeInside (body : List ℕ) (head : FieldHeader) (children : FieldTree) (nodes : List FieldNode) (buffers : List Buffer) : Type 0 where
  pub node : 0 < length nodes
  pub reported : (node_at nodes).length ≡ pos (slots_at nodes)
  pub there : own_buffers head ≤ length buffers
  pub held : AllByRecursion (IsHeld body) (take (own_buffers head) buffers)
  pub slots : (j : ℕ) → j < slots_at nodes
      → IsSlotInside (node_form head.tag head.encoding) j (own_bytes body head buffers) (lengths_of (below head.encoding children) (drop 1 nodes))

-- so do all nodes and buffers that the fields take
abbrev pub AreInside : List ℕ → FieldTree → List FieldNode → List Buffer → Type 0
AreInside body fields nodes buffers = AllNodes (IsNodeInside body) fields nodes buffers

-- The one reading of a body: a column for each field, of its type and encoding, with a raw value for each slot of its
-- node; everything that is read on any level lies inside the body; and each raw value resolves to a value.
pub record IsReading (body : List ℕ) (ds : List (ℤ × ValueList)) (fields : FieldTree) (nodes : List FieldNode) (buffers : List Buffer) : Type 0 where
  pub columns : AreOf fields (columns_of body ds fields nodes buffers)
  pub long : counts_of (columns_of body ds fields nodes buffers) ≡ lengths_of fields nodes
  pub inside : AreBytes body → AreInside body fields nodes buffers
  pub resolves : AllByRecursion (ResolvesBy ds) (columns_of body ds fields nodes buffers)

-- The law `one_reading`: a valid body has one reading. There is obviously no other list of columns, since
-- `columns_of` is a function.
abbrev pub OneReading : Type 0
OneReading =
    (body : List ℕ) (ds : List (ℤ × ValueList)) (fields : FieldTree) (nodes : List FieldNode) (buffers : List Buffer) → IsSound body ds fields nodes buffers
    → IsReading body ds fields nodes buffers
