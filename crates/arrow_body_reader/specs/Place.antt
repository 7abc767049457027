-- A field's own node at its position in a batch, in a single value. Only the crate's private clauses cite this.
use Rattle.std.specs.Prelude.{ℕ, List, drop, map, take}
use Rattle.arrow_types.specs.Field.{FieldTree, FieldHeader}
use Rattle.arrow_types.specs.View.{field_view}
use Rattle.arrow_data.specs.Column.{Column}
use Rattle.arrow_data.specs.Listed.{dictionary_for}
use Rattle.arrow_layout.specs.ByteRanges.{bytes_of}
use Rattle.arrow_data.specs.Parts.{node_column, values_in}
use Rattle.arrow_layout.specs.Shared.{node_type}
use Rattle.arrow_layout.specs.declared.byte_range.ByteRange.{ByteRange}
use Rattle.arrow_body_reader.specs.declared.held.BufferRanges.{BufferRanges}
use Rattle.arrow_body_reader.specs.declared.place.NodePlace.{NodePlace}
use Rattle.arrow_body_reader.specs.Held.{AreRangesOf}
use Rattle.arrow_body_reader.specs.Sound.{IsNodeIndexed, IsNodeLaid, IsNodeText, columns_of, lengths_of, own_bytes, slots_at}
use Rattle.arrow_body_reader.specs.Taken.{below, own_buffers}

-- the bytes of each of these ranges
abbrev pub buffers_in : BufferRanges → List (List ℕ)
buffers_in h = map (bytes_of h.body.now) h.ranges.now

-- the field itself
abbrev pub head_at : NodePlace → FieldHeader
head_at p = (field_view p.field.now).head

-- the fields below it
abbrev pub children_at : NodePlace → FieldTree
children_at p = (field_view p.field.now).children

-- how many slots its node has
abbrev pub len_at : NodePlace → ℕ
len_at p = slots_at p.left.nodes.now

-- how many slots each node directly below it has
abbrev pub lengths_below : NodePlace → List ℕ
lengths_below p = lengths_of (below (head_at p).encoding (children_at p)) (drop 1 p.left.nodes.now)

-- its own node and buffers lie in the body as its type requires
abbrev pub IsLaidAt : NodePlace → Type 0
IsLaidAt p = IsNodeLaid p.source.body.now (head_at p) (children_at p) p.left.nodes.now p.left.buffers.now

-- its valid slots, if they are texts, are UTF-8
abbrev pub IsTextAt : NodePlace → Type 0
IsTextAt p = IsNodeText p.source.body.now (head_at p) (children_at p) p.left.nodes.now p.left.buffers.now

-- its valid slots, if they are indices, have their values
abbrev pub IsIndexedAt : NodePlace → Type 0
IsIndexedAt p = IsNodeIndexed p.source.body.now p.source.dictionaries.entries.now (head_at p) (children_at p) p.left.nodes.now p.left.buffers.now

-- the first of these ranges are where its own buffers lie
abbrev pub AreRangesAt : NodePlace → List ByteRange → Type 0
AreRangesAt p ranges = AreRangesOf p.source.body.now (take (own_buffers (head_at p)) p.left.buffers.now) (take (own_buffers (head_at p)) ranges)

-- the columns below it
abbrev pub columns_below : NodePlace → List Column
columns_below p =
    columns_of p.source.body.now p.source.dictionaries.entries.now (below (head_at p).encoding (children_at p)) (drop 1 p.left.nodes.now) (drop (own_buffers (head_at p)) p.left.buffers.now)

-- its column
abbrev pub column_at : NodePlace → Column
column_at p =
    node_column (node_type (head_at p) (children_at p)).data_type (head_at p).encoding (len_at p) (own_bytes p.source.body.now (head_at p) p.left.buffers.now) (columns_below p)
    (values_in (dictionary_for p.source.dictionaries.entries.now (head_at p).encoding))
