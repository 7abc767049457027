-- The layout of a message: its tables, with the fields that are written in each of them (Message.fbs, Schema.fbs).
use Rattle.std.specs.Prelude.{ℕ, ℤ, Bool, true, false, List, [], ◌∷◌, map, Option, Some, None}
use Rattle.std.specs.Int.{cast_unsigned, w32, w64}
use Rattle.arrow_flatbuf.specs.declared.layout.Width.TheVariants.{One, Two, Four, Eight}
use Rattle.arrow_flatbuf.specs.Nodes.{Node, text, byte_string, pairs, tables, table, Nodes, TableFields, last, absent}
use Rattle.arrow_flatbuf.specs.Nodes.{scalar, offset}
use Rattle.arrow_flatbuf.specs.Nodes as laid
use Rattle.arrow_types.specs.DataType as tags
use Rattle.arrow_types.specs.DataType.{TypeId, bits_of, decimal_bits_of, time_width_of}
use Rattle.arrow_types.specs.Field as columns
use Rattle.arrow_types.specs.Field.{FieldHeader, FieldTree}
use Rattle.arrow_types.specs.Notes.{KeyValue, Notes, unnoted, noted, SchemaShape}
use Rattle.arrow_types.specs.declared.data_type.BitWidth.{BitWidth}
use Rattle.arrow_types.specs.declared.data_type.DateUnit.{DateUnit}
use Rattle.arrow_types.specs.declared.data_type.DateUnit.TheVariants as dates
use Rattle.arrow_types.specs.declared.data_type.IntervalUnit.{IntervalUnit}
use Rattle.arrow_types.specs.declared.data_type.IntervalUnit.TheVariants as intervals
use Rattle.arrow_types.specs.declared.data_type.Precision.{Precision}
use Rattle.arrow_types.specs.declared.data_type.Precision.TheVariants as precisions
use Rattle.arrow_types.specs.declared.data_type.TimeUnit.{TimeUnit}
use Rattle.arrow_types.specs.declared.data_type.TimeUnit.TheVariants as times
use Rattle.arrow_types.specs.declared.field.Encoding.{Encoding}
use Rattle.arrow_types.specs.declared.node.FieldNode.{FieldNode}
use Rattle.arrow_types.specs.declared.node.Buffer.{Buffer}
use Rattle.arrow_meta_tree.specs.Codes.{schema_code, dictionary_code, batch_code}
use Rattle.arrow_meta_reader.specs.Versions.{number_of_version}
use Rattle.arrow_meta_tree.specs.Types.{code_of, type_row}
use Rattle.arrow_meta_reader.specs.Means.{PlainBatch, PlainHeader, schema, dictionary, batch, PlainMessage}

-- a truth value as a byte
abbrev pub flag : Bool → ℕ
flag true = 1
flag false = 0

-- the code of a type (Schema.fbs, union "Type")
abbrev pub tag_code : TypeId → ℕ
tag_code tag = (type_row (code_of tag)).code

-- the number of a precision (Schema.fbs, enum "Precision")
abbrev pub precision_number : Precision → ℕ
precision_number precisions.Half = 0
precision_number precisions.Single = 1
precision_number precisions.Double = 2

-- the number of a date's unit (Schema.fbs, enum "DateUnit")
abbrev pub date_number : DateUnit → ℕ
date_number dates.Day = 0
date_number dates.Millisecond = 1

-- the number of the unit of a time, a timestamp or a duration (Schema.fbs, enum "TimeUnit")
abbrev pub time_number : TimeUnit → ℕ
time_number times.Second = 0
time_number times.Millisecond = 1
time_number times.Microsecond = 2
time_number times.Nanosecond = 3

-- the number of an interval's unit (Schema.fbs, enum "IntervalUnit")
abbrev pub interval_number : IntervalUnit → ℕ
interval_number intervals.YearMonth = 0
interval_number intervals.DayTime = 1
interval_number intervals.MonthDayNano = 2

-- an Int table: bitWidth, is_signed
abbrev pub int_cells : BitWidth → Bool → TableFields
int_cells bits signed = scalar Four (bits_of bits) (scalar One (flag signed) last)

-- a time zone, if there is one
abbrev pub zone_cells : Option (List ℕ) → TableFields
zone_cells None = last
zone_cells (Some name) = offset (text name) last

-- the time zone of a type, if it has one
abbrev pub zone_in : TypeId → Option (List ℕ)
zone_in (tags.timestamp unit zone) = zone
zone_in _ = None

-- a type's table: for FloatingPoint the precision, for Decimal the precision, the scale and bitWidth, for Date,
-- Duration and Interval the unit, for Time the unit and bitWidth, for Timestamp the unit and the time zone, for
-- FixedSizeBinary the byteWidth, for FixedSizeList the listSize, for Map keysSorted. The types that no reader opens
-- have a table without fields.
abbrev pub type_cells : TypeId → TableFields
type_cells (tags.int bits signed) = int_cells bits signed
type_cells (tags.floating_point precision) = scalar Two (precision_number precision) last
type_cells (tags.decimal width precision scale) =
    scalar Four precision (scalar Four (cast_unsigned w32 scale) (scalar Four (decimal_bits_of width) last))
type_cells (tags.date unit) = scalar Two (date_number unit) last
type_cells (tags.time unit) = scalar Two (time_number unit) (scalar Four (bits_of (time_width_of unit)) last)
type_cells (tags.timestamp unit zone) = scalar Two (time_number unit) (zone_cells zone)
type_cells (tags.fixed_size_binary width) = scalar Four width last
type_cells (tags.fixed_size_list size) = scalar Four size last
type_cells (tags.duration unit) = scalar Two (time_number unit) last
type_cells (tags.interval unit) = scalar Two (interval_number unit) last
type_cells (tags.map sorted) = scalar One (flag sorted) last
type_cells _ = last

-- a DictionaryEncoding table: id, indexType, isOrdered, dictionaryKind
abbrev pub encoding_cells : Encoding → TableFields
encoding_cells e =
    scalar Eight (cast_unsigned w64 e.id) (offset (table (int_cells e.index.bits e.index.signed)) (scalar One (flag e.ordered) (scalar Two 0 last)))

-- a field's encoding, followed by the fields after it
abbrev pub with_encoding : Option Encoding → TableFields → TableFields
with_encoding None rest = absent rest
with_encoding (Some e) rest = offset (table (encoding_cells e)) rest

-- a KeyValue table: key, value
abbrev pub pair_cells : KeyValue → TableFields
pair_cells p = offset (byte_string p.key) (offset (byte_string p.value) last)

-- the KeyValue tables of pairs, in their order
abbrev pub pair_nodes : List KeyValue → Nodes
pair_nodes [] = laid.none
pair_nodes (p ∷ ps) = laid.more (table (pair_cells p)) (pair_nodes ps)

-- custom_metadata, the last field of a table, which is present if there are pairs
abbrev pub metadata_cells : List KeyValue → TableFields
metadata_cells [] = last
metadata_cells (p ∷ ps) = offset (tables (pair_nodes (p ∷ ps))) last

-- a Field table with these pairs, whose children are laid out as given: name, nullable, type's code, type,
-- dictionary, children, custom_metadata
abbrev pub field_cells : FieldHeader → List KeyValue → Nodes → TableFields
field_cells h ps children =
    offset (text h.name) (scalar One (flag h.nullable) (scalar One (tag_code h.tag) (offset (table (type_cells h.tag))
    (with_encoding h.encoding (offset (tables children) (metadata_cells ps))))))

-- The custom metadata of fields, split: the pairs of the first field, the custom metadata below it, and that of the
-- fields after it.
abbrev pub first_pairs : Notes → List KeyValue
first_pairs unnoted = []
first_pairs (noted ps below rest) = ps

abbrev pub first_below : Notes → Notes
first_below unnoted = unnoted
first_below (noted ps below rest) = below

abbrev pub first_rest : Notes → Notes
first_rest unnoted = unnoted
first_rest (noted ps below rest) = rest

-- the Field tables of sibling fields, with this custom metadata
abbrev pub field_nodes : FieldTree → Notes → Nodes
field_nodes columns.none n = laid.none
field_nodes (columns.more h children rest) n =
    laid.more (table (field_cells h (first_pairs n) (field_nodes children (first_below n)))) (field_nodes rest (first_rest n))

-- a Schema table: endianness, fields, custom_metadata
abbrev pub schema_cells : SchemaShape → TableFields
schema_cells s = scalar Two 0 (offset (tables (field_nodes s.fields s.notes)) (metadata_cells s.pairs))

-- the two numbers of a field node
abbrev pub node_pair : FieldNode → ℕ × ℕ
node_pair n = (cast_unsigned w64 n.length, cast_unsigned w64 n.null_count)

-- the two numbers of a buffer
abbrev pub buffer_pair : Buffer → ℕ × ℕ
buffer_pair b = (cast_unsigned w64 b.offset, cast_unsigned w64 b.length)

-- a RecordBatch table: length, nodes, buffers
abbrev pub batch_cells : PlainBatch → TableFields
batch_cells b =
    scalar Eight (cast_unsigned w64 b.length) (offset (pairs (map node_pair b.nodes)) (offset (pairs (map buffer_pair b.buffers)) last))

-- a DictionaryBatch table: id, data, isDelta
abbrev pub dictionary_cells : ℤ → Bool → PlainBatch → TableFields
dictionary_cells id delta b = scalar Eight (cast_unsigned w64 id) (offset (table (batch_cells b)) (scalar One (flag delta) last))

-- the header's code
abbrev pub header_code : PlainHeader → ℕ
header_code (schema s) = schema_code
header_code (dictionary id delta b) = dictionary_code
header_code (batch b) = batch_code

-- the header's table
abbrev pub header_cells : PlainHeader → TableFields
header_cells (schema s) = schema_cells s
header_cells (dictionary id delta b) = dictionary_cells id delta b
header_cells (batch b) = batch_cells b

-- a Message table: version, header's code, header, bodyLength
abbrev pub message_cells : PlainMessage → TableFields
message_cells m =
    scalar Two (number_of_version m.version) (scalar One (header_code m.header) (offset (table (header_cells m.header))
    (scalar Eight m.body_len last)))

-- a message
abbrev pub message_node : PlainMessage → Node
message_node m = table (message_cells m)
