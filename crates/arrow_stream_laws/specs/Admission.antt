-- Which batches and schemas a writer accepts, or else the first fault that applies.
use Rattle.std.specs.Prelude.{ℕ, ℤ, ◌+◌, ◌^◌, ◌&&◌, not, nat_le, Bool, if◌then◌else◌, List, [], ◌∷◌, length, Option, Some, None}
use Rattle.std.specs.List.{list_all}
use Rattle.arrow_types.specs.Equality.{is_equal}
use Rattle.arrow_types.specs.Field.{FieldTree}
use Rattle.arrow_types.specs.Limits.{LimitNumbers}
use Rattle.arrow_types.specs.Notes.{SchemaShape}
use Rattle.arrow_types.specs.Schema.{dictionary_fields}
use Rattle.arrow_types.specs.Stored.{schema_code}
use Rattle.arrow_types.specs.TypeSet.{leaves_some_out}
use Rattle.arrow_data.specs.Batch.{Table}
use Rattle.arrow_data.specs.Column.{ValueList}
use Rattle.arrow_layout.specs.PlainValue.{PlainValue}
use Rattle.arrow_dict.specs.ValueTypes.{value_type_of}
use Rattle.arrow_stream_reader.specs.Batch.{field_of_type}
use Rattle.arrow_sink.specs.declared.write_fault.WriteFault.{WriteFault}
use Rattle.arrow_sink.specs.declared.write_fault.WriteFault.TheVariants.{SchemaDiffers, TooLarge, DictionariesDiffer}
use Rattle.arrow_body_laws.specs.Size.{size_of}
use Rattle.arrow_stream_laws.specs.Sizes.{Options, batch_size, dictionary_size, offsets_fit, schema_size, slots_in}
use Rattle.arrow_body_laws.specs.Laws.{raws_of}
use Rattle.arrow_stream_laws.specs.Rows.{has_one_list}
use Rattle.arrow_stream_laws.specs.Plan.{Sending, plan}

-- whether a frame keeps to the limits if it has `metadata` bytes of metadata and columns of these raw values: its
-- metadata, its body, its rows, the slots of its field nodes and its offsets
abbrev pub frame_fits : LimitNumbers → ℕ → ℕ → FieldTree → List (List PlainValue) → ℕ → Bool
frame_fits limits align metadata fields raws rows =
    nat_le metadata limits.max_metadata && nat_le (size_of align fields raws) limits.max_body && nat_le rows limits.max_rows
    && list_all (λ n. nat_le n limits.max_rows) (slots_in fields raws) && offsets_fit fields raws

-- the field of the values of an id's dictionary
abbrev pub fields_for : FieldTree → ℤ → FieldTree
fields_for fields id = field_of_type (value_type_of (dictionary_fields fields) id)

-- how many bytes the frame of a dictionary batch has
abbrev pub sending_size : ℕ → FieldTree → Sending → ℕ
sending_size align fields w = 8 + dictionary_size align (fields_for fields w.id) + size_of align (fields_for fields w.id) (w.carried ∷ [])

-- how many bytes the frames of several have
abbrev pub sendings_size : ℕ → FieldTree → List Sending → ℕ
sendings_size align fields [] = 0
sendings_size align fields (w ∷ ws) = sending_size align fields w + sendings_size align fields ws

-- how many bytes the frame of a record batch has
abbrev pub record_size : ℕ → FieldTree → Table → ℕ
record_size align fields t = 8 + batch_size align fields + size_of align fields (raws_of t.columns)

-- how many bytes the messages of a batch have, if these dictionaries were sent before
abbrev pub part_size : Options → FieldTree → List (ℤ × ValueList) → Table → ℕ
part_size o fields ds t = sendings_size o.align fields (plan o.updates fields ds t) + record_size o.align fields t

-- whether a dictionary batch keeps to the limits, and all values of its id after it
abbrev pub sending_fits : LimitNumbers → ℕ → FieldTree → Sending → Bool
sending_fits limits align fields w =
    frame_fits limits align (dictionary_size align (fields_for fields w.id)) (fields_for fields w.id) (w.carried ∷ []) (length w.carried)
    && nat_le (length w.whole) limits.max_rows

-- whether the messages of a batch keep to the limits, if these dictionaries were sent before and the messages begin
-- at this offset
abbrev pub part_fits : LimitNumbers → Options → FieldTree → List (ℤ × ValueList) → ℕ → Table → Bool
part_fits limits o fields ds place t =
    list_all (sending_fits limits o.align fields) (plan o.updates fields ds t)
    && frame_fits limits o.align (batch_size o.align fields) fields (raws_of t.columns) t.rows
    && nat_le (place + part_size o fields ds t) (2 ^ 62)

-- the first fault that applies to a batch, none if it is accepted; a schema differs if its fields, its custom
-- metadata or that of its fields do
abbrev pub admission : LimitNumbers → Options → SchemaShape → List (ℤ × ValueList) → ℕ → Table → Option WriteFault
admission limits o shape ds place t =
    if not (is_equal schema_code t.schema shape) then Some SchemaDiffers else
    (if not (has_one_list t) then Some DictionariesDiffer else
    (if not (part_fits limits o shape.fields ds place t) then Some TooLarge else None))

-- the fault of a schema, none if it is accepted: its frame is the first one and has no body, and its types are in the
-- set
abbrev pub schema_admission : LimitNumbers → Options → SchemaShape → Option WriteFault
schema_admission limits o shape =
    if nat_le (schema_size o.align shape) limits.max_metadata && nat_le (8 + schema_size o.align shape) (2 ^ 62)
    && not (leaves_some_out limits.types shape.fields) then None else Some TooLarge

-- whether an end marker may begin at this offset
abbrev pub marker_fits : ℕ → Bool
marker_fits place = nat_le (place + 8) (2 ^ 62)
