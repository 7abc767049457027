-- The body of raw values as a writer sends it: field nodes, buffers and bytes (Columnar Format, "RecordBatch message").
use Rattle.std.specs.Prelude.{ℕ, ◌+◌, ◌*◌, ◌-◌, pos, not, true, nat_eq, if◌then◌else◌, List, [], ◌∷◌, ◌++◌, length, map, count_by, replicate}
use Rattle.std.specs.List.{flat_map}
use Rattle.std.specs.Int.{div_ceil}
use Rattle.arrow_types.specs.Field.{FieldTree, none, more}
use Rattle.arrow_types.specs.declared.node.FieldNode.{FieldNode}
use Rattle.arrow_types.specs.declared.node.Buffer.{Buffer}
use Rattle.arrow_data.specs.Column.{Column}
use Rattle.arrow_layout.specs.Form.{node_form, number_width}
use Rattle.arrow_layout.specs.PlainValue.{PlainValue, is_null_value}
use Rattle.arrow_layout.specs.declared.form.Form.{Form}
use Rattle.arrow_layout.specs.declared.form.Form.TheVariants as forms
use Rattle.arrow_layout.specs.declared.form.ListForm.{ListForm}
use Rattle.arrow_layout.specs.declared.form.ListForm.TheVariants as lists
use Rattle.arrow_body_laws.specs.Packed.{packed, ints_bytes, offsets_bytes}
use Rattle.arrow_body_laws.specs.Raws.{bytes_in_value, fixed_in, items_in_value, number_in, raws_below, truth_in}

-- how many of the values are null
abbrev pub nulls_in : List PlainValue → ℕ
nulls_in vs = count_by is_null_value vs

-- a bit for each slot, 0 for a null one; nothing if no slot is null (Columnar Format, "Validity bitmaps")
abbrev pub validity_bytes : List PlainValue → List ℕ
validity_bytes vs = if nat_eq (nulls_in vs) 0 then [] else packed (map (λ v. not (is_null_value v)) vs)

-- the number of each slot
abbrev pub number_buffer : ℕ → List PlainValue → List ℕ
number_buffer width vs = ints_bytes width (map number_in vs)

-- the offsets of lists, if they are stored (Columnar Format, "Variable-size List Layout", "Fixed-Size List Layout")
abbrev pub list_chunks : ListForm → List PlainValue → List (List ℕ)
list_chunks (lists.Offsets width) vs = offsets_bytes width (map (λ v. length (items_in_value 0 v)) vs) ∷ []
list_chunks (lists.Fixed size) vs = []

-- The buffers of a node of the form, in their order (Columnar Format, "Buffer Listing for Each Layout").
abbrev pub own_chunks : Form → List PlainValue → List (List ℕ)
own_chunks forms.Nulls vs = []
own_chunks forms.Bits vs = validity_bytes vs ∷ packed (map truth_in vs) ∷ []
own_chunks (forms.Numbers number) vs = validity_bytes vs ∷ number_buffer (number_width number) vs ∷ []
own_chunks (forms.Bytes w) vs = validity_bytes vs ∷ offsets_bytes w (map (λ v. length (bytes_in_value v)) vs) ∷ flat_map bytes_in_value vs ∷ []
own_chunks (forms.Texts w) vs = validity_bytes vs ∷ offsets_bytes w (map (λ v. length (bytes_in_value v)) vs) ∷ flat_map bytes_in_value vs ∷ []
own_chunks (forms.FixedBytes width) vs = validity_bytes vs ∷ flat_map (fixed_in width) vs ∷ []
own_chunks (forms.Lists list) vs = validity_bytes vs ∷ list_chunks list vs
own_chunks forms.Structs vs = validity_bytes vs ∷ []

-- a field's own node (Message.fbs, struct "FieldNode")
abbrev pub own_node : List PlainValue → FieldNode
own_node vs = record { length = pos (length vs); null_count = pos (nulls_in vs) }

-- the nodes of fields with these raw values, in pre-order
abbrev pub stored_nodes : FieldTree → List (List PlainValue) → List FieldNode
stored_nodes none raws = []
stored_nodes (more head children rest) [] = []
stored_nodes (more head children rest) (vs ∷ raws) =
    own_node vs ∷ (stored_nodes children (raws_below (node_form head.tag head.encoding) children vs) ++ stored_nodes rest raws)

-- and the bytes of their buffers
abbrev pub stored_chunks : FieldTree → List (List PlainValue) → List (List ℕ)
stored_chunks none raws = []
stored_chunks (more head children rest) [] = []
stored_chunks (more head children rest) (vs ∷ raws) =
    own_chunks (node_form head.tag head.encoding) vs
    ++ (stored_chunks children (raws_below (node_form head.tag head.encoding) children vs) ++ stored_chunks rest raws)

-- a number of bytes, rounded up to a multiple of the alignment (Columnar Format, "Buffer Alignment and Padding")
abbrev pub rounded : ℕ → ℕ → ℕ
rounded align n = div_ceil n align * align

-- the bytes of a buffer, padded with zero bytes
abbrev pub padded : ℕ → List ℕ → List ℕ
padded align chunk = chunk ++ replicate (rounded align (length chunk) - length chunk) 0

-- the offsets and lengths of buffers, each at the end of the one before with its padding (Message.fbs, struct
-- "Buffer")
abbrev pub places_from : ℕ → ℕ → List (List ℕ) → List Buffer
places_from align from [] = []
places_from align from (chunk ∷ chunks) =
    record { offset = pos from; length = pos (length chunk) } ∷ places_from align (from + rounded align (length chunk)) chunks

-- A body as contracts see it: its nodes, its buffers and its bytes.
pub record PlainBody : Type 0 where
  pub nodes : List FieldNode
  pub buffers : List Buffer
  pub bytes : List ℕ

-- the body of columns of these fields with these raw values
abbrev pub stored : ℕ → FieldTree → List (List PlainValue) → PlainBody
stored align fields raws = record {
  nodes = stored_nodes fields raws;
  buffers = places_from align 0 (stored_chunks fields raws);
  bytes = flat_map (padded align) (stored_chunks fields raws);
}

-- the fields of columns; names and nullability are not stored
abbrev pub fields_of_columns : List Column → FieldTree
fields_of_columns [] = none
fields_of_columns (c ∷ cs) =
    more (record { name = []; nullable = true; tag = c.data_type.tag; encoding = c.encoding }) c.data_type.children (fields_of_columns cs)
