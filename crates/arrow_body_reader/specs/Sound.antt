-- When nodes, buffers and a body are columns of the fields (Columnar Format, "RecordBatch message").
use Rattle.std.specs.Prelude.{◌≡◌, ◌+◌, ◌⊎◌, ℕ, ℤ, pos, negsuc, ◌≤ℤ◌, not, nat_eq, if◌then◌else◌, List, [], ◌∷◌, length, map, take, drop, get_or, ⊤, Option, None, Some, count_by, codes}
use Rattle.std.specs.List.{AllByRecursion}
use Rattle.arrow_bits.specs.Bitmap.{bits_of}
use Rattle.arrow_types.specs.DataType.{TypeId}
use Rattle.arrow_types.specs.Field.{FieldHeader, FieldTree, none, more}
use Rattle.arrow_types.specs.declared.field.Encoding.{Encoding}
use Rattle.arrow_types.specs.declared.node.FieldNode.{FieldNode}
use Rattle.arrow_types.specs.declared.node.Buffer.{Buffer}
use Rattle.arrow_data.specs.Column.{Column, ValueList}
use Rattle.arrow_layout.specs.Form.{node_form}
use Rattle.arrow_layout.specs.declared.form.Form.{Form}
use Rattle.arrow_layout.specs.declared.form.Form.TheVariants as forms
use Rattle.arrow_layout.specs.Layout.{IsLaid, IsText, IsIndexed, buffer}
use Rattle.arrow_data.specs.Listed.{IsNodeFit, dictionary_for}
use Rattle.arrow_data.specs.Parts.{node_column, values_in}
use Rattle.arrow_body_reader.specs.declared.body.BodyFault.{BodyFault}
use Rattle.arrow_body_reader.specs.declared.body.BodyFault.TheVariants.{Layout, Text, Index, Memory}
use Rattle.arrow_body_reader.specs.Held.{IsHeld, bytes_in, count_of}
use Rattle.arrow_body_reader.specs.Taken.{AllNodes, AreThere, IfFlattened, below, flattened, own_buffers, taken_buffers, taken_nodes}

-- a field's own node is the first of the nodes from there on
abbrev pub node_at : List FieldNode → FieldNode
node_at nodes = get_or nodes 0 (record { length = pos 0; null_count = pos 0 })

-- and how many slots it has
abbrev pub slots_at : List FieldNode → ℕ
slots_at nodes = count_of (node_at nodes).length

-- how many slots each of these fields has
abbrev pub lengths_of : FieldTree → List FieldNode → List ℕ
lengths_of none nodes = []
lengths_of (more head children rest) nodes = slots_at nodes ∷ lengths_of rest (drop (1 + flattened head.encoding (taken_nodes children)) nodes)

-- the bytes of the field's own buffers, which are the first of the buffers from there on
abbrev pub own_bytes : List ℕ → FieldHeader → List Buffer → List (List ℕ)
own_bytes body head buffers = map (bytes_in body) (take (own_buffers head) buffers)

-- how many of the first `len` slots are null: none if there is no bitmap
abbrev pub nulls_of : ℕ → List ℕ → ℕ
nulls_of len validity = if nat_eq (length validity) 0 then 0 else count_by not (bits_of len validity)

-- the number of nulls is that of the bitmap, or is not given
abbrev pub IsCount : FieldNode → List ℕ → Type 0
IsCount node validity = (node.null_count ≡ negsuc 0) ⊎ (node.null_count ≡ pos (nulls_of (count_of node.length) validity))

-- the same for a node of the form: if it has no buffers, any number is accepted
abbrev pub IsCountOf : Form → FieldNode → List ℕ → Type 0
IsCountOf forms.Nulls node validity = ⊤
IsCountOf forms.Bits node validity = IsCount node validity
IsCountOf (forms.Numbers number) node validity = IsCount node validity
IsCountOf (forms.Bytes width) node validity = IsCount node validity
IsCountOf (forms.Texts width) node validity = IsCount node validity
IsCountOf (forms.FixedBytes width) node validity = IsCount node validity
IsCountOf (forms.Lists list) node validity = IsCount node validity
IsCountOf forms.Structs node validity = IsCount node validity

-- the number of nulls of a node of this type and encoding is correct
abbrev pub IsCounted : TypeId → Option Encoding → FieldNode → List ℕ → Type 0
IsCounted tag e node validity = IsCountOf (node_form tag e) node validity

-- the field's own node and buffers lie in the body as its type requires
pub record IsNodeLaid (body : List ℕ) (head : FieldHeader) (children : FieldTree) (nodes : List FieldNode) (buffers : List Buffer) : Type 0 where
  pub sign : pos 0 ≤ℤ (node_at nodes).length
  pub few : (node_at nodes).length ≤ℤ pos 2147483647
  pub held : AllByRecursion (IsHeld body) (take (own_buffers head) buffers)
  pub laid : IsLaid head.tag head.encoding (slots_at nodes) (own_bytes body head buffers) (lengths_of (below head.encoding children) (drop 1 nodes))
  pub nulls : IsCounted head.tag head.encoding (node_at nodes) (buffer (own_bytes body head buffers) 0)

-- all nodes and buffers that the fields take do
abbrev pub AreLaid : List ℕ → FieldTree → List FieldNode → List Buffer → Type 0
AreLaid body fields nodes buffers = AllNodes (IsNodeLaid body) fields nodes buffers

-- the columns below a field, none below a dictionary-encoded one
abbrev pub if_flattened : Option Encoding → List Column → List Column
if_flattened None columns = columns
if_flattened (Some e) columns = []

-- the valid slots of the field's own node, if it is one of texts, are UTF-8
abbrev pub IsNodeText : List ℕ → FieldHeader → FieldTree → List FieldNode → List Buffer → Type 0
IsNodeText body head children nodes buffers = IsText head.tag head.encoding (slots_at nodes) (own_bytes body head buffers)

-- all texts of the fields, on every level, are UTF-8
abbrev pub AreText : List ℕ → FieldTree → List FieldNode → List Buffer → Type 0
AreText body fields nodes buffers = AllNodes (IsNodeText body) fields nodes buffers

-- the valid slots of the field's own node, if it is dictionary-encoded, have their values; without a dictionary there
-- are none
abbrev pub IsNodeIndexed : List ℕ → List (ℤ × ValueList) → FieldHeader → FieldTree → List FieldNode → List Buffer → Type 0
IsNodeIndexed body ds head children nodes buffers =
    IsIndexed head.encoding (slots_at nodes) (own_bytes body head buffers) (values_in (dictionary_for ds head.encoding))

-- all indices of the fields, on every level, have their values
abbrev pub AreIndexed : List ℕ → List (ℤ × ValueList) → FieldTree → List FieldNode → List Buffer → Type 0
AreIndexed body ds fields nodes buffers = AllNodes (IsNodeIndexed body ds) fields nodes buffers

-- The nodes and buffers that the fields take are there, lie in the body as they should, and their texts and indices
-- are valid.
pub record IsSound (body : List ℕ) (ds : List (ℤ × ValueList)) (fields : FieldTree) (nodes : List FieldNode) (buffers : List Buffer) : Type 0 where
  pub there : AreThere fields nodes buffers
  pub laid : AreLaid body fields nodes buffers
  pub text : AreText body fields nodes buffers
  pub indexed : AreIndexed body ds fields nodes buffers

-- the dictionary of each dictionary-encoded field, on every level, has the type of its values, and no encoding below it
abbrev pub AreFit : List (ℤ × ValueList) → FieldTree → Type 0
AreFit ds none = ⊤
AreFit ds (more head children rest) = IsNodeFit ds head children × IfFlattened head.encoding (AreFit ds children) × AreFit ds rest

-- The columns of the fields: each is made of its own node and buffers, the columns below it, and its dictionary.
abbrev pub columns_of : List ℕ → List (ℤ × ValueList) → FieldTree → List FieldNode → List Buffer → List Column
columns_of body ds none nodes buffers = []
columns_of body ds (more head children rest) nodes buffers =
    node_column (record { tag = head.tag; children = children }) head.encoding (slots_at nodes) (own_bytes body head buffers)
    (if_flattened head.encoding (columns_of body ds children (drop 1 nodes) (drop (own_buffers head) buffers)))
    (values_in (dictionary_for ds head.encoding))
    ∷ columns_of body ds rest (drop (1 + flattened head.encoding (taken_nodes children)) nodes) (drop (own_buffers head + flattened head.encoding (taken_buffers children)) buffers)

-- the fault is the first that applies; `Memory` is returned only if no other fault applies
abbrev pub Explains : BodyFault → List ℕ → List (ℤ × ValueList) → FieldTree → List FieldNode → List Buffer → Type 0
Explains Layout body ds fields nodes buffers = AreThere fields nodes buffers × AreLaid body fields nodes buffers → ⊥
Explains Text body ds fields nodes buffers = AreThere fields nodes buffers × AreLaid body fields nodes buffers × (AreText body fields nodes buffers → ⊥)
Explains Index body ds fields nodes buffers =
    AreThere fields nodes buffers × AreLaid body fields nodes buffers × AreText body fields nodes buffers × (AreIndexed body ds fields nodes buffers → ⊥)
Explains Memory body ds fields nodes buffers = IsSound body ds fields nodes buffers

-- The fault is the first that applies. Nothing is allocated.
abbrev pub IsExplained : BodyFault → List ℕ → List (ℤ × ValueList) → FieldTree → List FieldNode → List Buffer → Type 0
IsExplained fault body ds fields nodes buffers = (fault ≡ Memory → ⊥) × Explains fault body ds fields nodes buffers

-- the number of a fault
abbrev pub number_of : BodyFault → ℕ
number_of Layout = 1
number_of Text = 2
number_of Index = 3
number_of Memory = 4

-- the words of a fault
abbrev pub words_of : BodyFault → List ℕ
words_of Layout = codes "nodes and buffers that do not fit the body"
words_of Text = codes "a text that is not UTF-8"
words_of Index = codes "an index without a value"
words_of Memory = codes "out of memory"
