-- The length of a body that a writer sends.
use Rattle.std.specs.Prelude.{ℕ, ◌+◌, ◌*◌, nat_eq, if◌then◌else◌, List, [], ◌∷◌, ◌++◌, length}
use Rattle.std.specs.List.{sum_by}
use Rattle.std.specs.Int.{div_ceil}
use Rattle.arrow_types.specs.Field.{FieldTree, none, more}
use Rattle.arrow_layout.specs.Form.{node_form, number_width, offset_bytes}
use Rattle.arrow_layout.specs.PlainValue.{PlainValue}
use Rattle.arrow_layout.specs.declared.form.Form.{Form}
use Rattle.arrow_layout.specs.declared.form.Form.TheVariants as forms
use Rattle.arrow_layout.specs.declared.form.ListForm.{ListForm}
use Rattle.arrow_layout.specs.declared.form.ListForm.TheVariants as lists
use Rattle.arrow_body_laws.specs.Raws.{last_offset, raws_below}
use Rattle.arrow_body_laws.specs.Stored.{nulls_in, rounded}

-- the number of bytes of a bitmap: none if no slot is null
abbrev pub validity_size : List PlainValue → ℕ
validity_size vs = if nat_eq (nulls_in vs) 0 then 0 else div_ceil (length vs) 8

-- the number of bytes of the offsets of this many lists, if they are stored
abbrev pub list_sizes : ListForm → ℕ → List ℕ
list_sizes (lists.Offsets width) len = offset_bytes width * (len + 1) ∷ []
list_sizes (lists.Fixed size) len = []

-- the number of bytes of each buffer of a node of the form
abbrev pub own_sizes : Form → List PlainValue → List ℕ
own_sizes forms.Nulls vs = []
own_sizes forms.Bits vs = validity_size vs ∷ div_ceil (length vs) 8 ∷ []
own_sizes (forms.Numbers number) vs = validity_size vs ∷ number_width number * length vs ∷ []
own_sizes (forms.Bytes w) vs = validity_size vs ∷ offset_bytes w * (length vs + 1) ∷ last_offset (forms.Bytes w) vs ∷ []
own_sizes (forms.Texts w) vs = validity_size vs ∷ offset_bytes w * (length vs + 1) ∷ last_offset (forms.Texts w) vs ∷ []
own_sizes (forms.FixedBytes width) vs = validity_size vs ∷ width * length vs ∷ []
own_sizes (forms.Lists list) vs = validity_size vs ∷ list_sizes list (length vs)
own_sizes forms.Structs vs = validity_size vs ∷ []

-- the number of bytes of each buffer of the fields
abbrev pub sizes_of : FieldTree → List (List PlainValue) → List ℕ
sizes_of none raws = []
sizes_of (more head children rest) [] = []
sizes_of (more head children rest) (vs ∷ raws) =
    own_sizes (node_form head.tag head.encoding) vs
    ++ (sizes_of children (raws_below (node_form head.tag head.encoding) children vs) ++ sizes_of rest raws)

-- the number of bytes of the body: each buffer rounded up to the alignment
abbrev pub size_of : ℕ → FieldTree → List (List PlainValue) → ℕ
size_of align fields raws = sum_by (rounded align) (sizes_of fields raws)
