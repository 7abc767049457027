-- Columns chosen by their names. (This project's own.)
use Rattle.std.specs.Prelude.{◌≡◌, ◌≤◌, ℕ, length, suc, zero, List, [], ◌∷◌, ◌++◌, map, take, drop, Option, None, Some, option_map, if◌then◌else◌, ⊤}
use Rattle.std.specs.Borrow.{Bor}
use Rattle.std.specs.List.{AllByRecursion}
use Rattle.std.specs.Str.{bytes_eq}
use Rattle.arrow_types.specs.Field.{FieldTree, none, more}
use Rattle.arrow_types.specs.Notes.{SchemaShape, unnoted}
use Rattle.arrow_data.specs.Batch.{Table}
use Rattle.arrow_data.specs.Column.{Column}

-- a choice of columns: those of these names, in this order, or all
abbrev pub Choice : Type 0
Choice = Option (List (List ℕ))

-- the choice of the names given in the program, if any
abbrev pub choice_by : Option (Bor (List (Bor (List ℕ)))) → Choice
choice_by None = None
choice_by (Some names) = Some (map (λ name. name.now) names.now)

-- the index of the first field of a name
abbrev pub place_named : List ℕ → FieldTree → Option ℕ
place_named name none = None
place_named name (more head children rest) = if bytes_eq head.name name then Some 0 else option_map suc (place_named name rest)

-- the index of the first of some names that no field has, by the index of the first name's field and the result for
-- the remaining names
abbrev pub lacking_by : Option ℕ → Option ℕ → Option ℕ
lacking_by None rest = Some 0
lacking_by (Some place) rest = option_map suc rest

-- the index of the first of these names that no field has
abbrev pub lacking : List (List ℕ) → FieldTree → Option ℕ
lacking [] fields = None
lacking (name ∷ names) fields = lacking_by (place_named name fields) (lacking names fields)

-- the field at an index, if there is one, before others
abbrev pub field_before : ℕ → FieldTree → FieldTree → FieldTree
field_before place none others = others
field_before zero (more head children rest) others = more head children others
field_before (suc place) (more head children rest) others = field_before place rest others

abbrev pub with_field : Option ℕ → FieldTree → FieldTree → FieldTree
with_field None fields others = others
with_field (Some place) fields others = field_before place fields others

-- the first field of each name; none of a name that no field has
abbrev pub fields_named : List (List ℕ) → FieldTree → FieldTree
fields_named [] fields = none
fields_named (name ∷ names) fields = with_field (place_named name fields) fields (fields_named names fields)

-- the column at an index, if there is one
abbrev pub column_at : Option ℕ → List Column → List Column
column_at None columns = []
column_at (Some place) columns = take 1 (drop place columns)

-- the columns of these fields
abbrev pub columns_named : List (List ℕ) → FieldTree → List Column → List Column
columns_named [] fields columns = []
columns_named (name ∷ names) fields columns = column_at (place_named name fields) columns ++ columns_named names fields columns

-- each column has this many slots
abbrev pub HaveSlots : ℕ → List Column → Type 0
HaveSlots count columns = AllByRecursion (λ (c : Column). count ≤ length c.raw) columns

-- a schema with only the chosen fields
abbrev pub chosen_shape : Choice → SchemaShape → SchemaShape
chosen_shape None shape = shape
chosen_shape (Some names) shape = record { fields = fields_named names shape.fields; pairs = shape.pairs; notes = unnoted }

-- a batch with only the chosen columns, and as many rows
abbrev pub chosen : Choice → Table → Table
chosen None batch = batch
chosen (Some names) batch = record {
  schema = chosen_shape (Some names) batch.schema;
  columns = columns_named names batch.schema.fields batch.columns;
  rows = batch.rows;
}

-- the same for a list of batches
abbrev pub chosen_tables : Choice → List Table → List Table
chosen_tables None batches = batches
chosen_tables (Some names) batches = map (chosen (Some names)) batches

-- and for the schema of a stream, if it has one
abbrev pub chosen_schema : Choice → Option SchemaShape → Option SchemaShape
chosen_schema None schema = schema
chosen_schema (Some names) None = None
chosen_schema (Some names) (Some shape) = Some (chosen_shape (Some names) shape)

-- the fields have all the names
abbrev pub HasChosen : Choice → SchemaShape → Type 0
HasChosen None shape = ⊤
HasChosen (Some names) shape = lacking names shape.fields ≡ None
