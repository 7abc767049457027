-- The text of a schema: one line per field, in pre-order (Columnar Format, "Schema message", has the fields in this
-- order; the text is this project's own).
use Rattle.std.specs.Prelude.{ℕ, ◌+◌, suc, zero, if◌then◌else◌, List, [], ◌∷◌, ◌++◌, codes}
use Rattle.arrow_types.specs.Field.{FieldHeader, FieldTree, none, more}
use Rattle.arrow_types.specs.Notes.{SchemaShape}
use Rattle.arrowflow_text.specs.Escapes.{escaped}
use Rattle.arrowflow_text.specs.TypeNames.{column_type}

-- two spaces for each level
abbrev pub indentation : ℕ → List ℕ
indentation zero = []
indentation (suc level) = indentation level ++ codes "  "

-- a field's line, with its line feed: name, colon, type, and whether slots may not be null
abbrev pub field_line : ℕ → FieldHeader → List ℕ
field_line level head =
    indentation level ++ escaped head.name ++ codes ": " ++ column_type head.tag head.encoding
    ++ (if head.nullable then [] else codes " not null") ++ 10 ∷ []

-- fields of a level: each one's line, then the lines of its children one level deeper, then the fields after it
abbrev pub fields_text : ℕ → FieldTree → List ℕ
fields_text level none = []
fields_text level (more head children rest) =
    field_line level head ++ fields_text (level + 1) children ++ fields_text level rest

-- a schema: its columns are not indented
abbrev pub schema_lines : SchemaShape → List ℕ
schema_lines shape = fields_text 0 shape.fields
