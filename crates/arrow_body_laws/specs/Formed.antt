-- Types with the fields below them that they need (Columnar Format, "Physical Memory Layout").
use Rattle.std.specs.Prelude.{⊤}
use Rattle.arrow_types.specs.Field.{FieldTree, none, more}
use Rattle.arrow_layout.specs.Form.{HasFieldsOf, form_of}
use Rattle.arrow_body_reader.specs.Taken.{IfFlattened}

-- each of the fields has the children that its type needs, on every level that is stored
abbrev pub AreFormed : FieldTree → Type 0
AreFormed none = ⊤
AreFormed (more head children rest) = IfFlattened head.encoding (HasFieldsOf (form_of head.tag) children × AreFormed children) × AreFormed rest
