-- The type of a column in the text of a schema. (The text is this project's own.)
use Rattle.std.specs.Prelude.{ℕ, if◌then◌else◌, List, [], ◌++◌, Option, Some, None, codes}
use Rattle.std.specs.Fmt.{signed_decimal}
use Rattle.arrow_types.specs.DataType.{TypeId, int}
use Rattle.arrow_types.specs.declared.field.Encoding.{Encoding}
use Rattle.arrowflow_text.specs.TypeWords.{type_name, words_of}

-- the type of the indices into a dictionary
abbrev pub index_text : Encoding → List ℕ
index_text e = codes "dictionary<" ++ (words_of (int e.index.bits e.index.signed)).name ++ codes ", "

-- which dictionary, and whether the order of its values means something
abbrev pub id_text : Encoding → List ℕ
id_text e = codes "> id " ++ signed_decimal e.id ++ (if e.ordered then codes " ordered" else [])

-- a column's type: that of its values, or of its indices and the dictionary's values
abbrev pub column_type : TypeId → Option Encoding → List ℕ
column_type tag None = type_name tag
column_type tag (Some e) = index_text e ++ type_name tag ++ id_text e
