-- The text of a value. (This project's own: the standard gives none.)
use Rattle.std.specs.Prelude.{◌≡◌, ℕ, true, false, List, [], ◌∷◌, ◌++◌, codes, ⊤}
use Rattle.csv.specs.Writing.{default_writer, field_text, needs_quotes}
use Rattle.arrow_csv.specs.Floats.{IsNumberText}
use Rattle.arrow_csv.specs.Intervals.{bytes_text}
use Rattle.arrow_types.specs.Field.{FieldTree, none, more, TypeShape}
use Rattle.arrow_layout.specs.PlainValue.{PlainValue, PlainValues, null_value, bool_value, int_value, binary_value, utf8_value, list_value, struct_value, no_values, more_values, values_of}

-- texts after the first, each after a semicolon
abbrev pub after : List (List ℕ) → List ℕ
after [] = []
after (text ∷ texts) = codes ";" ++ text ++ after texts

-- texts with semicolons between them
abbrev pub joined : List (List ℕ) → List ℕ
joined [] = []
joined (text ∷ texts) = text ++ after texts

-- the relation holds of the first elements of two lists, of the second ones, and so on, and they have the same length
abbrev pub Each : {A B : Type 0} → (A → B → Type 0) → List A → List B → Type 0
Each R [] [] = ⊤
Each R [] (y ∷ ys) = ⊥
Each R (x ∷ xs) [] = ⊥
Each R (x ∷ xs) (y ∷ ys) = R x y × Each R xs ys

abbrev mutual
  -- A text of a value of this type. A null shows as the given text; inside lists and structs it is `null`. Numbers
  -- are decimal; a floating-point number has every text that parses as it. Bytes are hexadecimal digits, those of an
  -- interval its numbers with their units, a text is itself.
  pub IsText : List ℕ → TypeShape → PlainValue → List ℕ → Type 0
  IsText null type null_value text = text ≡ null
  IsText null type (bool_value true) text = text ≡ codes "true"
  IsText null type (bool_value false) text = text ≡ codes "false"
  IsText null type (int_value z) text = IsNumberText type.tag z text
  IsText null type (binary_value bytes) text = text ≡ bytes_text type.tag bytes
  IsText null type (utf8_value bytes) text = text ≡ bytes
  IsText null type (list_value items) text = (texts : List (List ℕ)) × AreItemTexts type.children items texts × (text ≡ codes "[" ++ joined texts ++ codes "]")
  IsText null type (struct_value parts) text = (texts : List (List ℕ)) × ArePartTexts type.children parts texts × (text ≡ codes "{" ++ joined texts ++ codes "}")

  -- texts of the items of a list, by its one child field
  pub AreItemTexts : FieldTree → PlainValues → List (List ℕ) → Type 0
  AreItemTexts none items texts = texts ≡ []
  AreItemTexts (more head children rest) no_values texts = texts ≡ []
  AreItemTexts (more head children rest) (more_values item items) [] = ⊥
  AreItemTexts (more head children rest) (more_values item items) (text ∷ texts) =
      IsText (codes "null") (record { tag = head.tag; children = children }) item text × AreItemTexts (more head children rest) items texts

  -- texts of the values of a struct, each after the name of its field
  pub ArePartTexts : FieldTree → PlainValues → List (List ℕ) → Type 0
  ArePartTexts none parts texts = texts ≡ []
  ArePartTexts (more head children rest) no_values texts = texts ≡ []
  ArePartTexts (more head children rest) (more_values part parts) [] = ⊥
  ArePartTexts (more head children rest) (more_values part parts) (text ∷ texts) =
      ((own : List ℕ) × IsText (codes "null") (record { tag = head.tag; children = children }) part own × (text ≡ head.name ++ codes "=" ++ own))
      × ArePartTexts rest parts texts

-- a text of an item of a list whose items have this type
abbrev pub IsItemText : TypeShape → PlainValue → List ℕ → Type 0
IsItemText type item text = IsText (codes "null") type item text

-- a text of a list of these values
abbrev pub IsListOf : TypeShape → List PlainValue → List ℕ → Type 0
IsListOf type values text = (texts : List (List ℕ)) × Each (IsItemText type) values texts × (text ≡ codes "[" ++ joined texts ++ codes "]")

-- a text of a struct of these values
abbrev pub IsStructOf : FieldTree → List PlainValue → List ℕ → Type 0
IsStructOf fields values text = (texts : List (List ℕ)) × ArePartTexts fields (values_of values) texts × (text ≡ codes "{" ++ joined texts ++ codes "}")

-- a field of a record: a text of the value, between quotes if it needs them; a null shows as the given text
abbrev pub IsFieldOf : List ℕ → TypeShape → PlainValue → List ℕ → Type 0
IsFieldOf null type value field = (text : List ℕ) × IsText null type value text × (field ≡ field_text default_writer text)

-- the same whatever text a null has: so the value is not a null
abbrev pub IsSomeField : TypeShape → PlainValue → List ℕ → Type 0
IsSomeField type value field = (null : List ℕ) → IsFieldOf null type value field

-- a text that needs no quotes
abbrev pub IsPlain : (List ℕ → Type 0) → List ℕ → Type 0
IsPlain P text = P text × (needs_quotes default_writer text ≡ false)

-- a text with this property was appended
abbrev pub Appends : (List ℕ → Type 0) → List ℕ → List ℕ → Type 0
Appends P old new = (text : List ℕ) × P text × (new ≡ old ++ text)
