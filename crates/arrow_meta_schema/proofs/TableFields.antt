-- The fields of a table, as the program holds them.
use Rattle.std.proofs.Common.{◌≡◌, ℕ, zero, suc, ◌≤◌, List, [], ◌∷◌, length, refl, arith}
use Rattle.std.specs.Prelude.{is_some}
use Rattle.arrow_types.specs.Field as columns
use Rattle.arrow_types.specs.Notes.{unnoted}
use Rattle.arrow_types.specs.View.{fields_view, notes_view}
use Rattle.arrow_types.specs.declared.field.Field.{Field}
use Rattle.arrow_meta_tree.specs.declared.message_tree.Tree.{Tree as Built}
use Rattle.arrow_meta_tree.specs.Parts.{nth, is_table}
use Rattle.arrow_meta_schema.specs.SchemaMeaning.{fields_at, fields_in, encoding_in, notes_at, notes_in}
use Rattle.arrow_meta_tree.specs.Trees.{Tree, leaf, table, tables, Trees, none, more}
use Rattle.arrow_meta_tree.specs.Views.{plain_all}

-- the children of a Field table are the fields of its vector
pub fields_at_nth : (i : ℕ) (xs : Trees) → fields_at i xs ≡ fields_in (nth i xs)
fields_at_nth i none = refl
fields_at_nth zero (more x xs) = refl
fields_at_nth (suc i) (more x xs) = fields_at_nth i xs

-- A field has an encoding exactly if there is a table for it.
pub encoded : (x : Tree) → is_table x ≡ is_some (encoding_in x)
encoded (leaf x) = refl
encoded (table kind xs) = refl
encoded (tables xs) = refl

-- There are no fields of a schema past the last field of a table.
pub fields_past : (ts : List Built) (n : ℕ) → length ts ≤ n → fields_at n (plain_all ts) ≡ columns.none
fields_past [] n h = refl
fields_past (t ∷ ts) zero h = absurd (omega (arith, h))
fields_past (t ∷ ts) (suc n) h = fields_past ts n (omega (arith, h))

-- An empty list of fields has no fields.
pub no_fields : (fs : List Field) → length fs ≡ 0 → fields_view fs ≡ columns.none
no_fields [] h = refl
no_fields (f ∷ fs) h = absurd (omega (arith, h))

-- An empty list of fields has no custom metadata.
pub no_notes : (fs : List Field) → length fs ≡ 0 → notes_view fs ≡ unnoted
no_notes [] h = refl
no_notes (f ∷ fs) h = absurd (omega (arith, h))

-- the custom metadata of the children of a Field table are those of its vector
pub notes_at_nth : (i : ℕ) (xs : Trees) → notes_at i xs ≡ notes_in (nth i xs)
notes_at_nth i none = refl
notes_at_nth zero (more x xs) = refl
notes_at_nth (suc i) (more x xs) = notes_at_nth i xs
