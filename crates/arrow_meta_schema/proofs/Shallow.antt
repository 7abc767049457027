-- The fields that a tree describes are no deeper and no more than its Field tables, and its pairs no more than its
-- KeyValue tables.
use Rattle.std.proofs.Common.{ℕ, zero, suc, ◌+◌, ◌≤◌, max, length, length-append, arith}
use Rattle.arrow_types.specs.Field as columns
use Rattle.arrow_types.specs.Field.{FieldTree, count}
use Rattle.arrow_types.specs.Notes.{Notes, noted_count, pair_count}
use Rattle.arrow_meta_tree.specs.declared.kinds.TableKind.TheVariants as kinds
use Rattle.arrow_meta_tree.specs.Parts.{nth, parts}
use Rattle.arrow_meta_schema.specs.SchemaMeaning.{fields_in, fields_from, with_field, fields_at, schema_fields, pair_in, metadata_from, metadata_in, notes_in, notes_from, with_notes, notes_at, schema_in}
use Rattle.arrow_meta_tree.specs.Trees.{Tree, leaf, table, tables, Trees, none, more}
use Rattle.arrow_meta_tree.specs.Within.{levels, levels_all, visits, visits_all, entries, entries_all}

mutual
  levels_in : (x : Tree) → columns.levels (fields_in x) ≤ levels x
  levels_in (leaf x) = omega arith
  levels_in (table kind xs) = omega arith
  levels_in (tables xs) = levels_from xs

  levels_from : (xs : Trees) → columns.levels (fields_from xs) ≤ levels_all xs
  levels_from none = omega arith
  levels_from (more x xs) = omega (arith, levels_with x (fields_from xs), levels_from xs)

  levels_with : (x : Tree) (rest : FieldTree) → columns.levels (with_field x rest) ≤ max (levels x) (columns.levels rest)
  levels_with (leaf x) rest = omega arith
  levels_with (table (kinds.Field types) xs) rest = omega (arith, levels_at 5 xs)
  levels_with (table kind xs) rest = omega arith
  levels_with (tables xs) rest = omega arith

  levels_at : (i : ℕ) (xs : Trees) → columns.levels (fields_at i xs) ≤ levels_all xs
  levels_at i none = omega arith
  levels_at zero (more x xs) = omega (arith, levels_in x)
  levels_at (suc i) (more x xs) = omega (arith, levels_at i xs)

mutual
  count_in : (x : Tree) → count (fields_in x) ≤ visits x
  count_in (leaf x) = omega arith
  count_in (table kind xs) = omega arith
  count_in (tables xs) = count_from xs

  count_from : (xs : Trees) → count (fields_from xs) ≤ visits_all xs
  count_from none = omega arith
  count_from (more x xs) = omega (arith, count_with x (fields_from xs), count_from xs)

  count_with : (x : Tree) (rest : FieldTree) → count (with_field x rest) ≤ visits x + count rest
  count_with (leaf x) rest = omega arith
  count_with (table (kinds.Field types) xs) rest = omega (arith, count_at 5 xs)
  count_with (table kind xs) rest = omega arith
  count_with (tables xs) rest = omega arith

  count_at : (i : ℕ) (xs : Trees) → count (fields_at i xs) ≤ visits_all xs
  count_at i none = omega arith
  count_at zero (more x xs) = omega (arith, count_in x)
  count_at (suc i) (more x xs) = omega (arith, count_at i xs)

levels_nth : (i : ℕ) (xs : Trees) → levels (nth i xs) ≤ levels_all xs
levels_nth i none = omega arith
levels_nth zero (more x xs) = omega arith
levels_nth (suc i) (more x xs) = omega (arith, levels_nth i xs)

levels_parts : (x : Tree) → levels_all (parts x) ≤ levels x
levels_parts (leaf x) = omega arith
levels_parts (table kind xs) = omega arith
levels_parts (tables xs) = omega arith

visits_nth : (i : ℕ) (xs : Trees) → visits (nth i xs) ≤ visits_all xs
visits_nth i none = omega arith
visits_nth zero (more x xs) = omega arith
visits_nth (suc i) (more x xs) = omega (arith, visits_nth i xs)

visits_parts : (x : Tree) → visits_all (parts x) ≤ visits x
visits_parts (leaf x) = omega arith
visits_parts (table kind xs) = omega arith
visits_parts (tables xs) = omega arith

-- the fields of the Schema table in field i of a message's table
pub schema_levels : (x : Tree) (i : ℕ) → columns.levels (schema_fields (parts (nth i (parts x)))) ≤ levels x
schema_levels x i =
    let header = nth i (parts x) in
    omega (arith, levels_in (nth 1 (parts header)), levels_nth 1 (parts header), levels_parts header, levels_nth i (parts x), levels_parts x)

-- They are no more than the Field tables of the message.
pub schema_count : (x : Tree) (i : ℕ) → count (schema_fields (parts (nth i (parts x)))) ≤ visits x
schema_count x i =
    let header = nth i (parts x) in
    omega (arith, count_in (nth 1 (parts header)), visits_nth 1 (parts header), visits_parts header, visits_nth i (parts x), visits_parts x)

-- the pairs of a tree, one or none, are no more than its KeyValue tables
one_pair : (x : Tree) → length (pair_in x) ≤ entries x
one_pair (leaf x) = omega arith
one_pair (table kinds.KeyValue xs) = omega arith
one_pair (table kind xs) = omega arith
one_pair (tables xs) = omega arith

pairs_from : (xs : Trees) → length (metadata_from xs) ≤ entries_all xs
pairs_from none = omega arith
pairs_from (more x xs) = omega (arith, length-append (pair_in x) (metadata_from xs), one_pair x, pairs_from xs)

pairs_in : (x : Tree) → length (metadata_in x) ≤ entries x
pairs_in (leaf x) = omega arith
pairs_in (table kind xs) = omega arith
pairs_in (tables xs) = pairs_from xs

entries_nth : (i : ℕ) (xs : Trees) → entries (nth i xs) ≤ entries_all xs
entries_nth i none = omega arith
entries_nth zero (more x xs) = omega arith
entries_nth (suc i) (more x xs) = omega (arith, entries_nth i xs)

entries_two : (xs : Trees) → entries (nth 1 xs) + entries (nth 2 xs) ≤ entries_all xs
entries_two none = omega arith
entries_two (more x none) = omega arith
entries_two (more x (more y ys)) = omega (arith, entries_nth 0 ys)

entries_parts : (x : Tree) → entries_all (parts x) ≤ entries x
entries_parts (leaf x) = omega arith
entries_parts (table kind xs) = omega arith
entries_parts (tables xs) = omega arith

mutual
  noted_in : (x : Tree) → noted_count (notes_in x) ≤ entries x
  noted_in (leaf x) = omega arith
  noted_in (table kind xs) = omega arith
  noted_in (tables xs) = noted_from xs

  noted_from : (xs : Trees) → noted_count (notes_from xs) ≤ entries_all xs
  noted_from none = omega arith
  noted_from (more x xs) = omega (arith, noted_with x (notes_from xs), noted_from xs)

  noted_with : (x : Tree) (rest : Notes) → noted_count (with_notes x rest) ≤ entries x + noted_count rest
  noted_with (leaf x) rest = omega arith
  noted_with (table (kinds.Field types) xs) rest = omega (arith, noted_both 5 xs, pairs_in (nth 6 xs))
  noted_with (table kind xs) rest = omega arith
  noted_with (tables xs) rest = omega arith

  -- the custom metadata of the fields of the vector in field i, and the KeyValue tables in the next field
  noted_both : (i : ℕ) (xs : Trees) → noted_count (notes_at i xs) + entries (nth (suc i) xs) ≤ entries_all xs
  noted_both i none = omega arith
  noted_both zero (more x xs) = omega (arith, noted_in x, entries_nth 0 xs)
  noted_both (suc i) (more x xs) = omega (arith, noted_both i xs)

-- the pairs of the Schema table in field i of a message's table
pub schema_pair_count : (x : Tree) (i : ℕ) → pair_count (schema_in (parts (nth i (parts x)))) ≤ entries x
schema_pair_count x i =
    let header = nth i (parts x) in
    omega (arith, noted_in (nth 1 (parts header)), pairs_in (nth 2 (parts header)), entries_two (parts header), entries_parts header, entries_nth i (parts x), entries_parts x)
