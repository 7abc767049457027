-- A misfit below is a misfit, and the children are smaller than the tree that holds them.
use Rattle.std.proofs.Common.{◌≡◌, ℕ, zero, suc, Bool, true, not, sym, true≢false, List, Option, ◌≤◌, arith}
use Rattle.arrow_types.specs.Field.{field_by, width, TypeShape}
use Rattle.arrow_types.specs.declared.field.Encoding.{Encoding}
use Rattle.arrow_types.specs.declared.type_set.TypeSet.TheVariants.{All}
use Rattle.arrow_meta_tree.specs.declared.kinds.TableKind.{TableKind}
use Rattle.arrow_meta_tree.specs.declared.kinds.TableKind.TheVariants as kinds
use Rattle.arrow_meta_schema.specs.declared.field_fault.FieldFault.{FieldFault}
use Rattle.arrow_meta_schema.specs.declared.field_fault.FieldFault.TheVariants.{Misfit, Memory}
use Rattle.arrow_meta_schema.specs.Builds.{Refuses, size, size_all}
use Rattle.std.proofs.lemmas.Bool.{or_left, or_right}
use Rattle.arrow_meta_tree.specs.Types.{type_code}
use Rattle.arrow_meta_schema.specs.Conditions.{any, any_in, is_misfit, children_fit, entries_fit}
use Rattle.arrow_meta_tree.specs.Parts.{nth, number_at}
use Rattle.arrow_meta_schema.specs.SchemaMeaning.{fields_at, fields_in}
use Rattle.arrow_meta_tree.specs.Trees.{table, Trees, none, more}

-- a test that is passed in field `i` is passed in the row
pub any_nth : (test : TableKind → Trees → Bool) (i : ℕ) (xs : Trees) → any test (nth i xs) ≡ true → any_in test xs ≡ true
any_nth test i none h = absurd (true≢false (sym h))
any_nth test zero (more x xs) h = or_left (any test x) (any_in test xs) h
any_nth test (suc i) (more x xs) h = or_right (any test x) (any_in test xs) (any_nth test i xs h)

-- a fault that is justified by a condition is justified by every weaker one
pub refuses_more : (e : FieldFault) (a b : Bool) → (a ≡ true → b ≡ true) → Refuses e a → Refuses e b
refuses_more Misfit a b f h = f h
refuses_more Memory a b f h = tt

-- A Field table with another number of children than its type has is a misfit.
pub misfit_here : (xs : Trees) → not (children_fit (type_code (number_at 2 0 xs)) (width (fields_in (nth 5 xs)))) ≡ true → any is_misfit (table (kinds.Field All) xs) ≡ true
misfit_here xs h =
    let code = type_code (number_at 2 0 xs) in
    or_left (is_misfit (kinds.Field All) xs) (any_in is_misfit xs)
    (or_left (not (children_fit code (width (fields_in (nth 5 xs))))) (not (entries_fit code (fields_at 5 xs))) h)

-- A Field table is a misfit if a table in one of its fields is.
pub misfit_below : (xs : Trees) (i : ℕ) → any is_misfit (nth i xs) ≡ true → any is_misfit (table (kinds.Field All) xs) ≡ true
misfit_below xs i h = or_right (is_misfit (kinds.Field All) xs) (any_in is_misfit xs) (any_nth is_misfit i xs h)

-- The tree in a field has no more nodes than the row.
pub size_nth : (i : ℕ) (xs : Trees) → size (nth i xs) ≤ size_all xs
size_nth i none = omega arith
size_nth zero (more x xs) = omega arith
size_nth (suc i) (more x xs) = omega (arith, size_nth i xs)

-- Every row has a node.
pub size_positive : (xs : Trees) → 1 ≤ size_all xs
size_positive none = omega arith
size_positive (more x xs) = omega arith

-- Fields of equal parts are equal.
pub joined_same : (n n' : List ℕ) (b b' : Bool) (e e' : Option Encoding) (k k' : TypeShape) → n ≡ n' → b ≡ b' → e ≡ e' → k ≡ k' → field_by n b e k ≡ field_by n' b' e' k'
joined_same n n' b b' e e' k k' p q r s = cc
