-- The first Field table of some tables, and the size of the trees below it.
use Rattle.std.proofs.Common.{◌≡◌, ℕ, zero, suc, ◌+◌, ◌-◌, ◌<◌, ◌≤◌, List, [], ◌∷◌, length, take, drop, get_or, sym, ap, ◌∙◌, arith}
use Rattle.std.proofs.lemmas.List.{length-drop, take_all}
use Rattle.arrow_types.specs.declared.type_set.TypeSet.{TypeSet}
use Rattle.arrow_meta_tree.specs.declared.kinds.TableKind.TheVariants as kinds
use Rattle.arrow_meta_tree.specs.declared.message_tree.Tree.{Tree as Built}
use Rattle.arrow_meta_schema.specs.Builds.{size, size_all}
use Rattle.arrow_meta_tree.specs.Parts.{nth}
use Rattle.arrow_meta_schema.specs.SchemaMeaning.{fields_at, fields_from, fields_in}
use Rattle.arrow_meta_tree.specs.Trees.{Tree, Trees, table, more}
use Rattle.arrow_meta_tree.specs.Views.{plain, plain_all}
use Rattle.arrow_meta_schema.proofs.Misfits.{size_nth}
use Rattle.arrow_meta_schema.proofs.TableFields.{fields_at_nth}

-- the trees from index `i` on are tree `i` and those after it
drop_at : (ts : List Built) (i : ℕ) (t : Built) → i < length ts → t ≡ get_or ts i t → plain_all (drop i ts) ≡ more (plain t) (plain_all (drop (i + 1) ts))
drop_at [] i t h at = absurd (omega (arith, h))
drop_at (x ∷ ts) zero t h at = ap (λ y. more (plain y) (plain_all ts)) (sym at)
drop_at (x ∷ ts) (suc i) t h at =
    let next : suc (i + 1) ≡ suc i + 1 = omega arith in
    drop_at ts i t (omega (arith, h)) at ∙ ap (λ n. more (plain t) (plain_all (drop n (x ∷ ts)))) next

-- The trees from an index on have no more nodes than all of them.
size_from : (ts : List Built) (i : ℕ) → size_all (plain_all (drop i ts)) ≤ size_all (plain_all ts)
size_from ts zero = omega arith
size_from [] (suc i) = omega arith
size_from (t ∷ ts) (suc i) = omega (arith, size_from ts i)

-- The fields of a table and the trees after it have fewer nodes than all the trees.
pub smaller_at : (ts : List Built) (i : ℕ) (t : Built) (types : TypeSet) (xs : Trees) → i < length ts → t ≡ get_or ts i t → plain t ≡ table (kinds.Field types) xs
    → size_all xs + size_all (plain_all (take (length ts - (i + 1)) (drop (i + 1) ts))) + 1 < size_all (plain_all ts)
smaller_at ts i t types xs h at is =
    let rest : take (length ts - (i + 1)) (drop (i + 1) ts) ≡ drop (i + 1) ts = take_all (length ts - (i + 1)) (drop (i + 1) ts) (omega (arith, length-drop (i + 1) ts)) in
    omega (arith, size_from ts i, ap size_all (drop_at ts i t h at), ap size is, ap (λ us. size_all (plain_all us)) rest)

-- the fields of the children of a table
pub children_fields : (i : ℕ) (xs : Trees) (x : Tree) (below : Trees) → nth i xs ≡ x → fields_from below ≡ fields_in x → fields_from below ≡ fields_at i xs
children_fields i xs x below at same = same ∙ ap fields_in (sym at) ∙ sym (fields_at_nth i xs)

-- the trees in a field of a table have no more nodes than the fields of the table
pub children_size : (i : ℕ) (xs : Trees) (x : Tree) (below : Trees) → nth i xs ≡ x → size_all below ≤ size x → size_all below ≤ size_all xs
children_size i xs x below at fewer = omega (arith, fewer, size_nth i xs, ap size at)
