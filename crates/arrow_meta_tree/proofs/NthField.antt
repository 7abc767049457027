-- A field of a table by its number, as the program holds them.
use Rattle.std.proofs.Common.{◌≡◌, ℕ, zero, suc, ◌≤◌, ◌<◌, List, [], ◌∷◌, length, refl, sym, ap, ◌∙◌, arith, slice_index_or, Option, Some, None, Bor}
use Rattle.std.specs.Prelude.{slice_get, get_or, MatchOption, IfSome}
use Rattle.std.specs.List.{HoldsAt, remove}
use Rattle.std.proofs.lemmas.Option.{slice_get_read}
use Rattle.arrow_meta_tree.specs.declared.message_tree.Tree.{Tree as Built}
use Rattle.arrow_meta_tree.specs.Parts.{nth}
use Rattle.arrow_meta_tree.specs.Trees.{leaf, absent}
use Rattle.arrow_meta_tree.specs.Views.{plain, plain_all}

nth_past : (ts : List Built) (n : ℕ) → length ts ≤ n → nth n (plain_all ts) ≡ leaf absent
nth_past [] n h = refl
nth_past (t ∷ ts) zero h = absurd (omega (arith, h))
nth_past (t ∷ ts) (suc n) h = nth_past ts n (omega (arith, h))

nth_get : (ts : List Built) (n : ℕ) (x : Built) → slice_get ts n ≡ Some x → nth n (plain_all ts) ≡ plain x
nth_get [] n x h = cc
nth_get (t ∷ ts) zero x h = cc
nth_get (t ∷ ts) (suc n) x h = nth_get ts n x h

-- the result of `get` on a table's fields
pub found_part : (ts : List Built) (n : ℕ) (r : Option (Bor Built)) → IfSome r (λ x. x.now ≡ get_or ts n x.now) → MatchOption r (length ts ≤ n) (λ x. (n < length ts) × HoldsAt (λ y. x.now ≡ y) ts n)
    → MatchOption r (nth n (plain_all ts) ≡ leaf absent) (λ x. nth n (plain_all ts) ≡ plain x.now)
found_part ts n None h g = nth_past ts n g
found_part ts n (Some a) h g = nth_get ts n a.now (slice_get_read ts (length ts) n a.now refl g.0 h)

nth_remove : (ts : List Built) (i j : ℕ) → i < j → nth i (plain_all (remove ts j)) ≡ nth i (plain_all ts)
nth_remove [] i zero h = refl
nth_remove [] i (suc j) h = refl
nth_remove (t ∷ ts) i zero h = absurd (omega (arith, h))
nth_remove (t ∷ ts) zero (suc j) h = refl
nth_remove (t ∷ ts) (suc i) (suc j) h = nth_remove ts i j (omega (arith, h))

nth_at : (ts : List Built) (n : ℕ) (x : Built) → n < length ts → x ≡ slice_index_or ts n x → plain x ≡ nth n (plain_all ts)
nth_at ts n x h e = sym (nth_get ts n x (slice_get_read ts (length ts) n x refl h e))

-- a field that was taken out of a row, and those before it
pub taken : (ts rest : List Built) (n : ℕ) (x : Built) → n < length ts → x ≡ slice_index_or ts n x → rest ≡ remove ts n
    → (plain x ≡ nth n (plain_all ts)) × ((i : ℕ) → i < n → nth i (plain_all rest) ≡ nth i (plain_all ts))
taken ts rest n x h e r = (nth_at ts n x h e, λ i k. ap (λ us. nth i (plain_all us)) r ∙ nth_remove ts i n k)

-- There is nothing past the last field of a table.
pub not_taken : (ts : List Built) (n : ℕ) → length ts ≤ n → leaf absent ≡ nth n (plain_all ts)
not_taken ts n h = sym (nth_past ts n h)
