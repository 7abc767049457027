-- A test whether two plain values are equal.
use Rattle.std.specs.Prelude.{◌≡◌, ◌==◌, Bool, true, false, ◌&&◌}
use Rattle.std.specs.Bool.{Decides}
use Rattle.std.specs.Cmp.{IsEquivalence}
use Rattle.std.specs.Coded.{Coded}
use Rattle.std.proofs.Common.{refl, sym, ap}
use Rattle.std.proofs.lemmas.Bool.Decides.{Decides-eqb, Decides-and, Decides-like, same_from_decides}
use base.Stored.{Gv, gnil, gnum, gcons}

-- whether two trees have the same shape and the same numbers
abbrev same_code : Gv → Gv → Bool
same_code gnil gnil = true
same_code (gnum m) (gnum n) = m == n
same_code (gcons a b) (gcons c d) = same_code a c && same_code b d
same_code x y = false

-- Values are stored as trees of numbers, different values as different trees: so they are equal exactly if their
-- trees are.
unfoldable pub is_equal : {A : Type 0} → Coded A → A → A → Bool
is_equal c x y = same_code (c.code x) (c.code y)

-- the test is true exactly if the trees are equal
same_code-decides : (g h : Gv) → Decides (same_code g h) (g ≡ h)
same_code-decides gnil gnil = (λ _. refl, λ _. refl)
same_code-decides (gnum m) (gnum n) = Decides-like (m == n) (ap gnum) (λ p. cc) (Decides-eqb m n)
same_code-decides (gcons a b) (gcons c d) =
    Decides-like (same_code a c && same_code b d) (λ e. λ i. gcons (e.0 i) (e.1 i)) (λ p. (cc, cc))
    (Decides-and (same_code a c) (same_code b d) (same_code-decides a c) (same_code-decides b d))
same_code-decides x y = (λ e. cc, λ e. cc)

-- the test is true exactly if the values are equal
pub is_equal_decides : {A : Type 0} (c : Coded A) (x y : A) → Decides (is_equal c x y) (x ≡ y)
unfolding is_equal
is_equal_decides c x y =
    Decides-like (same_code (c.code x) (c.code y)) (c.inj x y) (λ e. ap c.code e) (same_code-decides (c.code x) (c.code y))

-- the test is an equivalence
pub is_equal_equivalence : {A : Type 0} (c : Coded A) → IsEquivalence (is_equal c)
is_equal_equivalence c = record {
  refl = λ x. (is_equal_decides c x x).1 refl;
  symm = λ x y. same_from_decides (is_equal c x y) (is_equal c y x) (is_equal_decides c x y) (Decides-like (is_equal c y x) sym sym (is_equal_decides c y x));
  congr = λ x y z e. ap (λ v. is_equal c v z) ((is_equal_decides c x y).0 e);
}

-- any test that is true exactly if the values are equal is this one
pub is_equal_by : {A : Type 0} (c : Coded A) (x y : A) (test : Bool) → Decides test (x ≡ y) → test ≡ is_equal c x y
is_equal_by c x y test decides = same_from_decides test (is_equal c x y) decides (is_equal_decides c x y)
