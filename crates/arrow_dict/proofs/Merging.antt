-- Dictionaries that are placed one after the other.
use Rattle.std.proofs.Common.{◌≡◌, ◌<ℤ◌, ℤ, List, [], ◌∷◌, ◌++◌, Result, Ok, Err, IsOk, OnOk, OnErr, refl, sym, ap, ◌∙◌, arith}
use Rattle.std.proofs.lemmas.Int.{ints}
use Rattle.arrow_data.specs.Column.{ValueList}
use Rattle.arrow_dict.specs.Dictionaries.{placed}
use Rattle.arrow_dict.proofs.Placing.{by_order, placed_before, placed_over, placed_after}
use Rattle.arrow_dict.specs.Tracking.{merged}

-- of two dictionaries for one id the later one remains
pub placed_twice : (id : ℤ) (d e : ValueList) (ds : List (ℤ × ValueList)) → placed id d (placed id e ds) ≡ placed id d ds
placed_twice id d e [] = placed_over id d (id, e) [] refl
placed_twice id d e (x ∷ xs) =
    by_order id x.0
    (λ is less. ap (placed id d) (placed_before id e x xs less) ∙ placed_over id d (id, e) (x ∷ xs) refl ∙ sym (placed_before id d x xs less))
    (λ is same. ap (placed id d) (placed_over id e x xs same) ∙ placed_over id d (id, e) xs refl ∙ sym (placed_over id d x xs same))
    (λ is greater. ap (placed id d) (placed_after id e x xs greater) ∙ placed_after id d x (placed id e xs) greater ∙ ap (λ ys. x ∷ ys) (placed_twice id d e xs) ∙ sym (placed_after id d x xs greater))

-- a dictionary placed before the first entry, when another one is placed after that
placed_low : (x y : ℤ) (a b : ValueList) (e : ℤ × ValueList) (es : List (ℤ × ValueList)) → x <ℤ y → x <ℤ e.0 → placed x a (placed y b (e ∷ es)) ≡ (x, a) ∷ placed y b (e ∷ es)
placed_low x y a b e es less low =
    by_order y e.0
    (λ is h. ap (placed x a) (placed_before y b e es h) ∙ placed_before x a (y, b) (e ∷ es) less ∙ ap (λ ys. (x, a) ∷ ys) (sym (placed_before y b e es h)))
    (λ is h. ap (placed x a) (placed_over y b e es h) ∙ placed_before x a (y, b) es less ∙ ap (λ ys. (x, a) ∷ ys) (sym (placed_over y b e es h)))
    (λ is h. ap (placed x a) (placed_after y b e es h) ∙ placed_before x a e (placed y b es) low ∙ ap (λ ys. (x, a) ∷ ys) (sym (placed_after y b e es h)))

-- two ids in either order
pub placed_swap : (x y : ℤ) (a b : ValueList) (ds : List (ℤ × ValueList)) → x <ℤ y → placed x a (placed y b ds) ≡ placed y b (placed x a ds)
placed_swap x y a b [] less = placed_before x a (y, b) [] less ∙ sym (placed_after y b (x, a) [] less)
placed_swap x y a b (e ∷ es) less =
    by_order x e.0
    (λ is h. placed_low x y a b e es less h ∙ sym (placed_after y b (x, a) (e ∷ es) less) ∙ ap (placed y b) (sym (placed_before x a e es h)))
    (λ is h.
    let above : e.0 <ℤ y = omega (arith, ints) in
    ap (placed x a) (placed_after y b e es above) ∙ placed_over x a e (placed y b es) h ∙ sym (placed_after y b (x, a) es less) ∙ ap (placed y b) (sym (placed_over x a e es h)))
    (λ is h.
    let above : e.0 <ℤ y = omega (arith, ints) in
    ap (placed x a) (placed_after y b e es above) ∙ placed_after x a e (placed y b es) h ∙ ap (λ ys. e ∷ ys) (placed_swap x y a b es less)
    ∙ sym (placed_after y b e (placed x a es) above) ∙ ap (placed y b) (sym (placed_after x a e es h)))

-- one more that is staged is one more that is placed
pub merged_placed : (id : ℤ) (d : ValueList) (es ds : List (ℤ × ValueList)) → merged (placed id d es) ds ≡ placed id d (merged es ds)
merged_placed id d [] ds = refl
merged_placed id d (e ∷ es) ds =
    by_order id e.0
    (λ is less. ap (λ xs. merged xs ds) (placed_before id d e es less))
    (λ is same. ap (λ xs. merged xs ds) (placed_over id d e es same) ∙ sym (placed_twice id d e.1 (merged es ds)) ∙ ap (λ x. placed id d (placed x e.1 (merged es ds))) same)
    (λ is greater. ap (λ xs. merged xs ds) (placed_after id d e es greater) ∙ ap (placed e.0 e.1) (merged_placed id d es ds) ∙ placed_swap e.0 id e.1 d (merged es ds) greater)

-- the last staged one may be placed first
pub merged_last : (es ds : List (ℤ × ValueList)) (e : ℤ × ValueList) → merged (es ++ e ∷ []) ds ≡ merged es (placed e.0 e.1 ds)
merged_last [] ds e = refl
merged_last (x ∷ es) ds e = ap (placed x.0 x.1) (merged_last es ds e)

-- what follows from a result
pub on_ok : {A B X Y : Type 0} (r : Result X Y) → (A → B) → OnOk r A → OnOk r B
on_ok (Ok x) f a = f a
on_ok (Err y) f a = a

pub either_way : {A B C X Y : Type 0} (r : Result X Y) → (A → C) → (B → C) → OnOk r A → OnErr r B → C
either_way (Ok x) f g a b = f a
either_way (Err y) f g a b = g b

pub by_ok : {A X Y : Type 0} (r : Result X Y) → IsOk r → OnOk r A → A
by_ok (Ok x) h a = a
by_ok (Err y) h a = absurd (cc)
