-- When two item values are the same.
use Rattle.std.proofs.Common.{rules, ◌≡◌, ◌↔◌, ℕ, List, [], ◌∷◌, Bool, IsTrue, refl, ap, sym, ◌∙◌}
use Rattle.std.specs.declared.alloc.Global.{Global}
use Rattle.std.specs.declared.vec.Vec.{Vec}
use Rattle.arrow_layout.specs.PlainValue.{PlainValue, binary_value, list_value, struct_value, values_of}
use Rattle.arrow_layout.specs.Value.{value_view, values_view}
use Rattle.arrow_layout.specs.declared.value.Value.{Value, Bytes as byte_strings, List as lists, Struct as structs, the_lemmas}

-- lists of values are equal if they convert to the same `PlainValues`
pub values_same : (xs ys : List PlainValue) → values_of xs ≡ values_of ys → xs ≡ ys
values_same [] [] e = refl
values_same (x ∷ xs) (y ∷ ys) e = let tail : values_of xs ≡ values_of ys = cc in let rest = values_same xs ys tail in let head : x ≡ y = cc in cc
values_same [] (y ∷ ys) e = cc
values_same (x ∷ xs) [] e = cc

-- the view of a byte string
pub bytes_view : (v : Vec ℕ Global) → value_view (byte_strings v) ≡ binary_value v.items
bytes_view v = search (rules, the_lemmas)

-- the view of a list of values
list_view : (v : Vec Value Global) → value_view (lists v) ≡ list_value (values_of (values_view v.items))
list_view v = search (rules, the_lemmas)

-- the view of a struct of values
struct_view : (v : Vec Value Global) → value_view (structs v) ≡ struct_value (values_of (values_view v.items))
struct_view v = search (rules, the_lemmas)

-- lists are equal exactly when their items are
pub lists_agree : (x y : Value) (v u : Vec Value Global) (r : Bool) → x ≡ lists v → y ≡ lists u → (IsTrue r ↔ (values_view v.items ≡ values_view u.items)) → IsTrue r ↔ (value_view x ≡ value_view y)
lists_agree x y v u r p q same =
    let left = ap value_view p ∙ list_view v in
    let right = ap value_view q ∙ list_view u in (
      λ t. left ∙ ap (λ vs. list_value (values_of vs)) (same.0 t) ∙ sym right,
      λ e. let items : list_value (values_of (values_view v.items)) ≡ list_value (values_of (values_view u.items)) = sym left ∙ e ∙ right in
          let inner : values_of (values_view v.items) ≡ values_of (values_view u.items) = cc in same.1 (values_same _ _ inner),
    )

-- structs are equal exactly when their fields' values are
pub structs_agree : (x y : Value) (v u : Vec Value Global) (r : Bool) → x ≡ structs v → y ≡ structs u → (IsTrue r ↔ (values_view v.items ≡ values_view u.items)) → IsTrue r ↔ (value_view x ≡ value_view y)
structs_agree x y v u r p q same =
    let left = ap value_view p ∙ struct_view v in
    let right = ap value_view q ∙ struct_view u in (
      λ t. left ∙ ap (λ vs. struct_value (values_of vs)) (same.0 t) ∙ sym right,
      λ e. let items : struct_value (values_of (values_view v.items)) ≡ struct_value (values_of (values_view u.items)) = sym left ∙ e ∙ right in
          let inner : values_of (values_view v.items) ≡ values_of (values_view u.items) = cc in same.1 (values_same _ _ inner),
    )
