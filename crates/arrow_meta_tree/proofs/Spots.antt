-- The spots below a table, one by one.
use Rattle.std.proofs.Common.{◌≡◌, ℕ, zero, suc, ◌+◌, ◌*◌, ◌<◌, List, [], ◌∷◌, slice_get, get_or, length, Some, refl, sym, ap, ◌∙◌, arith}
use Rattle.std.proofs.lemmas.Option.{slice_get-get_or}
use Rattle.arrow_flatbuf.specs.Table.{TableAt}
use Rattle.arrow_meta_tree.specs.declared.kinds.TableKind.{TableKind}
use Rattle.arrow_meta_tree.specs.declared.kinds.FieldForm.{FieldForm}
use Rattle.arrow_meta_tree.specs.declared.kinds.FieldForm.TheVariants as forms
use Rattle.arrow_meta_tree.specs.Kinds.{forms_of, spot, spots_from, spots_of}
use Rattle.arrow_meta_tree.specs.Lies.{elements}
use Rattle.arrow_meta_tree.specs.Reads.{Faulty}
use Rattle.arrow_meta_tree.specs.declared.fault.MetaFault.{MetaFault}
use Rattle.arrow_meta_tree.specs.declared.fault.MetaFault.TheVariants.{Metadata, Memory}

spots_get : (ss : List FieldForm) (t : TableAt) (i j : ℕ) (s : FieldForm) → slice_get ss j ≡ Some s → slice_get (spots_from ss t i) j ≡ Some (spot s t (i + j))
spots_get [] t i j s e = absurd (cc)
spots_get (r ∷ rs) t i zero s e =
    let same : r ≡ s = cc in
    let at : i ≡ i + 0 = omega arith in
    ap (λ (x : FieldForm). Some (spot x t i)) same ∙ ap (λ (n : ℕ). Some (spot s t n)) at
spots_get (r ∷ rs) t i (suc j) s e =
    let at : i + 1 + j ≡ i + suc j = omega arith in
    spots_get rs t (i + 1) j s e ∙ ap (λ (n : ℕ). Some (spot s t n)) at

-- field i of a table
pub field_get : (kind : TableKind) (t : TableAt) (ss : List FieldForm) (i : ℕ) (d : FieldForm) → ss ≡ forms_of kind → i < length ss → slice_get (spots_of kind t) i ≡ Some (spot (get_or ss i d) t i)
field_get kind t ss i d e h =
    let got : slice_get (forms_of kind) i ≡ Some (get_or ss i d) = ap (λ (xs : List FieldForm). slice_get xs i) (sym e) ∙ slice_get-get_or ss i d h in
    let at : 0 + i ≡ i = omega arith in
    spots_get (forms_of kind) t 0 i (get_or ss i d) got ∙ ap (λ (n : ℕ). Some (spot (get_or ss i d) t n)) at

length-spots_from : (ss : List FieldForm) (t : TableAt) (i : ℕ) → length (spots_from ss t i) ≡ length ss
length-spots_from [] t i = refl
length-spots_from (s ∷ ss) t i = ap suc (length-spots_from ss t (i + 1))

-- A table has one spot for each of its fields that are read.
pub length-spots : (kind : TableKind) (t : TableAt) → length (spots_of kind t) ≡ length (forms_of kind)
length-spots kind t = length-spots_from (forms_of kind) t 0

-- element j of a vector
pub element_get : (kind : TableKind) (p n j : ℕ) → j < n → slice_get (elements kind p n) j ≡ Some (record { form = forms.Table kind; place = Some (p + j * 4) })
element_get kind p zero j h = absurd (omega arith)
element_get kind p (suc n) zero h =
    let at : p ≡ p + 0 * 4 = omega arith in
    ap (λ (q : ℕ). Some (record { form = forms.Table kind; place = Some q })) at
element_get kind p (suc n) (suc j) h =
    let at : p + 4 + j * 4 ≡ p + suc j * 4 = omega arith in
    element_get kind (p + 4) n j (omega arith) ∙ ap (λ (q : ℕ). Some (record { form = forms.Table kind; place = Some q })) at

-- A vector has as many spots as elements.
pub length-elements : (kind : TableKind) (p n : ℕ) → length (elements kind p n) ≡ n
length-elements kind p zero = refl
length-elements kind p (suc n) = ap suc (length-elements kind (p + 4) n)

-- the claim of a fault holds of weaker conditions too
pub faulty_so : (e : MetaFault) (P P' Q Q' : Type 0) → (P → P') → (Q → Q') → Faulty e P Q → Faulty e P' Q'
faulty_so Metadata P P' Q Q' f g h = f h
faulty_so Memory P P' Q Q' f g h = g h
faulty_so fault P P' Q Q' f g h = absurd h
