-- Slots of forms without children.
use Rattle.std.proofs.Common.{◌≡◌, ℕ, ℤ, Bool, List, refl, ap, sym, ◌∙◌, subst, Option, None, Some}
use Rattle.std.specs.Prelude.{IfSome, option_map}
use Rattle.arrow_types.specs.Field.{none}
use Rattle.arrow_layout.specs.declared.form.NumberForm.{NumberForm}
use Rattle.arrow_bits.specs.Numbers.{FitsInt}
use Rattle.arrow_layout.specs.Fits.{Fits}
use Rattle.arrow_layout.specs.Form.{number_width, has_sign}
use Rattle.arrow_layout.specs.Layout.{buffer}
use Rattle.arrow_data.specs.Parts.{value_slot}
use Rattle.arrow_layout.specs.PlainValue.{PlainValue, null_value, bool_value, int_value, binary_value, utf8_value, list_value, struct_value, int_in, binary_in, utf8_in}
use Rattle.arrow_layout.specs.Slots.{int_slot}
use Rattle.arrow_layout.specs.declared.form.Form.{Form}
use Rattle.arrow_layout.specs.declared.form.Form.TheVariants as forms
use Rattle.arrow_layout.specs.declared.form.OffsetWidth.{OffsetWidth}
use Rattle.arrow_builder.specs.Puts.{PutsSlot, StaySlots, part_slot, value_or_null}

-- a value that fits numbers is null or a number
number_fits : (number : NumberForm) (v : PlainValue) → Fits (forms.Numbers number) none v
    → (value_or_null int_value (int_in v) ≡ v) × IfSome (int_in v) (FitsInt (number_width number) (has_sign number))
number_fits number null_value h = (refl, tt)
number_fits number (bool_value b) h = absurd (cc)
number_fits number (int_value z) h = (refl, h)
number_fits number (binary_value b) h = absurd h
number_fits number (utf8_value b) h = absurd h
number_fits number (list_value vs) h = absurd h.0
number_fits number (struct_value vs) h = let e = h.0 in absurd (cc)

-- one that fits byte strings is null or a byte string
binary_fits : (width : OffsetWidth) (v : PlainValue) → Fits (forms.Bytes width) none v → value_or_null binary_value (binary_in v) ≡ v
binary_fits width null_value h = refl
binary_fits width (bool_value b) h = absurd (cc)
binary_fits width (int_value z) h = absurd h
binary_fits width (binary_value b) h = refl
binary_fits width (utf8_value b) h = absurd h
binary_fits width (list_value vs) h = absurd h.0
binary_fits width (struct_value vs) h = let e = h.0 in absurd (cc)

-- one that fits texts is null or a text
text_fits : (width : OffsetWidth) (v : PlainValue) → Fits (forms.Texts width) none v → value_or_null utf8_value (utf8_in v) ≡ v
text_fits width null_value h = refl
text_fits width (bool_value b) h = absurd (cc)
text_fits width (int_value z) h = absurd h
text_fits width (binary_value b) h = absurd h
text_fits width (utf8_value b) h = refl
text_fits width (list_value vs) h = absurd h.0
text_fits width (struct_value vs) h = let e = h.0 in absurd (cc)

-- the borrowed content of a value gives the value
lent : {A B : Type 0} (see : A → B) (value : B → PlainValue) (a : Option A) → value_or_null (λ a. value (see a)) a ≡ value_or_null value (option_map see a)
lent see value None = refl
lent see value (Some a) = refl

-- a number, or null
pub number_leaf : (form : Form) (number : NumberForm) (width : ℕ) (v : PlainValue) (found : Option ℤ) (at : ℕ) (b b' : List (List ℕ)) → form ≡ forms.Numbers number
    → width ≡ number_width number → Fits form none v → found ≡ int_in v
    → ((sign : Bool) → IfSome found (FitsInt width sign) → PutsSlot at (value_or_null int_value found) (int_slot width sign (buffer b 0) (buffer b 1)) (int_slot width sign (buffer b' 0) (buffer b' 1)))
    → (children : List (List PlainValue)) → PutsSlot at v (value_slot form b children) (value_slot form b' children)
number_leaf form number width v found at b b' is wide fits same put children =
    let signed = has_sign number in
    let known = number_fits number v (subst (λ f. Fits f none v) is fits) in
    let held : IfSome found (FitsInt width signed) = subst (λ n. IfSome n (FitsInt width signed)) (sym same) (subst (λ w. IfSome (int_in v) (FitsInt w signed)) (sym wide) known.1) in
    let value : value_or_null int_value found ≡ v = ap (value_or_null int_value) same ∙ known.0 in
    let slot = subst (λ w. PutsSlot at (value_or_null int_value found) (int_slot w signed (buffer b 0) (buffer b 1)) (int_slot w signed (buffer b' 0) (buffer b' 1))) wide (put signed held) in
    subst (λ f. PutsSlot at v (value_slot f b children) (value_slot f b' children)) (sym is)
    (subst (λ x. PutsSlot at x (int_slot (number_width number) signed (buffer b 0) (buffer b 1)) (int_slot (number_width number) signed (buffer b' 0) (buffer b' 1))) value slot)

-- a byte string, or null
pub binary_leaf : {A : Type 0} (see : A → List ℕ) (form : Form) (width : OffsetWidth) (v : PlainValue) (part : Option A) (at : ℕ) (b b' : List (List ℕ)) → form ≡ forms.Bytes width
    → Fits form none v → option_map see part ≡ binary_in v
    → ((value : List ℕ → PlainValue) → PutsSlot at (value_or_null (λ p. value (see p)) part) (part_slot value width (buffer b 0) (buffer b 1) (buffer b 2)) (part_slot value width (buffer b' 0) (buffer b' 1) (buffer b' 2)))
    → (children : List (List PlainValue)) → PutsSlot at v (value_slot form b children) (value_slot form b' children)
binary_leaf see form width v part at b b' is fits same put children =
    let value : value_or_null (λ p. binary_value (see p)) part ≡ v = lent see binary_value part ∙ ap (value_or_null binary_value) same ∙ binary_fits width v (subst (λ f. Fits f none v) is fits) in
    subst (λ f. PutsSlot at v (value_slot f b children) (value_slot f b' children)) (sym is)
    (subst (λ x. PutsSlot at x (part_slot binary_value width (buffer b 0) (buffer b 1) (buffer b 2)) (part_slot binary_value width (buffer b' 0) (buffer b' 1) (buffer b' 2))) value (put binary_value))

-- a text, or null
pub text_leaf : {A : Type 0} (see : A → List ℕ) (form : Form) (width : OffsetWidth) (v : PlainValue) (part : Option A) (at : ℕ) (b b' : List (List ℕ)) → form ≡ forms.Texts width
    → Fits form none v → option_map see part ≡ utf8_in v
    → ((value : List ℕ → PlainValue) → PutsSlot at (value_or_null (λ p. value (see p)) part) (part_slot value width (buffer b 0) (buffer b 1) (buffer b 2)) (part_slot value width (buffer b' 0) (buffer b' 1) (buffer b' 2)))
    → (children : List (List PlainValue)) → PutsSlot at v (value_slot form b children) (value_slot form b' children)
text_leaf see form width v part at b b' is fits same put children =
    let value : value_or_null (λ p. utf8_value (see p)) part ≡ v = lent see utf8_value part ∙ ap (value_or_null utf8_value) same ∙ text_fits width v (subst (λ f. Fits f none v) is fits) in
    subst (λ f. PutsSlot at v (value_slot f b children) (value_slot f b' children)) (sym is)
    (subst (λ x. PutsSlot at x (part_slot utf8_value width (buffer b 0) (buffer b 1) (buffer b 2)) (part_slot utf8_value width (buffer b' 0) (buffer b' 1) (buffer b' 2))) value (put utf8_value))

-- the first slots of byte strings
pub binary_stays : (form : Form) (width : OffsetWidth) (at : ℕ) (b b' : List (List ℕ)) → form ≡ forms.Bytes width
    → ((value : List ℕ → PlainValue) → StaySlots at (part_slot value width (buffer b 0) (buffer b 1) (buffer b 2)) (part_slot value width (buffer b' 0) (buffer b' 1) (buffer b' 2)))
    → (children : List (List PlainValue)) → StaySlots at (value_slot form b children) (value_slot form b' children)
binary_stays form width at b b' is stay children = subst (λ f. StaySlots at (value_slot f b children) (value_slot f b' children)) (sym is) (stay binary_value)

-- the first slots of texts
pub text_stays : (form : Form) (width : OffsetWidth) (at : ℕ) (b b' : List (List ℕ)) → form ≡ forms.Texts width
    → ((value : List ℕ → PlainValue) → StaySlots at (part_slot value width (buffer b 0) (buffer b 1) (buffer b 2)) (part_slot value width (buffer b' 0) (buffer b' 1) (buffer b' 2)))
    → (children : List (List PlainValue)) → StaySlots at (value_slot form b children) (value_slot form b' children)
text_stays form width at b b' is stay children = subst (λ f. StaySlots at (value_slot f b children) (value_slot f b' children)) (sym is) (stay utf8_value)
