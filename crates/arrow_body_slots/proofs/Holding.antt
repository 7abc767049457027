-- Byte strings, texts and lists between their offsets.
use Rattle.std.proofs.Common.{◌≡◌, ℕ, ◌<◌, Bool, true, false, List, [], length, refl, ap, ◌∙◌, sym, subst}
use Rattle.std.specs.Prelude.{if◌then◌else◌}
use Rattle.arrow_layout.specs.Layout.{HasLists, HasStrings}
use Rattle.arrow_layout.specs.PlainValue.{PlainValue, list_value, null_value, value_at, values_of}
use Rattle.arrow_layout.specs.Slots.{HasBits, HasOffsets, is_valid_at, or_null, range_of}
use Rattle.arrow_layout.specs.declared.form.ListForm.TheVariants as lists
use Rattle.arrow_layout.specs.declared.form.OffsetWidth.{OffsetWidth}
use Rattle.arrow_data.proofs.Lists.{list_again}
use Rattle.arrow_body_laws.specs.Raws.{bytes_in_value, items_in_value}
use Rattle.arrow_body_slots.specs.Offsets.{AreHeld, AreOf}
use Rattle.arrow_body_slots.specs.declared.offsets.Offsets.{Offsets}

-- what a slot gives, valid or not
given : {A : Type 0} (give : PlainValue → List A) (valid : Bool) (value : PlainValue) (part : List A) → give value ≡ part → give null_value ≡ [] → give (if valid then value else null_value) ≡ (if valid then part else [])
given give true value part is none = is
given give false value part is none = none

-- values of exactly these buffers
of_buffers : {A : Type 0} (width : OffsetWidth) (validity offsets : List ℕ) (all : List A) (give : PlainValue → List A) (raw : List PlainValue) (o : Offsets) → AreOf width validity offsets o
    → HasBits (length raw) validity → HasOffsets width (length raw) (length all) offsets
    → ((j : ℕ) → j < length raw → give (value_at raw j) ≡ (if is_valid_at validity j then range_of width offsets all j else [])) → AreHeld o all give raw
of_buffers width validity offsets all give raw o are bits rising held = record {
  bits = subst (HasBits (length raw)) (sym are.same_validity) bits;
  rising = subst (λ w. HasOffsets w (length raw) (length all) o.bytes.now) (sym are.same_width) (subst (HasOffsets width (length raw) (length all)) (sym are.same_bytes) rising);
  small = are.small;
  held = λ j h. held j h ∙ (λ i. if is_valid_at (sym are.same_validity i) j then range_of (sym are.same_width i) (sym are.same_bytes i) all j else []);
}

-- byte strings and texts
pub bytes_held : (width : OffsetWidth) (validity offsets bytes : List ℕ) (raw : List PlainValue) (value : List ℕ → PlainValue) → ((part : List ℕ) → bytes_in_value (value part) ≡ part) → (o : Offsets) → AreOf width validity offsets o
    → HasStrings width (length raw) validity offsets bytes → ((j : ℕ) → j < length raw → value_at raw j ≡ or_null validity j (value (range_of width offsets bytes j))) → AreHeld o bytes bytes_in_value raw
bytes_held width validity offsets bytes raw value own o are has shown =
    of_buffers width validity offsets bytes bytes_in_value raw o are has.bits has.rising
    (λ j h. ap bytes_in_value (shown j h) ∙ given bytes_in_value (is_valid_at validity j) (value (range_of width offsets bytes j)) (range_of width offsets bytes j) (own (range_of width offsets bytes j)) refl)

-- lists
pub items_held : (width : OffsetWidth) (validity offsets : List ℕ) (child raw : List PlainValue) (o : Offsets) → AreOf width validity offsets o → HasLists (lists.Offsets width) (length raw) validity offsets (length child)
    → ((j : ℕ) → j < length raw → value_at raw j ≡ or_null validity j (list_value (values_of (range_of width offsets child j)))) → AreHeld o child (items_in_value 0) raw
items_held width validity offsets child raw o are has shown =
    of_buffers width validity offsets child (items_in_value 0) raw o are has.bits has.rising
    (λ j h. ap (items_in_value 0) (shown j h) ∙ given (items_in_value 0) (is_valid_at validity j) (list_value (values_of (range_of width offsets child j))) (range_of width offsets child j) (list_again (range_of width offsets child j)) refl)
