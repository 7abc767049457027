-- The numbers that are sent fit into the buffers of their nodes.
use Rattle.std.proofs.Common.{◌≡◌, ℕ, zero, suc, true, false, ℤ, pos, List, [], ◌∷◌, subst, arith, Some}
use Rattle.std.specs.List.{AllByRecursion}
use Rattle.std.proofs.lemmas.Int.{ints}
use Rattle.arrow_types.specs.Field.{FieldTree}
use Rattle.arrow_layout.specs.declared.form.NumberForm.TheVariants as numbers
use Rattle.arrow_layout.specs.declared.form.NumberForm.{NumberForm}
use Rattle.arrow_types.specs.declared.data_type.BitWidth.TheVariants.{Eight, Sixteen, ThirtyTwo, SixtyFour}
use Rattle.arrow_bits.specs.Numbers.{FitsInt, FitsWidth}
use Rattle.arrow_data.specs.Column.{Column}
use Rattle.arrow_layout.specs.Form.{number_width, has_sign}
use Rattle.arrow_layout.specs.PlainValue.{PlainValue, null_value, bool_value, int_value, binary_value, utf8_value, list_value, struct_value}
use Rattle.arrow_layout.specs.declared.form.Form.{Form}
use Rattle.arrow_layout.specs.declared.form.Form.TheVariants as forms
use Rattle.arrow_layout.specs.declared.form.ListForm.TheVariants as lists
use Rattle.arrow_body_laws.proofs.Below.{all_change}
use Rattle.arrow_body_laws.specs.Laws.{raws_of}
use Rattle.arrow_body_laws.specs.Raws.{AreRaws, IsOwn, number_in}
use Rattle.arrow_body_laws.specs.Stored.{fields_of_columns}
use Rattle.arrow_body_writer.proofs.Chunks.{same_part}
use Rattle.arrow_body_slots.specs.Part.{HasRoom, part_of}
use Rattle.arrow_body_writer.specs.Sent.{form_of_column}
use Rattle.arrow_body_slots.specs.declared.part.BufferKind.{BufferKind}
use Rattle.arrow_body_slots.specs.declared.part.BufferKind.TheVariants.{Validity, Truths, Numbers, StringOffsets, ListOffsets, Strings, FixedBytes}

-- a number in the range of a signedness is one of the width
fits_width : (number : NumberForm) (z : ℤ) → FitsInt (number_width number) (has_sign number) z → FitsWidth (number_width number) z
fits_width (numbers.Int Eight true) z fits = (omega (arith, ints, fits.0, fits.1), omega (arith, ints, fits.0, fits.1))
fits_width (numbers.Int Eight false) z fits = (omega (arith, ints, fits.0, fits.1), omega (arith, ints, fits.0, fits.1))
fits_width (numbers.Int Sixteen true) z fits = (omega (arith, ints, fits.0, fits.1), omega (arith, ints, fits.0, fits.1))
fits_width (numbers.Int Sixteen false) z fits = (omega (arith, ints, fits.0, fits.1), omega (arith, ints, fits.0, fits.1))
fits_width (numbers.Int ThirtyTwo true) z fits = (omega (arith, ints, fits.0, fits.1), omega (arith, ints, fits.0, fits.1))
fits_width (numbers.Int ThirtyTwo false) z fits = (omega (arith, ints, fits.0, fits.1), omega (arith, ints, fits.0, fits.1))
fits_width (numbers.Int SixtyFour true) z fits = (omega (arith, ints, fits.0, fits.1), omega (arith, ints, fits.0, fits.1))
fits_width (numbers.Int SixtyFour false) z fits = (omega (arith, ints, fits.0, fits.1), omega (arith, ints, fits.0, fits.1))
fits_width numbers.Int128 z fits = (omega (arith, ints, fits.0, fits.1), omega (arith, ints, fits.0, fits.1))

zero_fits : (number : NumberForm) → FitsWidth (number_width number) (pos 0)
zero_fits (numbers.Int Eight signed) = (omega (arith, ints), omega (arith, ints))
zero_fits (numbers.Int Sixteen signed) = (omega (arith, ints), omega (arith, ints))
zero_fits (numbers.Int ThirtyTwo signed) = (omega (arith, ints), omega (arith, ints))
zero_fits (numbers.Int SixtyFour signed) = (omega (arith, ints), omega (arith, ints))
zero_fits numbers.Int128 = (omega (arith, ints), omega (arith, ints))

number_room : (number : NumberForm) (c : FieldTree) (v : PlainValue) → IsOwn (forms.Numbers number) c v → FitsWidth (number_width number) (number_in v)
number_room number c null_value own = zero_fits number
number_room number c (bool_value b) own = zero_fits number
number_room number c (int_value z) own = fits_width number z own
number_room number c (binary_value b) own = zero_fits number
number_room number c (utf8_value b) own = zero_fits number
number_room number c (list_value b) own = zero_fits number
number_room number c (struct_value b) own = zero_fits number

-- a property that every value has
all_free : (P : PlainValue → Type 0) → ((v : PlainValue) → P v) → (vs : List PlainValue) → AllByRecursion P vs
all_free P each [] = tt
all_free P each (v ∷ vs) = (each v, all_free P each vs)

-- the numbers fit into each buffer of a node
abbrev pub HasRooms : Form → List PlainValue → Type 0
HasRooms form vs = (k : ℕ) (part : BufferKind) → part_of form k ≡ Some part → AllByRecursion (HasRoom part) vs

own_rooms : (form : Form) (c : FieldTree) (vs : List PlainValue) → AllByRecursion (IsOwn form c) vs → HasRooms form vs
own_rooms forms.Nulls c vs own k part e = cc
own_rooms forms.Bits c vs own zero part e = subst (λ p. AllByRecursion (HasRoom p) vs) (same_part Validity part e) (all_free (HasRoom Validity) (λ v. tt) vs)
own_rooms forms.Bits c vs own (suc zero) part e = subst (λ p. AllByRecursion (HasRoom p) vs) (same_part Truths part e) (all_free (HasRoom Truths) (λ v. tt) vs)
own_rooms forms.Bits c vs own (suc (suc k)) part e = cc
own_rooms (forms.Numbers number) c vs own zero part e = subst (λ p. AllByRecursion (HasRoom p) vs) (same_part Validity part e) (all_free (HasRoom Validity) (λ v. tt) vs)
own_rooms (forms.Numbers number) c vs own (suc zero) part e =
    subst (λ p. AllByRecursion (HasRoom p) vs) (same_part (Numbers number) part e) (all_change (IsOwn (forms.Numbers number) c) (HasRoom (Numbers number)) (number_room number c) vs own)
own_rooms (forms.Numbers number) c vs own (suc (suc k)) part e = cc
own_rooms (forms.Bytes w) c vs own zero part e = subst (λ p. AllByRecursion (HasRoom p) vs) (same_part Validity part e) (all_free (HasRoom Validity) (λ v. tt) vs)
own_rooms (forms.Bytes w) c vs own (suc zero) part e = subst (λ p. AllByRecursion (HasRoom p) vs) (same_part (StringOffsets w) part e) (all_free (HasRoom (StringOffsets w)) (λ v. tt) vs)
own_rooms (forms.Bytes w) c vs own (suc (suc zero)) part e = subst (λ p. AllByRecursion (HasRoom p) vs) (same_part Strings part e) (all_free (HasRoom Strings) (λ v. tt) vs)
own_rooms (forms.Bytes w) c vs own (suc (suc (suc k))) part e = cc
own_rooms (forms.Texts w) c vs own zero part e = subst (λ p. AllByRecursion (HasRoom p) vs) (same_part Validity part e) (all_free (HasRoom Validity) (λ v. tt) vs)
own_rooms (forms.Texts w) c vs own (suc zero) part e = subst (λ p. AllByRecursion (HasRoom p) vs) (same_part (StringOffsets w) part e) (all_free (HasRoom (StringOffsets w)) (λ v. tt) vs)
own_rooms (forms.Texts w) c vs own (suc (suc zero)) part e = subst (λ p. AllByRecursion (HasRoom p) vs) (same_part Strings part e) (all_free (HasRoom Strings) (λ v. tt) vs)
own_rooms (forms.Texts w) c vs own (suc (suc (suc k))) part e = cc
own_rooms (forms.FixedBytes w) c vs own zero part e = subst (λ p. AllByRecursion (HasRoom p) vs) (same_part Validity part e) (all_free (HasRoom Validity) (λ v. tt) vs)
own_rooms (forms.FixedBytes w) c vs own (suc zero) part e = subst (λ p. AllByRecursion (HasRoom p) vs) (same_part (FixedBytes w) part e) (all_free (HasRoom (FixedBytes w)) (λ v. tt) vs)
own_rooms (forms.FixedBytes w) c vs own (suc (suc k)) part e = cc
own_rooms (forms.Lists list) c vs own zero part e = subst (λ p. AllByRecursion (HasRoom p) vs) (same_part Validity part e) (all_free (HasRoom Validity) (λ v. tt) vs)
own_rooms (forms.Lists (lists.Offsets w)) c vs own (suc zero) part e = subst (λ p. AllByRecursion (HasRoom p) vs) (same_part (ListOffsets w) part e) (all_free (HasRoom (ListOffsets w)) (λ v. tt) vs)
own_rooms (forms.Lists (lists.Offsets w)) c vs own (suc (suc k)) part e = cc
own_rooms (forms.Lists (lists.Fixed size)) c vs own (suc k) part e = cc
own_rooms forms.Structs c vs own zero part e = subst (λ p. AllByRecursion (HasRoom p) vs) (same_part Validity part e) (all_free (HasRoom Validity) (λ v. tt) vs)
own_rooms forms.Structs c vs own (suc k) part e = cc

-- for a column's own node
pub node_rooms : (c : Column) → AreRaws (fields_of_columns (c ∷ [])) (raws_of (c ∷ [])) → HasRooms (form_of_column c) c.raw
node_rooms c are = own_rooms (form_of_column c) c.data_type.children c.raw are.0
