-- Slots of a child of structs, where the child has no null of its own, by the bitmap of the structs.
use Rattle.std.proofs.Common.{◌≡◌, ◌≤◌, ◌<◌, ℕ, ◌-◌, ◌*◌, Bool, true, false, not, List, ◌++◌, length, map, take, drop, refl, sym, ap, ◌∙◌, subst, arith}
use Rattle.std.proofs.lemmas.List.{drop-map, get_or-map, length-map, take-map}
use Rattle.std.proofs.Math.Nat.{mul-le-mul_left}
use Rattle.arrow_bits.specs.Numbers.{int_bytes}
use Rattle.arrow_data.specs.Column.{Column, HasField, values_from}
use Rattle.arrow_data.specs.FullSlots.{AreFull}
use Rattle.arrow_layout.specs.PlainValue.{PlainValue, field_value, is_null_value, null_value, value_at}
use Rattle.arrow_body_laws.specs.Raws.{number_in}
use Rattle.arrow_body_slots.proofs.Ranges.{null_of}
use Rattle.arrow_body_slots.specs.Marks.{AreMarked, AreMasked, AreNumbered, HasNumbers}
use Rattle.arrow_body_slots.specs.declared.masked.NullMasked.{NullMasked}

-- the values of a field in some of the structs
pub field_range : (k : ℕ) (raw : List PlainValue) (start stop : ℕ) → map (field_value k) (values_from raw start stop) ≡ values_from (map (field_value k) raw) start stop
field_range k raw start stop = sym (ap (take (stop - start)) (drop-map (field_value k) start raw) ∙ take-map (field_value k) (stop - start) (drop start raw))

module _ (c child : Column) (k : ℕ) (field : HasField c k child) (full : AreFull child 0 (length child.raw)) where
  abbrev pub fields : List PlainValue
  fields = map (field_value k) c.raw

  -- the value of the field in a struct
  field_at : (j : ℕ) → j < length c.raw → value_at fields j ≡ field_value k (value_at c.raw j)
  field_at j h = get_or-map (field_value k) c.raw j null_value null_value h

  -- which is null if the struct is
  alike : (j : ℕ) → j < length c.raw → (null : Bool) → is_null_value (value_at c.raw j) ≡ null → is_null_value (field_value k (value_at c.raw j)) ≡ null
  alike j h true is = ap (λ v. is_null_value (field_value k v)) (null_of (value_at c.raw j) is)
  alike j h false is = ap is_null_value (field.same j h is).0 ∙ full j (omega arith) (omega (arith, h, field.longer))

  null_alike : (j : ℕ) → j < length c.raw → is_null_value (value_at fields j) ≡ is_null_value (value_at c.raw j)
  null_alike j h = ap is_null_value (field_at j h) ∙ alike j h (is_null_value (value_at c.raw j)) refl

  -- so the bitmap of the structs is the bitmap of the field
  pub masked_field : (bits : List ℕ) → AreMarked c.raw bits → AreMasked child.raw fields bits
  masked_field bits marked =
      let long = length-map c.raw (field_value k) in
      record {
        marks = record {
          long = omega (arith, long, marked.long);
          same = λ j h. let inside : j < length c.raw = omega (arith, h, long) in ap not (null_alike j inside) ∙ marked.same j inside;
        };
        longer = omega (arith, long, field.longer);
        same = λ j h some. let inside : j < length c.raw = omega (arith, h, long) in field_at j inside ∙ (field.same j inside (sym (null_alike j inside) ∙ some)).0;
      }

-- the numbers of such slots are the numbers of the child
pub masked_numbers : (n : NullMasked) (own raw : List PlainValue) → AreMasked own raw n.bits.now → AreNumbered n.width own n.values.now → HasNumbers n raw
masked_numbers n own raw masked numbered = record {
  marks = masked.marks;
  numbers = record {
    long = omega (arith, mul-le-mul_left n.width masked.longer, numbered.long);
    same = λ j h some.
        let is = masked.same j h some in
        ap (λ v. int_bytes n.width (number_in v)) is ∙ numbered.same j (omega (arith, h, masked.longer)) (ap is_null_value (sym is) ∙ some);
  };
}

-- there are as many values of a field as structs
pub as_many_fields : (k : ℕ) (raw : List PlainValue) (stop : ℕ) → stop ≤ length raw → stop ≤ length (map (field_value k) raw)
as_many_fields k raw stop inside = omega (arith, inside, length-map raw (field_value k))

-- the bitmap has a bit for each of the structs
pub bits_inside : (own raw : List PlainValue) (bits : List ℕ) (k stop : ℕ) → AreMasked own (map (field_value k) raw) bits → stop ≤ length raw → stop ≤ 8 * length bits
bits_inside own raw bits k stop masked inside = omega (arith, as_many_fields k raw stop inside, masked.marks.long)
