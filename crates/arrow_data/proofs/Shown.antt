-- The slots of ranges.
use Rattle.std.proofs.Common.{◌≡◌, ℕ, ◌<◌, ◌≤◌, true, List, [], ◌∷◌, length, map, refl, ap, ◌∙◌, arith, if◌then◌else◌}
use Rattle.std.proofs.lemmas.List.FromFn.{get_or-map-range_with_len, length-map-range_with_len}
use Rattle.std.specs.List.{AllByRecursion}
use Rattle.arrow_types.specs.Field.{TypeShape}
use Rattle.arrow_layout.specs.PlainValue.{PlainValue, value_at, null_value, struct_value, values_of}
use Rattle.arrow_data.specs.Column.{Column, HasParts, counts_of}
use Rattle.arrow_layout.specs.Slots.{slots, struct_slot, is_valid_at}
use Rattle.arrow_layout.specs.ByteRanges.{bytes_of}
use Rattle.arrow_data.specs.Node.{AreStructs}
use Rattle.arrow_layout.specs.declared.byte_range.ByteRange.{ByteRange}
use Rattle.arrow_layout.proofs.Widths.{slot_inside}

-- there are as many values as slots
pub length_slots : (n : ℕ) (f : ℕ → PlainValue) → length (slots n f) ≡ n
length_slots n f = length-map-range_with_len f 0 n

-- the value of a slot
pub at_slots : (n : ℕ) (f : ℕ → PlainValue) (i : ℕ) → i < n → value_at (slots n f) i ≡ f i
at_slots n f i h = get_or-map-range_with_len f 0 n i i null_value h (omega arith)

-- the number of slots, the value in each, and where its bytes are
pub ruleset shown = (length_slots, at_slots, slot_inside)

-- the values at a slot of the columns' values are those of the columns
pub row_same : (of : Column → List PlainValue) (cs : List Column) (i : ℕ) → map (λ values. value_at values i) (map of cs) ≡ map (λ (c : Column). value_at (of c) i) cs
row_same of [] i = refl
row_same of (c ∷ cs) i = ap (λ vs. value_at (of c) i ∷ vs) (row_same of cs i)

-- each child has the slots
pub longer_of_counts : (n : ℕ) (cs : List Column) → AllByRecursion (λ count. n ≤ count) (counts_of cs) → AllByRecursion (λ (c : Column). n ≤ length c.raw) cs
longer_of_counts n [] h = tt
longer_of_counts n (c ∷ cs) h = (h.0, longer_of_counts n cs h.1)

-- the value that a valid slot of a struct shows
pub parts_shown : (c : Column) (n i : ℕ) (t : TypeShape) (body : List ℕ) (v : ByteRange) (cs : List Column)
    → c.raw ≡ slots n (λ j. struct_slot (bytes_of body v) (map (λ (x : Column). x.raw) cs) j)
    → c.resolved ≡ slots n (λ j. struct_slot (bytes_of body v) (map (λ (x : Column). x.resolved) cs) j) → c.data_type ≡ t → AreStructs n t body v cs
    → i < n → is_valid_at (bytes_of body v) i ≡ true → HasParts c i cs
parts_shown c n i t body v cs raw resolved shape ok within valid =
    let slot = λ (of : Column → List PlainValue). struct_slot (bytes_of body v) (map of cs) in
    let long : length c.raw ≡ n = ap length raw ∙ length_slots n (λ j. slot (λ (x : Column). x.raw) j) in
    let shown : (of : Column → List PlainValue) → value_at (slots n (λ j. slot of j)) i ≡ struct_value (values_of (map (λ (x : Column). value_at (of x) i) cs)) =
    λ of. at_slots n (λ j. slot of j) i within ∙ ap (λ b. if b then struct_value (values_of (map (λ values. value_at values i) (map of cs))) else null_value) valid ∙ ap (λ vs. struct_value (values_of vs)) (row_same of cs i) in
    record {
      typed = rw shape ok.typed;
      longer = rw long (longer_of_counts n cs ok.laid.longer);
      same = rw raw (shown (λ (x : Column). x.raw));
      same_resolved = rw resolved (shown (λ (x : Column). x.resolved));
    }
