-- The ranges of a node represent its buffers.
use Rattle.std.proofs.Common.{◌≡◌, ◌≤◌, ◌<◌, ℕ, List, [], ◌∷◌, ◌++◌, length, map, Some, None, refl, sym, ap, ◌∙◌, subst, arith}
use Rattle.std.proofs.lemmas.List.{append-nil, get_or-map}
use Rattle.std.proofs.lemmas.List.Elements.{All-from_recursion}
use Rattle.std.specs.Global.{Box}
use Rattle.std.specs.List.{AllByRecursion}
use Rattle.std.specs.Prelude.{slice_index_or}
use Rattle.std.specs.declared.alloc.Global.{Global}
use Rattle.std.specs.declared.vec.Vec.{Vec}
use Rattle.arrow_types.specs.Field.{FieldTree, none, more, TypeShape}
use Rattle.arrow_layout.specs.declared.form.NumberForm.{NumberForm}
use Rattle.arrow_types.specs.declared.field.Encoding.{Encoding}
use Rattle.arrow_data.specs.Column.{Column, AreOf, IsColumn, counts_of, listed_of, plain_column, slots_of}
use Rattle.arrow_layout.specs.Form.{HasFieldsOf, IsLeaf, IsOneField, form_of, list_buffers, node_form}
use Rattle.arrow_layout.specs.Layout.{buffer, list_offsets, HasStrings, HoldsSlots}
use Rattle.arrow_layout.specs.ByteRanges.{bytes_of, IsInside}
use Rattle.arrow_data.specs.Node.{column_by, AreLists, AreStrings, AreStructs, list_range, IsFormat}
use Rattle.arrow_data.specs.Parts.{node_column, node_offsets, value_slot}
use Rattle.arrow_layout.specs.PlainValue.{PlainValue}
use Rattle.arrow_layout.specs.Slots.{AreTexts, slots, entry_slot, int_slot, item_places, list_slot, struct_slot}
use Rattle.arrow_data.specs.declared.buffers.Ints.{Ints}
use Rattle.arrow_data.specs.declared.buffers.Strings.{Strings}
use Rattle.arrow_data.specs.declared.array.Array.{Array}
use Rattle.arrow_data.specs.declared.array.Ranges.TheVariants as ranges
use Rattle.arrow_data.specs.declared.array.Dictionary.{Dictionary}
use Rattle.arrow_layout.specs.declared.byte_range.ByteRange.{ByteRange}
use Rattle.arrow_layout.specs.declared.form.Form.{Form}
use Rattle.arrow_layout.specs.declared.form.Form.TheVariants as forms
use Rattle.arrow_layout.specs.declared.form.ListForm.{ListForm}
use Rattle.arrow_layout.specs.declared.form.ListForm.TheVariants.{Offsets, Fixed}

-- the bytes of a buffer that was read
pub buffer_read : (body : List ℕ) (bs : List ByteRange) (k : ℕ) (d : ByteRange) → k < length bs → buffer (map (bytes_of body) bs) k ≡ bytes_of body (slice_index_or bs k d)
buffer_read body bs k d h = get_or-map (bytes_of body) bs k d [] h

-- it lies inside the body
pub inside_read : (body : List ℕ) (bs : List ByteRange) (k : ℕ) (d : ByteRange) → AllByRecursion (IsInside body) bs → k < length bs → IsInside body (slice_index_or bs k d)
inside_read body bs k d all h = All-from_recursion (IsInside body) bs all k d h

-- a leaf's type has no fields below it
pub leaf_bare : (form : Form) (fields : FieldTree) → IsLeaf form → HasFieldsOf form fields → fields ≡ none
leaf_bare forms.Nulls fields leaf own = own
leaf_bare forms.Bits fields leaf own = own
leaf_bare (forms.Numbers number) fields leaf own = own
leaf_bare (forms.Bytes width) fields leaf own = own
leaf_bare (forms.Texts width) fields leaf own = own
leaf_bare (forms.FixedBytes width) fields leaf own = own
leaf_bare (forms.Lists width) fields leaf own = absurd leaf
leaf_bare forms.Structs fields leaf own = absurd leaf

-- whether a leaf's buffers hold its slots does not depend on children
pub leaf_laid : (form : Form) (len : ℕ) (b : List (List ℕ)) (counts others : List ℕ) → IsLeaf form → HoldsSlots form len b counts → HoldsSlots form len b others
leaf_laid forms.Nulls len b counts others leaf laid = laid
leaf_laid forms.Bits len b counts others leaf laid = laid
leaf_laid (forms.Numbers number) len b counts others leaf laid = laid
leaf_laid (forms.Bytes width) len b counts others leaf laid = laid
leaf_laid (forms.Texts width) len b counts others leaf laid = laid
leaf_laid (forms.FixedBytes width) len b counts others leaf laid = laid
leaf_laid (forms.Lists width) len b counts others leaf laid = absurd leaf
leaf_laid forms.Structs len b counts others leaf laid = absurd leaf

-- arrays of one field are one array
pub one_child : (fields : FieldTree) (cs : List Column) → IsOneField fields → AreOf fields cs → length cs ≡ 1
one_child none cs one h = absurd one
one_child (more head children none) [] one h = absurd h
one_child (more head children none) (a ∷ []) one h = refl
one_child (more head children none) (a ∷ b ∷ cs) one h = absurd h.2
one_child (more head children (more head' children' rest)) cs one h = absurd one

-- the offsets of lists, if they are stored
offsets_read : (w : ListForm) (body : List ℕ) (bs : List ByteRange) → list_buffers w ≤ length bs → list_offsets w (map (bytes_of body) bs) ≡ bytes_of body (list_range w bs)
offsets_read (Offsets width) body bs many = buffer_read body bs 1 (record { start = 0; end = 0 }) (omega (arith, many))
offsets_read (Fixed size) body bs many = refl

-- they lie inside the body
offsets_inside : (w : ListForm) (body : List ℕ) (bs : List ByteRange) → list_buffers w ≤ length bs → AllByRecursion (IsInside body) bs → IsInside body (list_range w bs)
offsets_inside (Offsets width) body bs many inside = inside_read body bs 1 (record { start = 0; end = 0 }) inside (omega (arith, many))
offsets_inside (Fixed size) body bs many inside = (omega arith, omega arith)

-- lists have a buffer
some_buffer : (w : ListForm) → 1 ≤ list_buffers w
some_buffer (Offsets width) = omega arith
some_buffer (Fixed size) = omega arith

-- a node of lists
pub list_lies : (w : ListForm) (t : TypeShape) (len : ℕ) (body : List ℕ) (bs : List ByteRange) (d : ByteRange) (cs : List Column) (child : Column) → form_of t.tag ≡ forms.Lists w → cs ≡ child ∷ [] → AreOf t.children cs → AllByRecursion IsColumn cs
    → list_buffers w ≤ length bs → AllByRecursion (IsInside body) bs → HoldsSlots (form_of t.tag) len (map (bytes_of body) bs) (counts_of cs) → AreLists w len t body (slice_index_or bs 0 d) (list_range w bs) child
list_lies w t len body bs d cs child form one typed known many inside laid =
    let first : 0 < length bs = omega (arith, some_buffer w, many) in
    let here = subst (λ x. HoldsSlots x len (map (bytes_of body) bs) (counts_of cs)) form laid in
    let hers = subst (λ x. HoldsSlots (forms.Lists w) len (map (bytes_of body) bs) (counts_of x)) one here in
    record {
      validity = inside_read body bs 0 d inside first;
      offsets = offsets_inside w body bs many inside;
      laid = rw (← buffer_read body bs 0 d first, ← offsets_read w body bs many) hers;
      typed = subst (AreOf t.children) one typed;
      known = (subst (AllByRecursion IsColumn) one known).0;
    }

-- the column of a node of values, by its form
abbrev values_by : TypeShape → Form → ℕ → List (List ℕ) → List Column → Column
values_by t form len b cs = record {
  data_type = t;
  encoding = None;
  raw = slots len (value_slot form b (map (λ (c : Column). c.raw) cs));
  resolved = slots len (value_slot form b (map (λ (c : Column). c.resolved) cs));
  dictionaries = listed_of cs;
  offsets = node_offsets form len b;
  below = map slots_of cs;
}

-- its ranges and its child represent the same column as its buffers and its child
pub list_same : (w : ListForm) (t : TypeShape) (len : ℕ) (body : List ℕ) (bs : List ByteRange) (d : ByteRange) (cs : List Column) (child : Box Array) → form_of t.tag ≡ forms.Lists w → cs ≡ child.value ∷ [] → list_buffers w ≤ length bs
    → column_by t None len body (ranges.Lists w (slice_index_or bs 0 d) (list_range w bs) child) ≡ node_column t None len (map (bytes_of body) bs) cs []
list_same w t len body bs d cs child form one many =
    let v = buffer_read body bs 0 d (omega (arith, some_buffer w, many)) in
    let o = offsets_read w body bs many in
    let whole : child.value.dictionaries ≡ child.value.dictionaries ++ [] = sym (append-nil child.value.dictionaries) in
    let literal : column_by t None len body (ranges.Lists w (slice_index_or bs 0 d) (list_range w bs) child) ≡ values_by t (forms.Lists w) len (map (bytes_of body) bs) (child.value ∷ []) = λ i. record {
      data_type = t;
      encoding = None;
      raw = slots len (list_slot w (sym v i) (sym o i) child.value.raw);
      resolved = slots len (list_slot w (sym v i) (sym o i) child.value.resolved);
      dictionaries = whole i;
      offsets = item_places w len (sym o i);
      below = slots_of child.value ∷ [];
    } in
    literal ∙ ap (values_by t (forms.Lists w) len (map (bytes_of body) bs)) (sym one) ∙ ap (λ x. values_by t x len (map (bytes_of body) bs) cs) (sym form)

-- a node of structs
pub struct_lies : (t : TypeShape) (len : ℕ) (body : List ℕ) (bs : List ByteRange) (d : ByteRange) (cs : List Column) → form_of t.tag ≡ forms.Structs → AreOf t.children cs → AllByRecursion IsColumn cs
    → 1 ≤ length bs → AllByRecursion (IsInside body) bs → HoldsSlots (form_of t.tag) len (map (bytes_of body) bs) (counts_of cs) → AreStructs len t body (slice_index_or bs 0 d) cs
struct_lies t len body bs d cs form typed known one inside laid =
    let here = subst (λ x. HoldsSlots x len (map (bytes_of body) bs) (counts_of cs)) form laid in
    record {
      validity = inside_read body bs 0 d inside (omega arith);
      laid = rw (← buffer_read body bs 0 d (omega arith)) here;
      typed = typed;
      known = known;
    }

-- its ranges and its children represent the same column as its buffers and its children
pub struct_same : (t : TypeShape) (len : ℕ) (body : List ℕ) (bs : List ByteRange) (d : ByteRange) (children : Vec Array Global) → form_of t.tag ≡ forms.Structs → 1 ≤ length bs
    → column_by t None len body (ranges.Structs (slice_index_or bs 0 d) children) ≡ node_column t None len (map (bytes_of body) bs) children.items []
struct_same t len body bs d children form one =
    let v = buffer_read body bs 0 d (omega arith) in
    let literal : column_by t None len body (ranges.Structs (slice_index_or bs 0 d) children) ≡ values_by t forms.Structs len (map (bytes_of body) bs) children.items = λ i. record {
      data_type = t;
      encoding = None;
      raw = slots len (struct_slot (sym v i) (map (λ (c : Column). c.raw) children.items));
      resolved = slots len (struct_slot (sym v i) (map (λ (c : Column). c.resolved) children.items));
      dictionaries = listed_of children.items;
      offsets = [];
      below = map slots_of children.items;
    } in
    literal ∙ ap (λ x. values_by t x len (map (bytes_of body) bs) children.items) (sym form)

-- the bytes of a range that is that of a buffer
read_as : (body : List ℕ) (bs : List ByteRange) (k : ℕ) (r : ByteRange) → k < length bs → r ≡ slice_index_or bs k r → bytes_of body r ≡ buffer (map (bytes_of body) bs) k
read_as body bs k r h e = ap (bytes_of body) e ∙ sym (buffer_read body bs k r h)

-- it lies inside the body
lies_as : (body : List ℕ) (bs : List ByteRange) (k : ℕ) (r : ByteRange) → AllByRecursion (IsInside body) bs → k < length bs → r ≡ slice_index_or bs k r → IsInside body r
lies_as body bs k r inside h e = subst (IsInside body) (sym e) (inside_read body bs k r inside h)

-- without fields there are no columns, and so no dictionaries
no_children : (fields : FieldTree) (cs : List Column) → fields ≡ none → AreOf fields cs → listed_of cs ≡ []
no_children fields [] leaf h = refl
no_children fields (c ∷ cs) leaf h = absurd (subst (λ f. AreOf f (c ∷ cs)) leaf h)

-- nor any slots of columns
no_slots : (fields : FieldTree) (cs : List Column) → fields ≡ none → AreOf fields cs → map slots_of cs ≡ []
no_slots fields [] leaf h = refl
no_slots fields (c ∷ cs) leaf h = absurd (subst (λ f. AreOf f (c ∷ cs)) leaf h)

-- If a type has no fields below it and its form shows these slots, its node has the column of these slots.
pub leaf_same : (t : TypeShape) (form : Form) (len : ℕ) (b : List (List ℕ)) (cs : List Column) (slot : ℕ → PlainValue) → form_of t.tag ≡ form → t.children ≡ none → AreOf t.children cs
    → node_offsets form len b ≡ [] → ((children : List (List PlainValue)) → slot ≡ value_slot form b children) → plain_column t (slots len (λ j. slot j)) ≡ node_column t None len b cs []
leaf_same t form len b cs slot is leaf typed flat shows =
    let raw = shows (map (λ (c : Column). c.raw) cs) in
    let resolved = shows (map (λ (c : Column). c.resolved) cs) in
    let listed : listed_of cs ≡ [] = no_children t.children cs leaf typed in
    let below : map slots_of cs ≡ [] = no_slots t.children cs leaf typed in
    let literal : plain_column t (slots len (λ j. slot j)) ≡ values_by t form len b cs = λ i. record {
      data_type = t;
      encoding = None;
      raw = slots len (raw i);
      resolved = slots len (resolved i);
      dictionaries = sym listed i;
      offsets = sym flat i;
      below = sym below i;
    } in
    literal ∙ ap (λ x. values_by t x len b cs) (sym is)

module _ (body : List ℕ) (bs : List ByteRange) (s : Strings) (three : 3 ≤ length bs)
    (v : s.validity ≡ slice_index_or bs 0 s.validity) (o : s.offsets ≡ slice_index_or bs 1 s.offsets) (b : s.bytes ≡ slice_index_or bs 2 s.bytes) where
  -- the three ranges of a node of bytes or of texts lie in the body
  pub strings_lie : (len : ℕ) → AllByRecursion (IsInside body) bs
      → HasStrings s.width len (buffer (map (bytes_of body) bs) 0) (buffer (map (bytes_of body) bs) 1) (buffer (map (bytes_of body) bs) 2) → AreStrings len body s
  strings_lie len inside laid = record {
    validity = lies_as body bs 0 s.validity inside (omega (arith, three)) v;
    offsets = lies_as body bs 1 s.offsets inside (omega (arith, three)) o;
    bytes = lies_as body bs 2 s.bytes inside (omega (arith, three)) b;
    laid = rw (read_as body bs 0 s.validity (omega (arith, three)) v, read_as body bs 1 s.offsets (omega (arith, three)) o, read_as body bs 2 s.bytes (omega (arith, three)) b) laid;
  }

  -- texts in the buffers are texts in the ranges
  pub texts_lie : (len : ℕ) → AreTexts s.width len (buffer (map (bytes_of body) bs) 0) (buffer (map (bytes_of body) bs) 1) (buffer (map (bytes_of body) bs) 2)
      → AreTexts s.width len (bytes_of body s.validity) (bytes_of body s.offsets) (bytes_of body s.bytes)
  texts_lie len texts = rw (read_as body bs 0 s.validity (omega (arith, three)) v, read_as body bs 1 s.offsets (omega (arith, three)) o, read_as body bs 2 s.bytes (omega (arith, three)) b) texts

  -- the ranges represent the same slots as the buffers, whether a slot is read as bytes or as a text
  pub strings_same : (slot : List ℕ → List ℕ → List ℕ → ℕ → PlainValue)
      → slot (bytes_of body s.validity) (bytes_of body s.offsets) (bytes_of body s.bytes) ≡ slot (buffer (map (bytes_of body) bs) 0) (buffer (map (bytes_of body) bs) 1) (buffer (map (bytes_of body) bs) 2)
  strings_same slot =
      let first = read_as body bs 0 s.validity (omega (arith, three)) v in
      let second = read_as body bs 1 s.offsets (omega (arith, three)) o in
      let third = read_as body bs 2 s.bytes (omega (arith, three)) b in
      λ i. slot (first i) (second i) (third i)

module _ (body : List ℕ) (bs : List ByteRange) (v w : ByteRange) (two : 2 ≤ length bs) (first : v ≡ slice_index_or bs 0 v) (second : w ≡ slice_index_or bs 1 w) where
  -- two ranges represent the same slot as two buffers
  pub pair_same : (slot : List ℕ → List ℕ → ℕ → PlainValue) → slot (bytes_of body v) (bytes_of body w) ≡ slot (buffer (map (bytes_of body) bs) 0) (buffer (map (bytes_of body) bs) 1)
  pair_same slot =
      let one = read_as body bs 0 v (omega (arith, two)) first in
      let other = read_as body bs 1 w (omega (arith, two)) second in
      λ i. slot (one i) (other i)

-- a node of numbers
pub number_same : (t : TypeShape) (len : ℕ) (body : List ℕ) (bs : List ByteRange) (cs : List Column) (n : Ints) (number : NumberForm) → form_of t.tag ≡ forms.Numbers number → t.children ≡ none → AreOf t.children cs → 2 ≤ length bs
    → IsFormat (forms.Numbers number) n → n.validity ≡ slice_index_or bs 0 n.validity → n.values ≡ slice_index_or bs 1 n.values
    → column_by t None len body (ranges.Ints n) ≡ node_column t None len (map (bytes_of body) bs) cs []
number_same t len body bs cs n number form leaf typed two format v w =
    leaf_same t (forms.Numbers number) len (map (bytes_of body) bs) cs (int_slot n.width n.signed (bytes_of body n.validity) (bytes_of body n.values)) form leaf typed refl
    (λ children. pair_same body bs n.validity n.values two v w (int_slot n.width n.signed) ∙ (λ i. int_slot (format.0 i) (format.1 i) (buffer (map (bytes_of body) bs) 0) (buffer (map (bytes_of body) bs) 1)))

-- a node of indices
pub index_same : (t : TypeShape) (e : Encoding) (len : ℕ) (body : List ℕ) (bs : List ByteRange) (cs : List Column) (n : Ints) (d : Box Dictionary) (values : List PlainValue)
    → IsFormat (node_form t.tag (Some e)) n → n.validity ≡ slice_index_or bs 0 n.validity → n.values ≡ slice_index_or bs 1 n.values → d.value ≡ record { data_type = t; values = values } → 2 ≤ length bs
    → column_by t (Some e) len body (ranges.Indices n d) ≡ node_column t (Some e) len (map (bytes_of body) bs) cs values
index_same t e len body bs cs n d values format v w is two =
    let b = map (bytes_of body) bs in
    let first : bytes_of body n.validity ≡ buffer b 0 = ap (bytes_of body) v ∙ sym (buffer_read body bs 0 n.validity (omega arith)) in
    let second : bytes_of body n.values ≡ buffer b 1 = ap (bytes_of body) w ∙ sym (buffer_read body bs 1 n.values (omega arith)) in
    λ i. record {
      data_type = t;
      encoding = Some e;
      raw = slots len (int_slot (format.0 i) (format.1 i) (first i) (second i));
      resolved = slots len (entry_slot (format.0 i) (format.1 i) (first i) (second i) (is i).values);
      dictionaries = (e.id, is i) ∷ [];
      offsets = [];
      below = [];
    }
