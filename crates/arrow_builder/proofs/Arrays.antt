-- The array of a node.
use Rattle.std.proofs.Common.{rules, ◌≡◌, ◌||◌, ℕ, zero, suc, ℤ, ◌+◌, ◌<◌, ◌≤◌, Bool, true, false, List, [], ◌∷◌, ◌++◌, length, map, take, get_or, Option, None, Some, if◌then◌else◌, refl, ap, sym, ◌∙◌, subst, arith, length-take}
use Rattle.std.specs.Prelude.{⊤, is_some, IsUtf8}
use Rattle.std.specs.List.{AllByRecursion, range_with_len}
use Rattle.std.proofs.lemmas.Bool.{false≢true, or_parts}
use Rattle.std.proofs.lemmas.List.{length-map, map-append, take-take}
use Rattle.arrow_types.specs.DataType.{TypeId}
use Rattle.arrow_types.specs.Field.{FieldTree, FieldShape, FieldHeader, none, more, levels}
use Rattle.arrow_types.specs.Schema.{DictionaryField, dictionary_fields, dictionary_of, field_dictionaries, has_encoding}
use Rattle.arrow_types.specs.View.{field_view, type_view}
use Rattle.arrow_types.specs.declared.field.Encoding.{Encoding}
use Rattle.arrow_types.specs.declared.field.Field.{Field, the_lemmas}
use Rattle.arrow_data.specs.Column.{Agree, Column, ValueList, AreOf, counts_of, listed_of, slots_of}
use Rattle.arrow_layout.specs.Fits.{Fits}
use Rattle.arrow_layout.specs.Form.{HasFieldsOf, form_of, node_form}
use Rattle.arrow_layout.specs.Layout.{HoldsTexts, buffer, child_count, list_offsets}
use Rattle.arrow_layout.specs.Layout.{IsIndexed as HasIndices}
use Rattle.arrow_data.specs.Parts.{AreChildren, IsOfType, node_column, node_offsets, type_of, value_slot, values_in}
use Rattle.arrow_layout.specs.PlainValue.{PlainValue, null_value, struct_value, utf8_value, values_of}
use Rattle.arrow_layout.specs.Slots.{is_valid_at, item_place, item_places, list_slot, or_null, range_of, slots}
use Rattle.arrow_layout.specs.declared.form.Form.{Form}
use Rattle.arrow_layout.specs.declared.form.Form.TheVariants as forms
use Rattle.arrow_layout.specs.declared.form.ListForm.{ListForm}
use Rattle.arrow_layout.specs.declared.form.ListForm.TheVariants as lists
use Rattle.arrow_data.proofs.Shown.{length_slots}
use Rattle.arrow_data.specs.Listed.{dictionary_for, values_by}
use Rattle.arrow_builder.specs.Buffers.{buffers_in}
use Rattle.arrow_builder.specs.Built.{Built, AreBelow, HaveSlots, built_size, counts_in, cut_to, fields_in, raws_in}
use Rattle.arrow_builder.specs.Columns.{AreHeld, all_items, child_column, child_columns, item_offsets}
use Rattle.arrow_builder.specs.Fields.{FitsField, field_form}
use Rattle.arrow_builder.specs.Finished.{AreArraysOf, AreTyped, IsArrayOf, IsIndexed, IsTyped, dictionary_by, fields_below}
use Rattle.arrow_builder.specs.Kept.{CountsItems, Keeps, KeepsLists}
use Rattle.arrow_builder.specs.Nodes.{IsNode, built_of, slot_in}
use Rattle.arrow_builder.specs.Puts.{StaySlots}
use Rattle.arrow_builder.specs.declared.node.Node.TheInside.{Inside}
use Rattle.arrow_builder.proofs.Below.{node_held, numbers_indexed, numbers_slots, slots_have}
use Rattle.arrow_builder.proofs.Growing.{all_take, keeps_fewer, same_from, slots_stay, take_slots}
use Rattle.arrow_builder.proofs.Listed.{lists_stay, only_child}
use Rattle.arrow_builder.proofs.Nested.{cut_twice, row_by_cut}
use Rattle.arrow_builder.proofs.Typing.{all_append}

-- the type of a field
pub field_type : (f : Field) → type_view f.data_type ≡ type_of (field_view f)
field_type f = search (rules, the_lemmas)

-- and its encoding
pub field_encoding : (f : Field) → f.dictionary ≡ (field_view f).head.encoding
field_encoding f = search (rules, the_lemmas)

-- how many slots of each child the first `len` slots of a node cover
abbrev pub Shows : Form → ℕ → ℕ → List (List ℕ) → Type 0
Shows forms.Nulls n len b = ⊤
Shows forms.Bits n len b = ⊤
Shows (forms.Numbers number) n len b = ⊤
Shows (forms.Bytes width) n len b = ⊤
Shows (forms.Texts width) n len b = ⊤
Shows (forms.FixedBytes width) n len b = ⊤
Shows (forms.Lists list) n len b = n ≡ item_place list (list_offsets list b) len
Shows forms.Structs n len b = n ≡ len

shows_by : (form : Form) (n len most : ℕ) (b : List (List ℕ)) (raw : List PlainValue) → CountsItems form most b raw → len ≤ most → length raw ≡ most
    → ((k : ℕ) → n ≡ length (child_column form k (take len raw))) → Shows form n len b
shows_by forms.Nulls n len most b raw counts le long shown = tt
shows_by forms.Bits n len most b raw counts le long shown = tt
shows_by (forms.Numbers number) n len most b raw counts le long shown = tt
shows_by (forms.Bytes width) n len most b raw counts le long shown = tt
shows_by (forms.Texts width) n len most b raw counts le long shown = tt
shows_by (forms.FixedBytes width) n len most b raw counts le long shown = tt
shows_by (forms.Lists list) n len most b raw counts le long shown = shown 0 ∙ sym (counts len le)
shows_by forms.Structs n len most b raw counts le long shown = grind (arith, shown 0, length-map, length-take, le, long)

-- a node covers that many slots of its children
node_shows : (a : Inside) (len n : ℕ) → IsNode a → len ≤ a.len → ((k : ℕ) → n ≡ length (child_column (field_form (field_view a.field)) k (take len (built_of a).raw)))
    → Shows (field_form (field_view a.field)) n len (buffers_in a.buffers)
node_shows a len n ok le shown = shows_by (field_form (field_view a.field)) n len a.len (buffers_in a.buffers) (built_of a).raw ok.counted le (length_slots a.len (slot_in a)) shown

-- cutting the columns to n slots leaves each with n slots
counts_cut : (n : ℕ) (bs : List Built) → HaveSlots n bs → counts_in (map (cut_to n) bs) ≡ map (λ (b : Built). n) bs
counts_cut n [] h = refl
counts_cut n (b ∷ bs) h = let long : length (take n b.raw) ≡ n = grind (arith, length-take, h.0) in λ i. long i ∷ counts_cut n bs h.1 i

-- cutting twice is the same as cutting once
cut_all : (n : ℕ) (bs : List Built) → map (cut_to n) (map (cut_to n) bs) ≡ map (cut_to n) bs
cut_all n [] = refl
cut_all n (b ∷ bs) = λ i. cut_twice n b i ∷ cut_all n bs i

fields_cut : (n : ℕ) (bs : List Built) → fields_in (map (cut_to n) bs) ≡ fields_in bs
fields_cut n [] = refl
fields_cut n (b ∷ bs) = ap (more b.field.head b.field.children) (fields_cut n bs)

-- what the first slots keep if the children have exactly as many slots as these cover
all_long : (len n : ℕ) (bs : List Built) → n ≡ len → AllByRecursion (λ count. len ≤ count) (map (λ (b : Built). n) bs)
all_long len n [] same = tt
all_long len n (b ∷ bs) same = (omega (arith, same), all_long len n bs same)

shown_count : (list : ListForm) (len top n : ℕ) (validity offsets : List ℕ) → KeepsLists list len top validity offsets → n ≡ item_place list offsets len → KeepsLists list len n validity offsets
shown_count (lists.Offsets width) len top n validity offsets kept shows = record { ranges = kept.ranges; inside = omega (arith, shows) }
shown_count (lists.Fixed size) len top n validity offsets kept shows = record { bits = kept.bits; inside = omega (arith, shows) }

one_count : (list : ListForm) (len n : ℕ) (validity offsets : List ℕ) (bs : List Built) → KeepsLists list len (child_count (counts_in bs)) validity offsets → 1 ≤ length bs
    → n ≡ item_place list offsets len → KeepsLists list len (child_count (map (λ (b : Built). n) bs)) validity offsets
one_count list len n validity offsets [] kept one shows = absurd (omega (arith, one))
one_count list len n validity offsets (c ∷ bs) kept one shows = shown_count list len (length c.raw) n validity offsets kept shows

-- lists have a child
abbrev HasChild : Form → List Built → Type 0
HasChild forms.Nulls bs = ⊤
HasChild forms.Bits bs = ⊤
HasChild (forms.Numbers number) bs = ⊤
HasChild (forms.Bytes width) bs = ⊤
HasChild (forms.Texts width) bs = ⊤
HasChild (forms.FixedBytes width) bs = ⊤
HasChild (forms.Lists list) bs = (c : Built) × (bs ≡ c ∷ [])
HasChild forms.Structs bs = ⊤

child_there : (form : Form) (tag : TypeId) (e : Option Encoding) (fields : FieldTree) (bs : List Built) → node_form tag e ≡ form → HasFieldsOf (form_of tag) fields → AreBelow e fields bs → HasChild form bs
child_there forms.Nulls tag e fields bs is own below = tt
child_there forms.Bits tag e fields bs is own below = tt
child_there (forms.Numbers number) tag e fields bs is own below = tt
child_there (forms.Bytes width) tag e fields bs is own below = tt
child_there (forms.Texts width) tag e fields bs is own below = tt
child_there (forms.FixedBytes width) tag e fields bs is own below = tt
child_there (forms.Lists list) tag e fields bs is own below = let o = only_child tag e fields bs list is own below in (o.child, o.only)
child_there forms.Structs tag e fields bs is own below = tt

keeps_shown : (form : Form) (len n : ℕ) (b : List (List ℕ)) (bs : List Built) → Keeps form len b (counts_in bs) → Shows form n len b → HasChild form bs
    → Keeps form len b (map (λ (c : Built). n) bs)
keeps_shown forms.Nulls len n b bs kept shows has = kept
keeps_shown forms.Bits len n b bs kept shows has = kept
keeps_shown (forms.Numbers number) len n b bs kept shows has = kept
keeps_shown (forms.Bytes width) len n b bs kept shows has = kept
keeps_shown (forms.Texts width) len n b bs kept shows has = kept
keeps_shown (forms.FixedBytes width) len n b bs kept shows has = kept
keeps_shown (forms.Lists list) len n b bs kept shows has = one_count list len n (buffer b 0) (list_offsets list b) bs kept (omega (arith, ap (λ cs. length cs) has.1)) shows
keeps_shown forms.Structs len n b bs kept shows has = record { bits = kept.bits; longer = all_long len n bs shows }

-- the slots of a node are the same if its children are cut to the slots that it covers
shown_stay : (form : Form) (len n : ℕ) (b : List (List ℕ)) (bs : List Built) → Keeps form len b (counts_in bs) → Shows form n len b → HasChild form bs
    → StaySlots len (value_slot form b (raws_in bs)) (value_slot form b (raws_in (map (cut_to n) bs)))
shown_stay forms.Nulls len n b bs kept shows has = λ j h. refl
shown_stay forms.Bits len n b bs kept shows has = λ j h. refl
shown_stay (forms.Numbers number) len n b bs kept shows has = λ j h. refl
shown_stay (forms.Bytes width) len n b bs kept shows has = λ j h. refl
shown_stay (forms.Texts width) len n b bs kept shows has = λ j h. refl
shown_stay (forms.FixedBytes width) len n b bs kept shows has = λ j h. refl
shown_stay (forms.Lists list) len n b bs kept shows has =
    let o = list_offsets list b in
    let start : take (item_place list o len) (take n has.0.raw) ≡ take (item_place list o len) has.0.raw = take-take (item_place list o len) n has.0.raw (omega (arith, shows)) in
    subst (λ cs. StaySlots len (λ j. list_slot list (buffer b 0) o (get_or (raws_in cs) 0 []) j) (λ j. list_slot list (buffer b 0) o (get_or (raws_in (map (cut_to n) cs)) 0 []) j)) (sym has.1)
    (lists_stay list len (child_count (counts_in bs)) (buffer b 0) (buffer b 0) o o has.0.raw (take n has.0.raw) kept (λ j h. refl) (λ j h. refl) start)
shown_stay forms.Structs len n b bs kept shows has = λ j h.
    ap (λ row. or_null (buffer b 0) j (struct_value (values_of row))) (row_by_cut len j (map (cut_to n) bs) bs (subst (λ m. map (cut_to m) (map (cut_to n) bs) ≡ map (cut_to m) bs) shows (cut_all n bs)) h)

-- the texts of a node whose values fit it are valid texts
texts_by : (form : Form) (fields : FieldTree) (len : ℕ) (b : List (List ℕ)) (children : List (List PlainValue)) → AllByRecursion (Fits form fields) (slots len (value_slot form b children)) → HoldsTexts form len b
texts_by forms.Nulls fields len b children fit = tt
texts_by forms.Bits fields len b children fit = tt
texts_by (forms.Numbers number) fields len b children fit = tt
texts_by (forms.Bytes width) fields len b children fit = tt
texts_by (forms.Texts width) fields len b children fit = λ j h valid.
    text_of (is_valid_at (buffer b 0) j) (range_of width (buffer b 1) (buffer b 2) j) valid (slots_have (Fits (forms.Texts width) fields) len (value_slot (forms.Texts width) b children) fit j h)
  where
    text_of : (valid : Bool) (bytes : List ℕ) → valid ≡ true → Fits (forms.Texts width) fields (if valid then utf8_value bytes else null_value) → IsUtf8 bytes
    text_of true bytes v h = h
    text_of false bytes v h = absurd (false≢true v)
texts_by (forms.FixedBytes width) fields len b children fit = tt
texts_by (forms.Lists list) fields len b children fit = tt
texts_by forms.Structs fields len b children fit = tt

-- arrays have the types of their columns
arrays_typed : (ds : List (ℤ × ValueList)) (bs : List Built) (cs : List Column) → AreArraysOf ds bs cs → AreOf (fields_in bs) cs
arrays_typed ds [] [] are = tt
arrays_typed ds [] (c ∷ cs) are = absurd are
arrays_typed ds (b ∷ bs) [] are = absurd are
arrays_typed ds (b ∷ bs) (c ∷ cs) are = (are.0.typed, are.0.encoded, arrays_typed ds bs cs are.1)

-- and their raw values
arrays_raws : (ds : List (ℤ × ValueList)) (bs : List Built) (cs : List Column) → AreArraysOf ds bs cs → map (λ (c : Column). c.raw) cs ≡ raws_in bs
arrays_raws ds [] [] are = refl
arrays_raws ds [] (c ∷ cs) are = absurd are
arrays_raws ds (b ∷ bs) [] are = absurd are
arrays_raws ds (b ∷ bs) (c ∷ cs) are = λ i. are.0.same i ∷ arrays_raws ds bs cs are.1 i

arrays_counts : (ds : List (ℤ × ValueList)) (bs : List Built) (cs : List Column) → AreArraysOf ds bs cs → counts_of cs ≡ counts_in bs
arrays_counts ds [] [] are = refl
arrays_counts ds [] (c ∷ cs) are = absurd are
arrays_counts ds (b ∷ bs) [] are = absurd are
arrays_counts ds (b ∷ bs) (c ∷ cs) are = λ i. length (are.0.same i) ∷ arrays_counts ds bs cs are.1 i

-- and their dictionaries
arrays_listed : (ds : List (ℤ × ValueList)) (bs : List Built) (cs : List Column) → AreArraysOf ds bs cs → listed_of cs ≡ map (dictionary_by ds) (dictionary_fields (fields_in bs))
arrays_listed ds [] [] are = refl
arrays_listed ds [] (c ∷ cs) are = absurd are
arrays_listed ds (b ∷ bs) [] are = absurd are
arrays_listed ds (b ∷ bs) (c ∷ cs) are =
    (λ i. are.0.listed i ++ arrays_listed ds bs cs are.1 i) ∙ sym (map-append (dictionary_by ds) (field_dictionaries b.field) (dictionary_fields (fields_in bs)))

-- one more array
pub arrays_more : (ds : List (ℤ × ValueList)) (bs : List Built) (cs : List Column) (b : Built) (c : Column) → AreArraysOf ds bs cs → IsArrayOf ds b c → AreArraysOf ds (bs ++ b ∷ []) (cs ++ c ∷ [])
arrays_more ds [] [] b c are is = (is, tt)
arrays_more ds [] (x ∷ cs) b c are is = absurd are
arrays_more ds (x ∷ bs) [] b c are is = absurd are
arrays_more ds (x ∷ bs) (y ∷ cs) b c are is = (are.0, arrays_more ds bs cs b c are.1 is)

-- the columns up to the next one
pub cut_next : (n : ℕ) (bs : List Built) (i : ℕ) (d : Built) → i < length bs → map (cut_to n) (take (i + 1) bs) ≡ map (cut_to n) (take i bs) ++ cut_to n (get_or bs i d) ∷ []
cut_next n [] i d h = absurd (omega (arith, h))
cut_next n (b ∷ bs) zero d h = refl
cut_next n (b ∷ bs) (suc i) d h =
    let next : suc i + 1 ≡ suc (i + 1) = omega arith in
    ap (λ m. map (cut_to n) (take m (b ∷ bs))) next ∙ ap (λ cs. cut_to n b ∷ cs) (cut_next n bs i d (omega (arith, h)))

-- fields without an encoding on any level have no dictionaries
head_plain : (head : FieldHeader) (children : FieldTree) (e : Option Encoding) → head.encoding ≡ e → is_some e ≡ false → dictionary_of head children ≡ []
head_plain head children None is h = rw is refl
head_plain head children (Some e) is h = absurd (false≢true (sym h))

none_listed : (fields : FieldTree) → has_encoding fields ≡ false → dictionary_fields fields ≡ []
none_listed none h = refl
none_listed (more head children rest) h =
    let others = or_parts (is_some head.encoding || has_encoding children) (has_encoding rest) h in
    let own = or_parts (is_some head.encoding) (has_encoding children) others.0 in
    λ i. head_plain head children head.encoding refl own.0 i ++ none_listed children own.1 i ++ none_listed rest others.1 i

-- the dictionaries of a field with an encoding, and of one without
encoded_says : (f : FieldShape) (e : Encoding) → f.head.encoding ≡ Some e → has_encoding f.children ≡ false → field_dictionaries f ≡ record { id = e.id; value_type = type_of f } ∷ []
encoded_says f e is flat = rw (is, none_listed f.children flat) refl

plain_says : (f : FieldShape) → f.head.encoding ≡ None → field_dictionaries f ≡ dictionary_fields f.children
plain_says f is = ap (λ ds. ds ++ dictionary_fields f.children) (head_plain f.head f.children None is refl)

-- the fields and columns below a field, by its encoding
below_plain : (a : Inside) → IsNode a → (field_view a.field).head.encoding ≡ None → fields_in a.children.items ≡ (field_view a.field).children
below_plain a ok is = subst (λ e. AreBelow e (field_view a.field).children a.children.items) is ok.below

below_encoded : (a : Inside) (e : Encoding) → IsNode a → (field_view a.field).head.encoding ≡ Some e → has_encoding (field_view a.field).children ≡ false
below_encoded a e ok is = (subst (λ e. AreBelow e (field_view a.field).children a.children.items) is ok.below).0

-- where the items of each list begin
places_each : (list : ListForm) (len : ℕ) (offsets : List ℕ) → item_places list len offsets ≡ map (item_place list offsets) (range_with_len 0 (len + 1))
places_each (lists.Offsets width) len offsets = refl
places_each (lists.Fixed size) len offsets = refl

-- the offsets of a node are those that its lists determine
offsets_made : (form : Form) (len most : ℕ) (b : List (List ℕ)) (raw : List PlainValue) → CountsItems form most b raw → len ≤ most → length raw ≡ most
    → node_offsets form len b ≡ item_offsets form (take len raw)
offsets_made forms.Nulls len most b raw counts le long = refl
offsets_made forms.Bits len most b raw counts le long = refl
offsets_made (forms.Numbers number) len most b raw counts le long = refl
offsets_made (forms.Bytes width) len most b raw counts le long = refl
offsets_made (forms.Texts width) len most b raw counts le long = refl
offsets_made (forms.FixedBytes width) len most b raw counts le long = refl
offsets_made (forms.Lists list) len most b raw counts le long =
    let o = list_offsets list b in
    let count : length (take len raw) ≡ len = grind (arith, length-take, le, long) in
    let each : (j : ℕ) → j < 0 + (len + 1) → item_place list o j ≡ length (all_items list (take j (take len raw))) =
    λ j h. counts j (omega (arith, le, h)) ∙ ap (λ vs. length (all_items list vs)) (sym (take-take j len raw (omega (arith, h)))) in
    places_each list len o ∙ same_from (item_place list o) (λ j. length (all_items list (take j (take len raw)))) 0 (len + 1) each
    ∙ ap (λ m. map (λ j. length (all_items list (take j (take len raw)))) (range_with_len 0 (m + 1))) (sym count)
offsets_made forms.Structs len most b raw counts le long = refl

-- the raw slots of columns are their raw values
raws_shown : (cs : List Column) → map (λ (slots : List PlainValue × List PlainValue). slots.0) (map slots_of cs) ≡ map (λ (c : Column). c.raw) cs
raws_shown [] = refl
raws_shown (c ∷ cs) = ap (λ vs. c.raw ∷ vs) (raws_shown cs)

-- children that are cut to the covered slots are the columns that the values determine
columns_made : (form : Form) (k n : ℕ) (raw : List PlainValue) (bs : List Built) → ((j : ℕ) → n ≡ length (child_column form j raw)) → AreHeld form k raw bs
    → raws_in (map (cut_to n) bs) ≡ child_columns form (fields_in bs) k raw
columns_made form k n raw [] long held = refl
columns_made form k n raw (b ∷ bs) long held =
    let own : take n b.raw ≡ child_column form k raw = ap (λ m. take m b.raw) (long k) ∙ held.0 in
    λ i. own i ∷ columns_made form (k + 1) n raw bs long held.1 i

-- the array of the first slots of a node
array_made : (ds : List (ℤ × ValueList)) (a : Inside) (len n : ℕ) (cs : List Column) (e : Option Encoding) → (field_view a.field).head.encoding ≡ e → len ≤ a.len → IsNode a
    → ((k : ℕ) → n ≡ length (child_column (field_form (field_view a.field)) k (take len (built_of a).raw))) → AreArraysOf ds (map (cut_to n) a.children.items) cs
    → IsArrayOf ds (cut_to len (built_of a)) (node_column (type_of (field_view a.field)) e len (buffers_in a.buffers) cs (values_in (dictionary_for ds e)))
array_made ds a len n cs None is le ok long are =
    let f = field_view a.field in
    let b = buffers_in a.buffers in
    let form = field_form f in
    let plain : form ≡ form_of f.head.tag = ap (node_form f.head.tag) is in
    let kept = keeps_fewer form len a.len b (counts_in a.children.items) le ok.kept in
    let stay = shown_stay form len n b a.children.items kept (node_shows a len n ok le long) (child_there form f.head.tag f.head.encoding f.children a.children.items refl ok.own ok.below) in
    let raws = arrays_raws ds (map (cut_to n) a.children.items) cs are in
    record {
      typed = refl;
      encoded = sym is;
      same = (λ i. slots len (value_slot (sym plain i) b (raws i))) ∙ slots_stay len (slot_in a) (value_slot form b (raws_in (map (cut_to n) a.children.items))) stay ∙ sym (take_slots (slot_in a) a.len len le);
      listed = arrays_listed ds (map (cut_to n) a.children.items) cs are ∙ ap (λ fs. map (dictionary_by ds) (dictionary_fields fs)) (fields_cut n a.children.items ∙ below_plain a ok is) ∙ ap (map (dictionary_by ds)) (sym (plain_says f is));
      offsets = ap (λ x. node_offsets x len b) (sym plain) ∙ offsets_made form len a.len b (built_of a).raw ok.counted le (length_slots a.len (slot_in a));
      below = raws_shown cs ∙ raws ∙ columns_made form 0 n (take len (built_of a).raw) a.children.items long (node_held a len ok)
          ∙ ap (λ fs. child_columns form fs 0 (take len (built_of a).raw)) (below_plain a ok is ∙ ap (λ x. fields_below x f.children) (sym is));
    }
array_made ds a len n cs (Some e) is le ok long are = record {
  typed = refl;
  encoded = sym is;
  same = sym (numbers_slots a e len is le);
  listed = ap (map (dictionary_by ds)) (sym (encoded_says (field_view a.field) e is (below_encoded a e ok is)));
  offsets = sym (ap (λ x. item_offsets (node_form (field_view a.field).head.tag x) (take len (built_of a).raw)) is);
  below = sym (ap (λ x. child_columns (field_form (field_view a.field)) (fields_below x (field_view a.field).children) 0 (take len (built_of a).raw)) is);
}

-- the same by the field itself
pub array_of_node : (ds : List (ℤ × ValueList)) (a : Inside) (len n : ℕ) (cs : List Column) (values : Option ValueList) → len ≤ a.len → IsNode a
    → ((k : ℕ) → n ≡ length (child_column (field_form (field_view a.field)) k (take len (built_of a).raw))) → AreArraysOf ds (map (cut_to n) a.children.items) cs
    → values ≡ dictionary_for ds a.field.dictionary
    → IsArrayOf ds (cut_to len (built_of a)) (node_column (type_view a.field.data_type) a.field.dictionary len (buffers_in a.buffers) cs (values_in values))
array_of_node ds a len n cs values le ok long are found =
    subst (IsArrayOf ds (cut_to len (built_of a)))
    (λ i. node_column (sym (field_type a.field) i) (sym (field_encoding a.field) i) len (buffers_in a.buffers) cs (values_in ((ap (dictionary_for ds) (sym (field_encoding a.field)) ∙ sym found) i)))
    (array_made ds a len n cs (field_view a.field).head.encoding refl le ok long are)

-- its children are those of its type
children_by : (ds : List (ℤ × ValueList)) (a : Inside) (n : ℕ) (cs : List Column) (e : Option Encoding) → (field_view a.field).head.encoding ≡ e → IsNode a
    → AreArraysOf ds (map (cut_to n) a.children.items) cs → AreChildren (type_of (field_view a.field)) e cs
children_by ds a n cs None is ok are = subst (λ fs. AreOf fs cs) (fields_cut n a.children.items ∙ below_plain a ok is) (arrays_typed ds (map (cut_to n) a.children.items) cs are)
children_by ds a n cs (Some e) is ok are = below_encoded a e ok is

pub node_children : (ds : List (ℤ × ValueList)) (a : Inside) (n : ℕ) (cs : List Column) → IsNode a → AreArraysOf ds (map (cut_to n) a.children.items) cs
    → AreChildren (type_view a.field.data_type) a.field.dictionary cs
node_children ds a n cs ok are =
    subst (λ t. AreChildren t a.field.dictionary cs) (sym (field_type a.field)) (subst (λ e. AreChildren (type_of (field_view a.field)) e cs) (sym (field_encoding a.field)) (children_by ds a n cs (field_view a.field).head.encoding refl ok are))

-- its dictionary has its type
typed_by : (ds : List (ℤ × ValueList)) (f : FieldShape) (e : Option Encoding) → f.head.encoding ≡ e → AreTyped ds f → IsOfType (type_of f) (dictionary_for ds e)
typed_by ds f None is typed = tt
typed_by ds f (Some e) is typed =
    let own = (all_append (IsTyped ds) (dictionary_of f.head f.children) (dictionary_fields f.children)).0 typed in
    (subst (AllByRecursion (IsTyped ds)) (says f.head f.children e is) own.0).0
  where
    says : (head : FieldHeader) (children : FieldTree) (e : Encoding) → head.encoding ≡ Some e → dictionary_of head children ≡ record { id = e.id; value_type = record { tag = head.tag; children = children } } ∷ []
    says head children e is = rw is refl

pub node_typed : (ds : List (ℤ × ValueList)) (a : Inside) (values : Option ValueList) → AreTyped ds (field_view a.field) → values ≡ dictionary_for ds a.field.dictionary → IsOfType (type_view a.field.data_type) values
node_typed ds a values typed found =
    subst (λ t. IsOfType t values) (sym (field_type a.field)) (subst (IsOfType (type_of (field_view a.field))) (ap (dictionary_for ds) (sym (field_encoding a.field)) ∙ sym found) (typed_by ds (field_view a.field) (field_view a.field).head.encoding refl typed))

-- the form by the field itself
pub form_is : (f : Field) → field_form (field_view f) ≡ node_form (type_view f.data_type).tag f.dictionary
form_is f = λ i. node_form (sym (field_type f) i).tag (sym (field_encoding f) i)

-- its buffers keep its first slots
pub node_keeps : (ds : List (ℤ × ValueList)) (a : Inside) (len n : ℕ) (cs : List Column) → len ≤ a.len → IsNode a
    → ((k : ℕ) → n ≡ length (child_column (field_form (field_view a.field)) k (take len (built_of a).raw))) → HaveSlots n a.children.items → AreArraysOf ds (map (cut_to n) a.children.items) cs
    → Keeps (node_form (type_view a.field.data_type).tag a.field.dictionary) len (buffers_in a.buffers) (counts_of cs)
node_keeps ds a len n cs le ok long there are =
    let f = field_view a.field in
    let form = field_form f in
    let kept = keeps_fewer form len a.len (buffers_in a.buffers) (counts_in a.children.items) le ok.kept in
    let shown = keeps_shown form len n (buffers_in a.buffers) a.children.items kept (node_shows a len n ok le long) (child_there form f.head.tag f.head.encoding f.children a.children.items refl ok.own ok.below) in
    let counts : map (λ (c : Built). n) a.children.items ≡ counts_of cs = sym (counts_cut n a.children.items there) ∙ sym (arrays_counts ds (map (cut_to n) a.children.items) cs are) in
    subst (λ x. Keeps x len (buffers_in a.buffers) (counts_of cs)) (form_is a.field) (subst (Keeps form len (buffers_in a.buffers)) counts shown)

-- its first texts are texts
pub node_texts : (a : Inside) (len : ℕ) → len ≤ a.len → IsNode a → HoldsTexts (node_form (type_view a.field.data_type).tag a.field.dictionary) len (buffers_in a.buffers)
node_texts a len le ok =
    let f = field_view a.field in
    let fits : AllByRecursion (FitsField f) (slots len (slot_in a)) = subst (AllByRecursion (FitsField f)) (take_slots (slot_in a) a.len len le) (all_take (FitsField f) len (built_of a).raw ok.fits) in
    subst (λ x. HoldsTexts x len (buffers_in a.buffers)) (form_is a.field) (texts_by (field_form f) f.children len (buffers_in a.buffers) (raws_in a.children.items) fits)

-- its first indices have their values
indices_by : (ds : List (ℤ × ValueList)) (a : Inside) (len : ℕ) (e : Option Encoding) → (field_view a.field).head.encoding ≡ e → len ≤ a.len → IsIndexed ds (field_view a.field).head (take len (built_of a).raw)
    → HasIndices e len (buffers_in a.buffers) (values_in (dictionary_for ds e))
indices_by ds a len None is le indexed = tt
indices_by ds a len (Some e) is le indexed = (numbers_indexed ds a e len is le).1 indexed

pub node_indices : (ds : List (ℤ × ValueList)) (a : Inside) (len : ℕ) (values : Option ValueList) → len ≤ a.len → IsIndexed ds (field_view a.field).head (take len (built_of a).raw)
    → values ≡ dictionary_for ds a.field.dictionary → HasIndices a.field.dictionary len (buffers_in a.buffers) (values_in values)
node_indices ds a len values le indexed found =
    subst (λ vs. HasIndices a.field.dictionary len (buffers_in a.buffers) (values_in vs)) (sym found)
    (subst (λ e. HasIndices e len (buffers_in a.buffers) (values_in (dictionary_for ds e))) (sym (field_encoding a.field)) (indices_by ds a len (field_view a.field).head.encoding refl le indexed))

-- the dictionaries of a node's children have the types of their fields
below_typed : (ds : List (ℤ × ValueList)) (bs : List Built) → AllByRecursion (IsTyped ds) (dictionary_fields (fields_in bs)) → AllByRecursion (λ (b : Built). AreTyped ds b.field) bs
below_typed ds [] h = tt
below_typed ds (b ∷ bs) h =
    let both = (all_append (IsTyped ds) (field_dictionaries b.field) (dictionary_fields (fields_in bs))).0 h in
    (both.0, below_typed ds bs both.1)

typed_below : (ds : List (ℤ × ValueList)) (fields : FieldTree) (e : Option Encoding) (bs : List Built) → AreBelow e fields bs → AllByRecursion (IsTyped ds) (dictionary_fields fields) → AllByRecursion (λ (b : Built). AreTyped ds b.field) bs
typed_below ds fields None bs below h = below_typed ds bs (subst (λ fs. AllByRecursion (IsTyped ds) (dictionary_fields fs)) (sym below) h)
typed_below ds fields (Some e) bs below h = subst (AllByRecursion (λ (b : Built). AreTyped ds b.field)) (sym below.1) tt

pub children_typed : (ds : List (ℤ × ValueList)) (a : Inside) → IsNode a → AreTyped ds (field_view a.field) → AllByRecursion (λ (b : Built). AreTyped ds b.field) a.children.items
children_typed ds a ok typed =
    let f = field_view a.field in
    typed_below ds f.children f.head.encoding a.children.items ok.below ((all_append (IsTyped ds) (dictionary_of f.head f.children) (dictionary_fields f.children)).0 typed).1

-- the children of a node are fewer levels deep
below_less : (bs : List Built) (fields : FieldTree) (e : Option Encoding) → AreBelow e fields bs → levels (fields_in bs) ≤ levels fields
below_less bs fields None below = omega (arith, ap levels below)
below_less bs fields (Some e) below = omega (arith, ap (λ cs. levels (fields_in cs)) below.1)

pub children_less : (a : Inside) → IsNode a → levels (fields_in a.children.items) ≤ built_size (built_of a)
children_less a ok = below_less a.children.items (field_view a.field).children (field_view a.field).head.encoding ok.below

-- the listed dictionaries have the values that are listed for their ids
pub agrees : (ds : List (ℤ × ValueList)) (fields : List DictionaryField) → Agree (map (dictionary_by ds) fields) (values_by ds)
agrees ds [] = tt
agrees ds (d ∷ fields) = (refl, agrees ds fields)

-- one of the columns
pub one_of : (P : Built → Type 0) (bs : List Built) (i : ℕ) (d : Built) → i < length bs → AllByRecursion P bs → P (get_or bs i d)
one_of P [] i d h all = absurd (omega (arith, h))
one_of P (b ∷ bs) zero d h all = all.0
one_of P (b ∷ bs) (suc i) d h all = one_of P bs i d (omega (arith, h)) all.1
