-- There is one canonical body for raw values.
use Rattle.std.proofs.Common.{◌≡◌, ℕ, zero, suc, ◌+◌, ◌*◌, ◌<◌, ◌≤◌, false, List, [], ◌∷◌, ◌++◌, length, map, get_or, take, drop, refl, ap, ◌∙◌, sym, subst, arith, length-take, length-drop, if◌then◌else◌}
use Rattle.std.specs.Prelude.{ℤ, pos, Option, None, Some}
use Rattle.std.specs.List.{AllByRecursion, flat_map}
use Rattle.std.proofs.lemmas.List.{append_assoc, append-nil, drop-drop, get_or-drop, length-map, take-append-drop}
use Rattle.std.proofs.Math.Nat.{zero-mod}
use Rattle.arrow_bits.proofs.Reading.{bytes_take}
use Rattle.arrow_types.specs.DataType.{TypeId}
use Rattle.arrow_types.specs.Field.{FieldTree, FieldHeader, none, more, width}
use Rattle.arrow_types.specs.declared.field.Encoding.{Encoding}
use Rattle.arrow_types.specs.declared.node.FieldNode.{FieldNode}
use Rattle.arrow_types.specs.declared.node.Buffer.{Buffer}
use Rattle.arrow_data.specs.Column.{Column, ValueList}
use Rattle.arrow_layout.specs.Form.{form_of, node_form, index_form}
use Rattle.arrow_layout.specs.Layout.{HoldsSlots, buffer}
use Rattle.arrow_layout.specs.ByteRanges.{AreBytes}
use Rattle.arrow_data.specs.Parts.{index_slot, node_column, value_slot, values_in}
use Rattle.arrow_layout.specs.PlainValue.{PlainValue, null_value, value_at}
use Rattle.arrow_layout.specs.Slots.{is_valid_at, or_null, slots}
use Rattle.arrow_layout.specs.declared.form.Form.{Form}
use Rattle.arrow_layout.specs.declared.form.Form.TheVariants as forms
use Rattle.arrow_layout.specs.declared.form.ListForm.TheVariants as lists
use Rattle.arrow_data.proofs.Shown.{at_slots, length_slots}
use Rattle.arrow_data.specs.Listed.{dictionary_for}
use Rattle.arrow_body_reader.specs.Held.{bytes_in, count_of}
use Rattle.arrow_body_reader.specs.Sound.{IsNodeLaid, columns_of, if_flattened, lengths_of, node_at, own_bytes, slots_at}
use Rattle.arrow_body_reader.specs.Taken.{AllNodes, IfFlattened, below, flattened, own_buffers, taken_buffers, taken_nodes}
use Rattle.arrow_body_laws.specs.Laws.{OneBody}
use Rattle.arrow_body_laws.specs.Raws.{AreRaws, IsOwn, raws_below}
use Rattle.arrow_body_laws.specs.Stored.{nulls_in, own_chunks, own_node, padded, places_from, stored_chunks, stored_nodes}
use Rattle.arrow_body_laws.specs.Canonical.{AreAsLong, AreNullSlots, BelowNulls, IsNodeCanonical, IsNullSlot, IsSpare, IsCanonicalLayout, IsCanonicalValidity, null_count_of}
use Rattle.arrow_body_laws.proofs.Joined.{no_elements}
use Rattle.arrow_body_laws.proofs.Kept.{AreNullAt, IsKept, kept_below, kept_chunks}
use Rattle.arrow_body_laws.proofs.Reordered.{are_filled, counted}
use Rattle.arrow_body_laws.proofs.Soundness.{map_append}
use Rattle.arrow_body_laws.proofs.MadeCanonical.{item_below, plain_above, slots_below, canonical_count}
use Rattle.arrow_body_laws.proofs.Walk.{chunks_of_none, head_form, if_all, inner_raws, nodes_of_none}

-- the raw values of columns
abbrev raws_in : List Column → List (List PlainValue)
raws_in cs = map (λ (c : Column). c.raw) cs

-- the values of a node, read by its form
read_by : (tag : TypeId) (e : Option Encoding) (c : FieldTree) (len : ℕ) (b : List (List ℕ)) (cs : List Column) (values vs : List PlainValue)
    → (node_column (record { tag = tag; children = c }) e len b cs values).raw ≡ vs → slots len (value_slot (node_form tag e) b (raws_in cs)) ≡ vs
read_by tag None c len b cs values vs same = same
read_by tag (Some e) c len b cs values vs same = same

-- there are as many values as slots
column_long : (tag : TypeId) (e : Option Encoding) (c : FieldTree) (len : ℕ) (b : List (List ℕ)) (cs : List Column) (values : List PlainValue)
    → length (node_column (record { tag = tag; children = c }) e len b cs values).raw ≡ len
column_long tag None c len b cs values = length_slots len (value_slot (form_of tag) b (raws_in cs))
column_long tag (Some e) c len b cs values = length_slots len (index_slot e b)

-- the same for all columns
lengths_read : (body : List ℕ) (ds : List (ℤ × ValueList)) (fields : FieldTree) (ns : List FieldNode) (bs : List Buffer)
    → lengths_of fields ns ≡ map length (raws_in (columns_of body ds fields ns bs))
lengths_read body ds none ns bs = refl
lengths_read body ds (more h c rest) ns bs =
    let kids = if_flattened h.encoding (columns_of body ds c (drop 1 ns) (drop (own_buffers h) bs)) in
    let first = sym (column_long h.tag h.encoding c (slots_at ns) (own_bytes body h bs) kids (values_in (dictionary_for ds h.encoding))) in
    λ i. first i ∷ lengths_read body ds rest (drop (1 + flattened h.encoding (taken_nodes c)) ns) (drop (own_buffers h + flattened h.encoding (taken_buffers c)) bs) i

-- and for those below a field
lengths_inside : (body : List ℕ) (ds : List (ℤ × ValueList)) (e : Option Encoding) (c : FieldTree) (ns : List FieldNode) (bs : List Buffer)
    → lengths_of (below e c) ns ≡ map length (raws_in (if_flattened e (columns_of body ds c ns bs)))
lengths_inside body ds None c ns bs = lengths_read body ds c ns bs
lengths_inside body ds (Some e) c ns bs = refl

-- there is a column for each field
columns_wide : (body : List ℕ) (ds : List (ℤ × ValueList)) (fields : FieldTree) (ns : List FieldNode) (bs : List Buffer) → length (raws_in (columns_of body ds fields ns bs)) ≡ width fields
columns_wide body ds none ns bs = refl
columns_wide body ds (more h c rest) ns bs =
    omega (arith, columns_wide body ds rest (drop (1 + flattened h.encoding (taken_nodes c)) ns) (drop (own_buffers h + flattened h.encoding (taken_buffers c)) bs))

raws_wide : (fields : FieldTree) (raws : List (List PlainValue)) → AreRaws fields raws → length raws ≡ width fields
raws_wide none [] are = refl
raws_wide none (vs ∷ raws) are = absurd are
raws_wide (more h c rest) [] are = absurd are
raws_wide (more h c rest) (vs ∷ raws) are = omega (arith, raws_wide rest raws are.2)

inside_wide : (body : List ℕ) (ds : List (ℤ × ValueList)) (tag : TypeId) (e : Option Encoding) (c : FieldTree) (vs : List PlainValue) (ns : List FieldNode) (bs : List Buffer)
    → IfFlattened e (AreRaws c (raws_below (node_form tag e) c vs)) → length (raws_in (if_flattened e (columns_of body ds c ns bs))) ≡ length (raws_below (node_form tag e) c vs)
inside_wide body ds tag None c vs ns bs raws = columns_wide body ds c ns bs ∙ sym (raws_wide c (raws_below (node_form tag None) c vs) raws)
inside_wide body ds tag (Some e) c vs ns bs raws = refl

-- the bytes of a buffer are bytes
buffer_small : (body : List ℕ) (bs : List Buffer) (k : ℕ) → AreBytes body → AreBytes (get_or (map (bytes_in body) bs) k [])
buffer_small body [] k small = λ i. omega arith
buffer_small body (b ∷ bs) zero small = bytes_take (count_of b.length) (drop (count_of b.offset) body) (λ i. rw (get_or-drop (count_of b.offset) body i 0) (small (count_of b.offset + i)))
buffer_small body (b ∷ bs) (suc k) small = buffer_small body bs k small

-- a slot that is not valid is null, whatever it holds
hidden_null : (validity : List ℕ) (j : ℕ) (payload : PlainValue) → is_valid_at validity j ≡ false → or_null validity j payload ≡ null_value
hidden_null validity j payload null = ap (λ v. if v then payload else null_value) null

-- a null slot is read as null
null_read : (form : Form) (b : List (List ℕ)) (kids : List (List PlainValue)) (j : ℕ) → IsNullSlot form b j → value_slot form b kids j ≡ null_value
null_read forms.Nulls b kids j null = refl
null_read forms.Bits b kids j null = hidden_null (buffer b 0) j _ null
null_read (forms.Numbers number) b kids j null = hidden_null (buffer b 0) j _ null
null_read (forms.Bytes w) b kids j null = hidden_null (buffer b 0) j _ null
null_read (forms.Texts w) b kids j null = hidden_null (buffer b 0) j _ null
null_read (forms.FixedBytes w) b kids j null = hidden_null (buffer b 0) j _ null
null_read (forms.Lists w) b kids j null = hidden_null (buffer b 0) j _ null
null_read forms.Structs b kids j null = hidden_null (buffer b 0) j _ null

null_column : (tag : TypeId) (e : Option Encoding) (c : FieldTree) (len : ℕ) (b : List (List ℕ)) (cs : List Column) (values : List PlainValue) (j : ℕ) → j < len → IsNullSlot (node_form tag e) b j
    → value_at (node_column (record { tag = tag; children = c }) e len b cs values).raw j ≡ null_value
null_column tag None c len b cs values j h null = at_slots len (value_slot (form_of tag) b (raws_in cs)) j h ∙ null_read (form_of tag) b (raws_in cs) j null
null_column tag (Some e) c len b cs values j h null = at_slots len (index_slot e b) j h ∙ null_read (index_form e) b (raws_in cs) j null

-- the same for all columns
null_columns : (body : List ℕ) (ds : List (ℤ × ValueList)) (j : ℕ) (fields : FieldTree) (ns : List FieldNode) (bs : List Buffer) → AllByRecursion (λ count. j < count) (lengths_of fields ns)
    → AreNullSlots body j fields ns bs → AreNullAt j (raws_in (columns_of body ds fields ns bs))
null_columns body ds j none ns bs long nulls = tt
null_columns body ds j (more h c rest) ns bs long nulls =
    let kids = if_flattened h.encoding (columns_of body ds c (drop 1 ns) (drop (own_buffers h) bs)) in (
      null_column h.tag h.encoding c (slots_at ns) (own_bytes body h bs) kids (values_in (dictionary_for ds h.encoding)) j long.0 nulls.0,
      null_columns body ds j rest (drop (1 + flattened h.encoding (taken_nodes c)) ns) (drop (own_buffers h + flattened h.encoding (taken_buffers c)) bs) long.1 nulls.1,
    )

-- children of equal length have enough slots for those above
slots_enough : (j len : ℕ) (counts : List ℕ) → j < len → AreAsLong len counts → AllByRecursion (λ count. j < count) counts
slots_enough j len [] h long = tt
slots_enough j len (n ∷ counts) h long = (omega (arith, h, long.0), slots_enough j len counts h long.1)

-- a condition below nulls is replaced by another that follows from it
nulls_changed : (form : Form) (len : ℕ) (validity : List ℕ) (P Q : ℕ → Type 0) → ((j : ℕ) → j < slots_below form len → P j → Q j) → BelowNulls form len validity P → BelowNulls form len validity Q
nulls_changed forms.Nulls len validity P Q change hold = tt
nulls_changed forms.Bits len validity P Q change hold = tt
nulls_changed (forms.Numbers number) len validity P Q change hold = tt
nulls_changed (forms.Bytes w) len validity P Q change hold = tt
nulls_changed (forms.Texts w) len validity P Q change hold = tt
nulls_changed (forms.FixedBytes w) len validity P Q change hold = tt
nulls_changed (forms.Lists (lists.Offsets w)) len validity P Q change hold = tt
nulls_changed (forms.Lists (lists.Fixed size)) len validity P Q change hold = λ j h null k small. change (size * j + k) (item_below size j k len h small) (hold j h null k small)
nulls_changed forms.Structs len validity P Q change hold = λ j h null. change j h (hold j h null)

-- the slots below a struct or a fixed-size list
slots_there : (form : Form) (len j : ℕ) (b : List (List ℕ)) (counts : List ℕ) → j < slots_below form len → IsCanonicalLayout form len b counts → AllByRecursion (λ count. j < count) counts
slots_there forms.Nulls len j b counts h layout = absurd (omega (arith, h))
slots_there forms.Bits len j b counts h layout = absurd (omega (arith, h))
slots_there (forms.Numbers number) len j b counts h layout = absurd (omega (arith, h))
slots_there (forms.Bytes w) len j b counts h layout = absurd (omega (arith, h))
slots_there (forms.Texts w) len j b counts h layout = absurd (omega (arith, h))
slots_there (forms.FixedBytes w) len j b counts h layout = absurd (omega (arith, h))
slots_there (forms.Lists (lists.Offsets w)) len j b counts h layout = absurd (omega (arith, h))
slots_there (forms.Lists (lists.Fixed size)) len j b counts h layout = slots_enough j (size * len) counts h layout
slots_there forms.Structs len j b counts h layout = slots_enough j len counts h layout

-- the columns below a field without an encoding
columns_inside : (e : Option Encoding) (cs : List Column) → e ≡ None → if_flattened e cs ≡ cs
columns_inside None cs plain = refl
columns_inside (Some e) cs plain = cc

-- the raw values of the columns below a field
abbrev inside_raws : List ℕ → List (ℤ × ValueList) → FieldHeader → FieldTree → List FieldNode → List Buffer → List (List PlainValue)
inside_raws body ds h c ns bs = raws_in (if_flattened h.encoding (columns_of body ds c (drop 1 ns) (drop (own_buffers h) bs)))

-- nulls below the nulls of a struct or of a fixed-size list are read as null
hidden_kept : (body : List ℕ) (ds : List (ℤ × ValueList)) (h : FieldHeader) (c : FieldTree) (ns : List FieldNode) (bs : List Buffer) → IsNodeCanonical body h c ns bs
    → BelowNulls (head_form h) (slots_at ns) (buffer (own_bytes body h bs) 0) (λ j. AreNullAt j (inside_raws body ds h c ns bs))
hidden_kept body ds h c ns bs canonical =
    let form = head_form h in
    let kids = columns_of body ds c (drop 1 ns) (drop (own_buffers h) bs) in
    nulls_changed form (slots_at ns) (buffer (own_bytes body h bs) 0) (λ j. AreNullSlots body j c (drop 1 ns) (drop (own_buffers h) bs)) (λ j. AreNullAt j (inside_raws body ds h c ns bs))
    (λ j there nulls.
    let plain = plain_above h.tag h.encoding (slots_at ns) j there in
    let counts : lengths_of (below h.encoding c) (drop 1 ns) ≡ lengths_of c (drop 1 ns) = ap (λ e. lengths_of (below e c) (drop 1 ns)) plain in
    let long = slots_there form (slots_at ns) j (own_bytes body h bs) (lengths_of (below h.encoding c) (drop 1 ns)) there canonical.layout in
    subst (λ cs. AreNullAt j (raws_in cs)) (sym (columns_inside h.encoding kids plain))
    (null_columns body ds j c (drop 1 ns) (drop (own_buffers h) bs) (subst (AllByRecursion (λ count. j < count)) counts long) nulls))
    canonical.hidden

-- The properties of a field, its own node and buffers, and the nodes and buffers below it.
pub record IsRead (body : List ℕ) (ds : List (ℤ × ValueList)) (h : FieldHeader) (c : FieldTree) (vs : List PlainValue) (ns : List FieldNode) (bs : List Buffer) : Type 0 where
  pub small : AreBytes body
  pub canonical : IsNodeCanonical body h c ns bs
  pub laid : IsNodeLaid body h c ns bs
  pub there : own_buffers h ≤ length bs
  pub below_raw : IfFlattened h.encoding (AreRaws c (inner_raws h c vs))
  pub raw : (node_column (record { tag = h.tag; children = c }) h.encoding (slots_at ns) (own_bytes body h bs)
      (if_flattened h.encoding (columns_of body ds c (drop 1 ns) (drop (own_buffers h) bs))) (values_in (dictionary_for ds h.encoding))).raw ≡ vs

-- there are as many slots as values
values_long : (body : List ℕ) (ds : List (ℤ × ValueList)) (h : FieldHeader) (c : FieldTree) (vs : List PlainValue) (ns : List FieldNode) (bs : List Buffer) → IsRead body ds h c vs ns bs → slots_at ns ≡ length vs
values_long body ds h c vs ns bs r =
    let kids = if_flattened h.encoding (columns_of body ds c (drop 1 ns) (drop (own_buffers h) bs)) in
    sym (column_long h.tag h.encoding c (slots_at ns) (own_bytes body h bs) kids (values_in (dictionary_for ds h.encoding))) ∙ ap length r.raw

-- its own node is kept
pub is_kept : (body : List ℕ) (ds : List (ℤ × ValueList)) (h : FieldHeader) (c : FieldTree) (vs : List PlainValue) (ns : List FieldNode) (bs : List Buffer) → IsRead body ds h c vs ns bs
    → IsKept (head_form h) c vs (own_bytes body h bs) (inside_raws body ds h c ns bs)
is_kept body ds h c vs ns bs r =
    let form = head_form h in
    let b = own_bytes body h bs in
    let kids = if_flattened h.encoding (columns_of body ds c (drop 1 ns) (drop (own_buffers h) bs)) in
    let inside = inside_raws body ds h c ns bs in
    let long = values_long body ds h c vs ns bs r in
    let counts = lengths_inside body ds h.encoding c (drop 1 ns) (drop (own_buffers h) bs) in
    record {
      read = subst (λ n. slots n (value_slot form b inside) ≡ vs) long (read_by h.tag h.encoding c (slots_at ns) b kids (values_in (dictionary_for ds h.encoding)) vs r.raw);
      many = length-map (take (own_buffers h) bs) (bytes_in body) ∙ omega (arith, length-take (own_buffers h) bs, r.there);
      small = λ k. buffer_small body (take (own_buffers h) bs) k r.small;
      validity = subst (λ n. IsCanonicalValidity n (buffer b 0)) long r.canonical.validity;
      spare = subst (λ n. IsSpare n (buffer b 0)) long r.canonical.spare;
      layout = subst (λ n. IsCanonicalLayout form n b (map length inside)) long (subst (IsCanonicalLayout form (slots_at ns) b) counts r.canonical.layout);
      laid = subst (λ n. HoldsSlots form n b (map length inside)) long (subst (HoldsSlots form (slots_at ns) b) counts r.laid.laid);
      hidden = subst (λ n. BelowNulls form n (buffer b 0) (λ j. AreNullAt j inside)) long (hidden_kept body ds h c ns bs r.canonical);
      long = inside_wide body ds h.tag h.encoding c vs (drop 1 ns) (drop (own_buffers h) bs) r.below_raw;
    }

-- its own node is the stored one
node_again : (body : List ℕ) (ds : List (ℤ × ValueList)) (h : FieldHeader) (c : FieldTree) (vs : List PlainValue) (ns : List FieldNode) (bs : List Buffer) → IsRead body ds h c vs ns bs
    → AllByRecursion (IsOwn (head_form h) c) vs → own_bytes body h bs ≡ own_chunks (head_form h) vs → node_at ns ≡ own_node vs
node_again body ds h c vs ns bs r own bytes =
    let form = head_form h in
    let long = values_long body ds h c vs ns bs r in
    let nulls : (node_at ns).null_count ≡ pos (nulls_in vs) =
    r.canonical.counted ∙ (λ i. pos (null_count_of form (long i) (buffer (bytes i) 0))) ∙ ap pos (sym (canonical_count form c vs own)) in
    let slots_reported : (node_at ns).length ≡ pos (length vs) = counted (node_at ns).length r.laid.sign ∙ ap pos long in
    λ i. record { length = slots_reported i; null_count = nulls i }

-- The nodes and the buffers of the fields are the stored ones, followed by others.
pub record AreAgain (body : List ℕ) (fields : FieldTree) (raws : List (List PlainValue)) (ns : List FieldNode) (bs : List Buffer) : Type 0 where
  pub nodes : ns ≡ stored_nodes fields raws ++ drop (taken_nodes fields) ns
  pub chunks : map (bytes_in body) bs ≡ stored_chunks fields raws ++ map (bytes_in body) (drop (taken_buffers fields) bs)

-- The same below a field.
record InsideAgain (body : List ℕ) (e : Option Encoding) (c : FieldTree) (inner : List (List PlainValue)) (ns : List FieldNode) (bs : List Buffer) : Type 0 where
  nodes : ns ≡ stored_nodes c inner ++ drop (flattened e (taken_nodes c)) ns
  chunks : map (bytes_in body) bs ≡ stored_chunks c inner ++ map (bytes_in body) (drop (flattened e (taken_buffers c)) bs)

inside_again : (body : List ℕ) (tag : TypeId) (e : Option Encoding) (c : FieldTree) (vs : List PlainValue) (ns : List FieldNode) (bs : List Buffer)
    → (e ≡ None → AreAgain body c (raws_below (node_form tag e) c vs) ns bs) → InsideAgain body e c (raws_below (node_form tag e) c vs) ns bs
inside_again body tag None c vs ns bs again = let a = again refl in record { nodes = a.nodes; chunks = a.chunks }
inside_again body tag (Some e) c vs ns bs again = record {
  nodes = ap (λ xs. xs ++ ns) (sym (nodes_of_none c));
  chunks = ap (λ xs. xs ++ map (bytes_in body) bs) (sym (chunks_of_none c));
}

-- a list with an element is its first element and those after it
first_and_rest : (ns : List FieldNode) → 1 ≤ length ns → ns ≡ node_at ns ∷ drop 1 ns
first_and_rest [] there = absurd (omega (arith, there))
first_and_rest (n ∷ ns) there = refl

-- a list of a field's own elements, those below it, and those after it
joined : {A : Type 0} (whole own inner later tail mid end : List A) → whole ≡ own ++ mid → mid ≡ inner ++ end → end ≡ later ++ tail → whole ≡ (own ++ (inner ++ later)) ++ tail
joined whole own inner later tail mid end first second third =
    first ∙ ap (λ xs. own ++ xs) (second ∙ ap (λ xs. inner ++ xs) third ∙ sym (append_assoc inner later tail)) ∙ sym (append_assoc own (inner ++ later) tail)

-- the buffers of a field, and those after them
chunks_split : (body : List ℕ) (n : ℕ) (bs : List Buffer) → map (bytes_in body) bs ≡ map (bytes_in body) (take n bs) ++ map (bytes_in body) (drop n bs)
chunks_split body n bs = ap (map (bytes_in body)) (sym (take-append-drop n bs)) ∙ map_append (bytes_in body) (take n bs) (drop n bs)

-- all nodes and buffers are the stored ones
pub are_again : (body : List ℕ) (ds : List (ℤ × ValueList)) (fields : FieldTree) (raws : List (List PlainValue)) (ns : List FieldNode) (bs : List Buffer) → AreBytes body → AreRaws fields raws
    → taken_nodes fields ≤ length ns → taken_buffers fields ≤ length bs → AllNodes (IsNodeCanonical body) fields ns bs → AllNodes (IsNodeLaid body) fields ns bs
    → raws_in (columns_of body ds fields ns bs) ≡ raws → AreAgain body fields raws ns bs
are_again body ds none [] ns bs small are nodes buffers canonical laid same = record { nodes = refl; chunks = refl }
are_again body ds none (vs ∷ raws) ns bs small are nodes buffers canonical laid same = absurd are
are_again body ds (more h c rest) [] ns bs small are nodes buffers canonical laid same = absurd are
are_again body ds (more h c rest) (vs ∷ raws) ns bs small are nodes buffers canonical laid same =
    let e = h.encoding in
    let n = own_buffers h in
    let ns_inside = drop 1 ns in
    let bs_inside = drop n bs in
    let ns_after = drop (1 + flattened e (taken_nodes c)) ns in
    let bs_after = drop (n + flattened e (taken_buffers c)) bs in
    let kids = columns_of body ds c ns_inside bs_inside in
    let first : (node_column (record { tag = h.tag; children = c }) e (slots_at ns) (own_bytes body h bs) (if_flattened e kids) (values_in (dictionary_for ds e))).raw ≡ vs = cc in
    let others : raws_in (columns_of body ds rest ns_after bs_after) ≡ raws = cc in
    let r : IsRead body ds h c vs ns bs = record { small = small; canonical = canonical.0; laid = laid.0; there = omega (arith, buffers); below_raw = are.1; raw = first } in
    let kept = is_kept body ds h c vs ns bs r in
    let bytes = kept_chunks (head_form h) c vs (own_bytes body h bs) (inside_raws body ds h c ns bs) kept in
    let inner_same = kept_below (head_form h) c vs (own_bytes body h bs) (inside_raws body ds h c ns bs) kept in
    let inside = inside_again body h.tag e c vs ns_inside bs_inside
    (λ plain.
    let taken : flattened e (taken_nodes c) ≡ taken_nodes c = ap (λ x. flattened x (taken_nodes c)) plain in
    let taken_chunks : flattened e (taken_buffers c) ≡ taken_buffers c = ap (λ x. flattened x (taken_buffers c)) plain in
    are_again body ds c (inner_raws h c vs) ns_inside bs_inside small (if_all e (AreRaws c (inner_raws h c vs)) are.1 plain)
    (omega (arith, nodes, taken, length-drop 1 ns)) (omega (arith, buffers, taken_chunks, length-drop n bs))
    (if_all e (AllNodes (IsNodeCanonical body) c ns_inside bs_inside) canonical.1 plain)
    (if_all e (AllNodes (IsNodeLaid body) c ns_inside bs_inside) laid.1 plain)
    (ap raws_in (sym (columns_inside e kids plain)) ∙ inner_same)) in
    let after = are_again body ds rest raws ns_after bs_after small are.2
    (omega (arith, nodes, length-drop (1 + flattened e (taken_nodes c)) ns)) (omega (arith, buffers, length-drop (n + flattened e (taken_buffers c)) bs)) canonical.2 laid.2 others in
    let node = node_again body ds h c vs ns bs r are.0 bytes in
    record {
      nodes = joined ns (own_node vs ∷ []) (stored_nodes c (inner_raws h c vs)) (stored_nodes rest raws) (drop (taken_nodes (more h c rest)) ns) ns_inside ns_after
          (first_and_rest ns (omega (arith, nodes)) ∙ ap (λ x. x ∷ ns_inside) node)
          (inside.nodes ∙ ap (λ xs. stored_nodes c (inner_raws h c vs) ++ xs) (drop-drop (flattened e (taken_nodes c)) 1 ns))
          (after.nodes ∙ ap (λ xs. stored_nodes rest raws ++ xs) (drop-drop (taken_nodes rest) (1 + flattened e (taken_nodes c)) ns));
      chunks = joined (map (bytes_in body) bs) (own_chunks (head_form h) vs) (stored_chunks c (inner_raws h c vs)) (stored_chunks rest raws)
          (map (bytes_in body) (drop (taken_buffers (more h c rest)) bs)) (map (bytes_in body) bs_inside) (map (bytes_in body) bs_after)
          (chunks_split body n bs ∙ ap (λ xs. xs ++ map (bytes_in body) bs_inside) bytes)
          (inside.chunks ∙ ap (λ xs. stored_chunks c (inner_raws h c vs) ++ map (bytes_in body) xs) (drop-drop (flattened e (taken_buffers c)) n bs))
          (after.chunks ∙ ap (λ xs. stored_chunks rest raws ++ map (bytes_in body) xs) (drop-drop (taken_buffers rest) (n + flattened e (taken_buffers c)) bs));
    }

-- nothing is left of a list if as many elements are dropped as it has
all_passed : {A : Type 0} (n : ℕ) (xs : List A) → length xs ≡ n → drop n xs ≡ []
all_passed n xs long = no_elements (drop n xs) (omega (arith, length-drop n xs, long))

-- there is one canonical body for raw values
pub one_canonical_body : OneBody
one_canonical_body = λ align ds fields raws b some are small canonical laid same.
    let again = are_again b.bytes ds fields raws b.nodes b.buffers small are (omega (arith, canonical.just_nodes)) (omega (arith, canonical.just_buffers)) canonical.nodes_canonical laid same in
    let filled = are_filled align b.bytes 0 b.buffers some (zero-mod align) canonical.ordered in
    let nodes : b.nodes ≡ stored_nodes fields raws =
    again.nodes ∙ ap (λ xs. stored_nodes fields raws ++ xs) (all_passed (taken_nodes fields) b.nodes canonical.just_nodes) ∙ append-nil (stored_nodes fields raws) in
    let chunks : map (bytes_in b.bytes) b.buffers ≡ stored_chunks fields raws =
    again.chunks ∙ ap (λ xs. stored_chunks fields raws ++ map (bytes_in b.bytes) xs) (all_passed (taken_buffers fields) b.buffers canonical.just_buffers) ∙ append-nil (stored_chunks fields raws) in
    let places = filled.places ∙ ap (places_from align 0) chunks in
    let bytes = filled.bytes ∙ ap (flat_map (padded align)) chunks in
    λ i. record { nodes = nodes i; buffers = places i; bytes = bytes i }
