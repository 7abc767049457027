-- The columns of a body as the dictionaries change: the raw values stay, and their values are looked up.
use Rattle.std.proofs.Common.{◌≡◌, ◌+◌, ℕ, ℤ, List, [], ◌∷◌, ◌++◌, map, drop, Option, Some, None, refl, sym, ap, ◌∙◌, subst}
use Rattle.std.specs.List.{AllByRecursion}
use Rattle.std.specs.Prelude.{option_map, ⊤}
use Rattle.arrow_types.specs.Field.{FieldTree, none, more, FieldHeader, TypeShape}
use Rattle.arrow_types.specs.declared.field.Encoding.{Encoding}
use Rattle.arrow_types.specs.declared.node.FieldNode.{FieldNode}
use Rattle.arrow_types.specs.declared.node.Buffer.{Buffer}
use Rattle.arrow_data.specs.Column.{Column, ValueList, AreOf, Agree, IsColumn, listed_of}
use Rattle.arrow_layout.specs.Form.{form_of}
use Rattle.arrow_data.specs.Parts.{node_column, value_slot, values_in}
use Rattle.arrow_layout.specs.PlainValue.{PlainValue, PlainValues, null_value, bool_value, int_value, binary_value, utf8_value, list_value, struct_value, no_values, more_values}
use Rattle.arrow_layout.specs.Resolve.{resolve, resolve_items, resolve_parts, entry_of, before}
use Rattle.arrow_layout.specs.Slots.{slots}
use Rattle.arrow_data.specs.Listed.{ResolvesBy, dictionary_for, values_by}
use Rattle.arrow_body_reader.specs.Sound.{columns_of, if_flattened, own_bytes, slots_at}
use Rattle.arrow_body_reader.specs.Taken.{flattened, own_buffers, taken_buffers, taken_nodes}
use Rattle.arrow_body_laws.specs.Entries.{HaveEntries}
use Rattle.arrow_body_laws.specs.Laws.{raws_of}
use Rattle.arrow_stream_laws.specs.Rows.{resolved_of}

-- RAW VALUES: they do not depend on dictionaries

abbrev raw_of : Column → List PlainValue
raw_of c = c.raw

node_raw : (t : TypeShape) (e : Option Encoding) (len : ℕ) (b : List (List ℕ)) (xs ys : List Column) (us vs : List PlainValue) → raws_of (if_flattened e xs) ≡ raws_of (if_flattened e ys)
    → raw_of (node_column t e len b (if_flattened e xs) us) ≡ raw_of (node_column t e len b (if_flattened e ys) vs)
node_raw t None len b xs ys us vs h = ap (λ rs. slots len (value_slot (form_of t.tag) b rs)) h
node_raw t (Some e) len b xs ys us vs h = refl

below_raw : (e : Option Encoding) (xs ys : List Column) → raws_of xs ≡ raws_of ys → raws_of (if_flattened e xs) ≡ raws_of (if_flattened e ys)
below_raw None xs ys h = h
below_raw (Some e) xs ys h = refl

-- the raw values of the columns are the same with all dictionaries
pub raw_same : (body : List ℕ) (ds es : List (ℤ × ValueList)) (fields : FieldTree) (ns : List FieldNode) (bs : List Buffer)
    → raws_of (columns_of body ds fields ns bs) ≡ raws_of (columns_of body es fields ns bs)
raw_same body ds es none ns bs = refl
raw_same body ds es (more h c rest) ns bs =
    let xs = columns_of body ds c (drop 1 ns) (drop (own_buffers h) bs) in
    let ys = columns_of body es c (drop 1 ns) (drop (own_buffers h) bs) in
    let here = node_raw (record { tag = h.tag; children = c }) h.encoding (slots_at ns) (own_bytes body h bs) xs ys (values_in (dictionary_for ds h.encoding)) (values_in (dictionary_for es h.encoding))
    (below_raw h.encoding xs ys (raw_same body ds es c (drop 1 ns) (drop (own_buffers h) bs))) in
    let others = raw_same body ds es rest (drop (1 + flattened h.encoding (taken_nodes c)) ns) (drop (own_buffers h + flattened h.encoding (taken_buffers c)) bs) in
    λ i. here i ∷ others i

-- RESOLVED VALUES: they depend only on the ids of the fields

abbrev pub EncodingAgrees : (ℤ → List PlainValue) → (ℤ → List PlainValue) → Option Encoding → Type 0
EncodingAgrees d e None = ⊤
EncodingAgrees d e (Some x) = d x.id ≡ e x.id

-- the two have the same lists for the ids of the fields, on every level
abbrev pub AgreeOn : (ℤ → List PlainValue) → (ℤ → List PlainValue) → FieldTree → Type 0
AgreeOn d e none = ⊤
AgreeOn d e (more head children rest) = EncodingAgrees d e head.encoding × AgreeOn d e children × AgreeOn d e rest

mutual
  pub resolve_agrees : (d e : ℤ → List PlainValue) (o : Option Encoding) (c : FieldTree) (v : PlainValue) → EncodingAgrees d e o → AgreeOn d e c → resolve o c d v ≡ resolve o c e v
  resolve_agrees d e None c null_value a b = refl
  resolve_agrees d e (Some x) c null_value a b = refl
  resolve_agrees d e None c (bool_value v) a b = refl
  resolve_agrees d e (Some x) c (bool_value v) a b = refl
  resolve_agrees d e None c (int_value v) a b = refl
  resolve_agrees d e (Some x) c (int_value v) a b = ap (λ vs. entry_of vs v) a
  resolve_agrees d e None c (binary_value v) a b = refl
  resolve_agrees d e (Some x) c (binary_value v) a b = refl
  resolve_agrees d e None c (utf8_value v) a b = refl
  resolve_agrees d e (Some x) c (utf8_value v) a b = refl
  resolve_agrees d e None c (list_value vs) a b = ap (option_map list_value) (items_agree d e c vs b)
  resolve_agrees d e (Some x) c (list_value vs) a b = ap (option_map list_value) (items_agree d e c vs b)
  resolve_agrees d e None c (struct_value vs) a b = ap (option_map struct_value) (parts_agree d e c vs b)
  resolve_agrees d e (Some x) c (struct_value vs) a b = ap (option_map struct_value) (parts_agree d e c vs b)

  items_agree : (d e : ℤ → List PlainValue) (c : FieldTree) (vs : PlainValues) → AgreeOn d e c → resolve_items c d vs ≡ resolve_items c e vs
  items_agree d e none no_values b = refl
  items_agree d e (more h c r) no_values b = refl
  items_agree d e none (more_values v vs) b = refl
  items_agree d e (more h c r) (more_values v vs) b =
      let here = resolve_agrees d e h.encoding c v b.0 b.1 in
      let others = items_agree d e (more h c r) vs b in
      λ i. before (here i) (others i)

  parts_agree : (d e : ℤ → List PlainValue) (c : FieldTree) (vs : PlainValues) → AgreeOn d e c → resolve_parts c d vs ≡ resolve_parts c e vs
  parts_agree d e none no_values b = refl
  parts_agree d e (more h c r) no_values b = refl
  parts_agree d e none (more_values v vs) b = refl
  parts_agree d e (more h c r) (more_values v vs) b =
      let here = resolve_agrees d e h.encoding c v b.0 b.1 in
      let others = parts_agree d e r vs b.2 in
      λ i. before (here i) (others i)

map_agrees : (f g : PlainValue → Option PlainValue) (vs : List PlainValue) → ((v : PlainValue) → f v ≡ g v) → map f vs ≡ map g vs
map_agrees f g [] h = refl
map_agrees f g (v ∷ vs) h = let here = h v in let others = map_agrees f g vs h in λ i. here i ∷ others i

-- equal lists of resolved values are lists of equal values
pub same_somes : (xs ys : List PlainValue) → map Some xs ≡ map Some ys → xs ≡ ys
same_somes [] [] p = refl
same_somes [] (y ∷ ys) p = absurd (cc)
same_somes (x ∷ xs) [] p = absurd (cc)
same_somes (x ∷ xs) (y ∷ ys) p =
    let here : x ≡ y = cc in
    let there : map Some xs ≡ map Some ys = cc in
    let others = same_somes xs ys there in
    λ i. here i ∷ others i

-- the resolved values of a column are its raw values, resolved by these lists
pub record Columnwise (d : ℤ → List PlainValue) (c : Column) : Type 0 where
  pub lies : map (resolve c.encoding c.data_type.children d) c.raw ≡ map Some c.resolved

agree_left : (xs ys : List (ℤ × ValueList)) (d : ℤ → List PlainValue) → Agree (xs ++ ys) d → Agree xs d
agree_left [] ys d h = tt
agree_left (x ∷ xs) ys d h = (h.0, agree_left xs ys d h.1)

agree_right : (xs ys : List (ℤ × ValueList)) (d : ℤ → List PlainValue) → Agree (xs ++ ys) d → Agree ys d
agree_right [] ys d h = h
agree_right (x ∷ xs) ys d h = agree_right xs ys d h.1

pub columns_hold : (d : ℤ → List PlainValue) (cs : List Column) → AllByRecursion IsColumn cs → Agree (listed_of cs) d → AllByRecursion (Columnwise d) cs
columns_hold d [] known agree = tt
columns_hold d (c ∷ cs) known agree =
    (record { lies = known.0.resolves d (agree_left c.dictionaries (listed_of cs) d agree) }, columns_hold d cs known.1 (agree_right c.dictionaries (listed_of cs) d agree))

-- one column of a field: its raw values resolve to the same by other lists that agree on the field
own_resolve : (d e : ℤ → List PlainValue) (h : FieldHeader) (children : FieldTree) (c : Column) → c.data_type ≡ record { tag = h.tag; children = children } → c.encoding ≡ h.encoding
    → EncodingAgrees d e h.encoding → AgreeOn d e children → Columnwise e c → map (resolve h.encoding children d) c.raw ≡ map Some c.resolved
own_resolve d e h children c t o a b s =
    let coded = subst (λ x. map (resolve x c.data_type.children e) c.raw ≡ map Some c.resolved) o s.lies in
    let whole = subst (λ (x : TypeShape). map (resolve h.encoding x.children e) c.raw ≡ map Some c.resolved) t coded in
    map_agrees (resolve h.encoding children d) (resolve h.encoding children e) c.raw (λ v. resolve_agrees d e h.encoding children v a b) ∙ whole

-- the valid indices of columns have their entries in lists that agree with those of the columns
pub have_entries : (d e : ℤ → List PlainValue) (fields : FieldTree) (cs : List Column) → AreOf fields cs → AgreeOn d e fields → AllByRecursion (Columnwise e) cs → HaveEntries d fields (raws_of cs)
have_entries d e none [] typed agree all = tt
have_entries d e none (c ∷ cs) typed agree all = absurd typed
have_entries d e (more h children rest) [] typed agree all = absurd typed
have_entries d e (more h children rest) (c ∷ cs) typed agree all =
    ((c.resolved, own_resolve d e h children c typed.0 typed.1 agree.0 agree.1 all.0), have_entries d e rest cs typed.2 agree.2 all.1)

-- columns of the same fields with the same raw values resolve to the same, by lists that agree
pub resolved_same : (ds : List (ℤ × ValueList)) (e : ℤ → List PlainValue) (fields : FieldTree) (xs cs : List Column) → AreOf fields xs → AreOf fields cs → AgreeOn (values_by ds) e fields
    → AllByRecursion (ResolvesBy ds) xs → AllByRecursion (Columnwise e) cs → raws_of xs ≡ raws_of cs → resolved_of xs ≡ resolved_of cs
resolved_same ds e none [] [] t u a x y r = refl
resolved_same ds e none (x ∷ xs) cs t u a p q r = absurd t
resolved_same ds e none [] (c ∷ cs) t u a p q r = absurd u
resolved_same ds e (more h children rest) [] cs t u a p q r = absurd t
resolved_same ds e (more h children rest) (x ∷ xs) [] t u a p q r = absurd u
resolved_same ds e (more h children rest) (x ∷ xs) (c ∷ cs) t u a p q r =
    let raw : x.raw ≡ c.raw = cc in
    let raws : raws_of xs ≡ raws_of cs = cc in
    let coded = subst (λ o. map (resolve o x.data_type.children (values_by ds)) x.raw ≡ map Some x.resolved) t.1 p.0 in
    let whole = subst (λ (o : TypeShape). map (resolve h.encoding o.children (values_by ds)) x.raw ≡ map Some x.resolved) t.0 coded in
    let other = own_resolve (values_by ds) e h children c u.0 u.1 a.0 a.1 q.0 in
    let here = same_somes x.resolved c.resolved (sym whole ∙ ap (map (resolve h.encoding children (values_by ds))) raw ∙ other) in
    let others = resolved_same ds e rest xs cs t.2 u.2 a.2 p.1 q.1 raws in
    λ i. here i ∷ others i
