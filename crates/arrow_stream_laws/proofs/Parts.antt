-- A writer sends complete messages, one after another: the frames.
use Rattle.std.proofs.Common.{◌≡◌, ℕ, ℤ, pos, ◌+◌, ◌^◌, ◌≤◌, ◌&&◌, List, [], ◌∷◌, ◌++◌, length, take, drop, map, refl, sym, ap, ◌∙◌, subst, arith, Bool, true, false, cond, ltb, leb, length-append, Option, Some, None, Ok, is_some}
use Rattle.std.specs.Prelude.{not, ◌||◌, nat_le, ⊤}
use Rattle.std.specs.List.{list_all, list_any}
use Rattle.std.specs.Coded.{coded_list}
use Rattle.std.proofs.lemmas.List.{take_all}
use Rattle.std.proofs.lemmas.Bool.{le-ltb, leb-true, or_parts}
use Rattle.arrow_types.specs.Equality.{is_equal, is_equal_decides}
use Rattle.std.specs.Option.{unwrap_or}
use Rattle.arrow_types.specs.DataType.{null}
use Rattle.arrow_types.specs.Field.{FieldTree, none, more, TypeShape}
use Rattle.arrow_types.specs.Limits.{LimitNumbers}
use Rattle.arrow_types.specs.Notes.{SchemaShape}
use Rattle.arrow_types.specs.Schema.{IsNoted, dictionary_fields, has_encoding}
use Rattle.arrow_types.specs.Stored.{schema_code}
use Rattle.arrow_types.specs.declared.field.Encoding.{Encoding}
use Rattle.arrow_types.specs.declared.node.FieldNode.{FieldNode}
use Rattle.arrow_types.specs.declared.node.Buffer.{Buffer}
use Rattle.arrow_data.specs.Batch.{Table}
use Rattle.arrow_data.specs.Column.{ValueList, Agree, listed_of}
use Rattle.arrow_layout.specs.Layout.{IsIndexed}
use Rattle.arrow_data.specs.Listed.{listed, dictionary_for}
use Rattle.arrow_layout.specs.PlainValue.{PlainValue}
use Rattle.arrow_layout.specs.Stored.{value_code}
use Rattle.arrow_body_reader.specs.Held.{count_of}
use Rattle.arrow_body_reader.specs.Sound.{AreIndexed, columns_of, own_bytes, slots_at}
use Rattle.arrow_body_reader.specs.Taken.{IfFlattened, flattened, own_buffers, taken_buffers, taken_nodes}
use Rattle.arrow_data.specs.Parts.{values_in}
use Rattle.arrow_dict.specs.Dictionaries.{placed}
use Rattle.arrow_dict.specs.ValueTypes.{value_type_of}
use Rattle.arrow_meta_reader.specs.Means.{PlainBatch, PlainHeader, dictionary}
use Rattle.arrow_stream_reader.specs.declared.kind.Rejection.TheVariants.{UnknownId, NoBase, Rows}
use Rattle.arrow_stream_reader.specs.Batch.{columns, base_of, field_of_type, has_bad_length, is_bad_length, with_values}
use Rattle.arrow_stream_reader.specs.Frame.{is_out_of_order, state_refusal, BodySays, dictionary_comes, First, whole}
use Rattle.arrow_stream_reader.specs.State.{StreamState, Given, dictionary_given}
use Rattle.arrow_stream_reader.proofs.Fitness.{values_flat}
use Rattle.arrow_stream_reader.proofs.Whole.{frame_whole}
use Rattle.arrow_sink.specs.declared.write_fault.WriteFault.{WriteFault}
use Rattle.arrow_sink.specs.declared.write_fault.WriteFault.TheVariants.{SchemaDiffers, TooLarge, DictionariesDiffer}
use Rattle.arrow_body_laws.specs.Size.{size_of}
use Rattle.arrow_stream_laws.specs.Sizes.{Options, batch_size, dictionary_size, offsets_fit, slots_in}
use Rattle.arrow_stream_reader.specs.Batch.{IsLayout}
use Rattle.arrow_dict.specs.Choice.{same_list}
use Rattle.arrow_body_laws.specs.Laws.{raws_of}
use Rattle.arrow_stream_laws.specs.Rows.{list_of, has_one_list}
use Rattle.arrow_stream_laws.specs.Built.{IsBuilt}
use Rattle.arrow_stream_laws.specs.Plan.{Sending, plan, with_list, with_lists, value_type}
use Rattle.arrow_stream_laws.specs.Admission.{admission, fields_for, frame_fits, sending_fits, part_fits, part_size, sending_size, sendings_size}
use Rattle.arrow_stream_reader.specs.Tables.{table_in}
use Rattle.arrow_stream_laws.specs.Frames.{Frame, frames_bytes, left_by, IsFrameOf}
use Rattle.arrow_stream_laws.proofs.Chains.{Chain}
use Rattle.arrow_stream_laws.specs.Text.{state_of, IsUpdate, AreUpdates}
use Rattle.arrow_stream_laws.proofs.Lists.{IsChosen, AreChosen}

-- TESTS

both : (a b : Bool) → (a && b) ≡ true → (a ≡ true) × (b ≡ true)
both true true e = (refl, refl)
both true false e = absurd (cc)
both false b e = absurd (cc)

refused : (a : Bool) (k : WriteFault) (o : Option WriteFault) → cond (not a) (Some k) o ≡ None → (a ≡ true) × (o ≡ None)
refused true k o e = (refl, e)
refused false k o e = absurd (cc)

-- the limits that a frame that fits keeps to
pub record FrameFits (l : LimitNumbers) (z : ℕ) (metadata : ℕ) (fields : FieldTree) (raws : List (List PlainValue)) (rows : ℕ) : Type 0 where
  pub metadata_fits : metadata ≤ l.max_metadata
  pub body_fits : size_of z fields raws ≤ l.max_body
  pub rows_fit : rows ≤ l.max_rows
  pub slots_fit : list_all (λ n. nat_le n l.max_rows) (slots_in fields raws) ≡ true

pub frame_fits_so : (l : LimitNumbers) (z : ℕ) (metadata : ℕ) (fields : FieldTree) (raws : List (List PlainValue)) (rows : ℕ) → frame_fits l z metadata fields raws rows ≡ true → FrameFits l z metadata fields raws rows
frame_fits_so l z metadata fields raws rows e =
    let t1 = leb metadata l.max_metadata in
    let t2 = leb (size_of z fields raws) l.max_body in
    let t3 = leb rows l.max_rows in
    let t4 = list_all (λ n. leb n l.max_rows) (slots_in fields raws) in
    let w = both (t1 && t2 && t3 && t4) (offsets_fit fields raws) e in
    let x = both (t1 && t2 && t3) t4 w.0 in
    let y = both (t1 && t2) t3 x.0 in
    let q = both t1 t2 y.0 in
    record {
      metadata_fits = leb-true metadata l.max_metadata q.0;
      body_fits = leb-true (size_of z fields raws) l.max_body q.1;
      rows_fit = leb-true rows l.max_rows y.1;
      slots_fit = x.1;
    }

-- the conditions that an accepted batch meets
pub record PartFits (l : LimitNumbers) (o : Options) (shape : SchemaShape) (ds : List (ℤ × ValueList)) (place : ℕ) (t : Table) : Type 0 where
  pub same_schema : t.schema ≡ shape
  pub one_list : Agree (listed_of t.columns) (list_of t)
  pub updates_fit : list_all (sending_fits l o.align shape.fields) (plan o.updates shape.fields ds t) ≡ true
  pub record_fits : FrameFits l o.align (batch_size o.align shape.fields) shape.fields (raws_of t.columns) t.rows
  pub near : place + part_size o shape.fields ds t ≤ 2 ^ 62

agree_so : (lists : ℤ → List PlainValue) (es : List (ℤ × ValueList)) → list_all (λ (d : ℤ × ValueList). same_list (lists d.0) d.1.values) es ≡ true → Agree es lists
agree_so lists [] e = tt
agree_so lists (d ∷ es) e =
    let w = both (same_list (lists d.0) d.1.values) (list_all (λ (d : ℤ × ValueList). same_list (lists d.0) d.1.values) es) e in
    ((is_equal_decides (coded_list value_code) (lists d.0) d.1.values).0 w.0, agree_so lists es w.1)

pub part_fits_so : (l : LimitNumbers) (o : Options) (shape : SchemaShape) (ds : List (ℤ × ValueList)) (place : ℕ) (t : Table) → admission l o shape ds place t ≡ None → PartFits l o shape ds place t
part_fits_so l o shape ds place t e =
    let w = refused (is_equal schema_code t.schema shape) SchemaDiffers _ e in
    let x = refused (has_one_list t) DictionariesDiffer _ w.1 in
    let y = refused (part_fits l o shape.fields ds place t) TooLarge None x.1 in
    let t1 = list_all (sending_fits l o.align shape.fields) (plan o.updates shape.fields ds t) in
    let t2 = frame_fits l o.align (batch_size o.align shape.fields) shape.fields (raws_of t.columns) t.rows in
    let u = both (t1 && t2) (leb (place + part_size o shape.fields ds t) (2 ^ 62)) y.0 in
    let v = both t1 t2 u.0 in
    record {
      same_schema = (is_equal_decides schema_code t.schema shape).0 w.0;
      one_list = agree_so (list_of t) (listed_of t.columns) x.0;
      updates_fit = v.0;
      record_fits = frame_fits_so l o.align (batch_size o.align shape.fields) shape.fields (raws_of t.columns) t.rows v.1;
      near = leb-true (place + part_size o shape.fields ds t) (2 ^ 62) u.1;
    }

-- ONE FRAME

pub frame_length : {l : LimitNumbers} {size : ℕ} {content : PlainHeader} {body b : List ℕ} → IsFrameOf l size content body b → length b ≡ 8 + size + length body
frame_length {body = body} f =
    ap length f.bytes ∙ omega (arith, length-append (f.prefix ++ f.metadata) body, length-append f.prefix f.metadata, f.eight, f.sized)

-- a frame that the limits and the state allow is one complete message
pub frame_first : (l : LimitNumbers) (s : StreamState) (p size : ℕ) (content : PlainHeader) (body b : List ℕ) (s' : StreamState) (g : Given) → IsFrameOf l size content body b
    → size ≤ l.max_metadata → p + length b ≤ 2 ^ 62 → is_out_of_order (is_some s.schema) content ≡ false → state_refusal l.max_rows s content ≡ None
    → BodySays s content body (Ok (s', g)) → First l s p b (whole (length b) s' g)
frame_first l s p size content body b s' g f small near order free says =
    frame_whole l s p size content f.prefix f.metadata body b s' g f.eight f.continued f.number f.sized f.some f.bytes (_, f.means, refl) small near order free says

-- what is built has the layout that a reader needs
pub layout_of : {align : ℕ} {fields : FieldTree} {raws : List (List PlainValue)} {rows : ℕ} {record_batch : PlainBatch} {body : List ℕ} → IsBuilt align fields raws rows record_batch body → IsLayout body fields record_batch
layout_of x = record { there = (omega (arith, x.columns.just_nodes), omega (arith, x.columns.just_buffers)); laid = x.columns.laid; long = x.level }

-- NOT TOO MANY ROWS

slot_good : (max s : ℕ) (z : ℤ) → z ≡ pos s → leb s max ≡ true → is_bad_length max z ≡ false
slot_good max s z e h = ap (is_bad_length max) e ∙ le-ltb max s (leb-true s max h)

neither : (a b : Bool) → a ≡ false → b ≡ false → (a || b) ≡ false
neither a b e f = ap (λ x. x || b) e ∙ f

slots_good : (max : ℕ) (ns : List FieldNode) (ss : List ℕ) → map (λ (n : FieldNode). n.length) ns ≡ map pos ss → list_all (λ n. nat_le n max) ss ≡ true
    → list_any (λ (n : FieldNode). is_bad_length max n.length) ns ≡ false
slots_good max [] ss e h = refl
slots_good max (n ∷ ns) [] e h = absurd (cc)
slots_good max (n ∷ ns) (s ∷ ss) e h =
    let w = both (leb s max) (list_all (λ n. leb n max) ss) h in
    let here : n.length ≡ pos s = cc in
    let there : map (λ (n : FieldNode). n.length) ns ≡ map pos ss = cc in
    neither (is_bad_length max n.length) (list_any (λ (n : FieldNode). is_bad_length max n.length) ns) (slot_good max s n.length here w.0) (slots_good max ns ss there w.1)

pub lengths_good : (l : LimitNumbers) (z : ℕ) (metadata : ℕ) (fields : FieldTree) (raws : List (List PlainValue)) (rows : ℕ) (record_batch : PlainBatch) (body : List ℕ) → IsBuilt z fields raws rows record_batch body
    → FrameFits l z metadata fields raws rows → has_bad_length l.max_rows fields record_batch ≡ false
lengths_good l z metadata fields raws rows record_batch body x f =
    let all : take (taken_nodes fields) record_batch.nodes ≡ record_batch.nodes = take_all (taken_nodes fields) record_batch.nodes (omega (arith, x.columns.just_nodes)) in
    neither (is_bad_length l.max_rows record_batch.length) (list_any (λ (n : FieldNode). is_bad_length l.max_rows n.length) (take (taken_nodes fields) record_batch.nodes))
    (ap (is_bad_length l.max_rows) x.long ∙ le-ltb l.max_rows rows f.rows_fit)
    (ap (list_any (λ (n : FieldNode). is_bad_length l.max_rows n.length)) all ∙ slots_good l.max_rows record_batch.nodes (slots_in fields raws) x.slots f.slots_fit)

-- A DICTIONARY BATCH

own_indexed : (body : List ℕ) (ds : List (ℤ × ValueList)) (o : Option Encoding) (n : ℕ) (bs : List (List ℕ)) → is_some o ≡ false → IsIndexed o n bs (values_in (dictionary_for ds o))
own_indexed body ds None n bs e = tt
own_indexed body ds (Some x) n bs e = absurd (cc)

if_all : (o : Option Encoding) (P : Type 0) → P → IfFlattened o P
if_all None P p = p
if_all (Some e) P p = tt

-- without encodings there are no indices
flat_indexed : (body : List ℕ) (ds : List (ℤ × ValueList)) (fields : FieldTree) (ns : List FieldNode) (bs : List Buffer) → has_encoding fields ≡ false → AreIndexed body ds fields ns bs
flat_indexed body ds none ns bs e = tt
flat_indexed body ds (more h c rest) ns bs e =
    let own = or_parts (is_some h.encoding || has_encoding c) (has_encoding rest) e in
    let two = or_parts (is_some h.encoding) (has_encoding c) own.0 in (
      own_indexed body ds h.encoding (slots_at ns) (own_bytes body h bs) two.0,
      if_all h.encoding (AreIndexed body ds c (drop 1 ns) (drop (own_buffers h) bs)) (flat_indexed body ds c (drop 1 ns) (drop (own_buffers h) bs) two.1),
      flat_indexed body ds rest (drop (1 + flattened h.encoding (taken_nodes c)) ns) (drop (own_buffers h + flattened h.encoding (taken_buffers c)) bs) own.1,
    )

flat_values : (o : Option TypeShape) (t : TypeShape) → o ≡ Some t → has_encoding t.children ≡ false → has_encoding (field_of_type o) ≡ false
flat_values None t e h = absurd (cc)
flat_values (Some u) t e h =
    let same : u ≡ t = cc in
    ap (λ b. (false || b) || false) (ap (λ (x : TypeShape). has_encoding x.children) same ∙ h)

-- the state after the one column of values
values_left : (body : List ℕ) (s : StreamState) (id : ℤ) (delta : Bool) (o : Option TypeShape) (t : TypeShape) (vs : List PlainValue) (ns : List FieldNode) (bs : List Buffer) → o ≡ Some t
    → raws_of (columns_of body [] (field_of_type o) ns bs) ≡ vs ∷ []
    → with_values s id delta (columns_of body [] (field_of_type o) ns bs) ≡ record s { dictionaries = placed id (record { data_type = t; values = base_of delta (listed s.dictionaries id) ++ vs }) s.dictionaries }
values_left body s id delta None t vs ns bs e r = absurd (cc)
values_left body s id delta (Some u) t vs ns bs e r =
    let same : u ≡ t = cc in
    let raw : ◌≡◌ {A = List (List PlainValue)} (raws_of (columns_of body [] (field_of_type (Some u)) ns bs)) (vs ∷ []) = r in
    let first = ap (λ xs. get xs) raw in
    ap (λ xs. record s { dictionaries = placed id (record { data_type = u; values = base_of delta (listed s.dictionaries id) ++ xs }) s.dictionaries }) first
    ∙ ap (λ x. record s { dictionaries = placed id (record { data_type = x; values = base_of delta (listed s.dictionaries id) ++ vs }) s.dictionaries }) same
  where
    get : List (List PlainValue) → List PlainValue
    get [] = []
    get (x ∷ xs) = x

type_is : (fields : FieldTree) (id : ℤ) (t : TypeShape) → value_type_of (dictionary_fields fields) id ≡ Some t → value_type fields id ≡ t
type_is fields id t e = unwrapped (value_type_of (dictionary_fields fields) id) t e where
  unwrapped : (o : Option TypeShape) (t : TypeShape) → o ≡ Some t → unwrap_or o (record { tag = null; children = none }) ≡ t
  unwrapped None t e = absurd (cc)
  unwrapped (Some u) t e = cc

allowed_if : (a b c d : Bool) → a ≡ true → b ≡ false → c ≡ false → d ≡ false → cond (not a) (Some UnknownId) (cond b (Some NoBase) (cond c (Some Rows) (cond d (Some Rows) None))) ≡ None
allowed_if true false false false e f g h = refl
allowed_if true false false true e f g h = absurd (cc)
allowed_if true false true d e f g h = absurd (cc)
allowed_if true true c d e f g h = absurd (cc)
allowed_if false b c d e f g h = absurd (cc)

-- frames that give no table
abbrev pub NoTables : List Frame → Type 0
NoTables [] = ⊤
NoTables (f ∷ fs) = (table_in f.gives ≡ []) × NoTables fs

module _ (l : LimitNumbers) (z : ℕ) (shape : SchemaShape) where
  -- the frame of an update is one complete message
  pub update_first : (ds : List (ℤ × ValueList)) (w : Sending) (b : List ℕ) (p : ℕ) → IsNoted shape → IsChosen shape.fields ds w → IsUpdate l z shape.fields w b → sending_fits l z shape.fields w ≡ true → p + length b ≤ 2 ^ 62
      → First l (state_of shape ds) p b (whole (length b) (state_of shape (with_list shape.fields w ds)) (dictionary_given w.id))
  update_first ds w b p known chosen u fits near =
      let s = state_of shape ds in
      let own = fields_for shape.fields w.id in
      let o = value_type_of (dictionary_fields shape.fields) w.id in
      let t = chosen.typed.its_type in
      let named = chosen.typed.named in
      let x = u.built in
      let two = both (frame_fits l z (dictionary_size z own) own (w.carried ∷ []) (length w.carried)) (leb (length w.whole) l.max_rows) fits in
      let f = frame_fits_so l z (dictionary_size z own) own (w.carried ∷ []) (length w.carried) two.0 in
      let base = base_of w.is_delta (listed ds w.id) in
      let total : length base + count_of u.record_batch.length ≡ length w.whole =
      ap (λ n. length base + count_of n) x.long ∙ sym (length-append base w.carried) ∙ ap length chosen.after in
      let none_against : state_refusal l.max_rows s (dictionary w.id w.is_delta u.record_batch) ≡ None =
      allowed_if (is_some o) (w.is_delta && not (is_some (listed ds w.id))) (has_bad_length l.max_rows own u.record_batch) (ltb l.max_rows (length base + count_of u.record_batch.length))
      (ap is_some named) chosen.there (lengths_good l z (dictionary_size z own) own (w.carried ∷ []) (length w.carried) u.record_batch u.body x f)
      (le-ltb l.max_rows (length base + count_of u.record_batch.length) (let few = leb-true (length w.whole) l.max_rows two.1 in omega arith)) in
      let indexed = flat_indexed u.body [] own u.record_batch.nodes u.record_batch.buffers (flat_values o t named (values_flat shape.fields w.id t known.schema named)) in
      let left = values_left u.body s w.id w.is_delta o t w.carried u.record_batch.nodes u.record_batch.buffers named (x.columns.raw [])
      ∙ ap (λ vs. state_of shape (placed w.id (record { data_type = t; values = vs }) ds)) chosen.after
      ∙ ap (λ y. state_of shape (placed w.id (record { data_type = y; values = w.whole }) ds)) (sym (type_is shape.fields w.id t named)) in
      frame_first l s p (dictionary_size z own) (dictionary w.id w.is_delta u.record_batch) u.body b (state_of shape (with_list shape.fields w ds)) (dictionary_given w.id) u.frame f.metadata_fits near refl none_against
      (dictionary_comes (columns (layout_of x) x.columns.text indexed) (ap (λ y. Ok (y, dictionary_given w.id)) (sym left)))

  -- what the frames of the updates are
  pub record Updated (ds : List (ℤ × ValueList)) (ws : List Sending) (p : ℕ) (fs : List Frame) : Type 0 where
    pub chain : Chain l (state_of shape ds) p fs
    pub leaves : left_by (state_of shape ds) fs ≡ state_of shape (with_lists shape.fields ws ds)
    pub none : NoTables fs
    pub sized : length (frames_bytes fs) ≡ sendings_size z shape.fields ws

  pub updates_chain : (ds : List (ℤ × ValueList)) (ws : List Sending) (p : ℕ) (fs : List Frame) → IsNoted shape → AreChosen shape.fields ds ws → AreUpdates l z shape ds ws fs → list_all (sending_fits l z shape.fields) ws ≡ true
      → p + sendings_size z shape.fields ws ≤ 2 ^ 62 → Updated ds ws p fs
  updates_chain ds [] p fs known chosen u fits near =
      subst (λ gs. Updated ds [] p gs) (sym u) (record { chain = tt; leaves = refl; none = tt; sized = refl })
  updates_chain ds (w ∷ ws) p fs known chosen u fits near =
      let b = u.0 in
      let rest = u.1 in
      let one = u.2 in
      let two = both (sending_fits l z shape.fields w) (list_all (sending_fits l z shape.fields) ws) fits in
      let len : length b ≡ sending_size z shape.fields w = frame_length one.frame ∙ ap (λ n. 8 + dictionary_size z (fields_for shape.fields w.id) + n) one.built.columns.sized in
      let first = update_first ds w b p known chosen.0 one two.0 (omega arith) in
      let i = updates_chain (with_list shape.fields w ds) ws (p + length b) rest known chosen.1 u.3 two.1 (omega arith) in
      subst (λ gs. Updated ds (w ∷ ws) p gs) (sym u.4) (record {
        chain = (first, i.chain);
        leaves = i.leaves;
        none = (refl, i.none);
        sized = length-append b (frames_bytes rest) ∙ omega (arith, len, i.sized);
      })
