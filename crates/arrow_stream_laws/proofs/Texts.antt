-- A writer sends a chain of frames that give the rows of its batches.
use Rattle.std.proofs.Common.{◌≡◌, ℕ, ℤ, ◌+◌, ◌^◌, List, [], ◌∷◌, ◌++◌, length, map, refl, sym, ap, ◌∙◌, subst, arith, Bool, true, false, cond, leb, length-append, append_assoc, Some, None, Ok, is_some}
use Rattle.std.specs.Prelude.{◌&&◌, not}
use Rattle.arrow_types.specs.TypeSet.{leaves_some_out}
use Rattle.std.proofs.lemmas.List.{append-nil, map-append}
use Rattle.std.proofs.lemmas.Bool.{leb-true}
use Rattle.arrow_types.specs.Field.{FieldTree}
use Rattle.arrow_types.specs.Limits.{LimitNumbers}
use Rattle.arrow_types.specs.Notes.{SchemaShape}
use Rattle.arrow_types.specs.Schema.{IsNoted}
use Rattle.arrow_data.specs.Batch.{Table}
use Rattle.arrow_data.specs.Column.{ValueList, AreOf}
use Rattle.arrow_data.specs.Listed.{values_by}
use Rattle.arrow_body_reader.specs.Held.{count_of}
use Rattle.arrow_body_reader.specs.Sound.{columns_of}
use Rattle.arrow_body_reader.proofs.Columns.{columns_typed}
use Rattle.arrow_body_reader.proofs.Readings.{columns_resolve}
use Rattle.arrow_meta_reader.specs.Means.{schema, batch}
use Rattle.arrow_stream_reader.specs.declared.kind.Rejection.TheVariants as kinds
use Rattle.arrow_stream_reader.specs.Batch.{columns}
use Rattle.arrow_stream_reader.specs.Frame.{BodySays, schema_comes, batch_comes, First, marker, state_refusal}
use Rattle.arrow_stream_reader.specs.State.{StreamState, batch_given, schema_given, nothing_yet}
use Rattle.arrow_stream_reader.proofs.Whole.{marker_whole}
use Rattle.arrow_sink.specs.declared.write_fault.WriteFault.TheVariants.{TooLarge}
use Rattle.arrow_stream_laws.specs.Sizes.{Options, batch_size, schema_size}
use Rattle.arrow_body_laws.specs.Laws.{raws_of}
use Rattle.arrow_stream_laws.specs.Rows.{resolved_of, list_of, rows_of}
use Rattle.arrow_stream_laws.specs.Plan.{plan, lists_after, lists_sent}
use Rattle.arrow_dict.specs.declared.update.Updates.{Updates}
use Rattle.arrow_stream_laws.specs.Admission.{marker_fits, part_size, record_size, sendings_size}
use Rattle.arrow_stream_reader.specs.Tables.{table_in}
use Rattle.arrow_stream_laws.specs.Frames.{Frame, frames_bytes, left_by, IsMarker}
use Rattle.arrow_stream_laws.proofs.Chains.{Chain, rows_in}
use Rattle.arrow_stream_laws.specs.Text.{state_of, table_read, record_frame, IsPart, joined, Text, begins, adds}
use Rattle.arrow_stream_laws.proofs.Chains.{frames_bytes-append, left_by-append, Chain-append}
use Rattle.arrow_stream_laws.proofs.Columns.{columns_hold, have_entries, raw_same, resolved_same}
use Rattle.arrow_stream_laws.proofs.Lists.{plan_sent, ids_agree}
use Rattle.arrow_stream_laws.proofs.Parts.{layout_of, part_fits_so, frame_length, frame_first, lengths_good, NoTables, updates_chain}

-- THE MESSAGES OF A BATCH

-- what the frames of a batch are
pub record PartIs (l : LimitNumbers) (o : Options) (shape : SchemaShape) (ds : List (ℤ × ValueList)) (p : ℕ) (t : Table) (fs : List Frame) : Type 0 where
  pub updated : List Frame
  pub last : Frame
  pub frames : fs ≡ updated ++ last ∷ []
  pub chain : Chain l (state_of shape ds) p fs
  pub leaves : left_by (state_of shape ds) fs ≡ state_of shape (lists_after o.updates shape.fields ds t)
  pub no_tables : NoTables updated
  pub gives : map rows_of (table_in last.gives) ≡ rows_of t ∷ []
  pub sized : length (frames_bytes fs) ≡ part_size o shape.fields ds t

bad_none : (b : Bool) → b ≡ false → cond b (Some kinds.Rows) None ≡ None
bad_none true e = absurd (cc)
bad_none false e = refl

module _ {l : LimitNumbers} {o : Options} {shape : SchemaShape} where
  pub part_is : (ds : List (ℤ × ValueList)) (p : ℕ) (t : Table) (fs : List Frame) → IsNoted shape → IsPart l o shape ds p t fs → PartIs l o shape ds p t fs
  part_is ds p t fs known x =
      let f = part_fits_so l o shape ds p t x.admitted in
      let sent = plan_sent o.updates shape.fields ds t in
      let ws = plan o.updates shape.fields ds t in
      let es = lists_after o.updates shape.fields ds t in
      let s = state_of shape es in
      let us = sendings_size o.align shape.fields ws in
      let near = f.near in
      let up = updates_chain l o.align shape ds ws p x.updated known sent.chosen x.updates f.updates_fit (omega arith) in
      let agree = ids_agree (values_by es) (list_of t) shape.fields sent.lists_are in
      let typed : AreOf shape.fields t.columns = subst (λ (v : SchemaShape). AreOf v.fields t.columns) f.same_schema x.known.table.typed in
      let lie = columns_hold (list_of t) t.columns x.known.columns f.one_list in
      let indexed = x.built.columns.indexed es (have_entries (values_by es) (list_of t) shape.fields t.columns typed agree lie) in
      let ns = x.record_batch.nodes in
      let bs = x.record_batch.buffers in
      let cs = columns_of x.body es shape.fields ns bs in
      let raw : raws_of cs ≡ raws_of t.columns = raw_same x.body es [] shape.fields ns bs ∙ x.built.columns.raw [] in
      let resolved : resolved_of cs ≡ resolved_of t.columns =
      resolved_same es (list_of t) shape.fields cs t.columns (columns_typed x.body es shape.fields ns bs) typed agree (columns_resolve x.body es shape.fields ns bs indexed) lie raw in
      let table = table_read shape es x.record_batch x.body t.rows in
      let same_schema : shape ≡ t.schema = sym f.same_schema in
      let rows : rows_of table ≡ rows_of t = λ i. record { schema = same_schema i; raw = raw i; resolved = resolved i; count = t.rows } in
      let count : t.rows ≡ count_of x.record_batch.length = sym (ap count_of x.built.long) in
      let says : BodySays s (batch x.record_batch) x.body (Ok (s, batch_given table)) =
      batch_comes (columns (layout_of x.built) x.built.columns.text indexed) (ap (λ n. Ok (s, batch_given (record { schema = shape; columns = cs; rows = n }))) count) in
      let free : state_refusal l.max_rows s (batch x.record_batch) ≡ None =
      bad_none _ (lengths_good l o.align (batch_size o.align shape.fields) shape.fields (raws_of t.columns) t.rows x.record_batch x.body x.built f.record_fits) in
      let len : length x.last ≡ record_size o.align shape.fields t = frame_length x.frame ∙ ap (λ n. 8 + batch_size o.align shape.fields + n) x.built.columns.sized in
      let first = frame_first l s (p + us) (batch_size o.align shape.fields) (batch x.record_batch) x.body x.last s (batch_given table) x.frame f.record_fits.metadata_fits (omega arith) refl free says in
      let last = record_frame shape es x.record_batch x.body t.rows x.last in
      let c1 : Chain l s (p + us) (last ∷ []) = (first, tt) in
      let c2 : Chain l (left_by (state_of shape ds) x.updated) (p + length (frames_bytes x.updated)) (last ∷ []) =
      subst (λ n. Chain l (left_by (state_of shape ds) x.updated) (p + n) (last ∷ [])) (sym up.sized) (subst (λ q. Chain l q (p + us) (last ∷ [])) (sym up.leaves) c1) in
      record {
        updated = x.updated;
        last = last;
        frames = x.frames;
        chain = subst (λ y. Chain l (state_of shape ds) p y) (sym x.frames) (Chain-append l (state_of shape ds) p x.updated (last ∷ []) up.chain c2);
        leaves = ap (left_by (state_of shape ds)) x.frames ∙ left_by-append (state_of shape ds) x.updated (last ∷ []);
        no_tables = up.none;
        gives = ap (λ r. r ∷ []) rows;
        sized = ap (λ y. length (frames_bytes y)) x.frames ∙ ap length (frames_bytes-append x.updated (last ∷ [])) ∙ length-append (frames_bytes x.updated) (x.last ++ []) ∙ ap (λ n. n + length (x.last ++ [])) up.sized ∙ ap (λ n. us + n) (ap length (append-nil x.last) ∙ len);
      }

-- A CONNECTION

pub joined-append : (ps qs : List (List ℕ)) → joined (ps ++ qs) ≡ joined ps ++ joined qs
joined-append [] qs = refl
joined-append (p ∷ ps) qs = ap (λ r. p ++ r) (joined-append ps qs) ∙ sym (append_assoc p (joined ps) (joined qs))

pub joined_more : (ps : List (List ℕ)) (q : List ℕ) → joined (ps ++ q ∷ []) ≡ joined ps ++ q
joined_more ps q = joined-append ps (q ∷ []) ∙ ap (λ r. joined ps ++ r) (append-nil q)

pub rows_in-append : (xs ys : List Frame) → rows_in (xs ++ ys) ≡ rows_in xs ++ rows_in ys
rows_in-append [] ys = refl
rows_in-append (x ∷ xs) ys = ap (λ r. map rows_of (table_in x.gives) ++ r) (rows_in-append xs ys) ∙ sym (append_assoc (map rows_of (table_in x.gives)) (rows_in xs) (rows_in ys))

pub no_rows : (xs : List Frame) → NoTables xs → rows_in xs ≡ []
no_rows [] h = refl
no_rows (x ∷ xs) h = ap (λ r. map rows_of r ++ rows_in xs) h.0 ∙ no_rows xs h.1

pub part_rows : {l : LimitNumbers} {o : Options} {shape : SchemaShape} {ds : List (ℤ × ValueList)} {p : ℕ} {t : Table} {fs : List Frame} → PartIs l o shape ds p t fs → rows_in fs ≡ rows_of t ∷ []
part_rows x =
    ap rows_in x.frames ∙ rows_in-append x.updated (x.last ∷ []) ∙ ap (λ r. r ++ rows_in (x.last ∷ [])) (no_rows x.updated x.no_tables) ∙ ap (λ r. r ++ []) x.gives

-- the dictionaries after one more batch
sent_more : (mode : Updates) (fields : FieldTree) (ds : List (ℤ × ValueList)) (ts : List Table) (t : Table) → lists_sent mode fields ds (ts ++ t ∷ []) ≡ lists_after mode fields (lists_sent mode fields ds ts) t
sent_more mode fields ds [] t = refl
sent_more mode fields ds (x ∷ ts) t = sent_more mode fields (lists_after mode fields ds x) ts t

-- what the frames of a connection are
pub record TextIs (l : LimitNumbers) (o : Options) (shape : SchemaShape) (parts : List (List ℕ)) (batches : List Table) (frames : List Frame) : Type 0 where
  pub known : IsNoted shape
  pub lists : List (ℤ × ValueList)
  pub state : left_by nothing_yet frames ≡ state_of shape lists
  pub sent : lists ≡ lists_sent o.updates shape.fields [] batches
  pub chain : Chain l nothing_yet 0 frames
  pub bytes : frames_bytes frames ≡ joined parts
  pub rows : rows_in frames ≡ map rows_of batches
  pub count : length parts ≡ 1 + length batches

schema_fits : (a b c : Bool) → cond (a && b && not c) None (Some TooLarge) ≡ None → (a ≡ true) × (b ≡ true)
schema_fits true true c e = (refl, refl)
schema_fits true false c e = absurd (cc)
schema_fits false b c e = absurd (cc)

-- the end marker follows the messages of a connection
pub marker_first : (l : LimitNumbers) (shape : SchemaShape) (ds : List (ℤ × ValueList)) (s : StreamState) (p : ℕ) (b : List ℕ) → s ≡ state_of shape ds → IsMarker b → marker_fits p ≡ true → First l s p b marker
marker_first l shape ds s p b e m h =
    marker_whole l s p b m.eight m.continued m.number (ap (λ (x : StreamState). is_some x.schema) e) (leb-true (p + 8) (2 ^ 62) h)

module _ {l : LimitNumbers} {o : Options} {shape : SchemaShape} where
  pub text_part : (parts : List (List ℕ)) (batches : List Table) (frames : List Frame) (t : Table) (fs : List Frame) (x : TextIs l o shape parts batches frames)
      → IsPart l o shape (left_by nothing_yet frames).dictionaries (length (joined parts)) t fs → PartIs l o shape x.lists (length (joined parts)) t fs
  text_part parts batches frames t fs x y =
      part_is x.lists (length (joined parts)) t fs x.known (subst (λ (s : StreamState). IsPart l o shape s.dictionaries (length (joined parts)) t fs) x.state y)

  pub text_is : {parts : List (List ℕ)} {batches : List Table} {frames : List Frame} → Text l o shape parts batches frames → TextIs l o shape parts batches frames
  text_is (begins b known a f) =
      let s = state_of shape [] in
      let size = schema_size o.align shape in
      let w = schema_fits (leb size l.max_metadata) (leb (8 + size) (2 ^ 62)) (leaves_some_out l.types shape.fields) a in
      let near = leb-true (8 + size) (2 ^ 62) w.1 in
      let len = frame_length f in
      record {
        known = known;
        lists = [];
        state = refl;
        sent = refl;
        chain = (frame_first l nothing_yet 0 size (schema shape) [] b s schema_given f (leb-true size l.max_metadata w.0) (omega arith) refl refl schema_comes, tt);
        bytes = refl;
        rows = refl;
        count = refl;
      }
  text_is (adds parts batches frames t fs text y) =
      let x = text_is text in
      let q = text_part parts batches frames t fs x y in
      let place : length (frames_bytes frames) ≡ length (joined parts) = ap length x.bytes in
      let start : length (joined parts) ≡ 0 + length (frames_bytes frames) = omega arith in
      record {
        known = x.known;
        lists = lists_after o.updates shape.fields x.lists t;
        state = left_by-append nothing_yet frames fs ∙ ap (λ s. left_by s fs) x.state ∙ q.leaves;
        sent = ap (λ ds. lists_after o.updates shape.fields ds t) x.sent ∙ sym (sent_more o.updates shape.fields [] batches t);
        chain = Chain-append l nothing_yet 0 frames fs x.chain
            (subst (λ s. Chain l s (0 + length (frames_bytes frames)) fs) (sym x.state) (subst (λ n. Chain l (state_of shape x.lists) n fs) start q.chain));
        bytes = frames_bytes-append frames fs ∙ ap (λ r. r ++ frames_bytes fs) x.bytes ∙ sym (joined_more parts (frames_bytes fs));
        rows = rows_in-append frames fs ∙ ap (λ r. r ++ rows_in fs) x.rows ∙ ap (λ r. map rows_of batches ++ r) (part_rows q) ∙ sym (map-append rows_of batches (t ∷ []));
        count = length-append parts (frames_bytes fs ∷ []) ∙ omega (arith, x.count, length-append batches (t ∷ []));
      }
