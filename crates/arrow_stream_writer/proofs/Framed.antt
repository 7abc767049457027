-- What is appended for a load: its frame.
use Rattle.std.proofs.Common.{◌≡◌, ◌≤◌, ◌<◌, ◌^◌, ℕ, leb, ltb, pos, Bool, true, false, List, [], ◌∷◌, ◌++◌, length, map, refl, sym, ap, ◌∙◌, subst, true≢false, inl, inr, arith}
use Rattle.std.specs.Prelude.{◌||◌, ◌&&◌, not, ℤ, nat_le, Result, Ok, Err}
use Rattle.std.specs.List.{AllByRecursion, list_all, list_any}
use Rattle.std.proofs.lemmas.Bool.{le-ltb, leb-false, leb-true, lt-ltb}
use Rattle.arrow_types.specs.declared.node.FieldNode.{FieldNode}
use Rattle.arrow_data.specs.Batch.{HaveRows, IsTable, Table}
use Rattle.arrow_data.specs.Column.{AreOf, Column}
use Rattle.arrow_layout.specs.PlainValue.{PlainValue}
use Rattle.arrow_body_reader.specs.Sound.{lengths_of}
use Rattle.arrow_body_reader.specs.Taken.{taken_buffers, taken_nodes}
use Rattle.arrow_body_laws.specs.Laws.{IsBodyOf, raws_of}
use Rattle.arrow_body_laws.specs.Raws.{AreRaws, AreSmall}
use Rattle.arrow_body_laws.specs.Stored.{PlainBody, fields_of_columns, stored}
use Rattle.arrow_body_laws.specs.Canonical.{IsCanonical}
use Rattle.arrow_body_laws.proofs.Named.{same_body}
use Rattle.arrow_body_laws.proofs.Soundness.{are_stored, lengths_are}
use Rattle.arrow_body_laws.proofs.MadeCanonical.{is_canonical}
use Rattle.arrow_body_laws.proofs.Whole.{is_read}
use Rattle.arrow_body_writer.specs.Storable.{AreRepresentable}
use Rattle.arrow_body_writer.specs.declared.store_fault.BodyStoreFault.{BodyStoreFault}
use Rattle.arrow_body_writer.specs.declared.store_fault.BodyStoreFault.TheVariants as stores
use Rattle.arrow_types.specs.declared.type_set.TypeSet.{TypeSet}
use Rattle.arrow_meta_reader.specs.Means.{PlainBatch, PlainHeader, PlainMessage}
use Rattle.arrow_meta_writer.specs.Writable.{leaves_header_out}
use Rattle.arrow_stream_reader.specs.Batch.{is_bad_length}
use Rattle.arrow_stream_laws.specs.Admission.{frame_fits}
use Rattle.arrow_stream_laws.specs.Built.{IsBuilt}
use Rattle.arrow_stream_laws.specs.Frames.{IsFrameOf, framed}
use Rattle.arrow_stream_laws.specs.Sizes.{batch_size, header_size, slots_in}
use Rattle.arrow_sink.specs.declared.write_fault.WriteFault.{WriteFault}
use Rattle.arrow_sink.specs.declared.write_fault.WriteFault.TheVariants.{SchemaDiffers, TooLarge, DictionariesDiffer, Sink, Broken, Finished, Memory}
use Rattle.arrow_stream_writer.specs.Frame.{AppendsFrame}
use Rattle.arrow_stream_writer.proofs.Sizing.{batch_sized, dictionary_sized}
use Rattle.arrow_stream_writer.specs.declared.frames.BatchHeader.{BatchHeader}
use Rattle.arrow_stream_writer.specs.declared.frames.BatchHeader.TheVariants.{Record, Dictionary}
use Rattle.arrow_stream_writer.specs.Framing.{IsStored, IsTooLarge, Load, Puts, PutsFrameOf, PutsLoad, PutsMessage, header_of, metadata_of, not_stored, record_load}
use Rattle.arrow_stream_writer.specs.Terms.{Terms}
use Rattle.arrow_stream_writer.proofs.Storable.{cannot_store, fails, offsets_small, passes, raws_by_fields, slots_stored, small_by_fields}

all_long : (rows : ℕ) (raws : List (List PlainValue)) → AllByRecursion (λ (vs : List PlainValue). length vs ≡ rows) raws → AllByRecursion (λ (n : ℕ). n ≡ rows) (map length raws)
all_long rows [] h = tt
all_long rows (vs ∷ raws) h = (h.0, all_long rows raws h.1)

-- the metadata have the size that the kind and the fields give
kind_sized : (align : ℕ) (load : Load) (b : PlainBody) (rb : PlainBatch) → IsBodyOf align load.fields load.raws b → rb.nodes ≡ b.nodes → rb.buffers ≡ b.buffers
    → header_size align (header_of load.kind rb) ≡ metadata_of align load.kind load.fields
kind_sized align load b rb read nodes buffers =
    by_kind load.kind (ap length nodes ∙ read.just_nodes) (ap length buffers ∙ read.just_buffers) where
      by_kind : (kind : BatchHeader) → length rb.nodes ≡ taken_nodes load.fields → length rb.buffers ≡ taken_buffers load.fields → header_size align (header_of kind rb) ≡ metadata_of align kind load.fields
      by_kind Record n k = batch_sized align load.fields rb n k
      by_kind (Dictionary id is_delta) n k = dictionary_sized align load.fields id is_delta rb n k

-- a batch has no types
none_left_out : (types : TypeSet) (kind : BatchHeader) (b : PlainBatch) → leaves_header_out types (header_of kind b) ≡ false
none_left_out types Record b = refl
none_left_out types (Dictionary id is_delta) b = refl

bad_by : (max s : ℕ) (z : ℤ) → z ≡ pos s → is_bad_length max z ≡ not (leb s max)
bad_by max s z e = ap (is_bad_length max) e ∙ by_test (leb s max) refl where
  by_test : (b : Bool) → leb s max ≡ b → ltb max s ≡ not b
  by_test true h = le-ltb max s (leb-true s max h)
  by_test false h = lt-ltb max s (leb-false s max h)

either : (a b c d : Bool) → a ≡ not c → b ≡ not d → (a || b) ≡ not (c && d)
either a b true d e f = ap (λ x. x || b) e ∙ f
either a b false d e f = ap (λ x. x || b) e

-- some node has too many slots if and only if not all slot counts are within the limit
bad_slots : (max : ℕ) (ns : List FieldNode) (ss : List ℕ) → map (λ (n : FieldNode). n.length) ns ≡ map pos ss → list_any (λ (n : FieldNode). is_bad_length max n.length) ns ≡ not (list_all (λ n. nat_le n max) ss)
bad_slots max [] [] e = refl
bad_slots max [] (s ∷ ss) e = absurd (cc)
bad_slots max (n ∷ ns) [] e = absurd (cc)
bad_slots max (n ∷ ns) (s ∷ ss) e =
    let here : n.length ≡ pos s = cc in
    let there : map (λ (n : FieldNode). n.length) ns ≡ map pos ss = cc in
    either (is_bad_length max n.length) (list_any (λ (n : FieldNode). is_bad_length max n.length) ns) (leb s max) (list_all (λ n. nat_le n max) ss) (bad_by max s n.length here) (bad_slots max ns ss there)

not_swapped : (a b : Bool) → a ≡ not b → b ≡ not a
not_swapped true true e = absurd (cc)
not_swapped true false e = refl
not_swapped false true e = refl
not_swapped false false e = absurd (cc)

-- what was stored is a batch of the load
module _ (terms : Terms) (load : Load) (b : PlainBody) (s : IsStored terms.align load b) (some : 0 < terms.align) where
  -- its body is read as the raw values
  pub read : IsBodyOf terms.align load.fields load.raws b
  read = subst (IsBodyOf terms.align load.fields load.raws) (sym s.same) (is_read terms.align load.fields load.raws some s.can s.small)

  -- its nodes have the slots of the raw values
  pub slots : map (λ (n : FieldNode). n.length) b.nodes ≡ map pos (slots_in load.fields load.raws)
  slots = ap (λ (x : PlainBody). map (λ (n : FieldNode). n.length) x.nodes) s.same ∙ slots_stored load.fields load.raws

  -- all slot counts are within the limit, by the test of the nodes
  pub few_by : (nodes : List FieldNode) (max : ℕ) (bad : Bool) → nodes ≡ b.nodes → max ≡ terms.limits.max_rows → bad ≡ list_any (λ (n : FieldNode). is_bad_length max n.length) nodes
      → list_all (λ n. nat_le n terms.limits.max_rows) (slots_in load.fields load.raws) ≡ not bad
  few_by nodes max bad same is e =
      not_swapped bad (list_all (λ n. nat_le n terms.limits.max_rows) (slots_in load.fields load.raws))
      (e ∙ ap (λ (m : ℕ). list_any (λ (n : FieldNode). is_bad_length m n.length) nodes) is
      ∙ bad_slots terms.limits.max_rows nodes (slots_in load.fields load.raws) (ap (map (λ (n : FieldNode). n.length)) same ∙ slots))

  -- its columns have as many slots as there are rows
  level : AllByRecursion (λ (n : ℕ). n ≡ load.rows) (lengths_of load.fields b.nodes)
  level =
      let body = stored terms.align load.fields load.raws in
      let lengths = lengths_are body.bytes load.fields load.raws body.nodes body.buffers (are_stored terms.align load.fields load.raws some s.can s.small) in
      subst (λ (x : PlainBody). AllByRecursion (λ (n : ℕ). n ≡ load.rows) (lengths_of load.fields x.nodes)) (sym s.same)
      (subst (AllByRecursion (λ (n : ℕ). n ≡ load.rows)) (sym lengths) (all_long load.rows load.raws s.long))

  built : IsBuilt terms.align load.fields load.raws load.rows (record { length = pos load.rows; nodes = b.nodes; buffers = b.buffers }) b.bytes
  built = record {
    long = refl;
    level = level;
    slots = slots;
    columns = read;
    canonical = subst (λ (x : PlainBody). IsCanonical terms.align load.fields x.nodes x.buffers x.bytes) (sym s.same) (is_canonical terms.align load.fields load.raws some s.can s.small);
    one = s.same;
  }

  -- the size of the metadata is that of the load's kind
  pub metadata_is : (rb : PlainBatch) (header : PlainHeader) → rb ≡ record { length = pos load.rows; nodes = b.nodes; buffers = b.buffers } → header ≡ header_of load.kind rb
      → header_size terms.align header ≡ metadata_of terms.align load.kind load.fields
  metadata_is rb header is kind =
      ap (header_size terms.align) kind ∙ kind_sized terms.align load b rb read (ap (λ (x : PlainBatch). x.nodes) is) (ap (λ (x : PlainBatch). x.buffers) is)

  -- too many rows, or slots, or bytes
  pub rows_over : terms.limits.max_rows < load.rows → IsTooLarge terms load
  rows_over over = fails terms.limits terms.align (metadata_of terms.align load.kind load.fields) load.fields load.raws load.rows (λ t. let fit = t.rows_fit in omega arith)

  pub slots_over : list_all (λ n. nat_le n terms.limits.max_rows) (slots_in load.fields load.raws) ≡ false → IsTooLarge terms load
  slots_over over = fails terms.limits terms.align (metadata_of terms.align load.kind load.fields) load.fields load.raws load.rows (λ t. let fit = t.slots_fit in cc)

  pub body_over : terms.limits.max_body < length b.bytes → IsTooLarge terms load
  body_over over = fails terms.limits terms.align (metadata_of terms.align load.kind load.fields) load.fields load.raws load.rows (λ t. let fit = t.body_fits in let sized = read.sized in omega arith)

  pub metadata_over : terms.limits.max_metadata < metadata_of terms.align load.kind load.fields → IsTooLarge terms load
  metadata_over over = fails terms.limits terms.align (metadata_of terms.align load.kind load.fields) load.fields load.raws load.rows (λ t. let fit = t.metadata_fits in omega arith)

  -- what was appended is the frame of the load
  pub puts_load : (header : PlainHeader) (old new : List ℕ) → header ≡ header_of load.kind (record { length = pos load.rows; nodes = b.nodes; buffers = b.buffers })
      → length b.bytes ≤ terms.limits.max_body → load.rows ≤ terms.limits.max_rows → list_all (λ n. nat_le n terms.limits.max_rows) (slots_in load.fields load.raws) ≡ true
      → PutsFrameOf terms header b.bytes old new → PutsLoad terms load old new
  puts_load header old new kind body_fits rows_fit slots_fit x =
      let rb : PlainBatch = record { length = pos load.rows; nodes = b.nodes; buffers = b.buffers } in
      let size = metadata_is rb header refl kind in
      let sized = read.sized in
      let metadata_fits = x.fits_in in
      record {
        record_batch = rb;
        body = b.bytes;
        frame = x.frame;
        built = built;
        is_frame = subst (λ h. IsFrameOf terms.limits (metadata_of terms.align load.kind load.fields) h b.bytes x.frame) kind
            (subst (λ n. IsFrameOf terms.limits n header b.bytes x.frame) size x.is_frame);
        fits_in = passes terms.limits terms.align (metadata_of terms.align load.kind load.fields) load.fields load.raws load.rows (record {
          metadata_fits = omega arith;
          body_fits = omega arith;
          rows_fit = rows_fit;
          slots_fit = slots_fit;
          offsets = offsets_small load.fields load.raws s.small;
        });
        appended = x.appended;
      }

  -- the result of put_message is a result for the load
  pub answers_load : (header : PlainHeader) (answer : Result (Unit {0}) WriteFault) (old new : List ℕ) → header ≡ header_of load.kind (record { length = pos load.rows; nodes = b.nodes; buffers = b.buffers })
      → length b.bytes ≤ terms.limits.max_body → load.rows ≤ terms.limits.max_rows → list_all (λ n. nat_le n terms.limits.max_rows) (slots_in load.fields load.raws) ≡ true
      → PutsMessage terms header b.bytes old answer new → Puts terms load old answer new
  answers_load header (Ok done) old new kind body_fits rows_fit slots_fit x = puts_load header old new kind body_fits rows_fit slots_fit x
  answers_load header (Err TooLarge) old new kind body_fits rows_fit slots_fit (inr left) =
      absurd (true≢false (sym left ∙ ap (leaves_header_out terms.limits.types) kind ∙ none_left_out terms.limits.types load.kind _))
  answers_load header (Err TooLarge) old new kind body_fits rows_fit slots_fit (inl x) =
      let size = metadata_is (record { length = pos load.rows; nodes = b.nodes; buffers = b.buffers }) header refl kind in
      metadata_over (omega arith)
  answers_load header (Err Memory) old new kind body_fits rows_fit slots_fit x = x
  answers_load header (Err SchemaDiffers) old new kind body_fits rows_fit slots_fit x = x
  answers_load header (Err DictionariesDiffer) old new kind body_fits rows_fit slots_fit x = x
  answers_load header (Err Sink) old new kind body_fits rows_fit slots_fit x = x
  answers_load header (Err Broken) old new kind body_fits rows_fit slots_fit x = x
  answers_load header (Err Finished) old new kind body_fits rows_fit slots_fit x = x

-- what was appended by put_head and a body is the frame of a message within the limits
pub appended_frame : (terms : Terms) (align : ℕ) (m : PlainMessage) (body old mid new : List ℕ) → align ≡ terms.align → header_size terms.align m.header ≤ terms.limits.max_metadata → length body ≤ terms.limits.max_body → leaves_header_out terms.limits.types m.header ≡ false → mid ≡ old
    → AppendsFrame align m body mid new → PutsFrameOf terms m.header body old new
appended_frame terms align m body old mid new is fits short within same x =
    let y = subst (λ n. AppendsFrame n m body mid new) is x in
    let frame = framed m (header_size terms.align m.header) body in
    record { frame = frame; fits_in = fits; types_are_in = within; is_frame = y.is_frame terms.limits fits short within; appended = y.appended ∙ ap (λ (r : List ℕ). r ++ frame) same }

-- WHAT IS STORED OF A BATCH

raws_long : (rows : ℕ) (cs : List Column) → HaveRows rows cs → AllByRecursion (λ (vs : List PlainValue). length vs ≡ rows) (raws_of cs)
raws_long rows [] h = tt
raws_long rows (c ∷ cs) h = (h.0, raws_long rows cs h.1)

pub stored_of : (align : ℕ) (t : Table) (cs : List Column) (b : PlainBody) → IsTable t → cs ≡ t.columns → AreRaws (fields_of_columns cs) (raws_of cs) → AreSmall (fields_of_columns cs) (raws_of cs)
    → b ≡ stored align (fields_of_columns cs) (raws_of cs) → IsStored align (record_load t) b
stored_of align t cs b known same raws small is =
    let are : AreOf t.schema.fields cs = subst (AreOf t.schema.fields) (sym same) known.typed in
    let can = raws_by_fields t.schema.fields cs (raws_of cs) are raws in
    let few = small_by_fields t.schema.fields cs (raws_of cs) are small in
    let body = is ∙ same_body align t.schema.fields cs (raws_of cs) are in
    record {
      can = subst (λ (ds : List Column). AreRaws t.schema.fields (raws_of ds)) same can;
      small = subst (λ (ds : List Column). AreSmall t.schema.fields (raws_of ds)) same few;
      long = raws_long t.rows t.columns known.long;
      same = body ∙ ap (λ (ds : List Column). stored align t.schema.fields (raws_of ds)) same;
    }

module _ (terms : Terms) (t : Table) (cs : List Column) (known : IsTable t) (same : cs ≡ t.columns) where
  are_of : AreOf t.schema.fields cs
  are_of = subst (AreOf t.schema.fields) (sym same) known.typed

  -- columns that are not representable are too large
  never_stored : terms.limits.max_rows ≤ 2147483647 → (AreRepresentable cs → ⊥) → IsTooLarge terms (record_load t)
  never_stored ceiling cannot =
      subst (λ (ds : List Column). frame_fits terms.limits terms.align (batch_size terms.align t.schema.fields) t.schema.fields (raws_of ds) t.rows ≡ false) same
      (cannot_store terms.limits terms.align (batch_size terms.align t.schema.fields) t.schema.fields cs t.rows ceiling known.schema are_of cannot)

  -- so columns that are not stored are too large, or an allocation failed
  pub refuses_record : terms.limits.max_rows ≤ 2147483647 → (fault : BodyStoreFault) → (fault ≡ stores.TooLarge → AreRepresentable cs → ⊥) → (old new : List ℕ)
      → Puts terms (record_load t) old (Err (not_stored fault)) new
  refuses_record ceiling stores.TooLarge large old new = never_stored ceiling (large refl)
  refuses_record ceiling stores.Memory large old new = refl

-- a size over the ceiling is over each limit
pub past_ceiling : (limit size : ℕ) → limit ≤ 2 ^ 30 → 2 ^ 30 < size → limit < size
past_ceiling limit size h over = omega arith
