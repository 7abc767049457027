-- What completes the messages of a batch, and which batches are accepted.
use Rattle.std.proofs.Common.{◌≡◌, ◌&&◌, ◌≤◌, ◌<◌, ◌+◌, ◌^◌, ℕ, ℤ, Bool, true, false, cond, leb, List, [], ◌∷◌, ◌++◌, length, Option, Some, None, Result, Ok, Err, refl, sym, ap, ◌∙◌, subst, arith, length-append}
use Rattle.std.specs.Prelude.{not}
use Rattle.std.specs.List.{list_all}
use Rattle.std.proofs.lemmas.List.{append-nil}
use Rattle.std.proofs.lemmas.Bool.{and_left, and_right, le-leb, lt-leb}
use Rattle.arrow_types.specs.Equality.{is_equal}
use Rattle.arrow_types.specs.Notes.{SchemaShape}
use Rattle.arrow_types.specs.Limits.{LimitNumbers}
use Rattle.arrow_types.specs.Stored.{schema_code}
use Rattle.arrow_data.specs.Batch.{Table}
use Rattle.arrow_data.specs.Column.{ValueList}
use Rattle.arrow_body_laws.specs.Laws.{raws_of}
use Rattle.arrow_meta_reader.specs.Means.{batch}
use Rattle.arrow_stream_laws.specs.Admission.{admission, frame_fits, part_fits, part_size, sending_fits, sendings_size}
use Rattle.arrow_stream_laws.specs.Built.{IsBuilt}
use Rattle.arrow_stream_laws.specs.Frames.{Frame, IsFrameOf, frames_bytes}
use Rattle.arrow_stream_laws.specs.Plan.{Sending, lists_after, plan, with_list}
use Rattle.arrow_stream_laws.specs.Rows.{IsKnown, has_one_list}
use Rattle.arrow_stream_laws.specs.Sizes.{batch_size}
use Rattle.arrow_stream_laws.specs.Text.{AreUpdates, record_frame}
use Rattle.arrow_sink.specs.declared.write_fault.WriteFault.{WriteFault}
use Rattle.arrow_sink.specs.declared.write_fault.WriteFault.TheVariants.{SchemaDiffers, TooLarge, DictionariesDiffer, Sink, Broken, Finished, Memory}
use Rattle.arrow_stream_laws.proofs.Chains.{frames_bytes-append}
use Rattle.arrow_stream_laws.proofs.Parts.{frame_length}
use Rattle.arrow_stream_writer.specs.Framing.{PutsLoad, Puts, record_load}
use Rattle.arrow_stream_writer.specs.Parts.{IsNotUpdated, IsPartBuilt, IsRefusedWith, PutsUpdates, options_of}
use Rattle.arrow_stream_writer.specs.Lists.{AreListsOf}
use Rattle.arrow_stream_writer.specs.Terms.{Terms}
use Rattle.arrow_stream_writer.specs.Updating.{AddsAll, IsWorkOf, Work}

-- the frames of dictionary batches have their sizes
updates_sized : (l : LimitNumbers) (align : ℕ) (shape : SchemaShape) (ds : List (ℤ × ValueList)) (ws : List Sending) (fs : List Frame) → AreUpdates l align shape ds ws fs
    → length (frames_bytes fs) ≡ sendings_size align shape.fields ws
updates_sized l align shape ds [] fs u = ap (λ gs. length (frames_bytes gs)) u
updates_sized l align shape ds (w ∷ ws) fs u =
    let one = frame_length u.2.frame in
    let own = u.2.built.columns.sized in
    let others = updates_sized l align shape (with_list shape.fields w ds) ws u.1 u.3 in
    ap (λ gs. length (frames_bytes gs)) u.4 ∙ length-append u.0 (frames_bytes u.1) ∙ omega arith

-- what was added for the dictionaries that were found
pub puts_updates : (terms : Terms) (t : Table) (find : ℤ → Option ValueList) (old new : Work) (answer : Result (Unit {0}) WriteFault) → AreListsOf t find
    → AddsAll terms (plan terms.updates terms.shape.fields old.tracked.sent t) old answer new → PutsUpdates terms t old answer new
puts_updates terms t find old new (Ok done) lists x = record { known = lists.known; one = lists.one; is_work = x }
puts_updates terms t find old new (Err TooLarge) lists x = (record { one = lists.one; large = x.0 }, x.1)
puts_updates terms t find old new (Err DictionariesDiffer) lists x = let impossible = x.0 in absurd (cc)
puts_updates terms t find old new (Err Memory) lists x = x
puts_updates terms t find old new (Err SchemaDiffers) lists x = x
puts_updates terms t find old new (Err Sink) lists x = x
puts_updates terms t find old new (Err Broken) lists x = x
puts_updates terms t find old new (Err Finished) lists x = x

module _ (terms : Terms) (place : ℕ) (t : Table) (ds : List (ℤ × ValueList)) where
  -- the tests in their order
  by_tests : (a b c d e : Bool) → a ≡ true → b ≡ true → c ≡ true → d ≡ true → e ≡ true
      → cond (not a) (Some SchemaDiffers) (cond (not b) (Some DictionariesDiffer) (cond (not (c && d && e)) (Some TooLarge) None)) ≡ None
  by_tests true true true true true ha hb hc hd he = refl
  by_tests true true true true false ha hb hc hd he = absurd (cc)
  by_tests true true true false e ha hb hc hd he = absurd (cc)
  by_tests true true false d e ha hb hc hd he = absurd (cc)
  by_tests true false c d e ha hb hc hd he = absurd (cc)
  by_tests false b c d e ha hb hc hd he = absurd (cc)

  pub admitted_by : is_equal schema_code t.schema terms.shape ≡ true → has_one_list t ≡ true → list_all (sending_fits terms.limits terms.align terms.shape.fields) (plan terms.updates terms.shape.fields ds t) ≡ true
      → frame_fits terms.limits terms.align (batch_size terms.align terms.shape.fields) terms.shape.fields (raws_of t.columns) t.rows ≡ true → place + part_size (options_of terms) terms.shape.fields ds t ≤ 2 ^ 62
      → admission terms.limits (options_of terms) terms.shape ds place t ≡ None
  admitted_by a b c d e =
      by_tests (is_equal schema_code t.schema terms.shape) (has_one_list t) (list_all (sending_fits terms.limits terms.align terms.shape.fields) (plan terms.updates terms.shape.fields ds t))
      (frame_fits terms.limits terms.align (batch_size terms.align terms.shape.fields) terms.shape.fields (raws_of t.columns) t.rows) (leb (place + part_size (options_of terms) terms.shape.fields ds t) (2 ^ 62))
      a b c d (le-leb (place + part_size (options_of terms) terms.shape.fields ds t) (2 ^ 62) e)

  schema_by : (a b c : Bool) → a ≡ false → cond (not a) (Some SchemaDiffers) (cond (not b) (Some DictionariesDiffer) (cond (not c) (Some TooLarge) None)) ≡ Some SchemaDiffers
  schema_by false b c h = refl
  schema_by true b c h = absurd (cc)

  lists_by : (a b c : Bool) → a ≡ true → b ≡ false → cond (not a) (Some SchemaDiffers) (cond (not b) (Some DictionariesDiffer) (cond (not c) (Some TooLarge) None)) ≡ Some DictionariesDiffer
  lists_by true false c h g = refl
  lists_by true true c h g = absurd (cc)
  lists_by false b c h g = absurd (cc)

  large_by : (a b c : Bool) → a ≡ true → b ≡ true → c ≡ false → cond (not a) (Some SchemaDiffers) (cond (not b) (Some DictionariesDiffer) (cond (not c) (Some TooLarge) None)) ≡ Some TooLarge
  large_by true true false h g f = refl
  large_by true true true h g f = absurd (cc)
  large_by true false c h g f = absurd (cc)
  large_by false b c h g f = absurd (cc)

  pub schema_differs : is_equal schema_code t.schema terms.shape ≡ false → admission terms.limits (options_of terms) terms.shape ds place t ≡ Some SchemaDiffers
  schema_differs h = schema_by (is_equal schema_code t.schema terms.shape) (has_one_list t) (part_fits terms.limits (options_of terms) terms.shape.fields ds place t) h

  pub lists_differ : is_equal schema_code t.schema terms.shape ≡ true → has_one_list t ≡ false → admission terms.limits (options_of terms) terms.shape ds place t ≡ Some DictionariesDiffer
  lists_differ h g = lists_by (is_equal schema_code t.schema terms.shape) (has_one_list t) (part_fits terms.limits (options_of terms) terms.shape.fields ds place t) h g

  too_large : is_equal schema_code t.schema terms.shape ≡ true → has_one_list t ≡ true → part_fits terms.limits (options_of terms) terms.shape.fields ds place t ≡ false
      → admission terms.limits (options_of terms) terms.shape ds place t ≡ Some TooLarge
  too_large h g f = large_by (is_equal schema_code t.schema terms.shape) (has_one_list t) (part_fits terms.limits (options_of terms) terms.shape.fields ds place t) h g f

  -- a batch whose dictionary batches were not built is rejected
  pub not_updated : (fault : WriteFault) → is_equal schema_code t.schema terms.shape ≡ true → IsNotUpdated terms t ds fault → IsRefusedWith terms place t ds fault
  not_updated TooLarge h x =
      too_large h x.one (and_left (list_all (sending_fits terms.limits terms.align terms.shape.fields) (plan terms.updates terms.shape.fields ds t)
      && frame_fits terms.limits terms.align (batch_size terms.align terms.shape.fields) terms.shape.fields (raws_of t.columns) t.rows) (leb (place + part_size (options_of terms) terms.shape.fields ds t) (2 ^ 62))
      (and_left (list_all (sending_fits terms.limits terms.align terms.shape.fields) (plan terms.updates terms.shape.fields ds t))
      (frame_fits terms.limits terms.align (batch_size terms.align terms.shape.fields) terms.shape.fields (raws_of t.columns) t.rows) x.large))
  not_updated DictionariesDiffer h x = lists_differ h x
  not_updated Memory h x = x
  not_updated SchemaDiffers h x = absurd (cc)
  not_updated Sink h x = x
  not_updated Broken h x = x
  not_updated Finished h x = x

  -- so is a batch whose record batch is rejected
  pub record_refused : (fault : WriteFault) (old new : List ℕ) → t.schema ≡ terms.shape → is_equal schema_code t.schema terms.shape ≡ true → has_one_list t ≡ true
      → Puts terms (record_load t) old (Err fault) new → IsRefusedWith terms place t ds fault
  record_refused TooLarge old new same h g x =
      too_large h g (and_left (list_all (sending_fits terms.limits terms.align terms.shape.fields) (plan terms.updates terms.shape.fields ds t)
      && frame_fits terms.limits terms.align (batch_size terms.align terms.shape.fields) terms.shape.fields (raws_of t.columns) t.rows) (leb (place + part_size (options_of terms) terms.shape.fields ds t) (2 ^ 62))
      (and_right (list_all (sending_fits terms.limits terms.align terms.shape.fields) (plan terms.updates terms.shape.fields ds t))
      (frame_fits terms.limits terms.align (batch_size terms.align terms.shape.fields) terms.shape.fields (raws_of t.columns) t.rows)
      (subst (λ (shape : SchemaShape). frame_fits terms.limits terms.align (batch_size terms.align shape.fields) shape.fields (raws_of t.columns) t.rows ≡ false) same x)))
  record_refused Memory old new same h g x = x
  record_refused SchemaDiffers old new same h g x = absurd (cc)
  record_refused DictionariesDiffer old new same h g x = absurd (cc)
  record_refused Sink old new same h g x = x
  record_refused Broken old new same h g x = x
  record_refused Finished old new same h g x = x

  -- THE RECORD BATCH'S FRAME AFTER THOSE OF THE DICTIONARIES COMPLETES THE MESSAGES OF A BATCH

  module _ (same : t.schema ≡ terms.shape) (work : Work) (bytes : List ℕ) (x : IsWorkOf terms ds (plan terms.updates terms.shape.fields ds t) work) (y : PutsLoad terms (record_load t) work.bytes bytes) where
    its_built : IsBuilt terms.align terms.shape.fields (raws_of t.columns) t.rows y.record_batch y.body
    its_built = subst (λ (shape : SchemaShape). IsBuilt terms.align shape.fields (raws_of t.columns) t.rows y.record_batch y.body) same y.built

    its_frame : IsFrameOf terms.limits (batch_size terms.align terms.shape.fields) (batch y.record_batch) y.body y.frame
    its_frame = subst (λ (shape : SchemaShape). IsFrameOf terms.limits (batch_size terms.align shape.fields) (batch y.record_batch) y.body y.frame) same y.is_frame

    -- the messages of the batch have their computed size
    pub part_sized : length bytes ≡ part_size (options_of terms) terms.shape.fields ds t
    part_sized =
        let updates = ap length (sym x.built.same) ∙ updates_sized terms.limits terms.align terms.shape ds (plan terms.updates terms.shape.fields ds t) x.built.frames x.built.updates in
        let last = frame_length its_frame in
        let own = its_built.columns.sized in
        ap length y.appended ∙ length-append work.bytes y.frame ∙ omega arith

    -- batch messages that would end past the last offset are rejected
    pub place_refused : is_equal schema_code t.schema terms.shape ≡ true → has_one_list t ≡ true → 2 ^ 62 < place + length bytes → admission terms.limits (options_of terms) terms.shape ds place t ≡ Some TooLarge
    place_refused h g over =
        let sized = part_sized in
        too_large h g (and_right (list_all (sending_fits terms.limits terms.align terms.shape.fields) (plan terms.updates terms.shape.fields ds t)
        && frame_fits terms.limits terms.align (batch_size terms.align terms.shape.fields) terms.shape.fields (raws_of t.columns) t.rows) (leb (place + part_size (options_of terms) terms.shape.fields ds t) (2 ^ 62))
        (lt-leb (place + part_size (options_of terms) terms.shape.fields ds t) (2 ^ 62) (omega arith)))

    pub part_of : is_equal schema_code t.schema terms.shape ≡ true → has_one_list t ≡ true → IsKnown t → place + length bytes ≤ 2 ^ 62 → IsPartBuilt terms place t ds bytes work.tracked
    part_of h g known near =
        let f = record_frame terms.shape (lists_after terms.updates terms.shape.fields ds t) y.record_batch y.body t.rows y.frame in
        let sized = part_sized in
        record {
          frames = x.built.frames ++ f ∷ [];
          is_part = record {
            admitted = admitted_by h g x.fit (subst (λ (shape : SchemaShape). frame_fits terms.limits terms.align (batch_size terms.align shape.fields) shape.fields (raws_of t.columns) t.rows ≡ true) same y.fits_in) (omega arith);
            known = known;
            updated = x.built.frames;
            updates = x.built.updates;
            record_batch = y.record_batch;
            body = y.body;
            built = its_built;
            last = y.frame;
            frame = its_frame;
            frames = refl;
          };
          same = frames_bytes-append x.built.frames (f ∷ []) ∙ ap (λ r. frames_bytes x.built.frames ++ r) (append-nil y.frame) ∙ ap (λ r. r ++ y.frame) x.built.same ∙ sym y.appended;
          sized = sized;
          kept = x.sent;
          staged = x.next;
        }
