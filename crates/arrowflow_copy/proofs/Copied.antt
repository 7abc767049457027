-- A stream that is copied message by message.
use Rattle.std.proofs.Common.{◌≡◌, ℕ, ◌+◌, Bool, true, false, List, [], ◌∷◌, ◌++◌, length, take, drop, Option, None, Some, Result, Ok, Err, inl, inr, refl, sym, ap, ◌∙◌, subst, append_assoc, append-nil, take-append-drop, is_some}
use Rattle.std.specs.Prelude.{OnOk}
use Rattle.std.specs.Io.KnownBytes.{Appends}
use Rattle.std.proofs.KnownBytes.{Appends-nil}
use Rattle.std.proofs.lemmas.Bool.{false≢true}
use Rattle.std.proofs.lemmas.List.{length-append}
use Rattle.arrow_types.specs.Limits.{LimitNumbers}
use Rattle.arrow_types.specs.Notes.{SchemaShape}
use Rattle.arrow_types.specs.Schema.{IsNoted}
use Rattle.arrow_data.specs.Batch.{Table}
use Rattle.arrow_sink.specs.Sinks.{AcceptsBeginning}
use Rattle.arrow_stream_reader.specs.declared.item.Item.{Item}
use Rattle.arrow_stream_reader.specs.declared.reader.Verdict.TheVariants.{Open, Done, Bad}
use Rattle.arrow_stream_reader.specs.declared.reader.Verdict.{Verdict}
use Rattle.arrow_stream_reader.specs.Front.{Entry, Snapshot, Front, FrontOf, closes, fails, goes_on, rests}
use Rattle.arrow_stream_reader.specs.State.{StreamState, Given, batch_given, dictionary_given, ended, nothing_yet, schema_given}
use Rattle.arrow_stream_reader.specs.Stream.{ReaderView, IsReaderAt, GivesNext, ended_by, ended_so}
use Rattle.arrow_stream_reader.specs.Tables.{table_in, tables_of}
use Rattle.arrow_stream_reader.specs.Views.{given}
use Rattle.arrow_sink.specs.declared.write_fault.WriteFault.{WriteFault}
use Rattle.arrow_sink.specs.declared.write_fault.WriteFault.TheVariants as kinds
use Rattle.arrow_stream_laws.specs.Admission.{admission, marker_fits}
use Rattle.arrow_stream_laws.specs.Frames.{Frame, frames_bytes, left_by}
use Rattle.arrow_stream_laws.specs.Sizes.{Options}
use Rattle.arrow_stream_laws.specs.Text.{IsPart, Text, Written, adds, begins, finished, joined, marker_frame, schema_frame, unfinished}
use Rattle.arrow_stream_laws.specs.Writer as writers
use Rattle.arrowflow_input.specs.Endings.{EndsWell}
use Rattle.arrowflow_input.specs.Consumer.{Comes, HasEnded, entry_of}
use Rattle.arrowflow_input.specs.Driver.{Driven}
use Rattle.arrowflow_input.specs.Session.{IsReaderAfter}
use Rattle.arrowflow_input.specs.Through.{IsThrough}
use Rattle.arrowflow_input.specs.declared.tool_fault.ToolFault.{ToolFault}
use Rattle.arrowflow_input.specs.declared.tool_fault.ToolFault.TheVariants.{Refused, Memory}
use Rattle.arrowflow_input.specs.declared.what.RefusedItem.{RefusedItem}
use Rattle.arrowflow_input.specs.declared.what.RefusedItem.TheVariants.{Start, Batch, Finish}
use Rattle.arrowflow_input.proofs.Feeding.{one_table}
use Rattle.arrowflow_input.proofs.Driving.{badly_at, snapshot_of, well_at}
use Rattle.arrowflow_input.proofs.Schemas.{front_begins, front_after, front_keeps}
use Rattle.arrowflow_input.proofs.Beginnings.{begun_all}
use Rattle.arrowflow_input.proofs.Through.{driven_so, driven_through}
use Rattle.arrowflow_copy.specs.Copy.{Copies, IsBegun, IsClosed, IsClosedInPart, IsCopied, IsSent, IsSentOf, IsSentInPartOf, RefusesBatch}
use Rattle.arrowflow_copy.specs.WriterState.{at_of, sink_in}
use Rattle.arrowflow_copy.specs.declared.copier.WriterState.{WriterState}
use Rattle.arrowflow_copy.specs.declared.copier.WriterState.TheVariants.{Waiting, Writing}
use Rattle.arrowflow_copy.specs.Copying.{AddsBatch, At, BeginsCopy, Closes, Began, HasAnswered, HasCopied, HasWritten, IsCopying, IsWriting, IsWritingOn, TakesItem, TakesFirst, TakesOne, fault_of, failures_at, held_at, waiting, writing}

-- ---- what was written

-- the text of a writer that writes
abbrev writing_text : (limits : LimitNumbers) (o : Options) (first : Option (List ℕ)) (start : ℕ) (schema : Option SchemaShape) (batches : List Table) (w : writers.WriterView) (x : IsWritingOn limits o first start schema batches w)
    → Written limits o w.shape false x.parts batches x.position.frames
writing_text limits o first start schema batches w x =
    subst (λ l. Written l o w.shape false x.parts batches x.position.frames) x.limits_are
    (subst (λ p. Written w.limits p w.shape false x.parts batches x.position.frames) x.options_are x.position.written)

-- the bytes that it has sent
abbrev writing_sent : (limits : LimitNumbers) (o : Options) (first : Option (List ℕ)) (start : ℕ) (schema : Option SchemaShape) (batches : List Table) (w : writers.WriterView) → IsWritingOn limits o first start schema batches w
    → IsSent limits o w.shape false batches first w.contents
writing_sent limits o first start schema batches w x = record {
  parts = x.parts;
  frames = x.position.frames;
  text = writing_text limits o first start schema batches w x;
  wrote = x.position.accepted;
}

-- the bytes sent for batches that were written
pub sent_of : (limits : LimitNumbers) (o : Options) (first : Option (List ℕ)) (start : ℕ) (schema : Option SchemaShape) (batches : List Table) (at : At) → HasWritten limits o first start schema batches at
    → IsSentOf limits o schema batches first (held_at at)
sent_of limits o first start schema batches (waiting held failed) x =
    subst (λ s. IsSentOf limits o s batches first held) (sym x.0) (subst (λ h. Appends first h []) (sym x.1) (Appends-nil first))
sent_of limits o first start schema batches (writing w) x =
    subst (λ s. IsSentOf limits o s batches first w.contents) (sym x.shape_is) (writing_sent limits o first start schema batches w x)

-- no call of the output failed
pub failed_of : (limits : LimitNumbers) (o : Options) (first : Option (List ℕ)) (start : ℕ) (schema : Option SchemaShape) (batches : List Table) (at : At) → HasWritten limits o first start schema batches at
    → failures_at at ≡ start
failed_of limits o first start schema batches (waiting held failed) x = x.2
failed_of limits o first start schema batches (writing w) x = x.failures_are

-- the bytes sent for the first of some batches are a prefix of a text of all of them
part_of : (limits : LimitNumbers) (o : Options) (schema : Option SchemaShape) (batches later all : List Table) (before after : Option (List ℕ)) → batches ++ later ≡ all → IsSentOf limits o schema batches before after
    → IsSentInPartOf limits o schema all before after
part_of limits o None batches later all before after whole s = s
part_of limits o (Some shape) batches later all before after whole s = inr (record {
  first = batches;
  later = later;
  all = whole;
  parts = s.parts;
  frames = s.frames;
  text = s.text;
  wrote = begun_all before after (joined s.parts) s.wrote;
})

-- the text of a connection that is not closed
open_text : {limits : LimitNumbers} {o : Options} {shape : SchemaShape} {closed : Bool} {parts : List (List ℕ)} {batches : List Table} {frames : List Frame}
    → Written limits o shape closed parts batches frames → closed ≡ false → Text limits o shape parts batches frames
open_text (unfinished parts batches frames text) c = text
open_text (finished parts batches frames b text fits marker) c = absurd (false≢true (sym c))

-- ---- which message is the schema

-- the complete messages at the start of the bytes that a reader was given
pub front_at : (limits : LimitNumbers) (r : ReaderView) (t : List ℕ) (es : List Entry) (x : IsReaderAt r t es) → r.limits ≡ limits → FrontOf limits t es (snapshot_of r x.rest)
front_at limits r t es x same = subst (λ l. FrontOf l t es (snapshot_of r x.rest)) same x.front

-- a stream without a schema has no messages
nothing_given : {l : LimitNumbers} {t : List ℕ} {es : List Entry} {e : Snapshot} → FrontOf l t es e → e.state.schema ≡ None → es ≡ []
nothing_given {es = []} front none = refl
nothing_given {es = x ∷ es} front none = let b = front_begins front refl (λ q. cc) in let q = sym none ∙ b.schema in absurd (cc)

-- its first message is the schema
pub record ComesFirst (x : Entry) (es : List Entry) (f : Snapshot) : Type 0 where
  pub shape : SchemaShape
  pub schema : f.state.schema ≡ Some shape
  pub none : es ≡ []
  pub is_schema : x.given ≡ schema_given

comes_first : {l : LimitNumbers} {t : List ℕ} {es : List Entry} {e f : Snapshot} (c : List ℕ) (x : Entry) → FrontOf l t es e → e.state.schema ≡ None → FrontOf l (t ++ c) (es ++ x ∷ []) f → ComesFirst x es f
comes_first {es = []} {f = f} c x old none new =
    let b = front_begins new refl (λ q. cc) in
    let same : x ≡ b.first = cc in
    record { shape = b.shape; schema = b.schema; none = refl; is_schema = ap (λ (y : Entry). y.given) same ∙ b.given }
comes_first {es = y ∷ es} c x old none new = let q = nothing_given old none in absurd (cc)

last_of : (es more : List Entry) (x : Entry) → es ++ x ∷ [] ≡ es ++ more → more ≡ x ∷ []
last_of [] more x q = sym q
last_of (e ∷ es) more x q = let rest : es ++ x ∷ [] ≡ es ++ more = cc in last_of es more x rest

-- no later one changes the schema
schema_stays : {l : LimitNumbers} {t : List ℕ} {es : List Entry} {e f : Snapshot} (c : List ℕ) (x : Entry) (shape : SchemaShape) → FrontOf l t es e → e.verdict ≡ Open → e.state.schema ≡ Some shape
    → FrontOf l (t ++ c) (es ++ x ∷ []) f → f.state.schema ≡ Some shape
schema_stays c x shape old o known new = let w = front_after c old o new in (front_keeps w.after shape known).schema

-- ---- one more message

module _ (began : Began) (at : At) (number : ℕ) (now new : ReaderView) (u rest : List ℕ) (es : List Entry) (n : ℕ) (item : Item) (is_open : now.at.verdict ≡ Open) (same : new.limits ≡ now.limits) (at_old : IsReaderAt now u es)
    (x : HasCopied began at number now.limits now.at.state es) (gives : GivesNext rest n item new u es) where
  abbrev limits : LimitNumbers
  limits = began.limits

  abbrev o : Options
  o = began.options

  abbrev first : Option (List ℕ)
  first = began.first

  abbrev start : ℕ
  start = began.failures

  abbrev entry : Entry
  entry = record { given = given item; end = length u + n }

  abbrev taken : List ℕ
  taken = u ++ take n rest

  abbrev entries : List Entry
  entries = es ++ entry ∷ []

  abbrev snapshot : Snapshot
  snapshot = snapshot_of new gives.position.rest

  old_front : FrontOf limits u es (snapshot_of now at_old.rest)
  old_front = front_at limits now u es at_old x.limits_are

  new_front : FrontOf limits taken entries snapshot
  new_front = front_at limits new taken entries gives.position (same ∙ x.limits_are)

  whole : taken ++ drop n rest ≡ u ++ rest
  whole = append_assoc u (take n rest) (drop n rest) ∙ ap (λ y. u ++ y) (take-append-drop n rest)

  tables : tables_of entries ≡ tables_of es ++ table_in (given item)
  tables = one_table es entry

  -- the copy is after the message
  copying : (at' : At) (number' : ℕ) → number' ≡ length (tables_of entries) → HasWritten limits o first start new.at.state.schema (tables_of entries) at' → HasCopied began at' number' new.limits new.at.state entries
  copying at' number' k h = record { limits_are = same ∙ x.limits_are; counted = k; written = h }

  -- a prefix of the copy of the messages was written
  begun : (held : Option (List ℕ)) → IsSentInPartOf limits o new.at.state.schema (tables_of entries) first held → IsBegun limits o (u ++ rest) first held
  begun held s = record { taken = taken; rest = drop n rest; whole = whole; snapshot = snapshot; entries = entries; front = new_front; sent = s }

  -- the outcome: the copy goes on, or ends
  abbrev pub Goes : Result (Unit {0}) ToolFault → At → ℕ → Type 0
  Goes (Ok done) at' number' = HasCopied began at' number' new.limits new.at.state entries
  Goes (Err f) at' number' = (left : Option (List ℕ)) → Copies limits o (u ++ rest) left first start (Err f) (held_at at') (failures_at at')

  module _ (shape : SchemaShape) (schema : new.at.state.schema ≡ Some shape) (known : IsNoted shape) (none : es ≡ []) (is_schema : given item ≡ schema_given) where
    no_tables : tables_of entries ≡ []
    no_tables = tables ∙ ap (λ e. tables_of e ++ table_in (given item)) none ∙ ap table_in is_schema

    no_number : (number' : ℕ) → number' ≡ number → number' ≡ length (tables_of entries)
    no_number number' k = k ∙ x.counted ∙ ap (λ e. length (tables_of e)) none ∙ ap length (sym no_tables)

    nothing_sent : (held : Option (List ℕ)) → held ≡ first → IsSentInPartOf limits o new.at.state.schema (tables_of entries) first held
    nothing_sent held h = subst (λ s. IsSentInPartOf limits o s (tables_of entries) first held) (sym schema) (inl (subst (λ y. Appends first y []) (sym h) (Appends-nil first)))

    begins_so : (answer : Result (Unit {0}) ToolFault) (at' : At) (number' : ℕ) → BeginsCopy limits o shape first start answer at' → number' ≡ number → Goes answer at' number'
    begins_so (Ok done) at' number' b k =
        let w = b.0 in
        let s = b.2 in
        subst (λ a. Goes (Ok done) a number') (sym b.1) (copying (writing w) number' (no_number number' k) (record {
          parts = s.part ∷ [];
          position = subst (λ ts. writers.IsWriterAt w first false (s.part ∷ []) ts) (sym no_tables) s.position;
          shape_is = schema ∙ ap Some (sym (ap (λ (v : writers.WriterView). v.shape) s.new_is));
          limits_are = ap (λ (v : writers.WriterView). v.limits) s.new_is;
          options_are = ap (λ (v : writers.WriterView). v.options) s.new_is;
          failures_are = ap (λ (v : writers.WriterView). v.failures) s.new_is;
        }))
    begins_so (Err f) at' number' b k =
        subst (λ a. Goes (Err f) a number') (sym b.4) (subst (λ g. Goes (Err g) (waiting b.1 b.2) number') (sym b.3) (by b.0 b.1 b.2 b.5))
      where
        by : (kind : WriteFault) (held : Option (List ℕ)) (failed : ℕ) → writers.StartFails limits o shape first start kind held failed → Goes (Err (fault_of Start kind)) (waiting held failed) number'
        by kinds.TooLarge held failed s = λ left. (
          record {
            taken = taken;
            rest = drop n rest;
            whole = whole;
            entry = entry;
            snapshot = snapshot;
            front = subst (λ e. FrontOf limits taken (e ++ entry ∷ []) snapshot) none new_front;
            is_schema = is_schema;
            shape = shape;
            schema = schema;
            refusal = s.0;
            wrote = subst (λ y. Appends first y []) (sym s.1) (Appends-nil first);
          },
          s.2,
        )
        by kinds.Memory held failed s = λ left. (begun held (nothing_sent held s.0), s.1)
        by kinds.Sink held failed s = λ left. (
          inl (begun held (subst (λ z. IsSentInPartOf limits o z (tables_of entries) first held) (sym schema) (inr (record {
            first = [];
            later = tables_of entries;
            all = refl;
            parts = s.part ∷ [];
            frames = schema_frame shape s.part ∷ [];
            text = unfinished (s.part ∷ []) [] (schema_frame shape s.part ∷ []) (begins s.part known s.admitted s.is_frame);
            wrote = subst (AcceptsBeginning first held) (sym (append-nil s.part)) s.accepted;
          })))),
          s.failed,
        )
        by kinds.SchemaDiffers held failed s = absurd s
        by kinds.DictionariesDiffer held failed s = absurd s
        by kinds.Broken held failed s = absurd s
        by kinds.Finished held failed s = absurd s

  module _ (w : writers.WriterView) (y : IsWritingOn limits o first start now.at.state.schema (tables_of es) w) where
    stays_open : new.at.state.schema ≡ Some w.shape
    stays_open = schema_stays (take n rest) entry w.shape old_front is_open y.shape_is new_front

    sent_before : IsSentInPartOf limits o new.at.state.schema (tables_of entries) first w.contents
    sent_before =
        subst (λ z. IsSentInPartOf limits o z (tables_of entries) first w.contents) (sym stays_open)
        (part_of limits o (Some w.shape) (tables_of es) (table_in (given item)) (tables_of entries) first w.contents (sym tables) (writing_sent limits o first start now.at.state.schema (tables_of es) w y))

    -- a message that is not a batch changes nothing
    passes : (answer : Result (Unit {0}) ToolFault) (at' : At) (number' : ℕ) → table_in (given item) ≡ [] → (answer ≡ Ok tt) × (at' ≡ writing w) × (number' ≡ number) → Goes answer at' number'
    passes answer at' number' none z =
        let all : tables_of es ≡ tables_of entries = sym (tables ∙ ap (λ ts. tables_of es ++ ts) none ∙ append-nil (tables_of es)) in
        subst (λ r. Goes r at' number') (sym z.0)
        (subst (λ a. Goes (Ok tt) a number') (sym z.1) (copying (writing w) number' (z.2 ∙ x.counted ∙ ap length all) (record {
          parts = y.parts;
          position = subst (λ ts. writers.IsWriterAt w first false y.parts ts) all y.position;
          shape_is = stays_open;
          limits_are = y.limits_are;
          options_are = y.options_are;
          failures_are = y.failures_are;
        })))

    module _ (t : Table) (is : given item ≡ batch_given t) where
      with_batch : tables_of entries ≡ tables_of es ++ t ∷ []
      with_batch = tables ∙ ap (λ g. tables_of es ++ table_in g) is

      refuses : (kind : WriteFault) (w' : writers.WriterView) → writers.RefusesWrite w t kind w' → RefusesBatch limits o (u ++ rest) number kind first w'.contents × (w'.failures ≡ start)
      refuses kind w' r =
          subst (λ (v : writers.WriterView). RefusesBatch limits o (u ++ rest) number kind first v.contents × (v.failures ≡ start)) (sym r.unchanged) (
            record {
              taken = taken;
              rest = drop n rest;
              whole = whole;
              entries = es;
              entry = entry;
              snapshot = snapshot;
              front = new_front;
              table = t;
              is_batch = is;
              numbered = x.counted;
              shape = w.shape;
              schema = stays_open;
              sent = writing_sent limits o first start now.at.state.schema (tables_of es) w y;
              refusal = sym (λ i. admission (y.limits_are i) (y.options_are i) w.shape (y.position.sent_are i) (y.position.place_is i) t) ∙ r.refusal;
            },
            y.failures_are,
          )

      -- the batch messages belong to this text
      part_here : (fs : List Frame) → IsPart w.limits w.options w.shape w.sent w.place t fs → IsPart limits o w.shape (left_by nothing_yet y.position.frames).dictionaries (length (joined y.parts)) t fs
      part_here fs p =
          subst (λ l. IsPart l o w.shape (left_by nothing_yet y.position.frames).dictionaries (length (joined y.parts)) t fs) y.limits_are
          (subst (λ q. IsPart w.limits q w.shape (left_by nothing_yet y.position.frames).dictionaries (length (joined y.parts)) t fs) y.options_are
          (subst (λ d. IsPart w.limits w.options w.shape d (length (joined y.parts)) t fs) y.position.sent_are (subst (λ m. IsPart w.limits w.options w.shape w.sent m t fs) y.position.place_is p)))

      breaks : (w' : writers.WriterView) → writers.Fails w t w' → IsSentInPartOf limits o new.at.state.schema (tables_of entries) first w'.contents
      breaks w' f = subst (λ z. IsSentInPartOf limits o z (tables_of entries) first w'.contents) (sym stays_open) (inr (record {
        first = tables_of es ++ t ∷ [];
        later = [];
        all = append-nil (tables_of es ++ t ∷ []) ∙ sym with_batch;
        parts = y.parts ++ frames_bytes f.frames ∷ [];
        frames = y.position.frames ++ f.frames;
        text = unfinished (y.parts ++ frames_bytes f.frames ∷ []) (tables_of es ++ t ∷ []) (y.position.frames ++ f.frames)
            (adds y.parts (tables_of es) y.position.frames t f.frames (open_text (writing_text limits o first start now.at.state.schema (tables_of es) w y) refl) (part_here f.frames f.is_part));
        wrote = f.in_all first y.parts (tables_of es) y.position;
      }))

      stops : (kind : WriteFault) (w' : writers.WriterView) (number' : ℕ) → writers.Writes w t (Err kind) w' → Goes (Err (fault_of (Batch number) kind)) (writing w') number'
      stops kinds.SchemaDiffers w' number' r = λ left. refuses kinds.SchemaDiffers w' r
      stops kinds.TooLarge w' number' r = λ left. refuses kinds.TooLarge w' r
      stops kinds.DictionariesDiffer w' number' r = λ left. refuses kinds.DictionariesDiffer w' r
      stops kinds.Sink w' number' f = λ left. (inl (begun w'.contents (breaks w' f)), ap (λ (v : writers.WriterView). v.failures) f.new_is ∙ ap (λ m. m + 1) y.failures_are)
      stops kinds.Broken w' number' s = let q = sym s.before ∙ y.position.status_is in absurd (cc)
      stops kinds.Finished w' number' s = let q = sym s.before ∙ y.position.status_is in absurd (cc)
      stops kinds.Memory w' number' s =
          λ left. subst (λ (v : writers.WriterView). IsBegun limits o (u ++ rest) first v.contents × (v.failures ≡ start)) (sym s.unchanged) (begun w.contents sent_before, y.failures_are)

      adds_so : (answer : Result (Unit {0}) ToolFault) (at' : At) (number' : ℕ) → AddsBatch w t number answer at' number' → Goes answer at' number'
      adds_so (Ok done) at' number' z =
          let w' = z.0 in
          let a = z.2 in
          subst (λ b. Goes (Ok done) b number') (sym z.1) (copying (writing w') number' (z.3 ∙ ap (λ m. m + 1) x.counted ∙ sym (ap length with_batch ∙ length-append (tables_of es) (t ∷ []))) (record {
            parts = y.parts ++ frames_bytes a.frames ∷ [];
            position = subst (λ ts. writers.IsWriterAt w' first false (y.parts ++ frames_bytes a.frames ∷ []) ts) (sym with_batch) (a.position first y.parts (tables_of es) y.position);
            shape_is = stays_open ∙ ap Some (sym (ap (λ (v : writers.WriterView). v.shape) a.new_is));
            limits_are = ap (λ (v : writers.WriterView). v.limits) a.new_is ∙ y.limits_are;
            options_are = ap (λ (v : writers.WriterView). v.options) a.new_is ∙ y.options_are;
            failures_are = ap (λ (v : writers.WriterView). v.failures) a.new_is ∙ y.failures_are;
          }))
      adds_so (Err f) at' number' (inl z) = subst (λ g. Goes (Err g) at' number') (sym z.0) (subst (λ b. Goes (Err Memory) b number') (sym z.1) (λ left. (begun w.contents sent_before, y.failures_are)))
      adds_so (Err f) at' number' (inr z) = subst (λ g. Goes (Err g) at' number') (sym z.2) (subst (λ b. Goes (Err (fault_of (Batch number) z.0)) b number') (sym z.3) (stops z.0 z.1 number' z.4))

    takes_one : (g : Given) → given item ≡ g → (answer : Result (Unit {0}) ToolFault) (at' : At) (number' : ℕ) → TakesOne w g number answer at' number' → Goes answer at' number'
    takes_one schema_given is answer at' number' z = passes answer at' number' (ap table_in is) z
    takes_one (dictionary_given id) is answer at' number' z = passes answer at' number' (ap table_in is) z
    takes_one (batch_given t) is answer at' number' z = adds_so t is answer at' number' z
    takes_one ended is answer at' number' z = passes answer at' number' (ap table_in is) z

  -- After a message is handled, the copy is after it, or has ended as specified.
  pub item_goes : (answer : Result (Unit {0}) ToolFault) (at' : At) (number' : ℕ) → TakesItem limits o new.at.state.schema (given item) at number answer at' number' → Goes answer at' number'
  item_goes answer at' number' takes = by at x.written takes
    where
      by : (a : At) → HasWritten limits o first start now.at.state.schema (tables_of es) a → TakesItem limits o new.at.state.schema (given item) a number answer at' number' → Goes answer at' number'
      by (waiting held failed) h z =
          let c = comes_first (take n rest) entry old_front h.0 new_front in
          let b = subst (λ s. TakesFirst limits o s held failed answer at') c.schema z.0 in
          begins_so c.shape c.schema b.0 c.none c.is_schema answer at' number' (subst (λ m. BeginsCopy limits o c.shape first m answer at') h.2 (subst (λ k. BeginsCopy limits o c.shape k failed answer at') h.1 b.1)) z.1
      by (writing w) h z = takes_one w h (given item) refl answer at' number' z

module _ (began : Began) (at : At) (number : ℕ) (r : ReaderView) (t : List ℕ) (es : List Entry) (position : IsReaderAt r t es) (x : HasCopied began at number r.limits r.at.state es) where
  -- so far everything was copied
  abbrev pub copied_at : IsCopied began.limits began.options t (snapshot_of r position.rest) began.first (held_at at)
  copied_at = record {
    entries = es;
    front = front_at began.limits r t es position x.limits_are;
    sent = sent_of began.limits began.options began.first began.failures r.at.state.schema (tables_of es) at x.written;
  }

  -- so the copy was begun, with more bytes after it
  pub begun_at : (c : List ℕ) → IsBegun began.limits began.options (t ++ c) began.first (held_at at)
  begun_at c = record {
    taken = t;
    rest = c;
    whole = refl;
    snapshot = snapshot_of r position.rest;
    entries = es;
    front = front_at began.limits r t es position x.limits_are;
    sent = part_of began.limits began.options r.at.state.schema (tables_of es) [] (tables_of es) began.first (held_at at) (append-nil (tables_of es)) copied_at.sent;
  }

  -- no call of the output failed
  pub failures_stay : failures_at at ≡ began.failures
  failures_stay = failed_of began.limits began.options began.first began.failures r.at.state.schema (tables_of es) at x.written

-- ---- the end

module _ (began : Began) (number : ℕ) (r : ReaderView) (t : List ℕ) (es : List Entry) (left : Option (List ℕ)) (position : IsReaderAt r t es) (well : EndsWell left (snapshot_of r position.rest)) where
  module _ (w : writers.WriterView) (x : HasCopied began (writing w) number r.limits r.at.state es) where
    abbrev y : IsWritingOn began.limits began.options began.first began.failures r.at.state.schema (tables_of es) w
    y = x.written

    front : FrontOf began.limits t es (snapshot_of r position.rest)
    front = front_at began.limits r t es position x.limits_are

    ends : (w' : writers.WriterView) → writers.Ends w w' → IsClosed began.limits began.options t (snapshot_of r position.rest) began.first w'.contents
    ends w' e =
        let s = e.position began.first y.parts (tables_of es) y.position in
        let parts = y.parts ++ e.marker ∷ [] in
        let limits_are : w'.limits ≡ began.limits = ap (λ (v : writers.WriterView). v.limits) e.new_is ∙ y.limits_are in
        let options_are : w'.options ≡ began.options = ap (λ (v : writers.WriterView). v.options) e.new_is ∙ y.options_are in
        let shape_is : w'.shape ≡ w.shape = ap (λ (v : writers.WriterView). v.shape) e.new_is in
        record {
          entries = es;
          front = front;
          shape = w.shape;
          schema = y.shape_is;
          sent = record {
            parts = parts;
            frames = s.frames;
            text = subst (λ l. Written l began.options w.shape true parts (tables_of es) s.frames) limits_are
                (subst (λ p. Written w'.limits p w.shape true parts (tables_of es) s.frames) options_are (subst (λ f. Written w'.limits w'.options f true parts (tables_of es) s.frames) shape_is s.written));
            wrote = s.accepted;
          };
        }

    fails_at_end : (w' : writers.WriterView) → writers.FailsAtEnd w w' → IsClosedInPart began.limits began.options t left began.first w'.contents
    fails_at_end w' f = record {
      snapshot = snapshot_of r position.rest;
      entries = es;
      front = front;
      well = well;
      shape = w.shape;
      schema = y.shape_is;
      parts = y.parts ++ f.marker ∷ [];
      frames = y.position.frames ++ marker_frame (left_by nothing_yet y.position.frames) f.marker ∷ [];
      text = finished y.parts (tables_of es) y.position.frames f.marker (open_text (writing_text began.limits began.options began.first began.failures r.at.state.schema (tables_of es) w y) refl) (sym (ap marker_fits y.position.place_is) ∙ f.fits_in) f.is_marker;
      wrote = f.in_all began.first y.parts (tables_of es) y.position;
    }

    no_end : (kind : WriteFault) (w' : writers.WriterView) → writers.Finishes w (Err kind) w' → Copies began.limits began.options t left began.first began.failures (Err (fault_of Finish kind)) w'.contents w'.failures
    no_end kinds.TooLarge w' p =
        subst (λ (v : writers.WriterView). Copies began.limits began.options t left began.first began.failures (Err (Refused Finish kinds.TooLarge)) v.contents v.failures) (sym p.unchanged) (
          (
            snapshot_of r position.rest,
            record {
              entries = es;
              front = front;
              shape = w.shape;
              schema = y.shape_is;
              sent = writing_sent began.limits began.options began.first began.failures r.at.state.schema (tables_of es) w y;
              refusal = sym (ap marker_fits y.position.place_is) ∙ p.passes;
              is_large = refl;
            },
            well,
          ),
          y.failures_are,
        )
    no_end kinds.Sink w' f = (inr (fails_at_end w' f), ap (λ (v : writers.WriterView). v.failures) f.new_is ∙ ap (λ m. m + 1) y.failures_are)
    no_end kinds.Broken w' s = let q = sym s.before ∙ y.position.status_is in absurd (cc)
    no_end kinds.Finished w' s = let q = sym s.before ∙ y.position.status_is in absurd (cc)
    no_end kinds.Memory w' s = absurd s
    no_end kinds.SchemaDiffers w' s = absurd s
    no_end kinds.DictionariesDiffer w' s = absurd s

    closes_so : (answer : Result (Unit {0}) ToolFault) (at' : At) → Closes (writing w) answer at' → Copies began.limits began.options t left began.first began.failures answer (held_at at') (failures_at at')
    closes_so (Ok done) at' z =
        subst (λ b. Copies began.limits began.options t left began.first began.failures (Ok done) (held_at b) (failures_at b)) (sym z.1)
        ((snapshot_of r position.rest, ends z.0 z.2, well), ap (λ (v : writers.WriterView). v.failures) z.2.new_is ∙ y.failures_are)
    closes_so (Err f) at' z =
        subst (λ g. Copies began.limits began.options t left began.first began.failures (Err g) (held_at at') (failures_at at')) (sym z.2)
        (subst (λ b. Copies began.limits began.options t left began.first began.failures (Err (fault_of Finish z.0)) (held_at b) (failures_at b)) (sym z.3) (no_end z.0 z.1 z.4))

  -- The end marker after all batches, or why there is none.
  pub closed_so : (at : At) → HasCopied began at number r.limits r.at.state es → IsWriting at → (answer : Result (Unit {0}) ToolFault) (at' : At) → Closes at answer at' → Copies began.limits began.options t left began.first began.failures answer (held_at at') (failures_at at')
  closed_so (waiting held failed) x writes answer at' z = absurd writes
  closed_so (writing w) x writes answer at' z = closes_so w x answer at' z

-- a stream with an end marker has messages
done_some : {l : LimitNumbers} {s : StreamState} {p : ℕ} {b : List ℕ} {es : List Entry} {e : Snapshot} → Front l s p b es e → e.verdict ≡ Done → es ≡ [] → ⊥
done_some (rests x) d q = absurd (cc)
done_some (fails x) d q = absurd (cc)
done_some (closes x) d q = absurd (cc)
done_some (goes_on x xs) d q = absurd (cc)

-- a stream that ends well has a schema
pub ended_schema : (r : ReaderView) (t : List ℕ) (es : List Entry) → IsReaderAt r t es → ended_so r.at ≡ Ok tt → (r.at.state.schema ≡ None → ⊥)
ended_schema r t es x well none = by r.at.verdict refl
  where
    by : (v : Verdict) → r.at.verdict ≡ v → ⊥
    by Open v =
        let q : ended_by Open false r.at.rest r.at.place ≡ Ok tt = sym (λ i. ended_by (v i) (is_some (none i)) r.at.rest r.at.place) ∙ well in
        absurd (cc)
    by Done v = let b = front_begins x.front refl (done_some x.front v) in let q = sym none ∙ b.schema in absurd (cc)
    by (Bad k) v =
        let q : ended_by (Bad k) false r.at.rest r.at.place ≡ Ok tt = sym (λ i. ended_by (v i) (is_some (none i)) r.at.rest r.at.place) ∙ well in
        absurd (cc)

-- handling a message without an error does not change the count of failures
pub takes_failures : (l : LimitNumbers) (o : Options) (schema : Option SchemaShape) (g : Given) (at at' : At) (number number' : ℕ) → TakesItem l o schema g at number (Ok tt) at' number' → failures_at at' ≡ failures_at at
takes_failures l o None g (waiting held failed) at' number number' z = ap failures_at z.0.1
takes_failures l o (Some shape) g (waiting held failed) at' number number' z =
    let b = z.0.1 in
    ap failures_at b.1 ∙ ap (λ (v : writers.WriterView). v.failures) b.2.new_is
takes_failures l o schema schema_given (writing w) at' number number' z = ap failures_at z.1
takes_failures l o schema (dictionary_given id) (writing w) at' number number' z = ap failures_at z.1
takes_failures l o schema (batch_given t) (writing w) at' number number' z = ap failures_at z.1 ∙ ap (λ (v : writers.WriterView). v.failures) z.2.new_is
takes_failures l o schema ended (writing w) at' number number' z = ap failures_at z.1

-- if a stream has a schema there is a writer
writes_by : (began : Began) (at : At) (number : ℕ) (r : ReaderView) (es : List Entry) → HasCopied began at number r.limits r.at.state es → (r.at.state.schema ≡ None → ⊥) → IsWriting at
writes_by began (waiting held failed) number r es x some = absurd (some x.written.0)
writes_by began (writing w) number r es x some = tt

-- ---- the consumer

module _ (began : Began) (own : LimitNumbers) (o : Options) (at : At) (number : ℕ) where
  -- a copy with limits and options equal to those at the beginning is a copy with those at the beginning
  as_began : own ≡ began.limits → o ≡ began.options → (schema : Option SchemaShape) (g : Given) (answer : Result (Unit {0}) ToolFault) (at' : At) (number' : ℕ) → TakesItem own o schema g at number answer at' number'
      → TakesItem began.limits began.options schema g at number answer at' number'
  as_began own_is o_is schema g answer at' number' takes =
      subst (λ p. TakesItem began.limits p schema g at number answer at' number') o_is (subst (λ l. TakesItem l o schema g at number answer at' number') own_is takes)

  module _ (place : ℕ) (item : Item) (now new : ReaderView) (t : List ℕ) (es : List Entry) (piece : List ℕ) (n : ℕ) (comes : Comes place item now new t es piece n) (x : IsCopying began own o at number now.limits now.at.state es) (at' : At) (number' : ℕ) where
    -- a message was copied
    pub message_copied : TakesItem own o new.at.state.schema (given item) at number (Ok tt) at' number' → IsCopying began own o at' number' new.limits new.at.state (es ++ entry_of item t n ∷ [])
    message_copied takes =
        (x.0, x.1, item_goes began at number now new t piece es n item comes.is_open comes.limits comes.before x.2 comes.gives (Ok tt) at' number' (as_began x.0 x.1 new.at.state.schema (given item) (Ok tt) at' number' takes))

    -- the copy ended with it
    pub message_stopped : (f : ToolFault) → TakesItem own o new.at.state.schema (given item) at number (Err f) at' number' → (left : Option (List ℕ)) → HasAnswered began at' (Err f) (t ++ piece) left
    message_stopped f takes left =
        item_goes began at number now new t piece es n item comes.is_open comes.limits comes.before x.2 comes.gives (Err f) at' number' (as_began x.0 x.1 new.at.state.schema (given item) (Err f) at' number' takes) left

  module _ (marked : Bool) (r : ReaderView) (bytes : List ℕ) (left : Option (List ℕ)) (es : List Entry) (ended : HasEnded marked r bytes left es) (x : IsCopying began own o at number r.limits r.at.state es) where
    -- if a stream ended well there is a writer
    pub end_writes : IsWriting at
    end_writes = writes_by began at number r es x.2 (ended_schema r bytes es ended.position ended.well.0)

    -- the end marker was written, or not
    pub end_copied : (answer : Result (Unit {0}) ToolFault) (at' : At) → Closes at answer at' → HasAnswered began at' answer bytes left
    end_copied answer at' z = closed_so began number r bytes es left ended.position (well_at r bytes es left ended.position ended.well) at x.2 end_writes answer at' z

-- ---- the call

module _ (began : Began) (own : LimitNumbers) (o : Options) (at : At) (number : ℕ) (passed : Type 0) (bytes : List ℕ) (left : Option (List ℕ)) (r : ReaderView) where
  -- the properties of the consumer's result
  abbrev answers : Result (Unit {0}) ToolFault → ReaderView → List ℕ → Option (List ℕ) → Type 0
  answers answer q t rest = HasAnswered began at answer t rest × OnOk answer passed

  -- the call ended with the consumer's result, or before it had one
  pub call_copied : (answer : Result (Unit {0}) ToolFault) → Driven (IsCopying began own o at number) answers bytes left r answer → HasAnswered began at answer bytes left × OnOk answer passed
  call_copied (Ok done) answered = answered
  call_copied (Err f) (inl answered) = answered
  call_copied (Err f) (inr (inl badly)) =
      let g = badly.given in (
        subst (λ z. HasAnswered began at (Err z) bytes left) (sym badly.reported) (
          (snapshot_of r g.position.rest, copied_at began at number r bytes g.entries g.position g.kept.2, badly_at r bytes g.entries left badly.of_stream g.position badly.badly),
          failures_stay began at number r bytes g.entries g.position g.kept.2,
        ),
        tt,
      )
  call_copied (Err f) (inr (inr (inl broken))) =
      let g = broken.given in (
        subst (λ z. HasAnswered began at (Err z) bytes left) (sym broken.reported)
            (refl, (snapshot_of r g.position.rest, broken.is_open, copied_at began at number r bytes g.entries g.position g.kept.2), failures_stay began at number r bytes g.entries g.position g.kept.2),
        tt,
      )
  call_copied (Err f) (inr (inr (inr wants))) =
      let g = wants.given in (
        subst (λ z. HasAnswered began at (Err z) bytes left) (sym wants.is_memory) (
          subst (λ b. IsBegun began.limits began.options b began.first (held_at at)) wants.whole (begun_at began at number r wants.taken g.entries g.position g.kept.2 wants.rest),
          failures_stay began at number r wants.taken g.entries g.position g.kept.2,
        ),
        tt,
      )

-- ---- results for all bytes

-- no fault of a writer says how a stream ended
fault_through : (what : RefusedItem) (kind : WriteFault) (r : ReaderView) (bytes : List ℕ) → IsThrough ⊥ (Err (fault_of what kind)) r bytes
fault_through what kinds.SchemaDiffers r bytes = tt
fault_through what kinds.TooLarge r bytes = tt
fault_through what kinds.DictionariesDiffer r bytes = tt
fault_through what kinds.Sink r bytes = tt
fault_through what kinds.Broken r bytes = tt
fault_through what kinds.Finished r bytes = tt
fault_through what kinds.Memory r bytes = tt

through_by : (f : ToolFault) (what : RefusedItem) (kind : WriteFault) (r : ReaderView) (bytes : List ℕ) → f ≡ fault_of what kind → IsThrough ⊥ (Err f) r bytes
through_by f what kind r bytes is = subst (λ g. IsThrough ⊥ (Err g) r bytes) (sym is) (fault_through what kind r bytes)

-- an end is written after all bytes
pub end_through : (at : At) (answer : Result (Unit {0}) ToolFault) (at' : At) → Closes at answer at' → (r : ReaderView) (bytes : List ℕ) → IsReaderAfter bytes r → IsThrough ⊥ answer r bytes
end_through (waiting held failed) answer at' z r bytes here = subst (λ a. IsThrough ⊥ a r bytes) (sym z.0) (inl here)
end_through (writing w) (Ok done) at' z r bytes here = inl here
end_through (writing w) (Err f) at' z r bytes here = through_by f Finish z.0 r bytes z.2

first_through : (limits : LimitNumbers) (o : Options) (schema : Option SchemaShape) (held : Option (List ℕ)) (failed : ℕ) (f : ToolFault) (at' : At) → TakesFirst limits o schema held failed (Err f) at' → (r : ReaderView) (bytes : List ℕ) → IsThrough ⊥ (Err f) r bytes
first_through limits o None held failed f at' z r bytes = let q = z.0 in absurd (cc)
first_through limits o (Some shape) held failed f at' z r bytes = through_by f Start z.1.0 r bytes z.1.3

one_through : (w : writers.WriterView) (g : Given) (number : ℕ) (f : ToolFault) (at' : At) (number' : ℕ) → TakesOne w g number (Err f) at' number' → (r : ReaderView) (bytes : List ℕ) → IsThrough ⊥ (Err f) r bytes
one_through w schema_given number f at' number' z r bytes = let q = z.0 in absurd (cc)
one_through w (dictionary_given id) number f at' number' z r bytes = let q = z.0 in absurd (cc)
one_through w ended number f at' number' z r bytes = let q = z.0 in absurd (cc)
one_through w (batch_given t) number f at' number' (inl z) r bytes = subst (λ g. IsThrough ⊥ (Err g) r bytes) (sym z.0) tt
one_through w (batch_given t) number f at' number' (inr z) r bytes = through_by f (Batch number) z.0 r bytes z.2

-- a message that was not written implies nothing about the end
pub item_through : (limits : LimitNumbers) (o : Options) (schema : Option SchemaShape) (g : Given) (at : At) (number : ℕ) (f : ToolFault) (at' : At) (number' : ℕ) → TakesItem limits o schema g at number (Err f) at' number' → (r : ReaderView) (bytes : List ℕ) → IsThrough ⊥ (Err f) r bytes
item_through limits o schema g (waiting held failed) number f at' number' z r bytes = first_through limits o schema held failed f at' z.0 r bytes
item_through limits o schema g (writing w) number f at' number' z r bytes = one_through w g number f at' number' z r bytes

module _ (began : Began) (own : LimitNumbers) (o : Options) (at : At) (number : ℕ) (passed : Type 0) (bytes : List ℕ) (left : Option (List ℕ)) (r : ReaderView) where
  -- the properties of the consumer's result, and of the bytes that it covers
  abbrev pub full : Result (Unit {0}) ToolFault → ReaderView → List ℕ → Option (List ℕ) → Type 0
  full answer q t rest = HasAnswered began at answer t rest × OnOk answer passed × IsThrough ⊥ answer q t

  abbrev short : Result (Unit {0}) ToolFault → ReaderView → List ℕ → Option (List ℕ) → Type 0
  short answer q t rest = HasAnswered began at answer t rest × OnOk answer passed

  -- the call's result has these properties
  pub call_through : (answer : Result (Unit {0}) ToolFault) → Driven (IsCopying began own o at number) full bytes left r answer → HasAnswered began at answer bytes left × OnOk answer passed × IsThrough ⊥ answer r bytes
  call_through answer driven =
      let less = driven_so (IsCopying began own o at number) full short bytes left r (λ a z. (z.0, z.1)) answer driven in
      let called = call_copied began own o at number passed bytes left r answer less in
      (called.0, called.1, driven_through (IsCopying began own o at number) full ⊥ bytes left r (λ a z. z.2) answer driven)

-- ---- the output

module _ {S : Type 0} (contents : S → Option (List ℕ)) (failed : S → ℕ) where
  -- the content held by a copy is that of its output
  pub held_is : (target : WriterState S) → held_at (at_of contents failed target) ≡ contents (sink_in target)
  held_is (Waiting sink) = refl
  held_is (Writing writer) = refl

  -- and the number of failures of a copy is that of its output
  pub failures_are : (target : WriterState S) → failures_at (at_of contents failed target) ≡ failed (sink_in target)
  failures_are (Waiting sink) = refl
  failures_are (Writing writer) = refl
