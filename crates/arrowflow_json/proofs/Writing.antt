-- A stream that is written message by message: the state after each message, and how the call ends.
use Rattle.std.proofs.Common.{◌≡◌, ℕ, ◌+◌, List, [], ◌∷◌, ◌++◌, take, drop, Bool, Option, None, Result, Ok, Err, inl, inr, refl, sym, ap, ◌∙◌, subst, append_assoc, append-nil, take-append-drop}
use Rattle.std.specs.Prelude.{OnOk}
use Rattle.std.specs.Io.KnownBytes.{Appends, Consumes}
use Rattle.std.proofs.KnownBytes.{Appends-nil, Appends-trans}
use Rattle.arrow_types.specs.Limits.{LimitNumbers}
use Rattle.arrow_types.specs.Notes.{SchemaShape}
use Rattle.arrow_sink.specs.Sinks.{AcceptsBeginning}
use Rattle.arrow_stream_reader.specs.declared.fault.Fault.{Fault}
use Rattle.arrow_stream_reader.specs.declared.item.Item.{Item}
use Rattle.arrow_stream_reader.specs.Front.{Entry}
use Rattle.arrow_stream_reader.specs.State.{StreamState, nothing_yet}
use Rattle.arrow_stream_reader.specs.Stream.{ReaderView, IsReaderAt}
use Rattle.arrowflow_input.specs.Consumer.{Comes, HasEnded, OfInput, OfMessages, entry_of}
use Rattle.arrowflow_input.specs.Driver.{AreGiven, CallForMore, Driven, EndBadly, FailToRead, NeedMemory}
use Rattle.arrowflow_input.specs.Reads.{IsReadWhile}
use Rattle.arrowflow_input.specs.Endings.{IsOpenAt, SendsText}
use Rattle.arrowflow_input.specs.declared.tool_fault.ToolFault.{ToolFault}
use Rattle.arrowflow_input.specs.declared.tool_fault.ToolFault.TheVariants.{Input, Output, Stream, Refused, Memory}
use Rattle.arrowflow_input.proofs.Driving.{badly_at, read_while_so, snapshot_of, well_at}
use Rattle.arrowflow_input.proofs.Beginnings.{begun_all, begun_after}
use Rattle.arrowflow_json.specs.Forms.{AreBegun, AreWritten, Form, Writes, WritesInput}
use Rattle.arrowflow_json.specs.Showing.{HaveWritten, WritesSo, WritingBegan}

-- a text that was not sent completely is begun
pub begun_so : (form : Form) (limits : LimitNumbers) (bytes : List ℕ) (left first held held' : Option (List ℕ)) (text : List ℕ) (start failed failed' : ℕ) (f : ToolFault) → failed ≡ start
    → (AcceptsBeginning held held' text → AreBegun form limits bytes left first held') → SendsText held failed text (Err f) held' failed' → Writes form limits bytes left first start (Err f) held' failed'
begun_so form limits bytes left first held held' text start failed failed' Output same begun sent = (begun sent.0, sent.1 ∙ ap (λ n. n + 1) same)
begun_so form limits bytes left first held held' text start failed failed' Memory same begun sent = (begun sent.0, sent.1 ∙ same)
begun_so form limits bytes left first held held' text start failed failed' (Input n) same begun sent = absurd sent
begun_so form limits bytes left first held held' text start failed failed' (Stream fault) same begun sent = absurd sent
begun_so form limits bytes left first held held' text start failed failed' (Refused what kind) same begun sent = absurd sent

-- ---- what is kept of messages, and less of it

module _ {keeps less : OfMessages} (f : (limits : LimitNumbers) (state : StreamState) (es : List Entry) → keeps limits state es → less limits state es) where
  given_less : (bytes : List ℕ) (r : ReaderView) → AreGiven keeps bytes r → AreGiven less bytes r
  given_less bytes r g = record { entries = g.entries; position = g.position; kept = f r.limits r.at.state g.entries g.kept }

  pub driven_less : (answers : OfInput) (bytes : List ℕ) (left : Option (List ℕ)) (r : ReaderView) (answer : Result (Unit {0}) ToolFault) → Driven keeps answers bytes left r answer → Driven less answers bytes left r answer
  driven_less answers bytes left r (Ok done) answered = answered
  driven_less answers bytes left r (Err fault) (inl answered) = inl answered
  driven_less answers bytes left r (Err fault) (inr (inl ends)) = inr (inl (record { of_stream = ends.of_stream; reported = ends.reported; badly = ends.badly; given = given_less bytes r ends.given }))
  driven_less answers bytes left r (Err fault) (inr (inr (inl fails))) = inr (inr (inl (record { reported = fails.reported; is_open = fails.is_open; given = given_less bytes r fails.given })))
  driven_less answers bytes left r (Err fault) (inr (inr (inr wants))) =
      inr (inr (inr (record { is_memory = wants.is_memory; taken = wants.taken; rest = wants.rest; whole = wants.whole; given = given_less wants.taken r wants.given })))

-- ---- a stream that is written

-- a form in which all lines are also a first part of the lines, and the empty text may follow those of a stream with
-- a fault
pub record Fits (form : Form) : Type 0 where
  pub none : form.Whole None [] []
  pub all : (schema : Option SchemaShape) (es : List Entry) (text : List ℕ) → form.Whole schema es text → form.Part schema es text
  pub no_line : (fault : Fault) → form.Faulty fault []

module _ (form : Form) (fits : Fits form) (began : WritingBegan) where
  -- the lines that were written are those of the complete messages at the start of the bytes
  abbrev written : (held : Option (List ℕ)) (failed : ℕ) (r : ReaderView) (bytes : List ℕ) (es : List Entry) (at : IsReaderAt r bytes es) → HaveWritten form began held failed r.at.state es
      → AreWritten form r.limits bytes (snapshot_of r at.rest) [] began.first held
  written held failed r bytes es at x = record { entries = es; front = at.front; text = x.text; are = x.are; wrote = subst (Appends began.first held) (sym (append-nil x.text)) x.wrote }

  -- a prefix of some first lines was written
  begun : (held : Option (List ℕ)) (r : ReaderView) (taken rest bytes : List ℕ) (left : Option (List ℕ)) (es : List Entry) → IsReaderAt r taken es → taken ++ rest ≡ bytes → (text : List ℕ) → form.Part r.at.state.schema es text
      → AcceptsBeginning began.first held text → AreBegun form r.limits bytes left began.first held
  begun held r taken rest bytes left es at whole text are wrote = record {
    taken = taken;
    rest = rest;
    whole = whole;
    snapshot = snapshot_of r at.rest;
    entries = es;
    front = at.front;
    text = text;
    are = are;
    last = [];
    is_last = inl refl;
    wrote = subst (AcceptsBeginning began.first held) (sym (append-nil text)) wrote;
  }

  -- ---- a message

  module _ (held held' : Option (List ℕ)) (failed failed' place : ℕ) (item : Item) (old new : ReaderView) (t : List ℕ) (es : List Entry) (piece : List ℕ) (n : ℕ) (comes : Comes place item old new t es piece n)
      (x : HaveWritten form began held failed old.at.state es) (added : List ℕ) where
    -- its lines were sent
    pub message_written : form.Whole new.at.state.schema (es ++ entry_of item t n ∷ []) (x.text ++ added) → Appends held held' added → failed' ≡ failed → HaveWritten form began held' failed' new.at.state (es ++ entry_of item t n ∷ [])
    message_written are sent same = record {
      text = x.text ++ added;
      are = are;
      wrote = Appends-trans began.first held held' x.text added x.wrote sent;
      failures_are = same ∙ x.failures_are;
    }

    -- or they were not sent completely
    pub message_broken : (f : ToolFault) → form.Part new.at.state.schema (es ++ entry_of item t n ∷ []) (x.text ++ added) → SendsText held failed added (Err f) held' failed' → (left : Option (List ℕ))
        → Writes form new.limits (t ++ piece) left began.first began.failures (Err f) held' failed'
    message_broken f are sent left =
        let whole : (t ++ take n piece) ++ drop n piece ≡ t ++ piece = append_assoc t (take n piece) (drop n piece) ∙ ap (λ y. t ++ y) (take-append-drop n piece) in
        begun_so form new.limits (t ++ piece) left began.first held held' added began.failures failed failed' f x.failures_are
        (λ h. begun held' new (t ++ take n piece) (drop n piece) (t ++ piece) left (es ++ entry_of item t n ∷ []) comes.gives.position whole (x.text ++ added) are (begun_after began.first held held' x.text added x.wrote h)) sent

  -- ---- the end of a stream that ended well

  -- the last text was sent, completely or not
  pub end_written : (held held' : Option (List ℕ)) (failed failed' : ℕ) (marked : Bool) (r : ReaderView) (bytes : List ℕ) (left : Option (List ℕ)) (es : List Entry) (ended : HasEnded marked r bytes left es) → HaveWritten form began held failed r.at.state es
      → (last : List ℕ) → form.Last (snapshot_of r ended.position.rest) last → (answer : Result (Unit {0}) ToolFault) → SendsText held failed last answer held' failed' → Writes form r.limits bytes left began.first began.failures answer held' failed'
  end_written held held' failed failed' marked r bytes left es ended x last is_last (Ok done) sent = (
    snapshot_of r ended.position.rest,
    last,
    record { entries = es; front = ended.position.front; text = x.text; are = x.are; wrote = Appends-trans began.first held held' x.text last x.wrote sent.0 },
    is_last,
    well_at r bytes es left ended.position ended.well,
    sent.1 ∙ x.failures_are,
  )
  end_written held held' failed failed' marked r bytes left es ended x last is_last (Err f) sent =
      begun_so form r.limits bytes left began.first held held' last began.failures failed failed' f x.failures_are
      (λ h. record {
        taken = bytes;
        rest = [];
        whole = append-nil bytes;
        snapshot = snapshot_of r ended.position.rest;
        entries = es;
        front = ended.position.front;
        text = x.text;
        are = fits.all r.at.state.schema es x.text x.are;
        last = last;
        is_last = inr (refl, inl (is_last, well_at r bytes es left ended.position ended.well));
        wrote = begun_after began.first held held' x.text last x.wrote h;
      }) sent

  -- ---- a call

  -- before the first message nothing was written
  pub nothing_written : (held : Option (List ℕ)) (failed : ℕ) → began.first ≡ held → began.failures ≡ failed → HaveWritten form began held failed nothing_yet []
  nothing_written held failed first failures = record {
    text = [];
    are = fits.none;
    wrote = subst (λ h. Appends h held []) (sym first) (Appends-nil held);
    failures_are = sym failures;
  }

  module _ (held : Option (List ℕ)) (failed : ℕ) (passed : Type 0) where
    -- what holds for the messages that were given
    abbrev pub Keeping : LimitNumbers → StreamState → List Entry → Type 0
    Keeping limits state es = HaveWritten form began held failed state es

    module _ (bytes : List ℕ) (left : Option (List ℕ)) (r : ReaderView) where
      -- the stream ended badly
      call_badly : (fault : ToolFault) → EndBadly Keeping bytes left r fault → WritesSo form began held failed passed (Err fault) r bytes left
      call_badly fault ends =
          let g = ends.given in
          subst (λ f. WritesSo form began held failed passed (Err f) r bytes left) (sym ends.reported) (
            (
              snapshot_of r g.position.rest,
              [],
              written held failed r bytes g.entries g.position g.kept,
              fits.no_line ends.of_stream,
              badly_at r bytes g.entries left ends.of_stream g.position ends.badly,
              g.kept.failures_are,
            ),
            tt,
          )

      -- a read failed
      call_failed : (fault : ToolFault) → FailToRead Keeping bytes r fault → WritesSo form began held failed passed (Err fault) r bytes left
      call_failed fault fails =
          let g = fails.given in
          subst (λ f. WritesSo form began held failed passed (Err f) r bytes left) (sym fails.reported)
          ((refl, (snapshot_of r g.position.rest, fails.is_open, written held failed r bytes g.entries g.position g.kept), g.kept.failures_are), tt)

      -- an allocation failed
      call_needing : (fault : ToolFault) → NeedMemory Keeping bytes r fault → WritesSo form began held failed passed (Err fault) r bytes left
      call_needing fault wants =
          let g = wants.given in
          let are = fits.all r.at.state.schema g.entries g.kept.text g.kept.are in
          subst (λ f. WritesSo form began held failed passed (Err f) r bytes left) (sym wants.is_memory)
          ((begun held r wants.taken wants.rest bytes left g.entries g.position wants.whole g.kept.text are (begun_all began.first held g.kept.text g.kept.wrote), g.kept.failures_are), tt)

      -- how the call ended: with the consumer's result, or before the consumer had one
      pub call_written : (answer : Result (Unit {0}) ToolFault) → Driven Keeping (WritesSo form began held failed passed) bytes left r answer → WritesSo form began held failed passed answer r bytes left
      call_written (Ok done) answers = answers
      call_written (Err fault) (inl answers) = answers
      call_written (Err fault) (inr (inl ends)) = call_badly fault ends
      call_written (Err fault) (inr (inr (inl fails))) = call_failed fault fails
      call_written (Err fault) (inr (inr (inr wants))) = call_needing fault wants

    -- what a call states about its input
    pub input_written : {C : Type 0} (keeps : C → LimitNumbers → StreamState → List Entry → Type 0) (limits : LimitNumbers) (had left : Option (List ℕ)) (r : ReaderView) → r.limits ≡ limits → (answer : Result (Unit {0}) ToolFault)
        → (bytes : List ℕ) × Consumes had left bytes × IsReadWhile (CallForMore keeps limits) bytes × Driven Keeping (WritesSo form began held failed passed) bytes left r answer
        → WritesInput form limits had left began.first began.failures answer held failed × OnOk answer passed
    input_written keeps limits had left r same answer driven =
        let shown = call_written driven.0 left r answer driven.3 in
        let more_open : (bytes : List ℕ) → CallForMore keeps limits bytes → IsOpenAt limits bytes =
        λ bytes more. record { entries = more.entries; snapshot = more.snapshot; front = more.front; goes_on = more.is_open } in (
          (driven.0, driven.1, read_while_so more_open driven.2, subst (λ l. Writes form l driven.0 left began.first began.failures answer held failed) same shown.0),
          shown.1,
        )
