-- A stream that is checked message by message: its lines, one more message, and the line of a fault.
use Rattle.std.proofs.Common.{◌≡◌, ℕ, ◌+◌, List, [], ◌∷◌, ◌++◌, length, take, Bool, true, false, Option, Result, Ok, Err, ◌⊎◌, inl, inr, refl, sym, ap, ◌∙◌, subst, arith, append_assoc, append-nil}
use Rattle.std.specs.Prelude.{IfErr, OnOk}
use Rattle.std.specs.Io.KnownBytes.{Appends, Consumes}
use Rattle.std.proofs.KnownBytes.{Appends-trans}
use Rattle.std.proofs.lemmas.List.{length-append}
use Rattle.arrow_types.specs.Limits.{LimitNumbers}
use Rattle.arrow_types.specs.Notes.{SchemaShape}
use Rattle.arrow_sink.specs.Sinks.{AcceptsBeginning}
use Rattle.arrow_stream_reader.specs.declared.fault.Fault.{Fault}
use Rattle.arrow_stream_reader.specs.declared.item.Item.{Item}
use Rattle.arrow_stream_reader.specs.declared.reader.Verdict.{Verdict}
use Rattle.arrow_stream_reader.specs.declared.reader.Verdict.TheVariants.{Open}
use Rattle.arrow_stream_reader.specs.Front.{Entry, Snapshot, FrontOf}
use Rattle.arrow_stream_reader.specs.Stream.{ReaderView}
use Rattle.arrow_stream_reader.specs.Tables.{table_in, tables_of}
use Rattle.arrow_stream_reader.specs.Views.{given}
use Rattle.arrowflow_input.specs.Blame.{BlamesNone, BlamesOnly}
use Rattle.arrowflow_input.specs.Consumer.{Comes, HasEnded, IsEndedBy, entry_of}
use Rattle.arrowflow_input.specs.Driver.{CallForMore, Driven}
use Rattle.arrowflow_input.specs.Reads.{IsReadWhile}
use Rattle.arrowflow_input.specs.Endings.{SendsSome, SendsText}
use Rattle.arrowflow_input.specs.declared.tool_fault.ToolFault.{ToolFault}
use Rattle.arrowflow_input.specs.declared.tool_fault.ToolFault.TheVariants.{Input, Output, Stream, Refused, Memory}
use Rattle.arrowflow_input.proofs.Driving.{snapshot_of}
use Rattle.arrowflow_input.proofs.Feeding.{one_table}
use Rattle.arrowflow_text.proofs.Lined.{end_of, front_end}
use Rattle.arrowflow_input.proofs.Schemas.{front_begins, front_after, front_keeps}
use Rattle.arrowflow_input.proofs.Beginnings.{begun_after}
use Rattle.arrowflow_json.specs.Forms.{AreBegun, AreWritten, IsEnd, Writes, WritesInput}
use Rattle.arrowflow_json.specs.Messages.{AreMessageLines, IsLast, IsMessageLine, end_line, fault_line, messages_form}
use Rattle.arrowflow_json.specs.Showing.{AddsFault, CheckingBegan, ChecksSo, HaveChecked, HaveWritten, IsLastBy, WritingBegan, quiet_form}
use Rattle.arrowflow_json.specs.declared.message_lines.MessageLines.{MessageLines}
use Rattle.arrowflow_json.proofs.Writing.{Fits, Keeping, begun_so, driven_less, end_written, input_written, message_broken, message_written}

-- the lines of all messages are also a first part of them
pub quiet_fits : (file : Option (List ℕ)) → Fits (quiet_form file)
quiet_fits file = record { none = refl; all = λ schema es text are. are; no_line = λ fault. refl }

-- ---- one message more

-- one line more
lines_more : (file : Option (List ℕ)) (schema : Option SchemaShape) (p n : ℕ) (es : List Entry) (x : Entry) (text line : List ℕ) → AreMessageLines file schema p n es text → IsMessageLine file schema (end_of p es) (n + length (tables_of es)) x.given line
    → AreMessageLines file schema p n (es ++ x ∷ []) (text ++ line)
lines_more file schema p n [] x text line is more =
    let zero : n + 0 ≡ n = omega arith in
    (line, [], subst (λ k. IsMessageLine file schema p k x.given line) zero more, refl, ap (λ t. t ++ line) is ∙ sym (append-nil line))
lines_more file schema p n (y ∷ es) x text line (first, rest, own, others, whole) more =
    let m = length (table_in y.given) in
    let count : n + length (table_in y.given ++ tables_of es) ≡ n + m + length (tables_of es) = omega (arith, length-append (table_in y.given) (tables_of es)) in (
      first,
      rest ++ line,
      own,
      lines_more file schema y.end (n + m) es x rest line others (subst (λ k. IsMessageLine file schema (end_of y.end es) k x.given line) count more),
      ap (λ t. t ++ line) whole ∙ append_assoc first rest line,
    )

-- the lines after a schema remain those after it when one more message is read
lines_kept : (file : Option (List ℕ)) {l : LimitNumbers} {b : List ℕ} (c : List ℕ) {e f : Snapshot} (x : Entry) (text : List ℕ) (es : List Entry) → FrontOf l b es e → e.verdict ≡ Open → FrontOf l (b ++ c) (es ++ x ∷ []) f
    → AreMessageLines file e.state.schema 0 0 es text → AreMessageLines file f.state.schema 0 0 es text
lines_kept file c x text [] old o new is = is
lines_kept file c {e} {f} x text (y ∷ es) old o new is =
    let w = front_begins old refl (λ q. cc) in
    let keep = front_keeps (front_after c old o new).after w.shape w.schema in
    subst (λ s. AreMessageLines file s 0 0 (y ∷ es) text) (w.schema ∙ sym keep.schema) is

module _ (file : Option (List ℕ)) (began : WritingBegan) (held held' : Option (List ℕ)) (failed failed' number place : ℕ) (item : Item) (old new : ReaderView) (t : List ℕ) (es : List Entry) (piece : List ℕ) (n : ℕ) (comes : Comes place item old new t es piece n)
    (counted : number ≡ length (tables_of es)) (x : HaveWritten (quiet_form file) began held failed old.at.state es) where
  abbrev entry : Entry
  entry = entry_of item t n

  -- the lines, with that of the message
  grown : (line : List ℕ) → IsMessageLine file new.at.state.schema place number (given item) line → AreMessageLines file new.at.state.schema 0 0 (es ++ entry ∷ []) (x.text ++ line)
  grown line is =
      let front = comes.before.front in
      let snapshot = snapshot_of new comes.gives.position.rest in
      let next = subst (λ l. FrontOf l (t ++ take n piece) (es ++ entry ∷ []) snapshot) comes.limits comes.gives.position.front in
      let kept = lines_kept file (take n piece) {f = snapshot} entry x.text es front comes.is_open next x.are in
      let count : number ≡ 0 + length (tables_of es) = omega (arith, counted) in
      let here : IsMessageLine file new.at.state.schema (end_of 0 es) (0 + length (tables_of es)) (given item) line =
      subst (λ m. IsMessageLine file new.at.state.schema (end_of 0 es) m (given item) line) count (subst (λ p. IsMessageLine file new.at.state.schema p number (given item) line) (comes.begins ∙ front_end front) is) in
      lines_more file new.at.state.schema 0 0 es entry x.text line kept here

  -- its line was sent
  pub message_checked : SendsSome (IsMessageLine file new.at.state.schema place number (given item)) held failed (Ok tt) held' failed' → HaveWritten (quiet_form file) began held' failed' new.at.state (es ++ entry ∷ [])
  message_checked sent =
      message_written (quiet_form file) (quiet_fits file) began held held' failed failed' place item old new t es piece n comes x sent.0 (grown sent.0 sent.1) sent.2.0 sent.2.1

  -- or it was not sent completely
  pub message_cut : (f : ToolFault) → SendsSome (IsMessageLine file new.at.state.schema place number (given item)) held failed (Err f) held' failed' → (left : Option (List ℕ)) → Writes (quiet_form file) new.limits (t ++ piece) left began.first began.failures (Err f) held' failed'
  message_cut f sent left =
      message_broken (quiet_form file) (quiet_fits file) began held held' failed failed' place item old new t es piece n comes x sent.0 f (grown sent.0 sent.1) sent.2 left

  -- its batch was counted
  pub one_more : (number' : ℕ) → number' ≡ number + length (table_in (given item)) → number' ≡ length (tables_of (es ++ entry ∷ []))
  one_more number' is = is ∙ ap (λ m. m + length (table_in (given item))) counted ∙ sym (ap length (one_table es entry) ∙ length-append (tables_of es) (table_in (given item)))

-- ---- the end of a stream that ended well

-- the last line by the verdict
last_is : (file : Option (List ℕ)) (marked : Bool) (verdict : Verdict) (place : ℕ) (text : List ℕ) → IsEndedBy marked verdict → IsLastBy file marked place text → IsLast file verdict place text
last_is file true verdict place text ended is = subst (λ v. IsLast file v place text) (sym ended) is
last_is file false verdict place text ended is = subst (λ v. IsLast file v place text) (sym ended) is

-- there is a last line
pub some_last : (file : Option (List ℕ)) (marked : Bool) (place : ℕ) → (text : List ℕ) × IsLastBy file marked place text
some_last file true place = ([], refl)
some_last file false place = (end_line file place, refl)

-- the last line was sent, completely or not
pub end_checked : (file : Option (List ℕ)) (began : WritingBegan) (held held' : Option (List ℕ)) (failed failed' : ℕ) (marked : Bool) (r : ReaderView) (bytes : List ℕ) (left : Option (List ℕ)) (es : List Entry) → HasEnded marked r bytes left es
    → HaveWritten (quiet_form file) began held failed r.at.state es → (answer : Result (Unit {0}) ToolFault) → SendsSome (IsLastBy file marked r.at.place) held failed answer held' failed'
    → Writes (quiet_form file) r.limits bytes left began.first began.failures answer held' failed'
end_checked file began held held' failed failed' marked r bytes left es ended x answer sent =
    end_written (quiet_form file) (quiet_fits file) began held held' failed failed' marked r bytes left es ended x sent.0 (last_is file marked r.at.verdict r.at.place sent.0 ended.ended_by sent.1) answer sent.2

-- a text that was sent, and then nothing more
after_all : (a b c : Option (List ℕ)) (text : List ℕ) → Appends a b text → AcceptsBeginning b c [] → AcceptsBeginning a c text
after_all a b c text sent h = subst (AcceptsBeginning a c) (append-nil text) (begun_after a b c text [] sent h)

-- the output was flushed after a text
pub flushed_after : (text : List ℕ) (a b c : Option (List ℕ)) (n m k : ℕ) (answer : Result (Unit {0}) ToolFault) → SendsText a n text (Ok tt) b m → SendsText b m [] answer c k → SendsText a n text answer c k
flushed_after text a b c n m k (Ok done) sent h = (subst (Appends a c) (append-nil text) (Appends-trans a b c text [] sent.0 h.0), h.1 ∙ sent.1)
flushed_after text a b c n m k (Err Output) sent h = (after_all a b c text sent.0 h.0, h.1 ∙ ap (λ j. j + 1) sent.1)
flushed_after text a b c n m k (Err Memory) sent h = (after_all a b c text sent.0 h.0, h.1 ∙ sent.1)
flushed_after text a b c n m k (Err (Input number)) sent h = absurd h
flushed_after text a b c n m k (Err (Stream fault)) sent h = absurd h
flushed_after text a b c n m k (Err (Refused what kind)) sent h = absurd h

-- ---- the line of a fault

module _ (file : Option (List ℕ)) (limits : LimitNumbers) (bytes : List ℕ) (left before held : Option (List ℕ)) where
  -- the end without the line of a fault is an end with it, if nothing of that line was begun
  end_loud : (e : Snapshot) (last : List ℕ) → IsEnd (quiet_form file) left e last → (last ≡ []) ⊎ IsEnd (messages_form file) left e last
  end_loud e last (inl well) = inr (inl well)
  end_loud e last (inr (fault, none, badly)) = inl none

  last_loud : (rest : List ℕ) (e : Snapshot) (last : List ℕ) → (last ≡ []) ⊎ ((rest ≡ []) × IsEnd (quiet_form file) left e last) → (last ≡ []) ⊎ ((rest ≡ []) × IsEnd (messages_form file) left e last)
  last_loud rest e last (inl none) = inl none
  last_loud rest e last (inr (all, end)) = elim (end_loud e last end) [ inl none ↦ inl none | inr loud ↦ inr (all, loud) ]

  begun_loud : AreBegun (quiet_form file) limits bytes left before held → AreBegun (messages_form file) limits bytes left before held
  begun_loud b = record {
    taken = b.taken;
    rest = b.rest;
    whole = b.whole;
    snapshot = b.snapshot;
    entries = b.entries;
    front = b.front;
    text = b.text;
    are = b.are;
    last = b.last;
    is_last = last_loud b.rest b.snapshot b.last b.is_last;
    wrote = b.wrote;
  }

  written_loud : (e : Snapshot) (last : List ℕ) → AreWritten (quiet_form file) limits bytes e last before held → AreWritten (messages_form file) limits bytes e last before held
  written_loud e last w = record { entries = w.entries; front = w.front; text = w.text; are = w.are; wrote = w.wrote }

  -- a result that is unchanged
  stays : (answer answer' : Result (Unit {0}) ToolFault) (failed count : ℕ) (held' : Option (List ℕ)) (failed' : ℕ) → (answer' ≡ answer) × (held' ≡ held) × (count ≡ failed')
      → Writes (messages_form file) limits bytes left before failed answer held failed' → Writes (messages_form file) limits bytes left before failed answer' held' count
  stays answer answer' failed count held' failed' (same, kept, counted) w =
      subst (λ a. Writes (messages_form file) limits bytes left before failed a held' count) (sym same)
      (subst (λ h. Writes (messages_form file) limits bytes left before failed answer h count) (sym kept) (subst (Writes (messages_form file) limits bytes left before failed answer held) (sym counted) w))

  -- the messages of a stream with a fault
  module _ (fault : Fault) (failed failed' : ℕ) (w : Writes (quiet_form file) limits bytes left before failed (Err (Stream fault)) held failed') where
    -- nothing follows their lines
    bare : Appends before held w.2.text
    bare = subst (Appends before held) (append-nil w.2.text) (subst (λ last. Appends before held (w.2.text ++ last)) w.3 w.2.wrote)

    -- the line of the fault was sent
    fault_sent : (held' : Option (List ℕ)) (count : ℕ) → SendsText held failed' (fault_line file fault) (Ok tt) held' count → Writes (messages_form file) limits bytes left before failed (Err (Stream fault)) held' count
    fault_sent held' count sent = (
      w.0,
      fault_line file fault,
      record { entries = w.2.entries; front = w.2.front; text = w.2.text; are = w.2.are; wrote = Appends-trans before held held' w.2.text (fault_line file fault) bare sent.0 },
      refl,
      w.4,
      sent.1 ∙ w.5,
    )

    -- or it was not sent completely
    fault_cut : (held' : Option (List ℕ)) (count : ℕ) (f : ToolFault) → SendsText held failed' (fault_line file fault) (Err f) held' count → Writes (messages_form file) limits bytes left before failed (Err f) held' count
    fault_cut held' count f sent =
        begun_so (messages_form file) limits bytes left before held held' (fault_line file fault) failed failed' count f w.5
        (λ h. record {
          taken = bytes;
          rest = [];
          whole = append-nil bytes;
          snapshot = w.0;
          entries = w.2.entries;
          front = w.2.front;
          text = w.2.text;
          are = w.2.are;
          last = fault_line file fault;
          is_last = inr (refl, inr (fault, refl, w.4));
          wrote = begun_after before held held' w.2.text (fault_line file fault) bare h;
        }) sent

  -- the result of a call that has written the line of a fault, if there is one
  pub fault_added : (answer answer' : Result (Unit {0}) ToolFault) (failed failed' count : ℕ) (held' : Option (List ℕ)) → AddsFault file answer held failed' answer' held' count
      → Writes (quiet_form file) limits bytes left before failed answer held failed' → Writes (messages_form file) limits bytes left before failed answer' held' count
  fault_added (Err (Stream fault)) (Ok done) failed failed' count held' adds w = absurd adds
  fault_added (Err (Stream fault)) (Err (Stream other)) failed failed' count held' adds w =
      subst (λ f. Writes (messages_form file) limits bytes left before failed (Err (Stream f)) held' count) (sym adds.0) (fault_sent fault failed failed' w held' count adds.1)
  fault_added (Err (Stream fault)) (Err Output) failed failed' count held' adds w = fault_cut fault failed failed' w held' count Output adds
  fault_added (Err (Stream fault)) (Err Memory) failed failed' count held' adds w = fault_cut fault failed failed' w held' count Memory adds
  fault_added (Err (Stream fault)) (Err (Input number)) failed failed' count held' adds w = absurd adds
  fault_added (Err (Stream fault)) (Err (Refused what kind)) failed failed' count held' adds w = absurd adds
  fault_added (Ok done) answer' failed failed' count held' adds (e, last, own, is, well, same) =
      stays (Ok done) answer' failed count held' failed' adds (e, last, written_loud e last own, is, well, same)
  fault_added (Err (Input number)) answer' failed failed' count held' adds (none, (e, open_still, own), same) =
      stays (Err (Input number)) answer' failed count held' failed' adds (none, (e, open_still, written_loud e [] own), same)
  fault_added (Err Output) answer' failed failed' count held' adds w = stays (Err Output) answer' failed count held' failed' adds (begun_loud w.0, w.1)
  fault_added (Err Memory) answer' failed failed' count held' adds w = stays (Err Memory) answer' failed count held' failed' adds (begun_loud w.0, w.1)
  fault_added (Err (Refused what kind)) answer' failed failed' count held' adds w = absurd w

-- the line of a fault was not sent completely
pub fault_broken : (file : Option (List ℕ)) (fault : Fault) (held held' : Option (List ℕ)) (failed failed' : ℕ) (f : ToolFault) → SendsSome (λ text. text ≡ fault_line file fault) held failed (Err f) held' failed' → AddsFault file (Err (Stream fault)) held failed (Err f) held' failed'
fault_broken file fault held held' failed failed' Output sent = subst (λ text. SendsText held failed text (Err Output) held' failed') sent.1 sent.2
fault_broken file fault held held' failed failed' Memory sent = subst (λ text. SendsText held failed text (Err Memory) held' failed') sent.1 sent.2
fault_broken file fault held held' failed failed' (Input number) sent = absurd sent.2
fault_broken file fault held held' failed failed' (Stream other) sent = absurd sent.2
fault_broken file fault held held' failed failed' (Refused what kind) sent = absurd sent.2

-- ---- a call

-- a fault that blames no input blames none wrongly
no_blame : (P : Type 0) (f : ToolFault) → BlamesNone f → BlamesOnly P f
no_blame P (Input number) none = absurd none
no_blame P Output none = tt
no_blame P (Stream fault) none = tt
no_blame P (Refused what kind) none = tt
no_blame P Memory none = tt

-- a result that blames no input, or is the one before
pub blames_same : (P : Type 0) (answer answer' : Result (Unit {0}) ToolFault) → IfErr answer' (λ f. BlamesNone f ⊎ (answer ≡ Err f)) → IfErr answer (BlamesOnly P) → IfErr answer' (BlamesOnly P)
blames_same P answer (Ok done) either before = tt
blames_same P answer (Err f) (inl none) before = no_blame P f none
blames_same P answer (Err f) (inr is) before = subst (λ a. IfErr a (BlamesOnly P)) is before

module _ {S : Type 0} (contents : S → Option (List ℕ)) (count : S → ℕ) (is_passed_on : S → Type 0) (began : CheckingBegan) (c : MessageLines S) (limits : LimitNumbers) (had left : Option (List ℕ)) (r : ReaderView) (same : r.limits ≡ limits) (answer : Result (Unit {0}) ToolFault)
    (driven : (bytes : List ℕ) × Consumes had left bytes × IsReadWhile (CallForMore (HaveChecked contents count began) limits) bytes × Driven (HaveChecked contents count began c) (ChecksSo contents count is_passed_on began c) bytes left r answer) where
  -- what is written for the messages of an input, without the line of a fault
  pub quiet_input : WritesInput (quiet_form began.file) limits had left began.writing.first began.writing.failures answer (contents c.output) (count c.output) × OnOk answer (is_passed_on c.output)
  quiet_input =
      let held = contents c.output in
      let failed = count c.output in
      let less = driven_less {less = Keeping (quiet_form began.file) (quiet_fits began.file) began.writing held failed (is_passed_on c.output)} (λ l state es x. x.written) (ChecksSo contents count is_passed_on began c) driven.0 left r answer driven.3 in
      input_written (quiet_form began.file) (quiet_fits began.file) began.writing held failed (is_passed_on c.output) (HaveChecked contents count began) limits had left r same answer (driven.0, driven.1, driven.2, less)

  -- at a fault of the stream the output has not failed
  pub fault_kept : (fault : Fault) → answer ≡ Err (Stream fault) → count c.output ≡ began.writing.failures
  fault_kept fault is =
      let w = subst (λ a. Writes (quiet_form began.file) limits quiet_input.0.0 left began.writing.first began.writing.failures a (contents c.output) (count c.output)) is quiet_input.0.3 in
      w.5

  -- the line of the fault was added
  pub loud_input : (answer' : Result (Unit {0}) ToolFault) (held' : Option (List ℕ)) (failed' : ℕ) → AddsFault began.file answer (contents c.output) (count c.output) answer' held' failed' → WritesInput (messages_form began.file) limits had left began.writing.first began.writing.failures answer' held' failed'
  loud_input answer' held' failed' adds =
      let q = quiet_input.0 in
      (q.0, q.1, q.2, fault_added began.file limits q.0 left began.writing.first (contents c.output) answer answer' began.writing.failures (count c.output) failed' held' adds q.3)
