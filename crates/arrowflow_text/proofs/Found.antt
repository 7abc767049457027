-- What the reader's results say of the input that it was given.
use Rattle.std.proofs.Common.{◌≡◌, ℕ, List, [], ◌++◌, take, drop, Option, None, Some, Ok, Err, Bool, true, false, ◌⊎◌, inl, inr, refl, sym, ap, ◌∙◌, subst, append_assoc, take-append-drop, is_some}
use Rattle.arrow_types.specs.Limits.{LimitNumbers}
use Rattle.arrow_types.specs.Notes.{SchemaShape}
use Rattle.arrow_stream_reader.specs.declared.fault.Fault.{Fault}
use Rattle.arrow_stream_reader.specs.declared.item.Item.{Item}
use Rattle.arrow_stream_reader.specs.declared.kind.Kind.TheVariants.{NoSchema}
use Rattle.arrow_stream_reader.specs.declared.kind.Rejection.{Rejection}
use Rattle.arrow_stream_reader.specs.declared.kind.Rejection.TheVariants as refusals
use Rattle.arrow_stream_reader.specs.declared.reader.Verdict.{Verdict}
use Rattle.arrow_stream_reader.specs.declared.reader.Verdict.TheVariants.{Open, Done, Bad}
use Rattle.arrow_stream_reader.specs.Kind.{kind_of}
use Rattle.arrow_stream_reader.specs.Front.{Entry, Snapshot, FrontOf}
use Rattle.arrow_stream_reader.specs.State.{StreamState, nothing_yet}
use Rattle.arrow_stream_reader.specs.Stream.{ReaderView, IsReaderAt, GivesNext, ended_by, ended_so}
use Rattle.arrowflow_input.specs.Faults.{reported}
use Rattle.arrowflow_input.specs.Consumer.{Comes, HasEnded, IsEndedBy}
use Rattle.arrowflow_input.specs.Driver.{CallForMore, Driven}
use Rattle.arrowflow_input.specs.Endings.{EndsBadly}
use Rattle.arrowflow_text.specs.SchemaCall.{Answers, AreNoMessage, AreRefused, BeginWithSchema, BeginWithText, EndEarly, HasNoMessage, HasText}
use Rattle.arrowflow_text.specs.SchemaText.{schema_lines}
use Rattle.arrowflow_input.specs.declared.tool_fault.ToolFault.{ToolFault}
use Rattle.arrowflow_input.specs.declared.tool_fault.ToolFault.TheVariants.{Stream}
use Rattle.arrowflow_input.proofs.First.{open_waits, bad_refused, done_given, one_entry}

-- an open reader that has read bytes without a message waits for one
pub still_waits : (r : ReaderView) (bytes : List ℕ) → IsReaderAt r bytes [] → r.at.verdict ≡ Open → AreNoMessage r.limits bytes
still_waits r bytes s o = (open_waits s.front refl o).0

-- what such a reader returns at the end of the input
ended_early : (r : ReaderView) (bytes : List ℕ) → IsReaderAt r bytes [] → r.at.verdict ≡ Open → ended_so r.at ≡ Err (record { kind = NoSchema; place = 0 })
ended_early r bytes s o =
    let w = open_waits s.front refl o in
    ap (λ v. ended_by v (is_some r.at.state.schema) r.at.rest r.at.place) o
    ∙ ap (λ t. ended_by Open (is_some t.schema) r.at.rest r.at.place) w.1
    ∙ ap (λ p. ended_by Open (is_some nothing_yet.schema) r.at.rest p) w.2

-- the first item is a schema
pub item_found : (new : ReaderView) (bytes piece : List ℕ) (n : ℕ) (item : Item) → GivesNext piece n item new bytes [] → (shape : SchemaShape) × BeginWithSchema new.limits (bytes ++ piece) shape × (new.at.state.schema ≡ Some shape)
item_found new bytes piece n item gives =
    let w = one_entry gives.position.front refl _ refl in
    let joined : bytes ++ piece ≡ (bytes ++ take n piece) ++ drop n piece = ap (λ x. bytes ++ x) (sym (take-append-drop n piece)) ∙ sym (append_assoc bytes (take n piece) (drop n piece)) in
    (w.shape, record { message = bytes ++ take n piece; after = drop n piece; joined = joined; size = w.size; comes = w.comes }, w.shown)

-- if no message came, a stream that ended badly is rejected at its first message, or ended too early
pub ended_without : (r : ReaderView) (bytes : List ℕ) (left : Option (List ℕ)) (fault : Fault) → IsReaderAt r bytes [] → EndsBadly left r.at fault → AreRefused r.limits bytes fault ⊎ EndEarly r.limits bytes left fault
ended_without r bytes left fault s (inl bad) =
    let w = bad_refused s.front refl bad.0 bad.1 in
    inl (record { refusal = bad.0; comes = w.0; reported = bad.2 ∙ ap (λ place. record { kind = kind_of bad.0; place = place }) w.1 })
ended_without r bytes left fault s (inr early) = by r.at.verdict refl
  where
    by : (v : Verdict) → r.at.verdict ≡ v → AreRefused r.limits bytes fault ⊎ EndEarly r.limits bytes left fault
    by Open o =
        let same : record { kind = NoSchema; place = 0 } ≡ fault = let q = sym (ended_early r bytes s o) ∙ early.0 in cc in
        inr (record { waiting = still_waits r bytes s o; over = early.1; reported = sym same })
    by Done d = let q = sym (ap (λ v. ended_by v (is_some r.at.state.schema) r.at.rest r.at.place) d) ∙ early.0 in absurd (cc)
    by (Bad k) b =
        let w = bad_refused s.front refl k b in
        let same : record { kind = kind_of k; place = r.at.place } ≡ fault = let q = sym (ap (λ v. ended_by v (is_some r.at.state.schema) r.at.rest r.at.place) b) ∙ early.0 in cc in
        inl (record { refusal = k; comes = w.0; reported = sym same ∙ ap (λ place. record { kind = kind_of k; place = place }) w.1 })

-- and no such stream ended well
pub never_well : (r : ReaderView) (bytes : List ℕ) → IsReaderAt r bytes [] → (marked : Bool) → IsEndedBy marked r.at.verdict → ended_so r.at ≡ Ok tt → ⊥
never_well r bytes s true done well = done_given s.front done refl
never_well r bytes s false open_still well = let q = sym (ended_early r bytes s open_still) ∙ well in absurd (cc)

-- before the first message there is no text of a schema
pub text_waits : (limits : LimitNumbers) (bytes : List ℕ) (es : List Entry) (e : Snapshot) → FrontOf limits bytes es e → e.verdict ≡ Open → es ≡ [] → AreNoMessage limits bytes
text_waits limits bytes es e front o none = (open_waits front none o).0

-- ---- the consumer that makes the text

module _ (place : ℕ) (item : Item) (old new : ReaderView) (t : List ℕ) (es : List Entry) (piece : List ℕ) (n : ℕ) (comes : Comes place item old new t es piece n) (none : es ≡ []) where
  first_found : (shape : SchemaShape) × BeginWithSchema new.limits (t ++ piece) shape × (new.at.state.schema ≡ Some shape)
  first_found = item_found new t piece n item (subst (λ fs. GivesNext piece n item new t fs) none comes.gives)

  -- the text of the schema that the reader has is that of the first message
  pub text_came : (shape : SchemaShape) → Some shape ≡ new.at.state.schema → (text : List ℕ) → text ≡ schema_lines shape → BeginWithText new.limits (t ++ piece) text
  text_came shape is text lines =
      let found = first_found in
      let same : shape ≡ found.0 = let q = is ∙ found.2 in cc in
      record { shape = found.0; begins = found.1; lines = lines ∙ ap schema_lines same }

  -- the reader has a schema
  pub schema_came : None ≡ new.at.state.schema → ⊥
  schema_came is = let q = is ∙ first_found.2 in absurd (cc)

-- a stream without a message did not end well
pub never_ended : (marked : Bool) (r : ReaderView) (bytes : List ℕ) (left : Option (List ℕ)) (es : List Entry) → HasEnded marked r bytes left es → es ≡ [] → ⊥
never_ended marked r bytes left es ended none = never_well r bytes (subst (IsReaderAt r bytes) none ended.position) marked ended.ended_by ended.well.0

-- what holds until the first message comes
abbrev pub keeping : LimitNumbers → StreamState → List Entry → Type 0
keeping limits state es = HasNoMessage es

-- bytes that call for more are no message
pub more_waits : {C : Type 0} (limits : LimitNumbers) (bytes : List ℕ) → CallForMore {C = C} (λ c. keeping) limits bytes → AreNoMessage limits bytes
more_waits limits bytes more = text_waits limits bytes more.entries more.snapshot more.front more.is_open more.kept

-- why there is no text
pub no_text : (limits : LimitNumbers) (bytes : List ℕ) (left : Option (List ℕ)) (r : ReaderView) (text : List ℕ) → r.limits ≡ limits → (fault : ToolFault) → Driven keeping (HasText text) bytes left r (Err fault) → Answers limits bytes left (Err fault)
no_text limits bytes left r text same fault (inl wants) = subst (λ f. Answers limits bytes left (Err f)) (sym wants) tt
no_text limits bytes left r text same fault (inr (inl ends)) =
    let position = subst (IsReaderAt r bytes) ends.given.kept ends.given.position in
    subst (λ f. Answers limits bytes left (Err f)) (sym ends.reported) (subst (λ l. AreRefused l bytes ends.of_stream ⊎ EndEarly l bytes left ends.of_stream) same (ended_without r bytes left ends.of_stream position ends.badly))
no_text limits bytes left r text same fault (inr (inr (inl fails))) =
    let position = subst (IsReaderAt r bytes) fails.given.kept fails.given.position in
    subst (λ f. Answers limits bytes left (Err f)) (sym fails.reported) (refl, subst (λ l. AreNoMessage l bytes) same (still_waits r bytes position fails.is_open))
no_text limits bytes left r text same fault (inr (inr (inr wants))) = subst (λ f. Answers limits bytes left (Err f)) (sym wants.is_memory) tt
