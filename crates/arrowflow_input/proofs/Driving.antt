-- A stream whose messages are passed to a consumer, piece by piece.
use Rattle.std.proofs.Common.{◌≡◌, ℕ, ◌+◌, List, [], ◌∷◌, ◌++◌, take, drop, Bool, true, false, Option, None, Some, Result, Ok, Err, ◌⊎◌, inl, inr, refl, sym, ap, ◌∙◌, subst, append_assoc, append-nil, take-append-drop, is_some}
use Rattle.std.specs.Io.KnownBytes.{IsAtEnd}
use Rattle.arrow_types.specs.Limits.{LimitNumbers}
use Rattle.arrow_stream_reader.specs.declared.fault.Fault.{Fault}
use Rattle.arrow_stream_reader.specs.declared.item.Item.{Item}
use Rattle.arrow_stream_reader.specs.declared.reader.Verdict.{Verdict}
use Rattle.arrow_stream_reader.specs.declared.reader.Verdict.TheVariants.{Open, Done, Bad}
use Rattle.arrow_stream_reader.specs.declared.kind.Kind.TheVariants.{NoSchema, Truncated}
use Rattle.arrow_stream_reader.specs.declared.item.Item.TheVariants.{End}
use Rattle.arrow_stream_reader.specs.declared.kind.Rejection.{Rejection}
use Rattle.arrow_stream_reader.specs.Frame.{BodySays, schema_comes, dictionary_comes, batch_comes, Outcome, First, whole}
use Rattle.arrow_stream_reader.specs.Front.{Entry, Snapshot, Front, FrontOf, rests, fails, closes, goes_on}
use Rattle.arrow_stream_reader.specs.Kind.{kind_of}
use Rattle.arrow_stream_reader.specs.State.{StreamState, Given, ended, schema_given, dictionary_given, batch_given, nothing_yet}
use Rattle.arrow_stream_reader.specs.Stream.{ReaderView, IsReaderAt, GoesOn as GoesOnBy, GivesNext, TakesOn, RefusesMessage, NeedsMemory, ended_by, ended_so}
use Rattle.arrow_stream_reader.specs.Views.{given}
use Rattle.arrow_stream_reader.proofs.Firsts.{whole_says}
use Rattle.arrow_stream_reader.proofs.Fronts.{more_bytes}
use Rattle.arrow_stream_reader.proofs.Streams.{ended_position}
use Rattle.arrowflow_input.specs.Consumer.{HasEnded, OfInput, OfMessages, Takes, Took, entry_of}
use Rattle.arrowflow_input.specs.Driver.{AreGiven, CallForMore, Driven, PieceTaken}
use Rattle.std.specs.declared.ops.ControlFlow.{ControlFlow}
use Rattle.std.specs.declared.ops.ControlFlow.TheVariants.{Continue, Break}
use Rattle.arrowflow_input.specs.Faults.{reported}
use Rattle.arrowflow_input.specs.Reads.{IsReadWhile}
use Rattle.arrowflow_input.specs.Endings.{EndsBadly, EndsWell}
use Rattle.arrowflow_input.specs.Session.{IsReaderAfter}
use Rattle.arrowflow_input.specs.declared.driver.Progress.TheVariants.{GoesOn, Marker, Stopped}
use Rattle.arrowflow_input.specs.declared.tool_fault.ToolFault.{ToolFault}
use Rattle.arrowflow_input.specs.declared.tool_fault.ToolFault.TheVariants.{Input, Memory, Stream}
use Rattle.arrowflow_input.proofs.Feeding.{ended_same, taken_all}
use Rattle.arrowflow_input.proofs.First.{state_stays}
use Rattle.arrowflow_input.proofs.Needing.{reported_refusal}
use Rattle.arrowflow_input.proofs.Schemas.{front_after, given_in}

-- a reader whose verdict is neither the end nor a rejection is open
pub open_by : (v : Verdict) → (v ≡ Done → ⊥) → ((k : Rejection) → v ≡ Bad k → ⊥) → v ≡ Open
open_by Open d b = refl
open_by Done d b = absurd (d refl)
open_by (Bad k) d b = absurd (b k refl)

abbrev item_in : Result (ℕ × Option Item) Fault → Option Item
item_in (Ok p) = p.1
item_in (Err f) = None

-- the result: this number of bytes taken, and an item
abbrev pub took : ℕ → Option Item → Result (ℕ × Option Item) Fault
took n o = Ok (n, o)

-- a reader that returned an item was open
pub open_by_item : (v : Verdict) (n : ℕ) (o : Option Item) (item : Item) → o ≡ Some item → (v ≡ Done → took n o ≡ took 0 None) → ((k : Rejection) → v ≡ Bad k → (f : Fault) × (took n o ≡ Err f)) → v ≡ Open
open_by_item v n o item is done failed = open_by v (λ d. let q : o ≡ None = ap item_in (done d) in absurd (cc)) (λ k b. let q : o ≡ None = ap item_in (failed k b).1 in absurd (cc))

-- after an item that is not the end marker the stream goes on
pub open_after : (old new : Verdict) (o : Option Item) (item : Item) → o ≡ Some item → GoesOnBy o old new → (item ≡ End → ⊥) → new ≡ Open
open_after old new o item is goes never = elim (subst (λ x. GoesOnBy x old new) is goes) [
  | inl open_still ↦ open_still
  | inr at_end ↦ absurd (never at_end.0)
]

-- ---- what stays

nothing_more : (es more : List Entry) → es ≡ es ++ more → more ≡ []
nothing_more [] more q = sym q
nothing_more (e ∷ es) more q = let rest : es ≡ es ++ more = cc in nothing_more es more rest

-- bytes that add no message leave the state unchanged
pub state_same : {l : LimitNumbers} {b : List ℕ} (c : List ℕ) {es : List Entry} {e f : Snapshot} → FrontOf l b es e → FrontOf l (b ++ c) es f → f.state ≡ e.state
state_same {l} {b} c {es} {e} {f} old new = by e.verdict refl
  where
    by : (v : Verdict) → e.verdict ≡ v → f.state ≡ e.state
    by Open o = let w = front_after c old o new in state_stays w.after (nothing_more es w.more w.joined)
    by Done o = ap (λ (s : Snapshot). s.state) ((more_bytes c old new).1 (λ q. let x : Done ≡ Open = sym o ∙ q in cc)).1
    by (Bad k) o = ap (λ (s : Snapshot). s.state) ((more_bytes c old new).1 (λ q. let x : Bad k ≡ Open = sym o ∙ q in cc)).1

-- ---- the end marker

abbrev is_end : Given → Bool
is_end ended = true
is_end schema_given = false
is_end (dictionary_given id) = false
is_end (batch_given b) = false

-- no body gives the end
body_gives_no_end : {s : StreamState} {c : _} {b : List ℕ} {r : Result (StreamState × Given) Rejection} → BodySays s c b r → is_end (given_in r) ≡ false
body_gives_no_end schema_comes = refl
body_gives_no_end (dictionary_comes {cs = Ok cs} h i) = ap (λ r. is_end (given_in r)) i
body_gives_no_end (dictionary_comes {cs = Err k} h i) = ap (λ r. is_end (given_in r)) i
body_gives_no_end (batch_comes {cs = Ok cs} h i) = ap (λ r. is_end (given_in r)) i
body_gives_no_end (batch_comes {cs = Err k} h i) = ap (λ r. is_end (given_in r)) i

no_end_in : {l : LimitNumbers} {s : StreamState} {p : ℕ} {b : List ℕ} {o : Outcome} → First l s p b o → (n : ℕ) (s' : StreamState) (g : Given) → o ≡ whole n s' g → is_end g ≡ false
no_end_in first n s' g e = body_gives_no_end (whole_says first n s' g e).body.says

-- a list of complete messages whose last entry is the end marker leaves the verdict `Done`
pub end_is_done : {l : LimitNumbers} {s : StreamState} {p : ℕ} {b : List ℕ} {fs : List Entry} {e : Snapshot} → Front l s p b fs e → (es : List Entry) (x : Entry) → fs ≡ es ++ x ∷ [] → x.given ≡ ended → e.verdict ≡ Done
end_is_done (closes f) es x q g = refl
end_is_done (rests f) [] x q g = absurd (cc)
end_is_done (rests f) (y ∷ es) x q g = absurd (cc)
end_is_done (fails f) [] x q g = absurd (cc)
end_is_done (fails f) (y ∷ es) x q g = absurd (cc)
end_is_done (goes_on {n = n} {s' = s'} {g = h} {es = fs} f fr) (y ∷ es) x q g = let rest : fs ≡ es ++ x ∷ [] = cc in end_is_done fr es x rest g
end_is_done {p = p} (goes_on {n = n} {s' = s'} {g = h} {es = fs} f fr) [] x q g =
    let first : record { given = h; end = p + n } ≡ x = cc in
    let is : h ≡ ended = ap (λ (y : Entry). y.given) first ∙ g in
    let no : false ≡ true = sym (no_end_in f n s' h refl) ∙ ap is_end is in
    absurd (cc)

-- the state that a reader's stream has reached, with this tail
abbrev pub snapshot_of : ReaderView → List ℕ → Snapshot
snapshot_of r rest = record { state = r.at.state; place = r.at.place; rest = rest; verdict = r.at.verdict }

-- a reader shows how its stream ends
ends_so : (r : ReaderView) (t : List ℕ) (es : List Entry) (at : IsReaderAt r t es) → ended_so (snapshot_of r at.rest) ≡ ended_so r.at
ends_so r t es at = sym (ended_same r.at.verdict (is_some r.at.state.schema) at.rest r.at.rest r.at.place at.held)

-- if it ended well, so did the stream
pub well_at : (r : ReaderView) (t : List ℕ) (es : List Entry) (left : Option (List ℕ)) (at : IsReaderAt r t es) → EndsWell left r.at → EndsWell left (snapshot_of r at.rest)
well_at r t es left at well = (ends_so r t es at ∙ well.0, well.1)

-- and if it ended badly, so did the stream
pub badly_at : (r : ReaderView) (t : List ℕ) (es : List Entry) (left : Option (List ℕ)) (fault : Fault) (at : IsReaderAt r t es) → EndsBadly left r.at fault → EndsBadly left (snapshot_of r at.rest) fault
badly_at r t es left fault at (inl bad) = inl bad
badly_at r t es left fault at (inr early) = inr (ends_so r t es at ∙ early.0, early.1)

-- the messages that were given are also those of equal bytes
pub given_at : {keeps : OfMessages} {t u : List ℕ} {r : ReaderView} → t ≡ u → AreGiven keeps t r → AreGiven keeps u r
given_at {keeps} {r = r} e g = subst (λ t. AreGiven keeps t r) e g

-- bytes that complete no message leave them unchanged
pub given_still : (keeps : OfMessages) (now new : ReaderView) (u c : List ℕ) → new.limits ≡ now.limits → (g : AreGiven keeps u now) → IsReaderAt new (u ++ c) g.entries → AreGiven keeps (u ++ c) new
given_still keeps now new u c limits g at =
    let same : new.at.state ≡ now.at.state = state_same c g.position.front (subst (λ l. FrontOf l (u ++ c) g.entries (snapshot_of new at.rest)) limits at.front) in
    record { entries = g.entries; position = at; kept = subst (λ s. keeps new.limits s g.entries) (sym same) (subst (λ l. keeps l now.at.state g.entries) (sym limits) g.kept) }

-- after the end more bytes change nothing
pub given_ended : (keeps : OfMessages) (r : ReaderView) (u c : List ℕ) → r.at.verdict ≡ Done → AreGiven keeps u r → AreGiven keeps (u ++ c) r
given_ended keeps r u c done g = record { entries = g.entries; position = ended_position r u g.entries c (λ q. let z : Done ≡ Open = sym done ∙ q in cc) g.position; kept = g.kept }

-- ---- a piece

-- all of a piece but this tail was given
pub record IsTaking {Start C : Type 0} (keeps : Start → C → OfMessages) (c : C) (old : ReaderView) (piece : List ℕ) (now : ReaderView) (c' : C) (rest : List ℕ) : Type 0 where
  pub taken : List ℕ
  pub whole : taken ++ rest ≡ piece
  pub given_so : (start : Start) (t : List ℕ) → AreGiven (keeps start c) t old → AreGiven (keeps start c') (t ++ taken) now
  pub position_so : (t : List ℕ) → IsReaderAfter t old → IsReaderAfter (t ++ taken) now
  pub limits : now.limits ≡ old.limits

-- at first nothing of the piece was given
pub taking_nothing : {Start C : Type 0} (keeps : Start → C → OfMessages) (c : C) (old : ReaderView) (piece : List ℕ) → IsTaking keeps c old piece old c piece
taking_nothing keeps c old piece = record {
  taken = [];
  whole = refl;
  given_so = λ start t g. given_at (sym (append-nil t)) g;
  position_so = λ t at. subst (λ u. IsReaderAfter u old) (sym (append-nil t)) at;
  limits = refl;
}

module _ {Start C : Type 0} (keeps : Start → C → OfMessages) (answers : Start → C → OfInput) (c : C) (old : ReaderView) (piece : List ℕ) (now : ReaderView) (c' : C) (rest : List ℕ) (i : IsTaking keeps c old piece now c' rest)
    (new : ReaderView) (limits : new.limits ≡ now.limits) where
  -- what was given and the tail together are the piece
  all_of : (t : List ℕ) → (t ++ i.taken) ++ rest ≡ t ++ piece
  all_of t = append_assoc t i.taken rest ∙ ap (λ z. t ++ z) i.whole

  module _ (n : ℕ) (item : Item) (is_open : now.at.verdict ≡ Open) (gives : (t : List ℕ) (es : List Entry) → IsReaderAt now t es → GivesNext rest n item new t es) (place : ℕ) (here : place ≡ now.at.place)
      (answer : Result (ControlFlow (Unit {0}) (Unit {0})) ToolFault) (c'' : C) (takes : Takes keeps answers c' place item new answer c'') where
    -- what the consumer did with the message
    made : (start : Start) (t : List ℕ) (g : AreGiven (keeps start c) t old)
        → Took (keeps start c'') (answers start c'') answer new ((t ++ i.taken) ++ rest) ((i.given_so start t g).entries ++ entry_of item (t ++ i.taken) n ∷ [])
    made start t g =
        let y = i.given_so start t g in
        takes start now (t ++ i.taken) y.entries rest n (record { before = y.position; is_open = is_open; begins = here; limits = limits; gives = gives (t ++ i.taken) y.entries y.position }) y.kept

    -- it asks for more
    next_given : answer ≡ Ok (Continue tt) → (start : Start) (t : List ℕ) → AreGiven (keeps start c) t old → AreGiven (keeps start c'') ((t ++ i.taken) ++ take n rest) new
    next_given more start t g =
        let y = i.given_so start t g in
        let es = y.entries ++ entry_of item (t ++ i.taken) n ∷ [] in
        record {
          entries = es;
          position = (gives (t ++ i.taken) y.entries y.position).position;
          kept = subst (λ a. Took (keeps start c'') (answers start c'') a new ((t ++ i.taken) ++ rest) es) more (made start t g);
        }

    pub taking_next : answer ≡ Ok (Continue tt) → IsTaking keeps c old piece new c'' (drop n rest)
    taking_next more = record {
      taken = i.taken ++ take n rest;
      whole = append_assoc i.taken (take n rest) (drop n rest) ∙ ap (λ y. i.taken ++ y) (take-append-drop n rest) ∙ i.whole;
      given_so = λ start t g. given_at (append_assoc t i.taken (take n rest)) (next_given more start t g);
      position_so = λ t at.
          let y = i.position_so t at in
          subst (λ u. IsReaderAfter u new) (append_assoc t i.taken (take n rest)) (y.0 ++ entry_of item (t ++ i.taken) n ∷ [], (gives (t ++ i.taken) y.0 y.1).position);
      limits = limits ∙ i.limits;
    }

    -- the message is the end marker
    pub piece_marked : answer ≡ Ok (Continue tt) → given item ≡ ended → (start : Start) (t : List ℕ) → AreGiven (keeps start c) t old → PieceTaken (keeps start c'') (answers start c'') (t ++ piece) new (Ok Marker)
    piece_marked more is start t g =
        let y = i.given_so start t g in
        let done = end_is_done (gives (t ++ i.taken) y.entries y.position).position.front y.entries (entry_of item (t ++ i.taken) n) refl is in
        let whole : ((t ++ i.taken) ++ take n rest) ++ drop n rest ≡ t ++ piece = append_assoc (t ++ i.taken) (take n rest) (drop n rest) ∙ ap (λ z. (t ++ i.taken) ++ z) (take-append-drop n rest) ∙ all_of t in
        (given_at whole (given_ended (keeps start c'') new ((t ++ i.taken) ++ take n rest) (drop n rest) done (next_given more start t g)), done)

    -- the consumer has enough
    pub piece_stopped : answer ≡ Ok (Break tt) → (start : Start) (t : List ℕ) → AreGiven (keeps start c) t old → PieceTaken (keeps start c'') (answers start c'') (t ++ piece) new (Ok Stopped)
    piece_stopped enough start t g left =
        subst (λ bytes. answers start c'' (Ok tt) new bytes left) (all_of t)
        (subst (λ a. Took (keeps start c'') (answers start c'') a new ((t ++ i.taken) ++ rest) ((i.given_so start t g).entries ++ entry_of item (t ++ i.taken) n ∷ [])) enough (made start t g) left)

    -- it failed
    pub piece_failed : (fault : ToolFault) → answer ≡ Err fault → (start : Start) (t : List ℕ) → AreGiven (keeps start c) t old → PieceTaken (keeps start c'') (answers start c'') (t ++ piece) new (Err fault)
    piece_failed fault failed start t g = inl (λ left.
        subst (λ bytes. answers start c'' (Err fault) new bytes left) (all_of t)
        (subst (λ a. Took (keeps start c'') (answers start c'') a new ((t ++ i.taken) ++ rest) ((i.given_so start t g).entries ++ entry_of item (t ++ i.taken) n ∷ [])) failed (made start t g) left))

  -- no message came: the tail is taken too
  pub piece_taken : (n : ℕ) → ((t : List ℕ) (es : List Entry) → IsReaderAt now t es → TakesOn now rest n new t es) → (start : Start) (t : List ℕ) → AreGiven (keeps start c) t old → PieceTaken (keeps start c') (answers start c') (t ++ piece) new (Ok GoesOn)
  piece_taken n takes start t g =
      let y = i.given_so start t g in
      given_at (all_of t) (given_still (keeps start c') now new (t ++ i.taken) rest limits y (taken_all now new rest n (t ++ i.taken) y.entries (takes (t ++ i.taken) y.entries y.position)))

  -- the reader is past the end of the piece
  pub piece_position : (n : ℕ) → ((t : List ℕ) (es : List Entry) → IsReaderAt now t es → TakesOn now rest n new t es) → (t : List ℕ) → IsReaderAfter t old → IsReaderAfter (t ++ piece) new
  piece_position n takes t at =
      let y = i.position_so t at in
      subst (λ u. IsReaderAfter u new) (all_of t) (y.0, taken_all now new rest n (t ++ i.taken) y.0 (takes (t ++ i.taken) y.0 y.1))

  -- the tail is rejected, or an allocation failed
  pub piece_refused : (fault : Fault) → ((t : List ℕ) (es : List Entry) → IsReaderAt now t es → NeedsMemory now fault new ⊎ RefusesMessage rest fault new t es)
      → (start : Start) (t : List ℕ) → AreGiven (keeps start c) t old → PieceTaken (keeps start c') (answers start c') (t ++ piece) new (Err (reported fault))
  piece_refused fault refuses start t g =
      let y = i.given_so start t g in
      let u = t ++ i.taken in
      elim (refuses u y.entries y.position) [
        | inl m ↦ inr (inr (record {
          is_memory = ap reported m.fault_is;
          taken = u;
          rest = rest;
          whole = all_of t;
          given = subst (AreGiven (keeps start c') u) (sym m.same) y;
        }))
        | inr r ↦
            let fault_is : fault ≡ record { kind = kind_of r.refusal; place = new.at.place } = λ j. record { kind = r.kind j; place = r.place j } in
            inr (inl (record {
              refusal = fault;
              reported = ap reported fault_is ∙ reported_refusal r.refusal new.at.place ∙ ap Stream (sym fault_is);
              bad = (r.refusal, r.verdict, fault_is);
              given = given_at (all_of t) (given_still (keeps start c') now new u rest limits y r.position);
            }))
      ]

-- ---- an input

-- a reader's fault at the end of the input is never a failed allocation
ended_reported : (v : Verdict) (has_schema : Bool) (rest : List ℕ) (place : ℕ) (fault : Fault) → ended_by v has_schema rest place ≡ Err fault → reported fault ≡ Stream fault
ended_reported Open false rest place fault e = let same : record { kind = NoSchema; place = place } ≡ fault = cc in subst (λ f. reported f ≡ Stream f) same refl
ended_reported Open true [] place fault e = absurd (cc)
ended_reported Open true (x ∷ rest) place fault e = let same : record { kind = Truncated; place = place } ≡ fault = cc in subst (λ f. reported f ≡ Stream f) same refl
ended_reported Done has_schema rest place fault e = absurd (cc)
ended_reported (Bad k) has_schema rest place fault e = let same : record { kind = kind_of k; place = place } ≡ fault = cc in subst (λ f. reported f ≡ Stream f) same (reported_refusal k place)

-- a consumer that was given nothing
pub nothing_given : (keeps : OfMessages) (r : ReaderView) → IsReaderAt r [] [] → keeps r.limits nothing_yet [] → AreGiven keeps [] r
nothing_given keeps r position kept = record { entries = []; position = position; kept = subst (λ s. keeps r.limits s []) (sym (state_stays position.front refl)) kept }

-- if the stream goes on, its bytes call for more
pub call_for_more : {C : Type 0} (keeps : C → OfMessages) (c : C) (limits : LimitNumbers) (bytes : List ℕ) (r : ReaderView) → AreGiven (keeps c) bytes r → r.limits ≡ limits → r.at.verdict ≡ Open → CallForMore keeps limits bytes
call_for_more keeps c limits bytes r g same open_still = record {
  consumer = c;
  entries = g.entries;
  snapshot = snapshot_of r g.position.rest;
  front = subst (λ l. FrontOf l bytes g.entries (snapshot_of r g.position.rest)) same g.position.front;
  is_open = open_still;
  kept = subst (λ l. keeps c l r.at.state g.entries) same g.kept;
}

module _ (keeps : OfMessages) (answers : OfInput) (bytes : List ℕ) (left : Option (List ℕ)) (r : ReaderView) where
  -- the call returns the consumer's answer
  pub driven_by : (answer : Result (Unit {0}) ToolFault) → answers answer r bytes left → Driven keeps answers bytes left r answer
  driven_by (Ok done) a = a
  driven_by (Err fault) a = inl a

  -- the stream ended with its input
  pub ended_here : (g : AreGiven keeps bytes r) → ended_so r.at ≡ Ok tt → r.at.verdict ≡ Open → IsAtEnd left → HasEnded false r bytes left g.entries
  ended_here g well open_still over = record { position = g.position; well = (well, inr over); ended_by = open_still }

  -- it ended with its marker
  pub marked_here : (g : AreGiven keeps bytes r) → r.at.verdict ≡ Done → HasEnded true r bytes left g.entries
  marked_here g done = record { position = g.position; well = (ap (λ v. ended_by v (is_some r.at.state.schema) r.at.rest r.at.place) done, inl done); ended_by = done }

  -- the input ended at an offset at which no stream may end
  pub ended_early : AreGiven keeps bytes r → IsAtEnd left → (fault : Fault) → ended_so r.at ≡ Err fault → Driven keeps answers bytes left r (Err (reported fault))
  ended_early g over fault bad = inr (inl (record {
    of_stream = fault;
    reported = ended_reported r.at.verdict (is_some r.at.state.schema) r.at.rest r.at.place fault bad;
    badly = inr (bad, over);
    given = g;
  }))

  -- a read failed, or an allocation for it
  pub not_read : (fault : ToolFault) → (fault ≡ Input 0) ⊎ (fault ≡ Memory) → AreGiven keeps bytes r → r.at.verdict ≡ Open → Driven keeps answers bytes left r (Err fault)
  not_read fault (inl failed) g open_still = inr (inr (inl (record { reported = failed; is_open = open_still; given = g })))
  not_read fault (inr memory) g open_still = inr (inr (inr (record { is_memory = memory; taken = bytes; rest = []; whole = append-nil bytes; given = g })))

  -- the consumer failed on a piece, or the reader did
  pub piece_ended : (fault : ToolFault) → PieceTaken keeps answers bytes r (Err fault) → Driven keeps answers bytes left r (Err fault)
  piece_ended fault (inl a) = inl (a left)
  piece_ended fault (inr (inl refused)) = inr (inl (record { of_stream = refused.refusal; reported = refused.reported; badly = inl refused.bad; given = refused.given }))
  piece_ended fault (inr (inr wants)) = inr (inr (inr wants))

-- an input that is read while one predicate holds is also read while a weaker one does
pub read_while_so : {P Q : List ℕ → Type 0} {bytes : List ℕ} → ((t : List ℕ) → P t → Q t) → IsReadWhile P bytes → IsReadWhile Q bytes
read_while_so f w = record { before = w.before; piece = w.piece; joined = w.joined; size = w.size; needing = f w.before w.needing }
