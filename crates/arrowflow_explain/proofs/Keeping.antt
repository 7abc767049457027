-- A reader that takes its input in pieces, and the bytes of its current message.
use Rattle.std.proofs.Common.{◌≡◌, ℕ, ◌+◌, ◌-◌, ◌≤◌, List, [], ◌++◌, drop, Option, None, Result, Ok, Err, inl, inr, refl, sym, ap, ◌∙◌, subst, arith}
use Rattle.std.specs.Prelude.{⊤, IfSome}
use Rattle.std.proofs.lemmas.List.{drop-drop}
use Rattle.arrow_types.specs.Limits.{LimitNumbers}
use Rattle.arrow_stream_reader.specs.declared.fault.Fault.{Fault}
use Rattle.arrow_stream_reader.specs.declared.reader.Verdict.TheVariants.{Open}
use Rattle.arrow_stream_reader.specs.Front.{Entry, Snapshot, Front, FrontOf, rests, fails, closes, goes_on}
use Rattle.arrow_stream_reader.specs.State.{StreamState}
use Rattle.arrow_stream_reader.specs.Stream.{ReaderView, IsReaderAt, fresh}
use Rattle.arrow_stream_reader.proofs.Streams.{fresh_position}
use Rattle.arrowflow_input.specs.Driver.{PieceTaken}
use Rattle.arrowflow_input.specs.Consumer.{OfMessages}
use Rattle.arrowflow_input.specs.Quiet.{LeavesStream}
use Rattle.arrowflow_input.specs.Endings.{EndsBadly, EndsWell, IsOpenAt}
use Rattle.arrowflow_input.specs.declared.driver.Progress.{Progress}
use Rattle.arrowflow_input.specs.declared.driver.Progress.TheVariants.{GoesOn, Marker, Stopped}
use Rattle.arrowflow_input.specs.declared.tool_fault.ToolFault.{ToolFault}
use Rattle.arrowflow_input.proofs.Driving.{badly_at, snapshot_of, well_at}
use Rattle.arrowflow_input.proofs.Schemas.{front_after}
use Rattle.arrowflow_contents.specs.Bodies.{SpotHolds}
use Rattle.arrowflow_contents.specs.Counting.{HasCounted, HasEndedWell}
use Rattle.arrowflow_diagnosis.specs.Holds.{Holds}
use Rattle.arrowflow_explain.specs.Explains.{IsKept, IsMadeOf, IsRefusalOf, KeepsPiece}
use Rattle.arrowflow_explain.specs.declared.explanation.RejectedMessage.{RejectedMessage}

-- the remaining bytes of a prefix are the stream's bytes from its offset on
front_rest : {l : LimitNumbers} {s : StreamState} {p : ℕ} {b : List ℕ} {es : List Entry} {e : Snapshot} → Front l s p b es e → (p ≤ e.place) × (e.rest ≡ drop (e.place - p) b)
front_rest {p = p} {b = b} (rests x) = let none : 0 ≡ p - p = omega arith in (omega arith, ap (λ n. drop n b) none)
front_rest {p = p} {b = b} (fails x) = let none : 0 ≡ p - p = omega arith in (omega arith, ap (λ n. drop n b) none)
front_rest {p = p} {b = b} (closes x) = let eight : 8 ≡ (p + 8) - p = omega arith in (omega arith, ap (λ n. drop n b) eight)
front_rest {p = p} {b = b} {e = e} (goes_on {n = n} x xs) =
    let i = front_rest xs in
    let both : n + (e.place - (p + n)) ≡ e.place - p = omega (arith, i.0) in
    (omega (arith, i.0), i.1 ∙ drop-drop (e.place - (p + n)) n b ∙ ap (λ k. drop k b) both)

-- when an open stream gets more bytes, its remaining bytes are the old remaining bytes and the new ones, from the new
-- offset on
pub rest_after : (old new : ReaderView) (t c : List ℕ) (es fs : List Entry) (at : IsReaderAt old t es) → old.at.verdict ≡ Open → new.limits ≡ old.limits → (next : IsReaderAt new (t ++ c) fs)
    → next.rest ≡ drop (new.at.place - old.at.place) (at.rest ++ c)
rest_after old new t c es fs at is_open limits next =
    let front = subst (λ l. FrontOf l (t ++ c) fs (snapshot_of new next.rest)) limits next.front in
    (front_rest (front_after c at.front is_open front).after).1

-- the same for the bytes that are kept
pub kept_after : (old new : ReaderView) (t c kept kept' : List ℕ) (fs : List Entry) (k : IsKept t old kept) → old.at.verdict ≡ Open → new.limits ≡ old.limits
    → kept' ≡ drop (new.at.place - old.at.place) (kept ++ c) → (next : IsReaderAt new (t ++ c) fs) → IsKept (t ++ c) new kept'
kept_after old new t c kept kept' fs k is_open limits left next = record {
  entries = fs;
  position = next;
  same = left ∙ ap (λ h. drop (new.at.place - old.at.place) (h ++ c)) k.same ∙ sym (rest_after old new t c k.entries fs k.position is_open limits next);
}

-- a stream whose reader is open here continues
pub open_at : (limits : LimitNumbers) (bytes : List ℕ) (r : ReaderView) (kept : List ℕ) → IsKept bytes r kept → r.limits ≡ limits → r.at.verdict ≡ Open → IsOpenAt limits bytes
open_at limits bytes r kept k same is_open = record {
  entries = k.entries;
  snapshot = snapshot_of r k.position.rest;
  front = subst (λ l. FrontOf l bytes k.entries (snapshot_of r k.position.rest)) same k.position.front;
  goes_on = is_open;
}

-- the state of a reader's stream after its complete messages
pub leaves : (limits : LimitNumbers) (bytes : List ℕ) (r : ReaderView) (es : List Entry) (at : IsReaderAt r bytes es) → r.limits ≡ limits → LeavesStream limits bytes (snapshot_of r at.rest)
leaves limits bytes r es at same = (es, subst (λ l. FrontOf l bytes es (snapshot_of r at.rest)) same at.front)

-- a stream that ended well
pub sound_at : (limits : LimitNumbers) (bytes : List ℕ) (left : Option (List ℕ)) (r : ReaderView) → r.limits ≡ limits → HasEndedWell r bytes left → (e : Snapshot) × LeavesStream limits bytes e × EndsWell left e
sound_at limits bytes left r same w = (snapshot_of r w.position.rest, leaves limits bytes r w.entries w.position same, well_at r bytes w.entries left w.position w.well)

-- the `RejectedMessage` of a stream that ended badly
pub refused_at : (limits : LimitNumbers) (bytes : List ℕ) (left : Option (List ℕ)) (r : ReaderView) (kept : List ℕ) (fault : Fault) (refusal : RejectedMessage) → r.limits ≡ limits → (k : IsKept bytes r kept)
    → EndsBadly left r.at fault → IsMadeOf fault limits r.at kept refusal → IsRefusalOf refusal limits bytes left
refused_at limits bytes left r kept fault refusal same k bad made = record {
  snapshot = snapshot_of r k.position.rest;
  leaves = leaves limits bytes r k.entries k.position same;
  badly = subst (EndsBadly left (snapshot_of r k.position.rest)) (sym made.same) (badly_at r bytes k.entries left fault k.position bad);
  message = made.message ∙ k.same;
  within = made.within;
  kind = made.kind ∙ sym (ap (λ (f : Fault). f.kind) made.same);
  holds = subst (λ h. Holds refusal.diagnosis (record { limits = limits; state = r.at.state; place = r.at.place; bytes = h })) k.same made.holds;
  spot = subst (λ h. IfSome refusal.spot (λ spot. SpotHolds spot (record { limits = limits; state = r.at.state; place = r.at.place; bytes = h }))) k.same made.spot;
}

-- the consumer was given all messages, and no further property of them is kept
abbrev pub all_given : OfMessages
all_given limits state entries = ⊤

-- the result of a piece, with the bytes that are kept
pub piece_kept : (old new : ReaderView) (t c kept kept' : List ℕ) (k : IsKept t old kept) → old.at.verdict ≡ Open → new.limits ≡ old.limits → kept' ≡ drop (new.at.place - old.at.place) (kept ++ c)
    → (answer : Result Progress ToolFault) → (answer ≡ Ok GoesOn → new.at.verdict ≡ Open) → PieceTaken all_given HasCounted (t ++ c) new answer → KeepsPiece (t ++ c) answer new kept'
piece_kept old new t c kept kept' k is_open limits left (Ok GoesOn) opens taken = (kept_after old new t c kept kept' taken.entries k is_open limits left taken.position, opens refl)
piece_kept old new t c kept kept' k is_open limits left (Ok Marker) opens taken = (kept_after old new t c kept kept' taken.0.entries k is_open limits left taken.0.position, taken.1)
piece_kept old new t c kept kept' k is_open limits left (Ok Stopped) opens taken = taken
piece_kept old new t c kept kept' k is_open limits left (Err fault) opens (inl reported) = subst (λ f. KeepsPiece (t ++ c) (Err f) new kept') (sym (reported None)) tt
piece_kept old new t c kept kept' k is_open limits left (Err fault) opens (inr (inl refused)) =
    subst (λ f. KeepsPiece (t ++ c) (Err f) new kept') (sym refused.reported) (kept_after old new t c kept kept' refused.given.entries k is_open limits left refused.given.position, refused.bad)
piece_kept old new t c kept kept' k is_open limits left (Err fault) opens (inr (inr wants)) = subst (λ f. KeepsPiece (t ++ c) (Err f) new kept') (sym wants.is_memory) tt

-- a stream of which nothing was read continues
pub fresh_open : (limits : LimitNumbers) → IsOpenAt limits []
fresh_open limits = record {
  entries = [];
  snapshot = snapshot_of (fresh limits) (fresh_position limits).rest;
  front = (fresh_position limits).front;
  goes_on = refl;
}

-- and none of its bytes are kept
pub fresh_kept : (limits : LimitNumbers) (r : ReaderView) (kept : List ℕ) → r ≡ fresh limits → IsReaderAt r [] [] → kept ≡ [] → IsKept [] r kept
fresh_kept limits r kept is position none = record {
  entries = [];
  position = position;
  same = none ∙ sym (position.held (ap (λ (v : ReaderView). v.at.verdict) is) ∙ ap (λ (v : ReaderView). v.at.rest) is);
}
