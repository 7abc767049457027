-- Lemmas for the steps of reading: sizes that passed the checks are small, and the bytes held show their parts.
use Rattle.std.proofs.Common.{◌≡◌, ℕ, ◌+◌, ◌-◌, ◌^◌, ◌<◌, ◌≤◌, inl, inr, Bool, true, false, cond, ltb, eqb, List, [], ◌++◌, length, take, drop, refl, sym, ap, ◌∙◌, subst, arith, Option, Some, None, Result, Ok, Err, length-drop, length-take, length-take-le}
use Rattle.std.specs.Prelude.{is_some, not}
use Rattle.std.proofs.lemmas.Bool.{ltb-false}
use Rattle.std.proofs.lemmas.List.{take_all}
use Rattle.arrow_types.specs.Limits.{LimitNumbers}
use Rattle.arrow_meta_tree.specs.declared.fault.MetaFault.{MetaFault}
use Rattle.arrow_stream_reader.specs.declared.kind.Rejection.{Rejection}
use Rattle.arrow_stream_reader.specs.declared.kind.Rejection.TheVariants.{Continuation, MetadataSize, BodyLength, Order, NoSchema}
use Rattle.arrow_stream_reader.specs.declared.prefix.Prefix.{Prefix}
use Rattle.arrow_stream_reader.specs.declared.prefix.Prefix.TheVariants as prefixes
use Rattle.arrow_stream_reader.specs.Message.{Message}
use Rattle.arrow_stream_reader.specs.State.{StreamState, Given}
use Rattle.arrow_stream_reader.specs.Meaning.{Means}
use Rattle.arrow_stream_reader.specs.Frame.{prefix_says, judged, state_refusal, refused_first, is_out_of_order, MetadataSays, number_at, has_continuation, BodySays, bad_metadata, bad_body, message_comes, HasPrefix, HasMetadata, HasBody}
use Rattle.arrow_stream_reader.specs.declared.message.MessageBody.{MessageBody as HeldContent}
use Rattle.arrow_stream_reader.specs.declared.message.Message.{Message as HeldMessage}
use Rattle.arrow_stream_reader.specs.declared.state.State.{State}
use Rattle.arrow_stream_reader.specs.Views.{Applies, IsFit, Ready, content_of, message_of, plain, MessageRead}
use Rattle.arrow_stream_reader.specs.declared.decode_error.DecodeError.{DecodeError}
use Rattle.arrow_stream_reader.specs.declared.decode_error.DecodeError.TheVariants.{Refused, Memory}
use Rattle.arrow_stream_reader.specs.declared.decoder.Decoder.{Decoder}
use Rattle.arrow_stream_reader.specs.declared.reader.Verdict.TheVariants.{Open}
use Rattle.arrow_stream_reader.specs.declared.decoder.Phase.{Phase}
use Rattle.arrow_stream_reader.specs.declared.decoder.Phase.TheVariants as phases
use Rattle.arrow_stream_reader.specs.declared.decoder.Step.{Step}
use Rattle.arrow_stream_reader.specs.declared.decoder.Step.TheVariants as steps
use Rattle.arrow_stream_reader.specs.Held.{HeldBytes}
use Rattle.arrow_stream_reader.specs.Decoder.{Filled, Finishes, IsAt, NotApplied, SameBut, Shown, Stopped, Works, verdict_of}
use Rattle.arrow_stream_reader.proofs.Firsts.{HasPrefix-take, prefix_held, metadata_held, body_held}
use Rattle.arrow_stream_reader.proofs.Meanings.{meaning_small}

-- if the tests of a prefix return a size, both limits were kept
size_cases : (a b c d e : Bool) (n m : ℕ) →
    cond a (Err Continuation) (cond b (Err MetadataSize) (cond c (Err MetadataSize) (cond d (Ok (prefixes.Metadata n)) (cond e (Err NoSchema) (Ok prefixes.EndMarker))))) ≡ Ok (prefixes.Metadata m) → (b ≡ false) × (c ≡ false) × (n ≡ m)
size_cases true b c d e n m q = absurd (cc)
size_cases false true c d e n m q = absurd (cc)
size_cases false false true d e n m q = absurd (cc)
size_cases false false false false true n m q = absurd (cc)
size_cases false false false false false n m q = absurd (cc)
size_cases false false false true e n m q = (refl, refl, (cc))

-- the size in a prefix is within the limits
prefix_small : (l : LimitNumbers) (seen : Bool) (p : ℕ) (b : List ℕ) (m : ℕ) →
    prefix_says l seen p b ≡ Ok (prefixes.Metadata m) → (m ≤ l.max_metadata) × (p + 8 + m ≤ 2 ^ 62)
prefix_small l seen p b m e =
    let w = size_cases (not (has_continuation b)) (ltb l.max_metadata (number_at b 4)) (ltb (2 ^ 62) (p + 8 + number_at b 4)) (not (eqb (number_at b 4) 0)) (not seen) (number_at b 4) m e in
    let x = ltb-false l.max_metadata (number_at b 4) w.0 in
    let y = ltb-false (2 ^ 62) (p + 8 + number_at b 4) w.1 in
    let same : number_at b 4 ≡ m = w.2 in
    (omega arith, omega arith)

marker_cases : (a b c d e : Bool) (n : ℕ) →
    cond a (Err Continuation) (cond b (Err MetadataSize) (cond c (Err MetadataSize) (cond d (Ok (prefixes.Metadata n)) (cond e (Err NoSchema) (Ok prefixes.EndMarker))))) ≡ Ok prefixes.EndMarker → c ≡ false
marker_cases true b c d e n q = absurd (cc)
marker_cases false true c d e n q = absurd (cc)
marker_cases false false true d e n q = absurd (cc)
marker_cases false false false d e n q = refl

-- a message that is not rejected for its offset or order ends by the last offset and is in order, and what was read
-- before decides no kind
placed_cases : (a b : Bool) (k : Option Rejection) (u t : Message) →
    Ok t ≡ refused_first (cond a (Some BodyLength) (cond b (Some Order) None)) (refused_first k (Ok u)) →
    (a ≡ false) × (b ≡ false) × (k ≡ None) × (u ≡ t)
placed_cases true b k u t e = absurd (cc)
placed_cases false true k u t e = absurd (cc)
placed_cases false false None u t e = (refl, refl, refl, (cc))
placed_cases false false (Some k) u t e = absurd (cc)

-- A message that passed the checks is meant by its metadata, ends by the last offset and is in order, and what was
-- read before decides no kind.
record IsJudged (n : ℕ) (s : StreamState) (p : ℕ) (d : Result Message MetaFault) (t : Message) : Type 0 where
  pub meant : d ≡ Ok t
  pub near : p + t.body_len ≤ 2 ^ 62
  pub in_order : is_out_of_order (is_some s.schema) t.content ≡ false
  pub none : state_refusal n s t.content ≡ None

is_judged : (n : ℕ) (s : StreamState) (p : ℕ) (d : Result Message MetaFault) (t : Message) → Ok t ≡ judged n s p d → IsJudged n s p d t
is_judged n s p (Ok u) t e =
    let w = placed_cases (ltb (2 ^ 62) (p + u.body_len)) (is_out_of_order (is_some s.schema) u.content) (state_refusal n s u.content) u t e in
    let y = ltb-false (2 ^ 62) (p + u.body_len) w.0 in
    let len : u.body_len ≡ t.body_len = ap (λ (v : Message). v.body_len) w.3 in
    let same = ap (λ (v : Message). v.content) w.3 in
    record {
      meant = ap Ok w.3;
      near = omega arith;
      in_order = ap (is_out_of_order (is_some s.schema)) (sym same) ∙ w.1;
      none = ap (state_refusal n s) (sym same) ∙ w.2;
    }
is_judged n s p (Err f) t e = absurd (cc)

module _ {l : LimitNumbers} {s : StreamState} {p : ℕ} where
  -- the size in a prefix is within the limit, and the metadata end by the last offset
  pub size_small : {b : List ℕ} {m : ℕ} → HasPrefix l s p b (Ok (prefixes.Metadata m)) →
      (m ≤ l.max_metadata) × (p + 8 + m ≤ 2 ^ 62)
  size_small {b} {m} h = prefix_small l (is_some s.schema) p (take 8 b) m h.says

  -- an end marker ends by the last offset
  pub marker_small : {b : List ℕ} → HasPrefix l s p b (Ok prefixes.EndMarker) → p + 8 ≤ 2 ^ 62
  marker_small {b} h =
      let c = take 8 b in
      let n = number_at (take 8 b) 4 in
      let w = marker_cases (not (has_continuation (take 8 b))) (ltb l.max_metadata n) (ltb (2 ^ 62) (p + 8 + n)) (not (eqb n 0)) (not (is_some s.schema)) n h.says in
      let y = ltb-false (2 ^ 62) (p + 8 + n) w in omega arith

  judged_at : {b : List ℕ} {m : ℕ} {t : Message} (h : HasMetadata l s p b m (Ok t)) → IsJudged l.max_rows s (p + 8 + length (take m (drop 8 b))) h.says.meant t
  judged_at {b} {m} {t} h = is_judged l.max_rows s (p + 8 + length (take m (drop 8 b))) h.says.meant t h.says.says

  -- the parts of a frame are within their limits, and it ends by the last offset
  pub frame_small : {b : List ℕ} {m : ℕ} {t : Message} → HasMetadata l s p b m (Ok t) →
      (m ≤ l.max_metadata) × (t.body_len ≤ l.max_body) × (p + 8 + m + t.body_len ≤ 2 ^ 62)
  frame_small {b} {m} {t} h =
      let w = judged_at h in
      let n : length (take m (drop 8 b)) ≡ m = simp (length-take, length-drop) (omega (arith, h.within)) in
      let means = subst (λ r. Means l (take m (drop 8 b)) r) w.meant h.says.means in
      ((size_small h.prefix).0, meaning_small l (take m (drop 8 b)) t means, omega (arith, w.near))

  -- a message that passed the checks is in order
  pub message_in_order : {b : List ℕ} {m : ℕ} {t : Message} → HasMetadata l s p b m (Ok t) → is_out_of_order (is_some s.schema) t.content ≡ false
  message_in_order h = let w = judged_at h in w.in_order

  -- a message that passed the checks may be applied
  pub is_ready : {b : List ℕ} {m : ℕ} {t : Message} → l.max_rows ≤ 2147483647 → HasMetadata l s p b m (Ok t) → Ready s t.content
  is_ready few h = let w = judged_at h in record { max_rows = l.max_rows; ceiling = few; in_order = w.in_order; none = w.none }

  -- the body is all the bytes after the metadata
  pub body_said : {b : List ℕ} {m : ℕ} {t : Message} {r : Result (StreamState × Given) Rejection} (body : List ℕ) → body ≡ drop (8 + m) b →
      HasMetadata l s p b m (Ok t) → length b ≡ 8 + m + t.body_len → BodySays s t.content body r → HasBody l s p b m t r
  body_said {b} {m} {t} {r} body e g n says =
      let all : take t.body_len (drop (8 + m) b) ≡ body = take_all t.body_len (drop (8 + m) b) (omega (arith, length-drop (8 + m) b)) ∙ sym e in
      record { metadata = g; within = omega arith; says = subst (λ x. BodySays s t.content x r) (sym all) says }

  -- metadata that were read from the bytes held
  pub metadata_read : {h : List ℕ} {m : ℕ} {r : Result Message Rejection} (d : List ℕ) → d ≡ h →
      HasPrefix l s p h (Ok (prefixes.Metadata m)) → length h ≡ 8 + m →
      MetadataSays l s (p + 8) (take (length d - 8) (drop 8 d)) r → HasMetadata l s p h m r
  metadata_read {h} {m} {r} d e g n says = record {
    prefix = g;
    within = omega arith;
    says =
        let says' = subst (λ x. MetadataSays l s (p + 8) (take (length x - 8) (drop 8 x)) r) e says in
        let rest : length h - 8 ≡ m = omega arith in
        subst (λ x. MetadataSays l s (p + 8) (take x (drop 8 h)) r) rest says';
  }

  -- a prefix that was read from the bytes held
  pub prefix_read : {h : List ℕ} {r : Result Prefix Rejection} (d : List ℕ) (seen : Bool) → d ≡ h →
      seen ≡ is_some s.schema → length h ≡ 8 → r ≡ prefix_says l seen p d → HasPrefix l s p h r
  prefix_read {h} d seen e k n says = record {
    within = omega arith;
    says = ap (prefix_says l (is_some s.schema) p) (take_all 8 h (omega arith) ∙ sym e) ∙ ap (λ x. prefix_says l x p d) (sym k) ∙ sym says;
  }

  -- a prefix that was read from the first bytes
  pub prefix_there : {b : List ℕ} {r : Result Prefix Rejection} (d rest : List ℕ) (seen : Bool) → b ≡ d ++ rest →
      seen ≡ is_some s.schema → length d ≡ 8 → r ≡ prefix_says l seen p d → HasPrefix l s p b r
  prefix_there d rest seen e k n says = prefix_held _ rest e (prefix_read d seen refl k n says)

  -- metadata that were read from the first bytes
  pub metadata_there : {b : List ℕ} {m : ℕ} {r : Result Message Rejection} (d rest : List ℕ) → d ≡ take (8 + m) b → b ≡ d ++ rest →
      HasPrefix l s p b (Ok (prefixes.Metadata m)) → 8 + m ≤ length b →
      MetadataSays l s (p + 8) (take (length d - 8) (drop 8 d)) r → HasMetadata l s p d m r × HasMetadata l s p b m r
  metadata_there {b} {m} {r} d rest first e g n says =
      let size : length d ≡ 8 + m = ap length first ∙ length-take-le (8 + m) b n in
      let begun = subst (λ x. HasPrefix l s p x (Ok (prefixes.Metadata m))) (sym first) (HasPrefix-take (8 + m) (omega arith) n g) in
      let read = metadata_read d refl begun size says in
      (read, metadata_held b rest e read)

-- no more bytes are held than one message may have, and none of a stream that is not open
pub held_small : (l : LimitNumbers) (s : StreamState) (p : ℕ) (h : List ℕ) (f : Phase) → (verdict_of f ≡ Open → Shown l s p h f) →
    ((verdict_of f ≡ Open → ⊥) → h ≡ []) → length h ≤ 8 + l.max_metadata + l.max_body
held_small l s p h phases.Prefix x e = let y = x refl in omega arith
held_small l s p h (phases.Metadata m) x e = let y = x refl in let w = size_small y.0 in omega (arith, y.1)
held_small l s p h (phases.Body m t) x e = let y = x refl in let w = frame_small y.0 in omega (arith, y.1)
held_small l s p h phases.Ended x e = let n = ap length (e (λ q. absurd (cc))) in omega (arith, n)
held_small l s p h (phases.Failed k) x e = let n = ap length (e (λ q. absurd (cc))) in omega (arith, n)

open_by : (l : LimitNumbers) (s : StreamState) (p : ℕ) (h : List ℕ) (f : Phase) → Shown l s p h f → verdict_of f ≡ Open
open_by l s p h phases.Prefix x = refl
open_by l s p h (phases.Metadata m) x = refl
open_by l s p h (phases.Body m t) x = refl
open_by l s p h phases.Ended x = absurd x
open_by l s p h (phases.Failed k) x = absurd x

-- a decoder whose phase is what its held bytes have shown has an open stream
pub is_open : (w : Decoder) → IsAt w → verdict_of w.phase ≡ Open
is_open w at = open_by w.limits (plain w.state) w.place w.held.items w.phase at.shown

-- an error of metadata that were read from the bytes held stops the decoder
pub metadata_stops : {old new : Decoder} {h b : List ℕ} {m : ℕ} (d c : List ℕ) (stop : DecodeError) → d ≡ h →
    HasPrefix old.limits (plain old.state) old.place h (Ok (prefixes.Metadata m)) →
    length h ≡ 8 + m → h ++ c ≡ b →
    MessageRead old.limits (plain old.state) (old.place + 8) (take (length d - 8) (drop 8 d)) (Err stop) → Stopped old b new →
    Works old b (Err stop) new
metadata_stops {b = b} d c (Refused k) e g n rest says x = record { stopped = x; first = bad_metadata (metadata_held b c (sym rest) (metadata_read d e g n says)) }
metadata_stops d c Memory e g n rest says x = x

-- the held bytes were filled from a piece
module _ {old piece : List ℕ} {target n : ℕ} {new : List ℕ} where
  -- fewer bytes than wanted: all of the piece was taken
  pub all_taken : Filled old piece target n new → length new < target → new ≡ old ++ piece
  all_taken f h = elim f.enough [ inl e ↦ absurd (omega arith) | inr w ↦ w.1 ]

  -- not fewer than wanted: exactly that many
  pub filled : Filled old piece target n new → target ≤ length new → length new ≡ target
  filled f h = elim f.enough [ inl e ↦ e | inr w ↦ absurd (omega arith) ]

-- all bytes were taken, after none
pub filled_by : {old piece : List ℕ} {n : ℕ} {new : List ℕ} → old ≡ [] → Filled old piece (length piece) n new → new ≡ piece
filled_by {old} {piece} {n} {new} none f = elim f.enough [
  | inl e ↦
      let took = f.took ∙ ap (λ h. h ++ take n piece) none in
      let size : length piece ≤ n = omega (arith, ap length took, e, length-take-le n piece f.within) in
      took ∙ take_all n piece size
  | inr w ↦ w.1 ∙ ap (λ h. h ++ piece) none
]

-- the decoder when all bytes of a message are held, in a state and with a message that was returned
abbrev handed_back : Decoder → State → ℕ → HeldContent → ℕ → Decoder
handed_back old st m c n = record {
  alloc = old.alloc;
  limits = old.limits;
  state = st;
  place = old.place;
  held = old.held;
  phase = phases.Body m (record { content = c; body_len = n });
}

module _ (old : Decoder) (st : State) (m : ℕ) (t : HeldMessage) (c : HeldContent)
    (known : HasMetadata old.limits (plain old.state) old.place old.held.items m (Ok (message_of t)))
    (whole : length old.held.items ≡ 8 + m + t.body_len) where
  not_applied : old.limits.max_rows ≤ 2147483647 → IsFit (plain st) → plain st ≡ plain old.state → content_of c ≡ content_of t.content →
      NotApplied old (handed_back old st m c t.body_len)
  not_applied few fit e f = record {
    same = record { limits = refl; state = e; place = refl };
    held = refl;
    at = record {
      shown = (
        subst (λ x. HasMetadata old.limits x old.place old.held.items m (Ok (record { content = content_of c; body_len = t.body_len }))) (sym e)
            (subst (λ k. HasMetadata old.limits (plain old.state) old.place old.held.items m (Ok (record { content = k; body_len = t.body_len }))) (sym f) known),
        omega arith,
        few,
      );
      near = omega (arith, (frame_small known).2);
      fit = fit;
    };
  }

  -- a message that is not applied stops the decoder at its old offset
  pub not_finished : (body : List ℕ) (stop : DecodeError) → body ≡ drop (8 + m) old.held.items → old.limits.max_rows ≤ 2147483647 → IsFit (plain st) →
      Applies (plain old.state) (content_of t.content) body (Err (stop, c)) (plain st) →
      Finishes old m (message_of t) (Err stop) (handed_back old st m c t.body_len)
  not_finished body (Refused k) e few fit a =
      (not_applied few fit a.1 a.2, body_said body e known whole a.0)
  not_finished body Memory e few fit a =
      (not_applied few fit a.1 a.2, (a.0.0, body_said body e known whole a.0.1))

-- the result for the message is what the decoder's step does
module _ (old : Decoder) (h : HeldBytes) (f : Phase) (new : Decoder) where
  abbrev filled_up : Decoder
  filled_up = record { alloc = old.alloc; limits = old.limits; state = old.state; place = old.place; held = h; phase = f }

  stopped_at : (b rest : List ℕ) → h.items ++ rest ≡ b → length old.held.items ≤ length h.items → NotApplied filled_up new → Stopped old b new
  stopped_at b rest e covers not = record {
    same = record { limits = not.same.limits; state = not.same.state; place = not.same.place };
    more = rest;
    held = sym e ∙ ap (λ y. y ++ rest) (sym not.held);
    covers = subst (λ y. length old.held.items ≤ length y) (sym not.held) covers;
    at = not.at;
  }

  -- b begins with the message, whose bytes are held
  pub finish_works : (b more : List ℕ) (m : ℕ) (t : Message) (r : Result Step DecodeError) → h.items ++ more ≡ b →
      length old.held.items ≤ length h.items → length h.items ≡ 8 + m + t.body_len →
      Finishes filled_up m t r new → Works old b r new
  finish_works b more m t (Ok steps.Short) e covers whole x = absurd x
  finish_works b more m t (Ok steps.EndMarker) e covers whole x = absurd x
  finish_works b more m t (Ok (steps.Whole item)) e covers whole x = record {
    size = 8 + m + t.body_len;
    limits = x.limits;
    place = x.place ∙ ap (λ n. old.place + n) whole;
    covers = omega arith;
    held = x.held;
    at = x.at;
    first = message_comes (body_held b more e x.body);
  }
  finish_works b more m t (Err (Refused k)) e covers whole x =
      record { stopped = stopped_at b more e covers x.0; first = bad_body (body_held b more e x.1) }
  finish_works b more m t (Err Memory) e covers whole x =
      stopped_at b more e covers x.0

-- nothing was taken, and nothing is held
pub unmoved : {old new : Decoder} {b : List ℕ} → SameBut old new → old.held.items ≡ [] → new.held.items ≡ [] → new.phase ≡ phases.Prefix →
    new.place ≤ 2 ^ 62 → IsFit (plain new.state) → Stopped old b new
unmoved {old} {new} {b} same before none first near fit = record {
  same = same;
  more = b;
  held = ap (λ h. h ++ b) (sym none);
  covers = omega (arith, ap length before);
  at = record {
    shown = subst (λ f. Shown new.limits (plain new.state) new.place new.held.items f) (sym first) (omega (arith, ap length none));
    near = near;
    fit = fit;
  };
}

-- a message that begins with the bytes b, which have all of it
module _ (old : Decoder) (b : List ℕ) (m : ℕ) (t : HeldMessage)
    (known : HasMetadata old.limits (plain old.state) old.place b m (Ok (message_of t))) (whole : 8 + m + t.body_len ≤ length b) where
  pub body_there : {r : Result (StreamState × Given) Rejection} (body : List ℕ) → body ≡ take t.body_len (drop (8 + m) b) →
      BodySays (plain old.state) (content_of t.content) body r → HasBody old.limits (plain old.state) old.place b m (message_of t) r
  body_there {r} body e says = record { metadata = known; within = whole; says = subst (λ x. BodySays (plain old.state) (content_of t.content) x r) e says }

  -- the state is kept if the message is not applied
  pub state_kept : (s' : StreamState) (body : List ℕ) (stop : DecodeError) (c : HeldContent) → Applies (plain old.state) (content_of t.content) body (Err (stop, c)) s' → s' ≡ plain old.state
  state_kept s' body (Refused k) c a = a.1
  state_kept s' body Memory c a = a.1

  pub stops_there : {new : Decoder} (s' : StreamState) (body : List ℕ) (stop : DecodeError) (c : HeldContent) → body ≡ take t.body_len (drop (8 + m) b) →
      Applies (plain old.state) (content_of t.content) body (Err (stop, c)) s' → Stopped old b new → Works old b (Err stop) new
  stops_there s' body (Refused k) c e a x = record { stopped = x; first = bad_body (body_there body e a.0) }
  stops_there s' body Memory c e a x = x
