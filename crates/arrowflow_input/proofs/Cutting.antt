-- A stream that is counted, and passed to a consumer as long as it keeps its bounds.
use Rattle.std.proofs.Common.{◌≡◌, ℕ, ◌+◌, ◌≤◌, List, [], ◌∷◌, ◌++◌, length, take, drop, true, Option, None, Some, Result, Ok, Err, inl, inr, refl, sym, ap, ◌∙◌, subst, arith, append_assoc, append-nil, take-append-drop}
use Rattle.std.specs.Prelude.{IfErr}
use Rattle.std.specs.Io.KnownBytes.{Consumes, prepend_known}
use Rattle.arrow_types.specs.Limits.{LimitNumbers}
use Rattle.arrow_stream_reader.specs.declared.item.Item.{Item}
use Rattle.arrow_stream_reader.specs.Front.{Entry, Snapshot, Front, FrontOf, rests, fails, closes, goes_on}
use Rattle.arrow_stream_reader.specs.State.{StreamState, ended}
use Rattle.arrow_stream_reader.specs.Stream.{ReaderView, IsReaderAt}
use Rattle.arrowflow_input.specs.Blame.{BlamesNone}
use Rattle.arrowflow_input.specs.Bounds.{AreWithin, IsKept, IsLongerSo, IsPassed, Pass, end_in, messages_by, messages_in, rows_by, rows_in}
use Rattle.arrowflow_input.specs.Capped.{is_longer_by, waiting}
use Rattle.arrowflow_input.specs.Consumer.{Comes, OfInput, OfMessages, Took, entry_of}
use Rattle.arrowflow_input.specs.Counted.{AreCounted, GoesOn, HasCounted, HasCountedOn, IsCounting, IsCutBy, IsCutIn, IsReaderWithin}
use Rattle.arrowflow_input.specs.Driver.{AreGiven, Driven}
use Rattle.arrowflow_input.specs.Reads.{IsReadWhile}
use Rattle.arrowflow_input.specs.Within.{DrivenWithin}
use Rattle.arrowflow_input.specs.declared.bounds.Excess.{Excess}
use Rattle.arrowflow_input.specs.declared.bounds.Measure.TheVariants.{Rows, Messages, Bytes}
use Rattle.arrowflow_input.specs.declared.bounds.WholeLimits.{WholeLimits}
use Rattle.std.specs.declared.ops.ControlFlow.{ControlFlow}
use Rattle.std.specs.declared.ops.ControlFlow.TheVariants.{Continue, Break}
use Rattle.arrowflow_input.specs.declared.counting.Counts.{Counts}
use Rattle.arrowflow_input.specs.declared.tool_fault.ToolFault.{ToolFault}
use Rattle.arrowflow_input.specs.declared.tool_fault.ToolFault.TheVariants.{Input}
use Rattle.arrowflow_input.proofs.Driving.{snapshot_of}
use Rattle.arrowflow_input.proofs.Reading.{reached_is}

none_first : (n : ℕ) → 0 + n ≡ n
none_first n = omega arith

-- ---- what one more message adds

pub rows_more : (es : List Entry) (x : Entry) → rows_in (es ++ x ∷ []) ≡ rows_in es + rows_by x.given
rows_more [] x = omega arith
rows_more (y ∷ es) x = omega (arith, rows_more es x)

pub messages_more : (es : List Entry) (x : Entry) → messages_in (es ++ x ∷ []) ≡ messages_in es + messages_by x.given
messages_more [] x = omega arith
messages_more (y ∷ es) x = omega (arith, messages_more es x)

pub end_more : (place : ℕ) (es : List Entry) (x : Entry) → end_in place (es ++ x ∷ []) ≡ x.end
end_more place [] x = refl
end_more place (y ∷ es) x = end_more y.end es x

-- ---- counts

-- a number keeps a bound if it was counted under it
pub kept_by : (bound : Option ℕ) (count n : ℕ) → HasCounted bound count n → IsKept bound n
kept_by None count n h = tt
kept_by (Some limit) count n h = h.1

-- nothing keeps every bound
pub none_counted : (bound : Option ℕ) → HasCounted bound 0 0
none_counted None = tt
none_counted (Some limit) = (refl, omega arith)

pub within_by : (whole : WholeLimits) (counts : Counts) (es : List Entry) → AreCounted whole counts es → AreWithin whole es
within_by whole counts es h = record {
  rows = kept_by whole.rows counts.rows (rows_in es) h.rows;
  messages = kept_by whole.messages counts.messages (messages_in es) h.messages;
  bytes = h.bytes;
}

module _ (whole : WholeLimits) (es : List Entry) (x : Entry) where
  pub messages_pass : (more limit : ℕ) → more ≡ messages_by x.given → IsPassed whole.messages limit (messages_in es + more) → Pass whole Messages limit (es ++ x ∷ [])
  messages_pass more limit is h = subst (IsPassed whole.messages limit) (ap (λ m. messages_in es + m) is ∙ sym (messages_more es x)) h

  pub rows_pass : (more limit : ℕ) → more ≡ rows_by x.given → IsPassed whole.rows limit (rows_in es + more) → Pass whole Rows limit (es ++ x ∷ [])
  rows_pass more limit is h = subst (IsPassed whole.rows limit) (ap (λ m. rows_in es + m) is ∙ sym (rows_more es x)) h

  pub bytes_pass : (end limit : ℕ) → end ≡ x.end → IsPassed whole.bytes limit (0 + end) → Pass whole Bytes limit (es ++ x ∷ [])
  bytes_pass end limit is h = subst (IsPassed whole.bytes limit) (none_first end ∙ is ∙ sym (end_more 0 es x)) h

  pub counted_more : (counts : Counts) (messages rows end : ℕ) → counts.whole ≡ whole → messages ≡ messages_by x.given → rows ≡ rows_by x.given → end ≡ x.end
      → HasCounted whole.messages counts.messages (messages_in es + messages) → HasCounted whole.rows counts.rows (rows_in es + rows) → IsKept whole.bytes (0 + end) → AreCounted whole counts (es ++ x ∷ [])
  counted_more counts messages rows end same are_messages are_rows is_end h i j = record {
    whole_is = same;
    rows = subst (HasCounted whole.rows counts.rows) (ap (λ m. rows_in es + m) are_rows ∙ sym (rows_more es x)) i;
    messages = subst (HasCounted whole.messages counts.messages) (ap (λ m. messages_in es + m) are_messages ∙ sym (messages_more es x)) h;
    bytes = subst (IsKept whole.bytes) (none_first end ∙ is_end ∙ sym (end_more 0 es x)) j;
  }

-- the counts are right by the bounds that they carry
pub own_counts : (whole : WholeLimits) (counts : Counts) (es : List Entry) → AreCounted whole counts es → AreCounted counts.whole counts es
own_counts whole counts es h = subst (λ w. AreCounted w counts es) (sym h.whole_is) h

-- ---- where a message ends

no_last : (es : List Entry) (x : Entry) → [] ≡ es ++ x ∷ [] → ⊥
no_last [] x q = absurd (cc)
no_last (y ∷ es) x q = absurd (cc)

place_stays : {l : LimitNumbers} {s : StreamState} {p : ℕ} {b : List ℕ} {es : List Entry} {e : Snapshot} → Front l s p b es e → es ≡ [] → e.place ≡ p
place_stays (rests f) q = refl
place_stays (fails f) q = refl
place_stays (closes f) q = absurd (cc)
place_stays (goes_on f fr) q = absurd (cc)

-- the last message ends at the offset that the stream has reached
last_ends : {l : LimitNumbers} {s : StreamState} {p : ℕ} {b : List ℕ} {fs : List Entry} {e : Snapshot} → Front l s p b fs e → (es : List Entry) (x : Entry) → fs ≡ es ++ x ∷ [] → x.end ≡ e.place
last_ends (rests f) es x q = absurd (no_last es x q)
last_ends (fails f) es x q = absurd (no_last es x q)
last_ends {s = s} {p = p} (closes f) [] x q = let first : record { given = ended; end = p + 8 } ≡ x = cc in sym (ap (λ (y : Entry). y.end) first)
last_ends (closes f) (y ∷ es) x q = let rest : [] ≡ es ++ x ∷ [] = cc in absurd (no_last es x rest)
last_ends {p = p} (goes_on {n = n} {s' = s'} {g = g} {es = fs} f fr) [] x q =
    let first : record { given = g; end = p + n } ≡ x = cc in
    let none : fs ≡ [] = cc in
    sym (ap (λ (y : Entry). y.end) first) ∙ sym (place_stays fr none)
last_ends (goes_on {n = n} {s' = s'} {g = g} {es = fs} f fr) (y ∷ es) x q = let rest : fs ≡ es ++ x ∷ [] = cc in last_ends fr es x rest

-- ---- a message

module _ (keeps : OfMessages) (answers : OfInput) (whole : WholeLimits) (excess : Option Excess) (none : excess ≡ None) (place : ℕ) (item : Item) (old new : ReaderView) (t : List ℕ) (es : List Entry) (piece : List ℕ) (n : ℕ)
    (comes : Comes place item old new t es piece n) where
  abbrev x : Entry
  x = entry_of item t n

  -- the message ends at the reader's offset
  pub ends_here : x.end ≡ new.at.place
  ends_here = last_ends comes.gives.position.front es x refl

  -- a consumer that takes the message keeps the bounds, or has returned an answer
  pub took_counted : (counts : Counts) → AreCounted whole counts (es ++ x ∷ []) → (answer : Result (ControlFlow (Unit {0}) (Unit {0})) ToolFault) → IfErr answer BlamesNone → Took keeps answers answer new (t ++ piece) (es ++ x ∷ [])
      → Took (IsCounting whole counts excess keeps) (HasCountedOn whole excess keeps answers) answer new (t ++ piece) (es ++ x ∷ [])
  took_counted counts counted answer blames took = by answer blames took
    where
      position : IsReaderWithin whole new (t ++ piece)
      position = record {
        taken = t ++ take n piece;
        rest = drop n piece;
        joined = append_assoc t (take n piece) (drop n piece) ∙ ap (λ y. t ++ y) (take-append-drop n piece);
        entries = es ++ x ∷ [];
        position = comes.gives.position;
        within = within_by whole counts (es ++ x ∷ []) counted;
      }

      by : (answer : Result (ControlFlow (Unit {0}) (Unit {0})) ToolFault) → IfErr answer BlamesNone → Took keeps answers answer new (t ++ piece) (es ++ x ∷ [])
          → Took (IsCounting whole counts excess keeps) (HasCountedOn whole excess keeps answers) answer new (t ++ piece) (es ++ x ∷ [])
      by (Ok (Continue tt)) blames took = record { none = none; counted = counted; kept = took }
      by (Ok (Break tt)) blames took = λ left. subst (λ e. HasCountedOn whole e keeps answers (Ok tt) new (t ++ piece) left) (sym none) (took left, position, tt)
      by (Err fault) blames took = λ left. subst (λ e. HasCountedOn whole e keeps answers (Err fault) new (t ++ piece) left) (sym none) (took left, position, blames)

  -- the message passes a bound
  pub cut_before : (counts : Counts) → AreCounted whole counts es → keeps old.limits old.at.state es → (passed : Excess) → passed.place ≡ place → Pass whole passed.measure passed.limit (es ++ x ∷ []) → (left : Option (List ℕ))
      → HasCountedOn whole (Some passed) keeps answers (Ok tt) new (t ++ piece) left
  cut_before counts counted kept passed at passes left = (
    refl,
    record {
      taken = t;
      more = piece;
      joined = refl;
      cut = record {
        reader = old;
        limits_are = sym comes.limits;
        fails = record { reported = refl; is_open = comes.is_open; given = record { entries = es; position = comes.before; kept = kept } };
        excess = record {
          entries = es;
          snapshot = snapshot_of old comes.before.rest;
          front = subst (λ l. FrontOf l t es (snapshot_of old comes.before.rest)) (sym comes.limits) comes.before.front;
          is_open = comes.is_open;
          place = at ∙ comes.begins;
          within = within_by whole counts es counted;
          passes = inl (record {
            message = take n piece;
            rest = drop n piece;
            joined = sym (take-append-drop n piece);
            entry = x;
            snapshot = snapshot_of new comes.gives.position.rest;
            front = comes.gives.position.front;
            passes = passes;
          });
        };
      };
    },
  )

-- the stream ended
pub end_counted : (keeps : OfMessages) (answers : OfInput) (whole : WholeLimits) (excess : Option Excess) (counts : Counts) (r : ReaderView) (bytes : List ℕ) (left : Option (List ℕ)) (es : List Entry) (answer : Result (Unit {0}) ToolFault)
    → excess ≡ None → AreCounted whole counts es → IsReaderAt r bytes es → answers answer r bytes left → IfErr answer BlamesNone → HasCountedOn whole excess keeps answers answer r bytes left
end_counted keeps answers whole excess counts r bytes left es answer none counted position answered blames =
    subst (λ e. HasCountedOn whole e keeps answers answer r bytes left) (sym none) (
      answered,
      record { taken = bytes; rest = []; joined = append-nil bytes; entries = es; position = position; within = within_by whole counts es counted },
      blames,
    )

-- ---- an input

module _ (keeps : OfMessages) (answers : OfInput) (whole : WholeLimits) (excess : Option Excess) (counts : Counts) (bytes : List ℕ) (left : Option (List ℕ)) (r : ReaderView) where
  abbrev Counted : OfMessages
  Counted = IsCounting whole counts excess keeps

  -- what a consumer that counts was given
  given_inside : {t : List ℕ} → AreGiven Counted t r → AreGiven keeps t r
  given_inside g = record { entries = g.entries; position = g.position; kept = g.kept.kept }

  -- its messages keep the bounds
  position_inside : {t : List ℕ} (rest : List ℕ) → t ++ rest ≡ bytes → AreGiven Counted t r → IsReaderWithin whole r bytes
  position_inside {t} rest joined g = record { taken = t; rest = rest; joined = joined; entries = g.entries; position = g.position; within = within_by whole counts g.entries g.kept.counted }

  -- no bound was passed
  pub driven_inside : (answer : Result (Unit {0}) ToolFault) → excess ≡ None → Driven Counted (HasCountedOn whole excess keeps answers) bytes left r answer → Driven keeps answers bytes left r answer × IsReaderWithin whole r bytes
  driven_inside (Ok done) none h = let a = subst (λ e. HasCountedOn whole e keeps answers (Ok done) r bytes left) none h in (a.0, a.1)
  driven_inside (Err fault) none (inl h) = let a = subst (λ e. HasCountedOn whole e keeps answers (Err fault) r bytes left) none h in (inl a.0, a.1)
  driven_inside (Err fault) none (inr (inl ending)) =
      (inr (inl (record { of_stream = ending.of_stream; reported = ending.reported; badly = ending.badly; given = given_inside ending.given })), position_inside [] (append-nil bytes) ending.given)
  driven_inside (Err fault) none (inr (inr (inl failing))) =
      (inr (inr (inl (record { reported = failing.reported; is_open = failing.is_open; given = given_inside failing.given }))), position_inside [] (append-nil bytes) failing.given)
  driven_inside (Err fault) none (inr (inr (inr wants))) =
      (inr (inr (inr (record { is_memory = wants.is_memory; taken = wants.taken; rest = wants.rest; whole = wants.whole; given = given_inside wants.given }))), position_inside wants.rest wants.whole wants.given)

  -- a message passed a bound
  pub driven_out : (answer : Result (Unit {0}) ToolFault) (passed : Excess) → excess ≡ Some passed → Driven Counted (HasCountedOn whole excess keeps answers) bytes left r answer → IsCutIn keeps whole r.limits passed bytes left
  driven_out answer passed some h = by answer h
    where
      never : excess ≡ None → ⊥
      never none = let q = sym none ∙ some in absurd (cc)

      by : (answer : Result (Unit {0}) ToolFault) → Driven Counted (HasCountedOn whole excess keeps answers) bytes left r answer → IsCutIn keeps whole r.limits passed bytes left
      by (Ok done) h = (subst (λ e. HasCountedOn whole e keeps answers (Ok done) r bytes left) some h).1
      by (Err fault) (inl h) = (subst (λ e. HasCountedOn whole e keeps answers (Err fault) r bytes left) some h).1
      by (Err fault) (inr (inl ending)) = absurd (never ending.given.kept.none)
      by (Err fault) (inr (inr (inl failing))) = absurd (never failing.given.kept.none)
      by (Err fault) (inr (inr (inr wants))) = absurd (never wants.given.kept.none)

  -- the bytes of the input passed a bound
  pub driven_longer : (passed : Excess) (number : ℕ) → excess ≡ None → Driven Counted (HasCountedOn whole excess keeps answers) bytes left r (Err (Input number))
      → passed.measure ≡ Bytes → whole.bytes ≡ Some passed.limit → passed.place ≡ r.at.place → passed.limit ≤ r.at.place + length r.at.rest → GoesOn left → IsCutBy keeps whole r.limits passed bytes [] left
  driven_longer passed number none (inl h) of_bytes bound place size more = let a = subst (λ e. HasCountedOn whole e keeps answers (Err (Input number)) r bytes left) none h in absurd a.2
  driven_longer passed number none (inr (inl ending)) of_bytes bound place size more = let q = ending.reported in absurd (cc)
  driven_longer passed number none (inr (inr (inr wants))) of_bytes bound place size more = let q = wants.is_memory in absurd (cc)
  driven_longer passed number none (inr (inr (inl failing))) of_bytes bound place size more = record {
    reader = r;
    limits_are = refl;
    fails = record { reported = refl; is_open = failing.is_open; given = given_inside failing.given };
    excess = record {
      entries = failing.given.entries;
      snapshot = snapshot_of r failing.given.position.rest;
      front = failing.given.position.front;
      is_open = failing.is_open;
      place = place;
      within = within_by whole counts failing.given.entries failing.given.kept.counted;
      passes = inr (record {
        of_bytes = of_bytes;
        bound = bound;
        size = subst (λ k. passed.limit ≤ k) (reached_is r bytes failing.given.entries failing.given.position failing.is_open) size;
        all = refl;
        goes_on = more;
      });
    };
  }

-- a byte that waits follows the bytes that were read
pub goes_on_by : (next : Option ℕ) (rest : Option (List ℕ)) → is_longer_by next ≡ true → GoesOn (prepend_known (waiting next) rest)
goes_on_by None rest longer = absurd (cc)
goes_on_by (Some byte) rest longer = (byte, rest, refl)

-- ---- a call over an input with bounds

module _ {C : Type 0} (keeps : C → OfMessages) (answers : C → OfInput) (c : C) (whole : WholeLimits) (excess : Option Excess) (counts : Counts) (limits : LimitNumbers) (had left : Option (List ℕ)) (r : ReaderView) (same : r.limits ≡ limits)
    (calls : List ℕ → Type 0) (answer : Result (Unit {0}) ToolFault) (bytes : List ℕ) (consumes : Consumes had left bytes) (reads : IsReadWhile calls bytes)
    (driven : Driven (IsCounting whole counts excess (keeps c)) (HasCountedOn whole excess (keeps c) (answers c)) bytes left r answer) where
  -- a message passed a bound
  pub within_out : (passed : Excess) (end : Result (Unit {0}) ToolFault) → excess ≡ Some passed → DrivenWithin (keeps c) (answers c) calls whole limits had left (Some passed) end r
  within_out passed end some =
      let cut = driven_out (keeps c) (answers c) whole excess counts bytes left r answer passed some driven in
      (cut.taken, cut.more, subst (Consumes had left) (sym cut.joined) consumes, subst (IsReadWhile calls) (sym cut.joined) reads, subst (λ l. IsCutBy (keeps c) whole l passed cut.taken cut.more left) same cut.cut)

  -- the input had more bytes
  pub within_longer : (passed : Excess) (end : Result (Unit {0}) ToolFault) → excess ≡ None → IsLongerSo whole.bytes passed r.at answer → GoesOn left → DrivenWithin (keeps c) (answers c) calls whole limits had left (Some passed) end r
  within_longer passed end none longer more =
      let failed = subst (Driven (IsCounting whole counts excess (keeps c)) (HasCountedOn whole excess (keeps c) (answers c)) bytes left r) longer.failed driven in
      let cut = driven_longer (keeps c) (answers c) whole excess counts bytes left r passed longer.number none failed longer.of_bytes longer.bounded longer.place longer.size more in
      (bytes, [], subst (Consumes had left) (sym (append-nil bytes)) consumes, subst (IsReadWhile calls) (sym (append-nil bytes)) reads, subst (λ l. IsCutBy (keeps c) whole l passed bytes [] left) same cut)

  -- no bound was passed
  pub within_all : excess ≡ None → DrivenWithin (keeps c) (answers c) calls whole limits had left None answer r
  within_all none =
      let inside = driven_inside (keeps c) (answers c) whole excess counts bytes left r answer none driven in
      (bytes, consumes, reads, inside.0, inside.1)
