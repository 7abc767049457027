-- The schema of a stream: the first message gives it, and no later one changes it.
use Rattle.std.proofs.Common.{◌≡◌, ◌+◌, ℕ, ℤ, List, [], ◌∷◌, ◌++◌, Bool, true, false, Some, Result, Ok, Err, refl, sym, ap, ◌∙◌, is_some}
use Rattle.std.proofs.lemmas.Bool.{false≢true}
use Rattle.std.proofs.lemmas.List.{drop-append-le}
use Rattle.arrow_types.specs.Limits.{LimitNumbers}
use Rattle.arrow_types.specs.Notes.{SchemaShape}
use Rattle.std.specs.List.{AllByRecursion}
use Rattle.arrow_data.specs.Column.{Column}
use Rattle.arrow_stream_reader.specs.declared.kind.Rejection.{Rejection}
use Rattle.arrow_stream_reader.specs.declared.reader.Verdict.TheVariants.{Open}
use Rattle.arrow_stream_reader.specs.Batch.{with_values}
use Rattle.arrow_stream_reader.specs.Frame.{is_out_of_order, BodySays, schema_comes, dictionary_comes, batch_comes, Outcome, First, whole}
use Rattle.arrow_stream_reader.specs.Front.{Entry, Snapshot, Front, rests, fails, closes, goes_on}
use Rattle.arrow_stream_reader.specs.State.{StreamState, Given, nothing_yet, schema_given, dictionary_given, batch_given, ended}
use Rattle.arrow_stream_reader.proofs.Beginnings.{whole_gives}
use Rattle.arrow_stream_reader.proofs.Firsts.{whole_says, First-append, First-within}
use Rattle.arrow_stream_reader.proofs.Fronts.{at_bytes, front_follows}
use Rattle.arrow_stream_reader.proofs.Decoding.{message_in_order}
use Rattle.arrowflow_input.proofs.First.{not_marker}

-- what the messages have with more bytes, compared with those of an open stream
pub record GoesOn (l : LimitNumbers) (e : Snapshot) (c : List ℕ) (es fs : List Entry) (f : Snapshot) : Type 0 where
  pub more : List Entry
  pub joined : fs ≡ es ++ more
  pub after : Front l e.state e.place (e.rest ++ c) more f

-- more bytes after an open stream's messages add messages to them, and take none away
pub front_after : {l : LimitNumbers} {s : StreamState} {p : ℕ} {b : List ℕ} {es fs : List Entry} {e f : Snapshot} (c : List ℕ) → Front l s p b es e → e.verdict ≡ Open → Front l s p (b ++ c) fs f → GoesOn l e c es fs f
front_after {fs = fs} c (rests x) o y = record { more = fs; joined = refl; after = y }
front_after c (fails x) o y = absurd (cc)
front_after c (closes x) o y = absurd (cc)
front_after {p = p} {b = b} c (goes_on {n = n} {g = g} x xs) o y =
    let w = front_follows (First-append c (λ q. cc) x) y in
    let i = front_after c xs o (at_bytes (drop-append-le n b c (First-within x)) w.2) in
    record { more = i.more; joined = w.1 ∙ ap (λ r. record { given = g; end = p + n } ∷ r) i.joined; after = i.after }

-- what a message after a schema leaves, which gives no schema
pub record Keeps (shape : SchemaShape) (s : StreamState) (g : Given) : Type 0 where
  pub schema : s.schema ≡ Some shape
  pub other : g ≡ schema_given → ⊥

-- the state that a result leaves, if it is `Ok`
abbrev state_in : Result (StreamState × Given) Rejection → StreamState
state_in (Ok p) = p.0
state_in (Err k) = nothing_yet

-- what a result gives, if it is `Ok`
abbrev pub given_in : Result (StreamState × Given) Rejection → Given
given_in (Ok p) = p.1
given_in (Err k) = schema_given

abbrev is_schema : Given → Bool
is_schema schema_given = true
is_schema (dictionary_given id) = false
is_schema (batch_given b) = false
is_schema ended = false

-- a body after a schema
body_keeps : {s : StreamState} {c : _} {b : List ℕ} {r : Result (StreamState × Given) Rejection} → BodySays s c b r → (shape : SchemaShape) → s.schema ≡ Some shape → is_out_of_order (is_some s.schema) c ≡ false
    → (s' : StreamState) (g : Given) → r ≡ Ok (s', g) → Keeps shape s' g
body_keeps (schema_comes) shape known o s' g e = absurd (false≢true (sym o ∙ ap is_some known))
body_keeps (dictionary_comes {cs = Err k} h i) shape known o s' g e = let q = sym i ∙ e in absurd (cc)
body_keeps {s} (dictionary_comes {id = id} {delta = delta} {cs = Ok cs} h i) shape known o s' g e =
    let q = sym i ∙ e in
    record { schema = ap (λ t. t.schema) (sym (ap state_in q)) ∙ same s id delta cs ∙ known; other = λ z. false≢true (ap is_schema (ap given_in q ∙ z)) }
  where
    same : (s : StreamState) (id : ℤ) (delta : Bool) (cs : List Column) → (with_values s id delta cs).schema ≡ s.schema
    same s id delta [] = refl
    same s id delta (c ∷ cs) = refl
body_keeps (batch_comes {cs = Err k} h i) shape known o s' g e = let q = sym i ∙ e in absurd (cc)
body_keeps {s} (batch_comes {cs = Ok cs} h i) shape known o s' g e =
    let q = sym i ∙ e in
    record { schema = ap (λ t. t.schema) (sym (ap state_in q)) ∙ known; other = λ z. false≢true (ap is_schema (ap given_in q ∙ z)) }

-- a complete message after a schema
pub whole_keeps : {l : LimitNumbers} {s : StreamState} {p : ℕ} {b : List ℕ} {o : Outcome} → First l s p b o → (shape : SchemaShape) → s.schema ≡ Some shape
    → (n : ℕ) (s' : StreamState) (g : Given) → o ≡ whole n s' g → Keeps shape s' g
whole_keeps first shape k n s' g e =
    let frame = whole_says first n s' g e in
    body_keeps frame.body.says shape k (message_in_order frame.body.metadata) s' g refl

-- messages after a schema leave it unchanged, and give no other
pub record Keep (shape : SchemaShape) (es : List Entry) (e : Snapshot) : Type 0 where
  pub schema : e.state.schema ≡ Some shape
  pub others : AllByRecursion (λ (x : Entry). x.given ≡ schema_given → ⊥) es

-- no message after a schema changes it
pub front_keeps : {l : LimitNumbers} {s : StreamState} {p : ℕ} {b : List ℕ} {es : List Entry} {e : Snapshot} → Front l s p b es e → (shape : SchemaShape) → s.schema ≡ Some shape → Keep shape es e
front_keeps (rests x) shape k = record { schema = k; others = tt }
front_keeps (fails x) shape k = record { schema = k; others = tt }
front_keeps (closes x) shape k = record { schema = k; others = ((λ q. false≢true (ap is_schema q)), tt) }
front_keeps (goes_on {n = n} {s' = s'} {g = g} x xs) shape k =
    let w = whole_keeps x shape k n s' g refl in
    let i = front_keeps xs shape w.schema in
    record { schema = i.schema; others = (w.other, i.others) }

-- a stream that gave something began with its schema, and gave no other
pub record Begins (es : List Entry) (e : Snapshot) : Type 0 where
  pub shape : SchemaShape
  pub schema : e.state.schema ≡ Some shape
  pub first : Entry
  pub rest : List Entry
  pub joined : es ≡ first ∷ rest
  pub given : first.given ≡ schema_given
  pub others : AllByRecursion (λ (x : Entry). x.given ≡ schema_given → ⊥) rest

-- the first message of a stream is its schema
pub front_begins : {l : LimitNumbers} {s : StreamState} {p : ℕ} {b : List ℕ} {es : List Entry} {e : Snapshot} → Front l s p b es e → s ≡ nothing_yet → (es ≡ [] → ⊥) → Begins es e
front_begins (rests x) n some = absurd (some refl)
front_begins (fails x) n some = absurd (some refl)
front_begins (closes x) n some = absurd (not_marker x n refl)
front_begins {p = p} (goes_on {n = m} {s' = s'} {g = g} {es = es} x xs) n some =
    let w = whole_gives x n m s' g refl in
    let k = front_keeps xs w.shape (ap (λ t. t.schema) w.state) in
    record { shape = w.shape; schema = k.schema; first = record { given = g; end = p + m }; rest = es; joined = refl; given = w.given; others = k.others }

-- if a stream has given something, more bytes leave its schema unchanged
pub schema_kept : {l : LimitNumbers} {s : StreamState} {p : ℕ} {b : List ℕ} {es fs : List Entry} {e f : Snapshot} (c : List ℕ) → Front l s p b es e → Front l s p (b ++ c) fs f → s ≡ nothing_yet → (es ≡ [] → ⊥) → f.state.schema ≡ e.state.schema
schema_kept c (rests x) y n some = absurd (some refl)
schema_kept c (fails x) y n some = absurd (some refl)
schema_kept c (closes x) y n some = absurd (not_marker x n refl)
schema_kept c (goes_on {n = m} {s' = s'} {g = g} x xs) y n some =
    let w = front_follows (First-append c (λ q. cc) x) y in
    let b = whole_gives x n m s' g refl in
    let k = ap (λ (t : StreamState). t.schema) b.state in
    (front_keeps w.2 b.shape k).schema ∙ sym (front_keeps xs b.shape k).schema
