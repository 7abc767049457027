-- Every list of bytes has a `Front`, in the form of a double negation. No definition decides whether a tree lies in
-- bytes, or whether a body is laid out as its fields need; but to refute that something is missing, both cases may be
-- considered (`apart`).
use Rattle.std.proofs.Common.{◌≡◌, ℕ, ℤ, ◌+◌, ◌<◌, Bool, true, false, List, [], ◌∷◌, length, take, drop, Option, Some, None, Result, Ok, Err, refl, arith, inl, inr, is_some, length-drop, zero, suc}
use Rattle.std.specs.Prelude.{not}
use Rattle.std.proofs.lemmas.Bool.{cases_lt}
use Rattle.arrow_types.specs.Limits.{LimitNumbers}
use Rattle.arrow_types.specs.Field.{FieldTree}
use Rattle.arrow_data.specs.Column.{Column, ValueList}
use Rattle.arrow_body_reader.specs.Sound.{AreIndexed, AreText}
use Rattle.arrow_meta_schema.specs.Conditions.{any_in, lacks_table}
use Rattle.arrow_meta_reader.specs.Faults.{least, header_conditions, fault_of, version_in, header_in, header_of, body_of, is_bad_length}
use Rattle.arrow_meta_tree.specs.Costs.{IsTreeOf}
use Rattle.arrow_meta_reader.specs.Means.{PlainBatch, PlainHeader, schema, dictionary, batch, PlainMessage, meaning_of, message_by}
use Rattle.arrow_meta_tree.specs.Parts.{parts}
use Rattle.arrow_meta_tree.specs.Trees.{Tree, Trees}
use Rattle.arrow_meta_tree.specs.declared.fault.MetaFault.{MetaFault}
use Rattle.arrow_meta_tree.specs.declared.fault.MetaFault.TheVariants as faults
use Rattle.arrow_stream_reader.specs.declared.kind.Rejection.{Rejection}
use Rattle.arrow_stream_reader.specs.declared.prefix.Prefix.{Prefix}
use Rattle.arrow_stream_reader.specs.declared.prefix.Prefix.TheVariants as prefixes
use Rattle.arrow_stream_reader.specs.Batch.{IsLayout, Loads, columns, bad_layout, bad_text, bad_index, value_fields, dictionary_left, batch_left}
use Rattle.arrow_stream_reader.specs.Frame.{prefix_says, judged, MetadataSays, BodySays, schema_comes, dictionary_comes, batch_comes, HasPrefix, HasMetadata, HasBody, Outcome, whole, marker, refused, waits, First, short_prefix, short_metadata, short_body, bad_prefix, bad_metadata, bad_body, end_marker, message_comes}
use Rattle.arrow_stream_reader.specs.Front.{Entry, Snapshot, Front, rests, fails, closes, goes_on}
use Rattle.arrow_stream_reader.specs.Laws.{NoneWithoutFront}
use Rattle.arrow_stream_reader.specs.Meaning.{Means, announced}
use Rattle.arrow_stream_reader.specs.Message.{Message}
use Rattle.arrow_stream_reader.specs.State.{StreamState, Given, nothing_yet}
use Rattle.arrow_stream_reader.proofs.Firsts.{First-within}

-- what cannot be missing: that there is no A is refuted
abbrev Surely : Type 0 → Type 0
Surely A = (A → ⊥) → ⊥

-- something that can be missing neither if A holds nor if it does not cannot be missing
apart : (A : Type 0) {B : Type 0} → (A → Surely B) → ((A → ⊥) → Surely B) → Surely B
apart A f g n = g (λ a. f a n) n

-- METADATA

-- if no condition holds, there are a version and a header
both_there : {V K : Type 0} (lacks : Bool) (version : Option V) (kind : Option K) (own : List (Bool × MetaFault)) →
    least ((lacks, faults.Metadata) ∷ (not (is_some version), faults.Version) ∷ (not (is_some kind), faults.Header) ∷ own) ≡ None →
    (v : V) × (k : K) × (version ≡ Some v) × (kind ≡ Some k)
both_there true version kind own h = absurd (cc)
both_there false None kind own h = absurd (cc)
both_there false (Some v) None own h = absurd (cc)
both_there false (Some v) (Some k) own h = (v, k, refl, refl)

-- what follows from both
with_both : {V K R : Type 0} {P : V → Type 0} {Q : K → Type 0} → (v : V) × (k : K) × P v × Q k → ((v : V) (k : K) → P v → Q k → R) → R
with_both w f = f w.0 w.1 w.2 w.3

-- a tree without a fault has a message as its meaning
message_said : (max : ℕ) (xs : Trees) → fault_of max xs ≡ None → (m : PlainMessage) × (meaning_of xs ≡ Some m)
message_said max xs h =
    let both = both_there (any_in lacks_table xs) (version_in xs) (header_in xs)
    ((is_bad_length max (body_of xs), faults.BodyLength) ∷ header_conditions (header_in xs) (body_of xs) (header_of xs)) h in
    with_both both (λ version kind read is. (message_by xs version kind, rw (read, is) refl))

-- a tree means a message, or has a least fault
tree_means : (l : LimitNumbers) (b : List ℕ) (x : Tree) (f : Option MetaFault) → IsTreeOf b l x → fault_of l.max_body (parts x) ≡ f →
    (r : Result Message MetaFault) × Means l b r
tree_means l b x (Some f) tree e = (Err f, inr (x, tree, e))
tree_means l b x None tree e =
    let w = message_said l.max_body (parts x) e in
    (Ok (announced w.0), (w.0, (x, tree, record { sound = e; same = w.1 }), refl))

-- metadata always mean something: by their tree, or as metadata without a tree
some_meaning : (l : LimitNumbers) (b : List ℕ) → Surely ((r : Result Message MetaFault) × Means l b r)
some_meaning l b =
    apart ((x : Tree) × IsTreeOf b l x)
    (λ t n. n (tree_means l b t.0 (fault_of l.max_body (parts t.0)) t.1 refl))
    (λ none n. n (Err faults.Metadata, inl (refl, λ x tree. none (x, tree))))

-- so metadata say something at any offset
some_metadata : (l : LimitNumbers) (s : StreamState) (p : ℕ) (b : List ℕ) → Surely ((r : Result Message Rejection) × MetadataSays l s p b r)
some_metadata l s p b n =
    some_meaning l b (λ m. n (judged l.max_rows s (p + length b) m.0, record { meant = m.0; means = m.1; says = refl }))

-- BODIES

-- a body holds columns, or is rejected
some_holding : (b : List ℕ) (ds : List (ℤ × ValueList)) (f : FieldTree) (w : PlainBatch) → Surely ((r : Result (List Column) Rejection) × Loads b ds f w r)
some_holding b ds f w =
    apart (IsLayout b f w)
    (λ x. apart (AreText b f w.nodes w.buffers)
    (λ y. apart (AreIndexed b ds f w.nodes w.buffers) (λ z n. n (_, columns x y z)) (λ z n. n (_, bad_index x y z)))
    (λ y n. n (_, bad_text x y)))
    (λ x n. n (_, bad_layout x))

-- so a body says something, whatever message it belongs to
some_body : (s : StreamState) (m : PlainHeader) (b : List ℕ) → Surely ((r : Result (StreamState × Given) Rejection) × BodySays s m b r)
some_body s (schema shape) b n = n (_, schema_comes)
some_body s (dictionary id delta w) b n = some_holding b [] (value_fields s.schema id) w (λ h. n (dictionary_left s id delta h.0, dictionary_comes h.1 refl))
some_body s (batch w) b n = some_holding b s.dictionaries _ w (λ h. n (batch_left s w h.0, batch_comes h.1 refl))

-- ONE MESSAGE

abbrev HasFirst : LimitNumbers → StreamState → ℕ → List ℕ → Type 0
HasFirst l s p b = (o : Outcome) × First l s p b o

module _ {l : LimitNumbers} {s : StreamState} {p : ℕ} {b : List ℕ} where
  -- once a part of the frame is complete, there is an outcome at the start of the bytes
  after_body : {m : ℕ} {t : Message} (r : Result (StreamState × Given) Rejection) → HasBody l s p b m t r → Surely (HasFirst l s p b)
  after_body (Err k) h n = n (refused k, bad_body h)
  after_body {m} {t} (Ok x) h n = n (whole (8 + m + t.body_len) x.0 x.1, message_comes h)

  after_metadata : {m : ℕ} (r : Result Message Rejection) → HasMetadata l s p b m r → Surely (HasFirst l s p b)
  after_metadata (Err k) h n = n (refused k, bad_metadata h)
  after_metadata {m} (Ok t) h n = elim (cases_lt (length b) (8 + m + t.body_len)) [
    | inl short ↦ n (waits, short_body h short)
    | inr within ↦ some_body s t.content (take t.body_len (drop (8 + m) b)) (λ x. after_body x.0 (record { metadata = h; within = within; says = x.1 }) n)
  ]

  after_prefix : (r : Result Prefix Rejection) → HasPrefix l s p b r → Surely (HasFirst l s p b)
  after_prefix (Err k) h n = n (refused k, bad_prefix h)
  after_prefix (Ok prefixes.EndMarker) h n = n (marker, end_marker h)
  after_prefix (Ok (prefixes.Metadata m)) h n = elim (cases_lt (length b) (8 + m)) [
    | inl short ↦ n (waits, short_metadata h short)
    | inr within ↦ some_metadata l s (p + 8) (take m (drop 8 b)) (λ x. after_metadata x.0 (record { prefix = h; within = within; says = x.1 }) n)
  ]

-- there is an outcome at the start of any bytes
some_first : (l : LimitNumbers) (s : StreamState) (p : ℕ) (b : List ℕ) → Surely (HasFirst l s p b)
some_first l s p b n = elim (cases_lt (length b) 8) [
  | inl short ↦ n (waits, short_prefix short)
  | inr within ↦ after_prefix (prefix_says l (is_some s.schema) p (take 8 b)) (record { within = within; says = refl }) n
]

-- ALL MESSAGES

abbrev HasFront : LimitNumbers → StreamState → ℕ → List ℕ → Type 0
HasFront l s p b = (es : List Entry) × (e : Snapshot) × Front l s p b es e

-- an outcome at the start of the bytes gives a `Front`, if the bytes after a complete message have one
after_first : {l : LimitNumbers} {s : StreamState} {p : ℕ} {b : List ℕ} (o : Outcome) → First l s p b o →
    ((n : ℕ) (s' : StreamState) (g : Given) → First l s p b (whole n s' g) → Surely (HasFront l s' (p + n) (drop n b))) → Surely (HasFront l s p b)
after_first waits x f n = n (_, _, rests x)
after_first (refused k) x f n = n (_, _, fails x)
after_first marker x f n = n (_, _, closes x)
after_first (whole m s' g) x f n = f m s' g x (λ y. n (_, _, goes_on x y.2))

-- a complete message has bytes
has_bytes : {l : LimitNumbers} {s : StreamState} {p : ℕ} {b : List ℕ} {n : ℕ} {s' : StreamState} {g : Given} → First l s p b (whole n s' g) → 0 < n
has_bytes (message_comes h) = omega arith

-- fewer than k bytes have a `Front`
some_front : (k : ℕ) (l : LimitNumbers) (s : StreamState) (p : ℕ) (b : List ℕ) → length b < k → Surely (HasFront l s p b)
some_front zero l s p b h f = absurd (omega arith)
some_front (suc k) l s p b h f =
    some_first l s p b
    (λ x. after_first x.0 x.1 (λ n s' g y. some_front k l s' (p + n) (drop n b) (omega (arith, length-drop n b, has_bytes y, First-within y))) f)

-- no bytes are without a `Front`
pub none_without : NoneWithoutFront
none_without limits b n = some_front (length b + 1) limits nothing_yet 0 b (omega arith) (λ x. n x.0 x.1 x.2)
