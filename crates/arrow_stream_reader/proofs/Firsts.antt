-- The outcome at the start of bytes: there is at most one, more bytes do not change it, and less than a complete
-- message waits.
use Rattle.std.proofs.Common.{◌≡◌, ℕ, ℤ, ◌+◌, ◌<◌, ◌≤◌, List, ◌++◌, length, take, drop, refl, sym, ap, ◌∙◌, subst, arith, inl, inr, Result, Ok, Err, length-drop, length-append, length-take}
use Rattle.std.specs.Prelude.{is_some}
use Rattle.std.proofs.lemmas.Bool.{cases_lt}
use Rattle.std.proofs.lemmas.List.{take-append-le, drop-append-le, take-take, take-append-drop}
use Rattle.arrow_types.specs.Limits.{LimitNumbers}
use Rattle.arrow_stream_reader.specs.declared.kind.Rejection.{Rejection}
use Rattle.arrow_stream_reader.specs.declared.prefix.Prefix.{Prefix}
use Rattle.arrow_stream_reader.specs.declared.prefix.Prefix.TheVariants as prefixes
use Rattle.arrow_stream_reader.specs.Message.{Message}
use Rattle.arrow_types.specs.Field.{FieldTree}
use Rattle.arrow_data.specs.Column.{Column, ValueList}
use Rattle.arrow_meta_reader.specs.Means.{PlainBatch, PlainHeader}
use Rattle.arrow_stream_reader.specs.Batch.{Loads, columns, bad_layout, bad_text, bad_index, dictionary_left, batch_left}
use Rattle.arrow_stream_reader.specs.State.{StreamState, Given}
use Rattle.arrow_stream_reader.specs.Frame.{prefix_says, judged, MetadataSays, BodySays, schema_comes, dictionary_comes, batch_comes, HasPrefix, HasMetadata, HasBody, Outcome, whole, marker, refused, waits, First, short_prefix, short_metadata, short_body, bad_prefix, bad_metadata, bad_body, end_marker, message_comes}
use Rattle.arrow_stream_reader.proofs.Meanings.{one_meaning}

part-append : (k n : ℕ) (b c : List ℕ) → k + n ≤ length b → take n (drop k (b ++ c)) ≡ take n (drop k b)
part-append k n b c h =
    ap (take n) (drop-append-le k b c (omega arith)) ∙ take-append-le n (drop k b) c (omega (arith, length-drop k b))

-- METADATA AND BODIES: each has one meaning

one_metadata : {l : LimitNumbers} {s : StreamState} {p : ℕ} {b : List ℕ} {r q : Result Message Rejection} →
    MetadataSays l s p b r → MetadataSays l s p b q → r ≡ q
one_metadata {l} {s} {p} {b} x y = x.says ∙ ap (judged l.max_rows s (p + length b)) (one_meaning l b x.meant y.meant x.means y.means) ∙ sym y.says

-- a body holds the same columns, or is rejected with the same kind
one_holding : {b : List ℕ} {ds : List (ℤ × ValueList)} {f : FieldTree} {w : PlainBatch} {r q : Result (List Column) Rejection} →
    Loads b ds f w r → Loads b ds f w q → r ≡ q
one_holding (columns x y z) (columns x' y' z') = refl
one_holding (columns x y z) (bad_layout n) = absurd (n x)
one_holding (columns x y z) (bad_text x' n) = absurd (n y)
one_holding (columns x y z) (bad_index x' y' n) = absurd (n z)
one_holding (bad_layout n) (columns x y z) = absurd (n x)
one_holding (bad_layout n) (bad_layout m) = refl
one_holding (bad_layout n) (bad_text x m) = absurd (n x)
one_holding (bad_layout n) (bad_index x y m) = absurd (n x)
one_holding (bad_text x n) (columns x' y z) = absurd (n y)
one_holding (bad_text x n) (bad_layout m) = absurd (m x)
one_holding (bad_text x n) (bad_text x' m) = refl
one_holding (bad_text x n) (bad_index x' y m) = absurd (n y)
one_holding (bad_index x y n) (columns x' y' z) = absurd (n z)
one_holding (bad_index x y n) (bad_layout m) = absurd (m x)
one_holding (bad_index x y n) (bad_text x' m) = absurd (m y)
one_holding (bad_index x y n) (bad_index x' y' m) = refl

one_body : {s : StreamState} {m : PlainHeader} {b : List ℕ} {r q : Result (StreamState × Given) Rejection} →
    BodySays s m b r → BodySays s m b q → r ≡ q
one_body schema_comes schema_comes = refl
one_body {s} (dictionary_comes {id = id} {delta = delta} h e) (dictionary_comes g f) = e ∙ ap (dictionary_left s id delta) (one_holding h g) ∙ sym f
one_body {s} (batch_comes {record_batch = record_batch} h e) (batch_comes g f) = e ∙ ap (batch_left s record_batch) (one_holding h g) ∙ sym f

-- THE PARTS OF A FRAME

module _ {l : LimitNumbers} {s : StreamState} {p : ℕ} {b : List ℕ} where
  one_prefix : {r q : Result Prefix Rejection} → HasPrefix l s p b r → HasPrefix l s p b q → r ≡ q
  one_prefix h g = sym h.says ∙ g.says

  one_size : {m k : ℕ} → HasPrefix l s p b (Ok (prefixes.Metadata m)) →
      HasPrefix l s p b (Ok (prefixes.Metadata k)) → m ≡ k
  one_size h g = let e = one_prefix h g in cc

  one_metadata_at : {m : ℕ} {r q : Result Message Rejection} → HasMetadata l s p b m r → HasMetadata l s p b m q →
      r ≡ q
  one_metadata_at h g = one_metadata h.says g.says

  -- what the first bytes say does not change when bytes follow
  pub HasPrefix-append : {r : Result Prefix Rejection} (c : List ℕ) → HasPrefix l s p b r → HasPrefix l s p (b ++ c) r
  HasPrefix-append c h = record {
    within = omega (arith, length-append b c);
    says = ap (prefix_says l (is_some s.schema) p) (take-append-le 8 b c h.within) ∙ h.says;
  }

  -- nor does what complete metadata say
  pub HasMetadata-append : {m : ℕ} {r : Result Message Rejection} (c : List ℕ) → HasMetadata l s p b m r →
      HasMetadata l s p (b ++ c) m r
  HasMetadata-append {m} {r} c h = record {
    prefix = HasPrefix-append c h.prefix;
    within = omega (arith, length-append b c);
    says = subst (λ x. MetadataSays l s (p + 8) x r) (sym (part-append 8 m b c h.within)) h.says;
  }

  -- nor does what a complete frame says
  pub HasBody-append : {m : ℕ} {t : Message} {r : Result (StreamState × Given) Rejection} (c : List ℕ) →
      HasBody l s p b m t r → HasBody l s p (b ++ c) m t r
  HasBody-append {m} {t} {r} c h = record {
    metadata = HasMetadata-append c h.metadata;
    within = omega (arith, length-append b c);
    says = subst (λ x. BodySays s t.content x r) (sym (part-append (8 + m) t.body_len b c h.within)) h.says;
  }

-- an outcome that does not wait for bytes stays the same, whatever bytes follow
pub First-append : {l : LimitNumbers} {s : StreamState} {p : ℕ} {b : List ℕ} {o : Outcome} (c : List ℕ) →
    (o ≡ waits → ⊥) → First l s p b o → First l s p (b ++ c) o
First-append c n (short_prefix h) = absurd (n refl)
First-append c n (short_metadata h g) = absurd (n refl)
First-append c n (short_body h g) = absurd (n refl)
First-append c n (bad_prefix h) = bad_prefix (HasPrefix-append c h)
First-append c n (bad_metadata h) = bad_metadata (HasMetadata-append c h)
First-append c n (bad_body h) = bad_body (HasBody-append c h)
First-append c n (end_marker h) = end_marker (HasPrefix-append c h)
First-append c n (message_comes h) = message_comes (HasBody-append c h)

-- ONE OUTCOME: which outcomes a complete part of the frame still allows

abbrev AfterPrefix : List ℕ → Result Prefix Rejection → Outcome → Type 0
AfterPrefix b (Err k) o = o ≡ refused k
AfterPrefix b (Ok prefixes.EndMarker) o = o ≡ marker
AfterPrefix b (Ok (prefixes.Metadata m)) o = length b < 8 + m → o ≡ waits

abbrev AfterMetadata : List ℕ → ℕ → Result Message Rejection → Outcome → Type 0
AfterMetadata b m (Err k) o = o ≡ refused k
AfterMetadata b m (Ok t) o = length b < 8 + m + t.body_len → o ≡ waits

abbrev AfterBody : ℕ → Message → Result (StreamState × Given) Rejection → Outcome → Type 0
AfterBody m t (Err k) o = o ≡ refused k
AfterBody m t (Ok x) o = o ≡ whole (8 + m + t.body_len) x.0 x.1

module _ {l : LimitNumbers} {s : StreamState} {p : ℕ} {b : List ℕ} where
  after_short : {o : Outcome} → length b < 8 → First l s p b o → o ≡ waits
  after_short h (short_prefix g) = refl
  after_short h (short_metadata g k) = refl
  after_short h (short_body g k) = refl
  after_short h (bad_prefix g) = absurd (omega (arith, g.within))
  after_short h (bad_metadata g) = absurd (omega (arith, g.within))
  after_short h (bad_body g) = absurd (omega (arith, g.within))
  after_short h (end_marker g) = absurd (omega (arith, g.within))
  after_short h (message_comes g) = absurd (omega (arith, g.within))

  -- a complete prefix says the same, whatever the constructor of the outcome
  same_prefix : {r q : Result Prefix Rejection} (o : Outcome) → HasPrefix l s p b r → HasPrefix l s p b q →
      AfterPrefix b q o → AfterPrefix b r o
  same_prefix o h g a = subst (λ x. AfterPrefix b x o) (one_prefix g h) a

  after_prefix : {r : Result Prefix Rejection} {o : Outcome} → HasPrefix l s p b r → First l s p b o →
      AfterPrefix b r o
  after_prefix h (short_prefix g) = absurd (omega (arith, h.within))
  after_prefix h (short_metadata g k) = same_prefix _ h g (λ _. refl)
  after_prefix h (short_body g k) = same_prefix _ h g.prefix (λ _. refl)
  after_prefix h (bad_prefix g) = same_prefix _ h g refl
  after_prefix h (bad_metadata g) = same_prefix _ h g.prefix (λ n. absurd (omega (arith, g.within)))
  after_prefix h (bad_body g) = same_prefix _ h g.metadata.prefix (λ n. absurd (omega (arith, g.metadata.within)))
  after_prefix h (end_marker g) = same_prefix _ h g refl
  after_prefix h (message_comes g) = same_prefix _ h g.metadata.prefix (λ n. absurd (omega (arith, g.metadata.within)))

  -- so do complete metadata, whose size the prefix gives
  same_metadata : {m k : ℕ} {r q : Result Message Rejection} (o : Outcome) → HasMetadata l s p b m r →
      HasMetadata l s p b k q → AfterMetadata b k q o → AfterMetadata b m r o
  same_metadata {m} {k} {r} {q} o h g a =
      let e : k ≡ m = one_size g.prefix h.prefix in
      let g' = subst (λ n. HasMetadata l s p b n q) e g in
      subst (λ x. AfterMetadata b m x o) (one_metadata_at g' h) (subst (λ n. AfterMetadata b n q o) e a)

  after_metadata : {m : ℕ} {r : Result Message Rejection} {o : Outcome} → HasMetadata l s p b m r → First l s p b o →
      AfterMetadata b m r o
  after_metadata h (short_prefix g) = absurd (omega (arith, h.prefix.within))
  after_metadata h (short_metadata g k) = let e = one_size h.prefix g in absurd (omega (arith, h.within))
  after_metadata h (short_body g k) = same_metadata _ h g (λ _. refl)
  after_metadata h (bad_prefix g) = let e = one_prefix h.prefix g in absurd (cc)
  after_metadata h (bad_metadata g) = same_metadata _ h g refl
  after_metadata h (bad_body g) = same_metadata _ h g.metadata (λ n. absurd (omega (arith, g.within)))
  after_metadata h (end_marker g) = let e = one_prefix h.prefix g in absurd (cc)
  after_metadata h (message_comes g) = same_metadata _ h g.metadata (λ n. absurd (omega (arith, g.within)))

  same_message : {m k : ℕ} {t u : Message} → HasMetadata l s p b m (Ok t) → HasMetadata l s p b k (Ok u) →
      (k ≡ m) × (u ≡ t)
  same_message {m} {k} {t} {u} h g =
      let e : k ≡ m = one_size g.prefix h.prefix in
      let q = one_metadata_at (subst (λ n. HasMetadata l s p b n (Ok u)) e g) h in
      (e, (cc))

  same_body : {m k : ℕ} {t u : Message} {r q : Result (StreamState × Given) Rejection} (o : Outcome) →
      HasBody l s p b m t r → HasBody l s p b k u q → AfterBody k u q o → AfterBody m t r o
  same_body {m} {k} {t} {u} {r} {q} o h g a =
      let e = same_message h.metadata g.metadata in
      let g' = subst (λ v. HasBody l s p b m v q) e.1 (subst (λ n. HasBody l s p b n u q) e.0 g) in
      subst (λ x. AfterBody m t x o) (one_body g'.says h.says) (subst (λ v. AfterBody m v q o) e.1 (subst (λ n. AfterBody n u q o) e.0 a))

  refused_is_ok : {m n : ℕ} {t : Message} {k : Rejection} → HasMetadata l s p b m (Ok t) →
      HasMetadata l s p b n (Err k) → ⊥
  refused_is_ok {m} {n} {t} {k} h g =
      let e : n ≡ m = one_size g.prefix h.prefix in
      let q = one_metadata_at (subst (λ i. HasMetadata l s p b i (Err k)) e g) h in cc

  after_body : {m : ℕ} {t : Message} {r : Result (StreamState × Given) Rejection} {o : Outcome} →
      HasBody l s p b m t r → First l s p b o → AfterBody m t r o
  after_body h (short_prefix g) = absurd (omega (arith, h.metadata.prefix.within))
  after_body h (short_metadata g k) = let e = one_size h.metadata.prefix g in absurd (omega (arith, h.metadata.within))
  after_body {m} {t} h (short_body {message = u} g n) =
      let e = same_message h.metadata g in
      let f : u.body_len ≡ t.body_len = ap (λ v. v.body_len) e.1 in absurd (omega (arith, h.within, e.0))
  after_body h (bad_prefix g) = let e = one_prefix h.metadata.prefix g in absurd (cc)
  after_body h (bad_metadata g) = elim (refused_is_ok h.metadata g) [ ]
  after_body h (bad_body g) = same_body _ h g refl
  after_body h (end_marker g) = let e = one_prefix h.metadata.prefix g in absurd (cc)
  after_body h (message_comes g) = same_body _ h g refl

  -- there is one outcome at the start of bytes
  pub one_first : {o q : Outcome} → First l s p b o → First l s p b q → o ≡ q
  one_first (short_prefix h) y = sym (after_short h y)
  one_first (short_metadata h n) y = sym (after_prefix h y n)
  one_first (short_body h n) y = sym (after_metadata h y n)
  one_first (bad_prefix h) y = sym (after_prefix h y)
  one_first (bad_metadata h) y = sym (after_metadata h y)
  one_first (bad_body h) y = sym (after_body h y)
  one_first (end_marker h) y = sym (after_prefix h y)
  one_first (message_comes h) y = sym (after_body h y)

-- a complete message is a frame whose body determines the new state and the item
pub record IsFrame (l : LimitNumbers) (s : StreamState) (p : ℕ) (b : List ℕ) (n : ℕ) (s' : StreamState) (g : Given) : Type 0 where
  pub size : ℕ
  pub message : Message
  pub body : HasBody l s p b size message (Ok (s', g))
  pub ends : n ≡ 8 + size + message.body_len

pub whole_says : {l : LimitNumbers} {s : StreamState} {p : ℕ} {b : List ℕ} {o : Outcome} → First l s p b o →
    (n : ℕ) (s' : StreamState) (g : Given) → o ≡ whole n s' g → IsFrame l s p b n s' g
whole_says (short_prefix h) n s' g e = absurd (cc)
whole_says (short_metadata h i) n s' g e = absurd (cc)
whole_says (short_body h i) n s' g e = absurd (cc)
whole_says (bad_prefix h) n s' g e = absurd (cc)
whole_says (bad_metadata h) n s' g e = absurd (cc)
whole_says (bad_body h) n s' g e = absurd (cc)
whole_says (end_marker h) n s' g e = absurd (cc)
whole_says {l} {s} {p} {b} (message_comes {m = m} {message = t} {s' = s''} {g = g'} h) n s' g e =
    let states : s'' ≡ s' = cc in
    let given : g' ≡ g = cc in
    record { size = m; message = t; body = subst (λ x. HasBody l s p b m t (Ok (x, g))) states (subst (λ x. HasBody l s p b m t (Ok (s'', x))) given h); ends = (cc) }

-- a complete message lies within the bytes, and is not empty
pub First-within : {l : LimitNumbers} {s : StreamState} {p : ℕ} {b : List ℕ} {n : ℕ} {s' : StreamState} {g : Given} →
    First l s p b (whole n s' g) → n ≤ length b
First-within (message_comes h) = h.within

-- an end marker has eight bytes
pub marker-within : {l : LimitNumbers} {s : StreamState} {p : ℕ} {b : List ℕ} → First l s p b marker → 8 ≤ length b
marker-within (end_marker h) = h.within

-- metadata that were complete before more bytes were held
pub metadata_held : {l : LimitNumbers} {s : StreamState} {p : ℕ} {b : List ℕ} {m : ℕ} {r : Result Message Rejection} (b' c : List ℕ) → b' ≡ b ++ c → HasMetadata l s p b m r → HasMetadata l s p b' m r
metadata_held {l} {s} {p} {m = m} {r = r} b' c e h = subst (λ x. HasMetadata l s p x m r) (sym e) (HasMetadata-append c h)

-- the same for a prefix
pub prefix_held : {l : LimitNumbers} {s : StreamState} {p : ℕ} {b : List ℕ} {r : Result Prefix Rejection} (b' c : List ℕ) → b' ≡ b ++ c → HasPrefix l s p b r → HasPrefix l s p b' r
prefix_held {l} {s} {p} {r = r} b' c e h = subst (λ x. HasPrefix l s p x r) (sym e) (HasPrefix-append c h)

-- and for a complete frame
pub body_held : {l : LimitNumbers} {s : StreamState} {p : ℕ} {b : List ℕ} {m : ℕ} {t : Message} {r : Result (StreamState × Given) Rejection} (b' c : List ℕ) → b ++ c ≡ b' → HasBody l s p b m t r → HasBody l s p b' m t r
body_held {l} {s} {p} {m = m} {t = t} {r = r} b' c e h = subst (λ x. HasBody l s p x m t r) e (HasBody-append c h)

-- THE FIRST BYTES ONLY

part-take : (b : List ℕ) (k i n : ℕ) → k ≤ length b → i + n ≤ k → take n (drop i (take k b)) ≡ take n (drop i b)
part-take b k i n h g =
    let len : length (take k b) ≡ k = simp length-take (omega arith) in
    sym (part-append i n (take k b) (drop k b) (omega arith)) ∙ ap (λ x. take n (drop i x)) (take-append-drop k b)

module _ {l : LimitNumbers} {s : StreamState} {p : ℕ} {b : List ℕ} where
  -- what a prefix says depends only on its eight bytes
  pub HasPrefix-take : {r : Result Prefix Rejection} (k : ℕ) → 8 ≤ k → k ≤ length b → HasPrefix l s p b r →
      HasPrefix l s p (take k b) r
  HasPrefix-take k h n g = record {
    within = simp length-take (omega (arith, h, n));
    says = ap (prefix_says l (is_some s.schema) p) (take-take 8 k b h) ∙ g.says;
  }

  -- what metadata say depends only on the bytes up to their end
  pub HasMetadata-take : {m : ℕ} {r : Result Message Rejection} (k : ℕ) → 8 + m ≤ k → k ≤ length b →
      HasMetadata l s p b m r → HasMetadata l s p (take k b) m r
  HasMetadata-take {m} {r} k h n g = record {
    prefix = HasPrefix-take k (omega arith) n g.prefix;
    within = simp length-take (omega (arith, h, n));
    says = subst (λ x. MetadataSays l s (p + 8) x r) (sym (part-take b k 8 m n h)) g.says;
  }

  -- and what a frame says, only on the bytes up to its end
  pub HasBody-take : {m : ℕ} {t : Message} {r : Result (StreamState × Given) Rejection} (k : ℕ) →
      8 + m + t.body_len ≤ k → k ≤ length b → HasBody l s p b m t r → HasBody l s p (take k b) m t r
  HasBody-take {m} {t} {r} k h n g = record {
    metadata = HasMetadata-take k (omega arith) n g.metadata;
    within = simp length-take (omega (arith, h, n));
    says = subst (λ x. BodySays s t.content x r) (sym (part-take b k (8 + m) t.body_len n h)) g.says;
  }

-- a complete message is also the outcome of only its own bytes
pub First-take : {l : LimitNumbers} {s : StreamState} {p : ℕ} {b : List ℕ} {n : ℕ} {s' : StreamState} {g : Given} (k : ℕ) → n ≤ k → k ≤ length b → First l s p b (whole n s' g) → First l s p (take k b) (whole n s' g)
First-take k h n (message_comes g) = message_comes (HasBody-take k h n g)

-- so is an end marker
pub marker-take : {l : LimitNumbers} {s : StreamState} {p : ℕ} {b : List ℕ} (k : ℕ) → 8 ≤ k → k ≤ length b →
    First l s p b marker → First l s p (take k b) marker
marker-take k h n (end_marker g) = end_marker (HasPrefix-take k h n g)

-- less than a complete message waits
pub First-short : {l : LimitNumbers} {s : StreamState} {p : ℕ} {b : List ℕ} {n : ℕ} {s' : StreamState} {g : Given} (k : ℕ) →
    k < n → First l s p b (whole n s' g) → First l s p (take k b) waits
First-short {l} {s} {p} {b} k h (message_comes {m = m} {message = t} x) =
    let size : length (take k b) ≤ k = simp length-take (omega arith) in
    let all : k ≤ length b = omega (arith, x.within) in
    elim (cases_lt k 8) [
      | inl short ↦ short_prefix (omega arith)
      | inr some ↦ elim (cases_lt k (8 + m)) [
        | inl short ↦ short_metadata (HasPrefix-take k some all x.metadata.prefix) (omega arith)
        | inr most ↦ short_body (HasMetadata-take k most all x.metadata) (omega arith)
      ]
    ]
