-- How a stream begins: its first complete message is a schema.
use Rattle.std.proofs.Common.{◌≡◌, ℕ, List, [], Some, Result, Ok, refl, sym, ap, ◌∙◌, is_some, false}
use Rattle.std.specs.Prelude.{not}
use Rattle.arrow_types.specs.Notes.{SchemaShape}
use Rattle.arrow_types.specs.Limits.{LimitNumbers}
use Rattle.arrow_meta_reader.specs.Means.{PlainHeader}
use Rattle.arrow_stream_reader.specs.declared.kind.Rejection.{Rejection}
use Rattle.arrow_stream_reader.specs.Frame.{is_out_of_order, BodySays, schema_comes, dictionary_comes, batch_comes, Outcome, First, whole}
use Rattle.arrow_stream_reader.specs.State.{StreamState, Given, nothing_yet, schema_given}
use Rattle.arrow_stream_reader.proofs.Firsts.{whole_says}
use Rattle.arrow_stream_reader.proofs.Decoding.{message_in_order}

-- the state has this schema and no dictionaries, and the item is that of a schema message
pub record IsBegun (s : StreamState) (g : Given) : Type 0 where
  pub shape : SchemaShape
  pub state : s ≡ record { schema = Some shape; dictionaries = [] }
  pub given : g ≡ schema_given

-- if the first message is in order, its body is that of a schema
body_gives : {s : StreamState} {c : PlainHeader} {b : List ℕ} {r : Result (StreamState × Given) Rejection} → BodySays s c b r → s ≡ nothing_yet → is_out_of_order (is_some s.schema) c ≡ false → (s' : StreamState) (g : Given) → r ≡ Ok (s', g) → IsBegun s' g
body_gives (schema_comes {shape = shape}) n o s' g e =
    let same : ◌≡◌ {A = StreamState × Given} (record { schema = Some shape; dictionaries = [] }, schema_given) (s', g) = cc in
    record { shape = shape; state = sym (ap (λ r. r.0) same); given = sym (ap (λ r. r.1) same) }
body_gives (dictionary_comes h i) n o s' g e = let q = sym (ap (λ (t : StreamState). not (is_some t.schema)) n) ∙ o in absurd (cc)
body_gives (batch_comes h i) n o s' g e = let q = sym (ap (λ (t : StreamState). not (is_some t.schema)) n) ∙ o in absurd (cc)

-- a complete message at the start of a stream's bytes is a schema
pub whole_gives : {l : LimitNumbers} {s : StreamState} {p : ℕ} {b : List ℕ} {o : Outcome} → First l s p b o → s ≡ nothing_yet → (n : ℕ) (s' : StreamState) (g : Given) → o ≡ whole n s' g → IsBegun s' g
whole_gives first z n s' g e =
    let frame = whole_says first n s' g e in
    body_gives frame.body.says z (message_in_order frame.body.metadata) s' g refl
