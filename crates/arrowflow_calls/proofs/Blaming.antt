-- Which column is at fault: a body is rejected with one kind, and what is reported of a stream's last message.
use Rattle.std.proofs.Common.{◌≡◌, ◌≤◌, ℕ, ℤ, zero, suc, List, [], ◌∷◌, take, drop, None, Some, Ok, Err, refl, sym, ap, ◌∙◌, subst, arith}
use Rattle.std.specs.Prelude.{◌↔◌, IsTrue, Bool, true, false, length}
use Rattle.arrow_types.specs.Field.{FieldTree, none, more}
use Rattle.arrow_types.specs.View.{field_view, fields_view}
use Rattle.arrow_types.specs.declared.field.Field.{Field}
use Rattle.arrow_body_reader.specs.declared.body.BodyFault.{BodyFault}
use Rattle.arrow_body_reader.specs.declared.body.BodyFault.TheVariants as bodies
use Rattle.arrow_data.specs.Column.{Column, ValueList}
use Rattle.arrow_meta_reader.specs.Means.{PlainBatch}
use Rattle.arrow_body_reader.specs.Sound.{Explains}
use Rattle.arrow_stream_reader.specs.Batch.{AreLong, Loads, columns, bad_layout, bad_text, bad_index}
use Rattle.arrow_stream_reader.proofs.Holdings.{fault_holds}
use Rattle.arrow_stream_reader.specs.declared.kind.Rejection.{Rejection}
use Rattle.arrow_stream_reader.specs.declared.kind.Rejection.TheVariants as refusals
use Rattle.arrow_types.specs.Limits.{LimitNumbers}
use Rattle.arrow_meta_reader.specs.Judges.{Decodes, MetadataFails, MetadataMeans}
use Rattle.arrow_meta_reader.specs.Means.{PlainMessage}
use Rattle.arrow_meta_tree.specs.declared.fault.MetaFault.{MetaFault}
use Rattle.arrow_meta_tree.specs.declared.fault.MetaFault.TheVariants as faults
use Rattle.arrow_stream_reader.specs.Frame.{number_at}
use Rattle.arrow_stream_reader.specs.Kind.{kind_of}
use Rattle.arrow_stream_reader.specs.Meaning.{announced}
use Rattle.arrow_stream_reader.specs.State.{StreamState}
use Rattle.arrow_stream_reader.specs.Stream.{ended_by}
use Rattle.arrow_stream_reader.specs.declared.reader.Verdict.{Verdict}
use Rattle.arrow_stream_reader.specs.declared.reader.Verdict.TheVariants.{Open, Done, Bad}
use Rattle.arrowflow_calls.specs.Blame.{IsFaultOf, body_fault, ending_fault, refusal_by}
use Rattle.arrowflow_calls.specs.Culprit.{ReportsContent, ReportsMessage, ReportsRefused, ReportsVerdict, first_fields, is_of_body, no_culprit}
use Rattle.arrowflow_calls.specs.declared.culprit.CulpritC.{CulpritC}

module _ {body : List ℕ} {ds : List (ℤ × ValueList)} {fields : FieldTree} {record_batch : PlainBatch} where
  -- a body that is read is not rejected
  pub no_refusal : {cs : List Column} {k : Rejection} → Loads body ds fields record_batch (Ok cs) → Loads body ds fields record_batch (Err k) → ⊥
  no_refusal (columns l t i) (bad_layout n) = n l
  no_refusal (columns l t i) (bad_text l' n) = n t
  no_refusal (columns l t i) (bad_index l' t' n) = n i

  -- a body that is rejected is rejected with one kind
  pub one_refusal : {j k : Rejection} → Loads body ds fields record_batch (Err j) → Loads body ds fields record_batch (Err k) → j ≡ k
  one_refusal (bad_layout n) (bad_layout m) = refl
  one_refusal (bad_layout n) (bad_text l m) = absurd (n l)
  one_refusal (bad_layout n) (bad_index l t m) = absurd (n l)
  one_refusal (bad_text l n) (bad_layout m) = absurd (m l)
  one_refusal (bad_text l n) (bad_text l' m) = refl
  one_refusal (bad_text l n) (bad_index l' t m) = absurd (n t)
  one_refusal (bad_index l t n) (bad_layout m) = absurd (m l)
  one_refusal (bad_index l t n) (bad_text l' m) = absurd (m t)
  one_refusal (bad_index l t n) (bad_index l' t' m) = refl

-- the kinds of the faults of bodies differ
pub refusals_differ : (f g : BodyFault) → refusal_by f ≡ refusal_by g → f ≡ g
refusals_differ bodies.Layout bodies.Layout e = refl
refusals_differ bodies.Layout bodies.Text e = absurd (cc)
refusals_differ bodies.Layout bodies.Index e = absurd (cc)
refusals_differ bodies.Layout bodies.Memory e = absurd (cc)
refusals_differ bodies.Text bodies.Layout e = absurd (cc)
refusals_differ bodies.Text bodies.Text e = refl
refusals_differ bodies.Text bodies.Index e = absurd (cc)
refusals_differ bodies.Text bodies.Memory e = absurd (cc)
refusals_differ bodies.Index bodies.Layout e = absurd (cc)
refusals_differ bodies.Index bodies.Text e = absurd (cc)
refusals_differ bodies.Index bodies.Index e = refl
refusals_differ bodies.Index bodies.Memory e = absurd (cc)
refusals_differ bodies.Memory bodies.Layout e = absurd (cc)
refusals_differ bodies.Memory bodies.Text e = absurd (cc)
refusals_differ bodies.Memory bodies.Index e = absurd (cc)
refusals_differ bodies.Memory bodies.Memory e = refl

module _ (body : List ℕ) (ds : List (ℤ × ValueList)) (fields : FieldTree) (record_batch : PlainBatch) where
  -- a body that is rejected with this fault
  pub refuses : (f : BodyFault) → AreLong fields record_batch → (f ≡ bodies.Memory → ⊥) → Explains f body ds fields record_batch.nodes record_batch.buffers → Loads body ds fields record_batch (Err (refusal_by f))
  refuses bodies.Layout long n e = fault_holds body ds fields record_batch bodies.Layout long e
  refuses bodies.Text long n e = fault_holds body ds fields record_batch bodies.Text long e
  refuses bodies.Index long n e = fault_holds body ds fields record_batch bodies.Index long e
  refuses bodies.Memory long n e = absurd (n refl)

  -- whether the fault that was found is this one
  pub is_this : (found fault : BodyFault) (same : Bool) → (IsTrue same ↔ (found ≡ fault)) → IsFaultOf (Some found) body ds fields record_batch → IsTrue same ↔ Loads body ds fields record_batch (Err (refusal_by fault))
  is_this found fault same e h = (
    λ t. subst (λ (f : BodyFault). Loads body ds fields record_batch (Err (refusal_by f))) (e.0 t) h.1,
    λ l. e.1 (refusals_differ found fault (one_refusal h.1 l)),
  )

  -- a body without a fault does not have this one
  pub is_none : (fault : BodyFault) → IsFaultOf None body ds fields record_batch → IsTrue false ↔ Loads body ds fields record_batch (Err (refusal_by fault))
  is_none fault h = (λ t. absurd (cc), λ l. absurd (no_refusal h.1 l))

-- without fields there is no fault
pub nothing_refused : (body : List ℕ) (ds : List (ℤ × ValueList)) (record_batch : PlainBatch) (k : Rejection) → Loads body ds none record_batch (Err k) → ⊥
nothing_refused body ds record_batch k (bad_layout n) = n (record { there = (omega arith, omega arith); laid = tt; long = tt })
nothing_refused body ds record_batch k (bad_text l n) = n tt
nothing_refused body ds record_batch k (bad_index l t n) = n tt

-- the first fields of a list are those of its prefix
pub first_of : (n : ℕ) (fs : List Field) → fields_view (take n fs) ≡ first_fields n (fields_view fs)
first_of zero fs = refl
first_of (suc n) [] = refl
first_of (suc n) (f ∷ fs) = ap (λ (rest : FieldTree). more (field_view f).head (field_view f).children rest) (first_of n fs)

-- if n is at least the number of fields, the first n are all of them
pub first_all : (n : ℕ) (fs : List Field) → length fs ≤ n → first_fields n (fields_view fs) ≡ fields_view fs
first_all zero [] e = refl
first_all (suc n) [] e = refl
first_all zero (f ∷ fs) e = absurd (omega (arith, e))
first_all (suc n) (f ∷ fs) e = ap (λ (rest : FieldTree). more (field_view f).head (field_view f).children rest) (first_all n fs (omega (arith, e)))

-- a Boolean that is false is not true
pub not_true : (b : Bool) → b ≡ false → IsTrue b → ⊥
not_true b e t = let q : false ≡ true = sym e ∙ t in absurd (cc)

-- ---- the last message

-- metadata that do not decode to a message
pub no_message : (limits : LimitNumbers) (kind : Rejection) (s : StreamState) (message metadata : List ℕ) (fault : MetaFault) (stated : CulpritC) → metadata ≡ take (number_at message 4) (drop 8 message) → (fault ≡ faults.Memory → ⊥) → Decodes (Err fault) limits metadata → stated ≡ no_culprit 0
    → ReportsMessage limits kind s message stated
no_message limits kind s message metadata fault stated is other decodes q = (Err fault, subst (λ b. MetadataFails limits b fault) is (fails fault other decodes), q)
  where
    fails : (f : MetaFault) → (f ≡ faults.Memory → ⊥) → Decodes (Err f) limits metadata → MetadataFails limits metadata f
    fails faults.Metadata n d = d
    fails faults.Version n d = d
    fails faults.Header n d = d
    fails faults.BodyLength n d = d
    fails (faults.Unsupported body_len) n d = d
    fails (faults.Schema body_len) n d = d
    fails (faults.Compressed where_found body_len) n d = d
    fails faults.Memory n d = absurd (n refl)

-- metadata that decode to a message
pub one_message : (limits : LimitNumbers) (kind : Rejection) (s : StreamState) (message metadata after : List ℕ) (m : PlainMessage) (stated : CulpritC) → metadata ≡ take (number_at message 4) (drop 8 message) → after ≡ drop (number_at message 4) (drop 8 message)
    → MetadataMeans limits metadata m → ReportsContent kind s after m.body_len m.header stated → ReportsMessage limits kind s message stated
one_message limits kind s message metadata after m stated is then means says =
    (Ok (announced m), (m, subst (λ b. MetadataMeans limits b m) is means, refl), subst (λ b. ReportsContent kind s b m.body_len m.header stated) then says)

-- a stream that ends with a body's fault is rejected with its kind
pub record IsBadFor (v : Verdict) (f : BodyFault) : Type 0 where
  pub kind : Rejection
  pub bad : v ≡ Bad kind
  pub of_body : is_of_body kind ≡ true
  pub is : refusal_by f ≡ kind

bad_for : (k : Rejection) (f : BodyFault) → body_fault (kind_of k) ≡ Some f → IsBadFor (Bad k) f
bad_for refusals.Continuation f e = absurd (cc)
bad_for refusals.MetadataSize f e = absurd (cc)
bad_for refusals.Metadata f e = absurd (cc)
bad_for refusals.Version f e = absurd (cc)
bad_for refusals.Header f e = absurd (cc)
bad_for refusals.BodyLength f e = absurd (cc)
bad_for refusals.Order f e = absurd (cc)
bad_for refusals.Unsupported f e = absurd (cc)
bad_for refusals.Schema f e = absurd (cc)
bad_for refusals.Compressed f e = absurd (cc)
bad_for refusals.UnknownId f e = absurd (cc)
bad_for refusals.NoBase f e = absurd (cc)
bad_for refusals.Rows f e = absurd (cc)
bad_for refusals.Layout bodies.Layout e = record { kind = refusals.Layout; bad = refl; of_body = refl; is = refl }
bad_for refusals.Layout bodies.Text e = absurd (cc)
bad_for refusals.Layout bodies.Index e = absurd (cc)
bad_for refusals.Layout bodies.Memory e = absurd (cc)
bad_for refusals.Text bodies.Text e = record { kind = refusals.Text; bad = refl; of_body = refl; is = refl }
bad_for refusals.Text bodies.Layout e = absurd (cc)
bad_for refusals.Text bodies.Index e = absurd (cc)
bad_for refusals.Text bodies.Memory e = absurd (cc)
bad_for refusals.Index bodies.Index e = record { kind = refusals.Index; bad = refl; of_body = refl; is = refl }
bad_for refusals.Index bodies.Layout e = absurd (cc)
bad_for refusals.Index bodies.Text e = absurd (cc)
bad_for refusals.Index bodies.Memory e = absurd (cc)
bad_for refusals.NoSchema f e = absurd (cc)

pub ends_bad : (v : Verdict) (has_schema : Bool) (rest : List ℕ) (place : ℕ) (f : BodyFault) → ending_fault (ended_by v has_schema rest place) ≡ Some f → IsBadFor v f
ends_bad (Bad k) has_schema rest place f e = bad_for k f e
ends_bad Done has_schema rest place f e = absurd (cc)
ends_bad Open false rest place f e = absurd (cc)
ends_bad Open true [] place f e = absurd (cc)
ends_bad Open true (x ∷ rest) place f e = absurd (cc)

-- what is reported of its message is reported of the stream
pub reported_bad : (limits : LimitNumbers) (v : Verdict) (f : BodyFault) (s : StreamState) (message : List ℕ) (stated : CulpritC) → IsBadFor v f → ReportsMessage limits (refusal_by f) s message stated → ReportsVerdict limits v s message stated
reported_bad limits v f s message stated b says =
    subst (λ x. ReportsVerdict limits x s message stated) (sym b.bad)
    (subst (λ (x : Bool). ReportsRefused x limits b.kind s message stated) (sym b.of_body) (subst (λ k. ReportsMessage limits k s message stated) b.is says))

-- for a kind that no body decides no column is at fault
none_bad : (limits : LimitNumbers) (k : Rejection) (s : StreamState) (message : List ℕ) (stated : CulpritC) → body_fault (kind_of k) ≡ None → stated ≡ no_culprit 0 → ReportsRefused (is_of_body k) limits k s message stated
none_bad limits refusals.Continuation s message stated e q = q
none_bad limits refusals.MetadataSize s message stated e q = q
none_bad limits refusals.Metadata s message stated e q = q
none_bad limits refusals.Version s message stated e q = q
none_bad limits refusals.Header s message stated e q = q
none_bad limits refusals.BodyLength s message stated e q = q
none_bad limits refusals.Order s message stated e q = q
none_bad limits refusals.Unsupported s message stated e q = q
none_bad limits refusals.Schema s message stated e q = q
none_bad limits refusals.Compressed s message stated e q = q
none_bad limits refusals.UnknownId s message stated e q = q
none_bad limits refusals.NoBase s message stated e q = q
none_bad limits refusals.Rows s message stated e q = q
none_bad limits refusals.Layout s message stated e q = absurd (cc)
none_bad limits refusals.Text s message stated e q = absurd (cc)
none_bad limits refusals.Index s message stated e q = absurd (cc)
none_bad limits refusals.NoSchema s message stated e q = q

pub reported_none : (limits : LimitNumbers) (v : Verdict) (has_schema : Bool) (rest : List ℕ) (place : ℕ) (s : StreamState) (message : List ℕ) (stated : CulpritC) → ending_fault (ended_by v has_schema rest place) ≡ None → stated ≡ no_culprit 0 → ReportsVerdict limits v s message stated
reported_none limits Open has_schema rest place s message stated e q = q
reported_none limits Done has_schema rest place s message stated e q = q
reported_none limits (Bad k) has_schema rest place s message stated e q = none_bad limits k s message stated e q
