-- The result of the layer below for a body is what the body holds.
use Rattle.std.proofs.Common.{◌≡◌, ◌↔◌, ℕ, ℤ, List, Result, MatchResult, refl, sym, ap, ◌∙◌, subst, Ok, Err}
use Rattle.std.specs.List.{AllByRecursion}
use Rattle.arrow_types.specs.Field.{FieldTree}
use Rattle.arrow_data.specs.Column.{Column, ValueList, counts_of}
use Rattle.arrow_body_reader.specs.Held.{count_of}
use Rattle.arrow_body_reader.specs.Sound.{Explains, IsSound, columns_of, lengths_of}
use Rattle.arrow_body_reader.specs.declared.body.BodyFault.{BodyFault}
use Rattle.arrow_body_reader.specs.declared.body.BodyFault.TheVariants as bodies
use Rattle.arrow_types.specs.declared.node.FieldNode.{FieldNode}
use Rattle.arrow_types.specs.declared.node.Buffer.{Buffer}
use Rattle.arrow_meta_reader.specs.Means.{PlainBatch}
use Rattle.arrow_body_reader.proofs.Columns.{columns_long}
use Rattle.arrow_stream_reader.specs.declared.kind.Rejection.TheVariants.{Layout, Text, Index}
use Rattle.arrow_stream_reader.specs.Batch.{AreLong, Loads, columns, bad_layout, bad_text, bad_index}
use Rattle.arrow_stream_reader.specs.Views.{HasNoColumns, LoadsSome, body_error}

-- the columns have the length of the batch, given that these are the batch's nodes and this is its row count
pub are_long : (fields : FieldTree) (record_batch : PlainBatch) (ns : List FieldNode) (n : ℕ) → ns ≡ record_batch.nodes → n ≡ count_of record_batch.length →
    AllByRecursion (λ (k : ℕ). k ≡ n) (lengths_of fields ns) ↔ AreLong fields record_batch
are_long fields record_batch ns n e f = (
  λ h. subst (λ x. AllByRecursion (λ (k : ℕ). k ≡ x) (lengths_of fields record_batch.nodes)) f (subst (λ x. AllByRecursion (λ (k : ℕ). k ≡ n) (lengths_of fields x)) e h),
  λ h. subst (λ x. AllByRecursion (λ (k : ℕ). k ≡ n) (lengths_of fields x)) (sym e) (subst (λ x. AllByRecursion (λ (k : ℕ). k ≡ x) (lengths_of fields record_batch.nodes)) (sym f) h),
)

-- so have the columns that its body holds
pub rows_long : (body : List ℕ) (ds : List (ℤ × ValueList)) (fields : FieldTree) (record_batch : PlainBatch) (cs : List Column) (n : ℕ) → n ≡ count_of record_batch.length →
    cs ≡ columns_of body ds fields record_batch.nodes record_batch.buffers → AllByRecursion (λ (k : ℕ). k ≡ n) (counts_of cs) ↔ AreLong fields record_batch
rows_long body ds fields record_batch cs n f e =
    let same : counts_of cs ≡ lengths_of fields record_batch.nodes = ap counts_of e ∙ columns_long body ds fields record_batch.nodes record_batch.buffers in
    let long = are_long fields record_batch record_batch.nodes n refl f in
    (λ h. long.0 (subst (AllByRecursion (λ (k : ℕ). k ≡ n)) same h), λ h. subst (AllByRecursion (λ (k : ℕ). k ≡ n)) (sym same) (long.1 h))

-- an explanation of a fault carries over to equal bodies, nodes and buffers
pub explains_of : (k : BodyFault) (body body' : List ℕ) (ds : List (ℤ × ValueList)) (fields : FieldTree) (record_batch : PlainBatch) (ns : List FieldNode) (bs : List Buffer) →
    body ≡ body' → ns ≡ record_batch.nodes → bs ≡ record_batch.buffers → Explains k body ds fields ns bs → Explains k body' ds fields record_batch.nodes record_batch.buffers
explains_of k body body' ds fields record_batch ns bs b e f h =
    subst (λ x. Explains k x ds fields record_batch.nodes record_batch.buffers) b (subst (λ x. Explains k body ds fields record_batch.nodes x) f (subst (λ x. Explains k body ds fields x bs) e h))

-- validity carries over to an equal body, equal nodes and equal buffers
pub sound_of : (body body' : List ℕ) (ds : List (ℤ × ValueList)) (fields : FieldTree) (ns ns' : List FieldNode) (bs bs' : List Buffer) →
    body ≡ body' → ns ≡ ns' → bs ≡ bs' → IsSound body ds fields ns bs → IsSound body' ds fields ns' bs'
sound_of body body' ds fields ns ns' bs bs' b e f h =
    subst (λ x. IsSound x ds fields ns' bs') b (subst (λ x. IsSound body ds fields ns' x) f (subst (λ x. IsSound body ds fields x bs) e h))

-- the result for a body: that it is valid and these are its columns, or a fault
abbrev pub Reported : {R : Type 0} → (R → List Column) → Result R BodyFault → List ℕ → List (ℤ × ValueList) → FieldTree → List FieldNode → List Buffer → Type 0
Reported items r body ds fields ns bs = MatchResult r (λ x. IsSound body ds fields ns bs × (items x ≡ columns_of body ds fields ns bs)) (λ k. Explains k body ds fields ns bs)

-- the result for a copy of a body holds of the body
pub reported_of : {R : Type 0} (items : R → List Column) (r : Result R BodyFault) (body body' : List ℕ) (ds : List (ℤ × ValueList)) (fields : FieldTree) (ns ns' : List FieldNode) (bs bs' : List Buffer) →
    body ≡ body' → ns ≡ ns' → bs ≡ bs' → Reported items r body ds fields ns bs → Reported items r body' ds fields ns' bs'
reported_of items r body body' ds fields ns ns' bs bs' b e f h =
    subst (λ x. Reported items r x ds fields ns' bs') b (subst (λ x. Reported items r body ds fields ns' x) f (subst (λ x. Reported items r body ds fields x bs) e h))

module _ {body : List ℕ} {ds : List (ℤ × ValueList)} {fields : FieldTree} {record_batch : PlainBatch} where
  -- columns of another length are an error of the layout
  pub not_long : (AreLong fields record_batch → ⊥) → Loads body ds fields record_batch (Err Layout)
  not_long n = bad_layout (λ h. n h.long)

  -- a valid body holds its columns
  pub sound_holds : (cs : List Column) → AreLong fields record_batch → IsSound body ds fields record_batch.nodes record_batch.buffers → cs ≡ columns_of body ds fields record_batch.nodes record_batch.buffers →
      Loads body ds fields record_batch (Ok cs)
  sound_holds cs long s e =
      subst (λ x. Loads body ds fields record_batch (Ok x)) (sym e)
      (columns (record { there = s.there; laid = s.laid; long = long }) s.text s.indexed)

  -- a valid body is not rejected
  sound_holds_some : AreLong fields record_batch → IsSound body ds fields record_batch.nodes record_batch.buffers → LoadsSome body ds fields record_batch
  sound_holds_some long s = (columns_of body ds fields record_batch.nodes record_batch.buffers, sound_holds (columns_of body ds fields record_batch.nodes record_batch.buffers) long s refl)

  -- the first fault that the layer below reports of a body is the kind it is rejected with: a fault of its layout
  layout_holds : Explains bodies.Layout body ds fields record_batch.nodes record_batch.buffers → Loads body ds fields record_batch (Err Layout)
  layout_holds n = bad_layout (λ h. n (h.there, h.laid))

  -- of its texts
  text_holds : AreLong fields record_batch → Explains bodies.Text body ds fields record_batch.nodes record_batch.buffers → Loads body ds fields record_batch (Err Text)
  text_holds long e = bad_text (record { there = e.0; laid = e.1; long = long }) e.2

  -- of its indices
  index_holds : AreLong fields record_batch → Explains bodies.Index body ds fields record_batch.nodes record_batch.buffers → Loads body ds fields record_batch (Err Index)
  index_holds long e = bad_index (record { there = e.0; laid = e.1; long = long }) e.2 e.3

-- so a fault that it reports of a body whose columns have the batch's length is the reason why there are no columns
pub fault_holds : (body : List ℕ) (ds : List (ℤ × ValueList)) (fields : FieldTree) (record_batch : PlainBatch) (k : BodyFault) →
    AreLong fields record_batch → Explains k body ds fields record_batch.nodes record_batch.buffers → HasNoColumns body ds fields record_batch (body_error k)
fault_holds body ds fields record_batch bodies.Layout long e = layout_holds e
fault_holds body ds fields record_batch bodies.Text long e = text_holds long e
fault_holds body ds fields record_batch bodies.Index long e = index_holds long e
fault_holds body ds fields record_batch bodies.Memory long e = sound_holds_some long e
