-- The bytes that are sent are a function of what the batches hold.
use Rattle.std.proofs.Common.{◌≡◌, ℕ, ℤ, Bool, List, [], ◌∷◌, ◌++◌, map, refl, sym, ap, ◌∙◌}
use Rattle.std.specs.List.{flat_map}
use Rattle.std.proofs.lemmas.List.{append-nil}
use Rattle.arrow_types.specs.Field.{FieldTree}
use Rattle.arrow_types.specs.Limits.{LimitNumbers}
use Rattle.arrow_types.specs.Notes.{SchemaShape}
use Rattle.arrow_data.specs.Batch.{Table}
use Rattle.arrow_data.specs.Column.{ValueList}
use Rattle.arrow_layout.specs.PlainValue.{PlainValue}
use Rattle.arrow_body_laws.specs.Stored.{stored}
use Rattle.arrow_meta_reader.specs.Means.{PlainBatch, dictionary, batch}
use Rattle.arrow_stream_reader.specs.State.{nothing_yet}
use Rattle.arrow_stream_laws.specs.Admission.{fields_for}
use Rattle.arrow_stream_laws.specs.Built.{IsBuilt}
use Rattle.arrow_stream_laws.specs.Frames.{Frame, frames_bytes, left_by}
use Rattle.arrow_stream_laws.specs.Plan.{Sending, lists_after, lists_sent, plan, with_list}
use Rattle.arrow_stream_laws.specs.Sent.{batch_of, content_of, frame_of, part_of, parts_of, record_bytes, schema_bytes, sent_of, update_bytes}
use Rattle.arrow_stream_laws.specs.Sizes.{Options, batch_size, dictionary_size}
use Rattle.arrow_stream_laws.specs.Text.{AreUpdates, IsPart, IsUpdate, Text, Written, adds, begins, finished, record_frame, unfinished}
use Rattle.arrow_stream_laws.proofs.Chains.{frames_bytes-append}
use Rattle.arrow_stream_laws.proofs.Texts.{text_is}

-- a record batch and a body are those that `stored` gives
built_batch : {align : ℕ} {fields : FieldTree} {raws : List (List PlainValue)} {rows : ℕ} {record_batch : PlainBatch} {body : List ℕ} → IsBuilt align fields raws rows record_batch body
    → record_batch ≡ batch_of (stored align fields raws) rows
built_batch x = λ i. record { length = x.long i; nodes = (x.one i).nodes; buffers = (x.one i).buffers }

-- so a frame of them is the one of what `stored` gives
update_is : {l : LimitNumbers} {align : ℕ} {fields : FieldTree} {w : Sending} {b : List ℕ} → IsUpdate l align fields w b → b ≡ update_bytes align fields w
update_is {align = align} {fields = fields} {w = w} u =
    u.frame.one
    ∙ (λ i. frame_of (dictionary_size align (fields_for fields w.id)) (dictionary w.id w.is_delta (built_batch u.built i)) (u.built.one i).bytes)

module _ (l : LimitNumbers) (align : ℕ) (shape : SchemaShape) where
  updates_are : (ds : List (ℤ × ValueList)) (ws : List Sending) (fs : List Frame) → AreUpdates l align shape ds ws fs → frames_bytes fs ≡ flat_map (update_bytes align shape.fields) ws
  updates_are ds [] fs u = ap frames_bytes u
  updates_are ds (w ∷ ws) fs u =
      let one = update_is u.2 in
      let others = updates_are (with_list shape.fields w ds) ws u.1 u.3 in
      ap frames_bytes u.4 ∙ (λ i. one i ++ others i)

part_is : {l : LimitNumbers} {o : Options} {shape : SchemaShape} {ds : List (ℤ × ValueList)} {p : ℕ} {t : Table} {fs : List Frame} → IsPart l o shape ds p t fs
    → frames_bytes fs ≡ part_of o shape.fields ds (content_of t)
part_is {l = l} {o = o} {shape = shape} {ds = ds} {t = t} x =
    let f = record_frame shape (lists_after o.updates shape.fields ds t) x.record_batch x.body t.rows x.last in
    let first = updates_are l o.align shape ds (plan o.updates shape.fields ds t) x.updated x.updates in
    let last : x.last ≡ record_bytes o.align shape.fields (stored o.align shape.fields (content_of t).raws) t.rows =
    x.frame.one ∙ (λ i. frame_of (batch_size o.align shape.fields) (batch (built_batch x.built i)) (x.built.one i).bytes) in
    ap frames_bytes x.frames ∙ frames_bytes-append x.updated (f ∷ []) ∙ (λ i. first i ++ (append-nil x.last ∙ last) i)

-- the parts with one more batch
parts_more : (o : Options) (fields : FieldTree) (ds : List (ℤ × ValueList)) (ts : List Table) (t : Table)
    → parts_of o fields ds (map content_of (ts ++ t ∷ [])) ≡ parts_of o fields ds (map content_of ts) ++ part_of o fields (lists_sent o.updates fields ds ts) (content_of t) ∷ []
parts_more o fields ds [] t = refl
parts_more o fields ds (x ∷ ts) t = ap (λ r. part_of o fields ds (content_of x) ∷ r) (parts_more o fields (lists_after o.updates fields ds x) ts t)

text_sent : {l : LimitNumbers} {o : Options} {shape : SchemaShape} {parts : List (List ℕ)} {batches : List Table} {frames : List Frame} → Text l o shape parts batches frames
    → parts ≡ schema_bytes o shape ∷ parts_of o shape.fields [] (map content_of batches)
text_sent (begins b known a f) = ap (λ x. x ∷ []) f.one
text_sent {o = o} {shape = shape} (adds parts batches frames t fs text y) =
    let x = text_is text in
    let lists : (left_by nothing_yet frames).dictionaries ≡ lists_sent o.updates shape.fields [] batches = ap (λ s. s.dictionaries) x.state ∙ x.sent in
    let last = part_is y ∙ ap (λ ds. part_of o shape.fields ds (content_of t)) lists in
    (λ i. text_sent text i ++ last i ∷ []) ∙ ap (λ r. schema_bytes o shape ∷ r) (sym (parts_more o shape.fields [] batches t))

-- what is sent on a connection
pub written_sent : {l : LimitNumbers} {o : Options} {shape : SchemaShape} {finish : Bool} {parts : List (List ℕ)} {batches : List Table} {frames : List Frame}
    → Written l o shape finish parts batches frames → parts ≡ sent_of o shape finish (map content_of batches)
written_sent {o = o} {shape = shape} (unfinished parts batches frames text) = text_sent text ∙ sym (append-nil (schema_bytes o shape ∷ parts_of o shape.fields [] (map content_of batches)))
written_sent (finished parts batches frames b text fits marker) = λ i. text_sent text i ++ marker.one i ∷ []
