-- Each frame that a writer sends takes a multiple of the alignment.
use Rattle.std.proofs.Common.{◌≡◌, ◌≤◌, ◌<◌, ◌+◌, ◌%◌, ℕ, ℤ, pos, false, List, [], ◌∷◌, ◌++◌, length, sym, ap, ◌∙◌, subst, arith}
use Rattle.std.proofs.Math.Nat.{mul-add-mod_self_right, zero-mod}
use Rattle.std.proofs.lemmas.List.Sums.{sum_by-cons}
use Rattle.std.specs.Int.{div_ceil}
use Rattle.std.specs.List.{AllByRecursion, sum_by}
use Rattle.arrow_types.specs.Field.{FieldTree}
use Rattle.arrow_types.specs.Limits.{LimitNumbers}
use Rattle.arrow_types.specs.Notes.{SchemaShape}
use Rattle.arrow_data.specs.Batch.{Table}
use Rattle.arrow_data.specs.Column.{ValueList}
use Rattle.arrow_layout.specs.PlainValue.{PlainValue}
use Rattle.arrow_body_laws.specs.Laws.{raws_of}
use Rattle.arrow_body_laws.proofs.Placed.{rounded-le}
use Rattle.arrow_body_laws.specs.Size.{size_of, sizes_of}
use Rattle.arrow_body_laws.specs.Stored.{rounded}
use Rattle.arrow_meta_reader.specs.Means.{PlainHeader, schema, dictionary, batch}
use Rattle.arrow_meta_writer.specs.Metadata.{metadata_size}
use Rattle.arrow_stream_laws.proofs.Parts.{frame_length}
use Rattle.arrow_meta_reader.specs.declared.message.MetadataVersion.TheVariants as versions
use Rattle.arrow_stream_laws.specs.Admission.{fields_for}
use Rattle.arrow_stream_laws.specs.Frames.{Frame, IsFrameOf}
use Rattle.arrow_stream_laws.specs.Laws.{AreAligned}
use Rattle.arrow_stream_laws.specs.Plan.{Sending, lists_after, plan, with_list}
use Rattle.arrow_stream_laws.specs.Sizes.{Options, blank_batch, header_size}
use Rattle.arrow_stream_laws.specs.Text.{AreUpdates, IsPart, Text, adds, begins, record_frame}

-- rounded numbers add up to a multiple
sum_multiple : (align : ℕ) (ns : List ℕ) → sum_by (rounded align) ns % align ≡ 0
sum_multiple align [] = zero-mod align
sum_multiple align (n ∷ ns) = ap (λ s. s % align) (sum_by-cons (rounded align) n ns) ∙ mul-add-mod_self_right (div_ceil n align) align (sum_by (rounded align) ns) ∙ sum_multiple align ns

-- the size of a body is a multiple too
size_multiple : (align : ℕ) (fields : FieldTree) (raws : List (List PlainValue)) → size_of align fields raws % align ≡ 0
size_multiple align fields raws = sum_multiple align (sizes_of fields raws)

-- a frame with metadata of that size, and with a body whose size is a multiple
frame_aligned : {l : LimitNumbers} {content : PlainHeader} {body b : List ℕ} (align : ℕ) (header : PlainHeader) → 0 < align → IsFrameOf l (header_size align header) content body b → length body % align ≡ 0 → length b % align ≡ 0
frame_aligned {body = body} {b = b} align header some f multiple =
    let m = 8 + metadata_size (record { version = versions.V5; header = header; body_len = 0 }) in
    let high : m ≤ rounded align m = rounded-le align m some in
    let long : length b ≡ rounded align m + length body = frame_length f ∙ omega (arith, high) in
    ap (λ n. n % align) long ∙ mul-add-mod_self_right (div_ceil m align) align (length body) ∙ multiple

module _ (l : LimitNumbers) (align : ℕ) (some : 0 < align) (shape : SchemaShape) where
  -- the frames of dictionary batches
  updates_aligned : (ds : List (ℤ × ValueList)) (ws : List Sending) (fs : List Frame) → AreUpdates l align shape ds ws fs → AreAligned align fs
  updates_aligned ds [] fs u = subst (AreAligned align) (sym u) tt
  updates_aligned ds (w ∷ ws) fs u =
      let one = u.2 in
      let here = frame_aligned align (dictionary (pos 0) false (blank_batch (fields_for shape.fields w.id))) some one.frame (ap (λ n. n % align) one.built.columns.sized ∙ size_multiple align (fields_for shape.fields w.id) (w.carried ∷ [])) in
      subst (AreAligned align) (sym u.4) (here, updates_aligned (with_list shape.fields w ds) ws u.1 u.3)

all_both : (P : Frame → Type 0) (xs ys : List Frame) → AllByRecursion P xs → AllByRecursion P ys → AllByRecursion P (xs ++ ys)
all_both P [] ys h k = k
all_both P (x ∷ xs) ys h k = (h.0, all_both P xs ys h.1 k)

-- the frames of a batch
part_aligned : {l : LimitNumbers} {o : Options} {shape : SchemaShape} {ds : List (ℤ × ValueList)} {place : ℕ} {t : Table} {fs : List Frame} → 0 < o.align → IsPart l o shape ds place t fs → AreAligned o.align fs
part_aligned {l = l} {o = o} {shape = shape} {ds = ds} {t = t} some x =
    let updated = updates_aligned l o.align some shape ds (plan o.updates shape.fields ds t) x.updated x.updates in
    let last = frame_aligned o.align (batch (blank_batch shape.fields)) some x.frame (ap (λ n. n % o.align) x.built.columns.sized ∙ size_multiple o.align shape.fields (raws_of t.columns)) in
    subst (AreAligned o.align) (sym x.frames) (all_both (λ (f : Frame). length f.bytes % o.align ≡ 0) x.updated (record_frame shape (lists_after o.updates shape.fields ds t) x.record_batch x.body t.rows x.last ∷ []) updated (last, tt))

-- the frames of a connection
pub text_aligned : {l : LimitNumbers} {o : Options} {shape : SchemaShape} {parts : List (List ℕ)} {batches : List Table} {frames : List Frame} → 0 < o.align → Text l o shape parts batches frames → AreAligned o.align frames
text_aligned {o = o} {shape = shape} some (begins b known admitted f) = (frame_aligned o.align (schema shape) some f (zero-mod o.align), tt)
text_aligned {o = o} some (adds parts batches frames t fs text part) =
    all_both (λ (f : Frame). length f.bytes % o.align ≡ 0) frames fs (text_aligned some text) (part_aligned some part)
