-- The state of a writer after its calls.
use Rattle.std.proofs.Common.{◌≡◌, ℕ, ◌+◌, Bool, map, Some, List, [], ◌∷◌, ◌++◌, length, take, refl, sym, ap, ◌∙◌, subst, arith, true, false, Option, None, length-append}
use Rattle.std.proofs.lemmas.List.{append-nil}
use Rattle.std.proofs.Math.Seq.{take-append-add}
use Rattle.std.proofs.KnownBytes.{Appends-trans}
use Rattle.std.specs.Io.KnownBytes.{Appends}
use Rattle.arrow_types.specs.Limits.{LimitNumbers}
use Rattle.arrow_types.specs.Notes.{SchemaShape}
use Rattle.arrow_types.specs.Schema.{IsNoted}
use Rattle.arrow_data.specs.Batch.{Table}
use Rattle.arrow_meta_reader.specs.Means.{schema}
use Rattle.arrow_sink.specs.Sinks.{AcceptsBeginning}
use Rattle.arrow_stream_reader.specs.State.{StreamState, nothing_yet}
use Rattle.arrow_sink.specs.declared.status.Status.TheVariants as statuses
use Rattle.arrow_stream_laws.specs.Sizes.{Options, schema_size}
use Rattle.arrow_stream_laws.specs.Plan.{lists_after}
use Rattle.arrow_stream_laws.specs.Admission.{schema_admission, marker_fits, part_size}
use Rattle.arrow_stream_laws.specs.Frames.{Frame, frames_bytes, left_by, IsFrameOf, IsMarker, IsStream}
use Rattle.arrow_stream_laws.specs.Text.{schema_frame, marker_frame, IsPart, Text, begins, adds, Written, unfinished, finished, joined}
use Rattle.arrow_stream_laws.specs.Rows.{rows_of}
use Rattle.arrow_stream_laws.specs.Snapshot.{SendsBeginning}
use Rattle.arrow_stream_laws.proofs.Deliveries.{delivered, text_stream, written_is}
use Rattle.arrow_stream_laws.specs.Writer.{WriterView, IsWriterAt, Accepts, Fails, FailsAtStart, Starts, Ends, FailsAtEnd, first_place}
use Rattle.arrow_stream_laws.proofs.Chains.{left_by-append}
use Rattle.arrow_stream_laws.proofs.Parts.{frame_length}
use Rattle.arrow_stream_laws.proofs.Texts.{text_is, text_part, joined_more}

unfinished_text : {l : LimitNumbers} {o : Options} {shape : SchemaShape} {parts : List (List ℕ)} {batches : List Table} {frames : List Frame} → Written l o shape false parts batches frames → Text l o shape parts batches frames
unfinished_text (unfinished parts batches frames t) = t

-- once the messages of a batch are accepted, the writer has sent one more part and one more batch
module _ (old : WriterView) (t : Table) (fs : List Frame) (part : IsPart old.limits old.options old.shape old.sent old.place t fs) where
  module _ (base : Option (List ℕ)) (parts : List (List ℕ)) (batches : List Table) (s : IsWriterAt old base false parts batches) where
    pub own_part : IsPart old.limits old.options old.shape (left_by nothing_yet s.frames).dictionaries (length (joined parts)) t fs
    own_part =
        subst (λ n. IsPart old.limits old.options old.shape (left_by nothing_yet s.frames).dictionaries n t fs) s.place_is
        (subst (λ ds. IsPart old.limits old.options old.shape ds old.place t fs) s.sent_are part)

    pub lies_by : (contents : Option (List ℕ)) → Appends old.contents contents (frames_bytes fs)
        → IsWriterAt (record old { sent = lists_after old.options.updates old.shape.fields old.sent t; place = old.place + part_size old.options old.shape.fields old.sent t; contents = contents; status = statuses.Writing }) base false (parts ++ frames_bytes fs ∷ []) (batches ++ t ∷ [])
    lies_by contents more =
        let text = unfinished_text s.written in
        let x = text_is text in
        let q = text_part parts batches s.frames t fs x own_part in
        let bytes = frames_bytes fs in
        let lists : old.sent ≡ x.lists = s.sent_are ∙ ap (λ (z : StreamState). z.dictionaries) x.state in
        let size : part_size old.options old.shape.fields old.sent t ≡ length bytes = ap (λ ds. part_size old.options old.shape.fields ds t) lists ∙ sym q.sized in
        record {
          frames = s.frames ++ fs;
          written = unfinished _ _ _ (adds parts batches s.frames t fs text own_part);
          sent_are = ap (λ ds. lists_after old.options.updates old.shape.fields ds t) lists
              ∙ sym (ap (λ (z : StreamState). z.dictionaries) (left_by-append nothing_yet s.frames fs ∙ ap (λ z. left_by z fs) x.state ∙ q.leaves));
          place_is = omega (arith, s.place_is, size, ap length (joined_more parts bytes), length-append (joined parts) bytes);
          accepted = subst (λ b. Appends base contents b) (sym (joined_more parts bytes)) (Appends-trans base old.contents contents (joined parts) bytes s.accepted more);
          status_is = refl;
        }

-- the bytes that were accepted before, and a prefix of the next ones
pub accepts_in_all : (base before now : Option (List ℕ)) (parts : List (List ℕ)) (part : List ℕ) → Appends base before (joined parts) → AcceptsBeginning before now part → AcceptsBeginning base now (joined (parts ++ part ∷ []))
accepts_in_all base before now parts part a b =
    let n = b.0 in
    let whole = joined_more parts part in
    let len : length (joined (parts ++ part ∷ [])) ≡ length (joined parts) + length part = ap length whole ∙ length-append (joined parts) part in
    let bytes : joined parts ++ take n part ≡ take (length (joined parts) + n) (joined (parts ++ part ∷ [])) =
    sym (take-append-add (joined parts) part n) ∙ ap (take (length (joined parts) + n)) (sym whole) in
    (length (joined parts) + n, omega (arith, b.1), subst (λ xs. Appends base now xs) bytes (Appends-trans base before now (joined parts) (take n part) a b.2))

-- an accepted end marker closes the writer
pub closed_by : (old : WriterView) (base : Option (List ℕ)) (parts : List (List ℕ)) (batches : List Table) (b : List ℕ) (contents : Option (List ℕ)) → IsWriterAt old base false parts batches → IsMarker b → marker_fits old.place ≡ true
    → Appends old.contents contents b → IsWriterAt (record old { place = old.place + 8; status = statuses.Finished; contents = contents }) base true (parts ++ b ∷ []) batches
closed_by old base parts batches b contents s m h more =
    let text = unfinished_text s.written in
    let last = marker_frame (left_by nothing_yet s.frames) b in
    record {
      frames = s.frames ++ last ∷ [];
      written = finished parts batches s.frames b text (subst (λ n. marker_fits n ≡ true) s.place_is h) m;
      sent_are = s.sent_are ∙ sym (ap (λ (z : StreamState). z.dictionaries) (left_by-append nothing_yet s.frames (last ∷ [])));
      place_is = omega (arith, s.place_is, m.eight, ap length (joined_more parts b), length-append (joined parts) b);
      accepted = subst (λ xs. Appends base contents xs) (sym (joined_more parts b)) (Appends-trans base old.contents contents (joined parts) b s.accepted more);
      status_is = refl;
    }

-- a started writer has sent its schema
pub starts_of : (l : LimitNumbers) (o : Options) (shape : SchemaShape) (base contents : Option (List ℕ)) (failures : ℕ) (b : List ℕ) → IsNoted shape → schema_admission l o shape ≡ None → IsFrameOf l (schema_size o.align shape) (schema shape) [] b
    → Appends base contents b
    → Starts l o shape base failures (record { limits = l; options = o; shape = shape; sent = []; place = first_place o shape; status = statuses.Writing; contents = contents; failures = failures })
starts_of l o shape base contents failures b known admitted f more =
    let all : joined (b ∷ []) ≡ b = append-nil b in
    record {
      part = b;
      new_is = refl;
      position = record {
        frames = schema_frame shape b ∷ [];
        written = unfinished _ _ _ (begins b known admitted f);
        sent_are = refl;
        place_is = let len = frame_length f in omega (arith, ap length all);
        accepted = subst (λ xs. Appends base contents xs) (sym all) more;
        status_is = refl;
      };
    }

-- WHAT A CALL DID, by what was sent

pub accepts_of : (old : WriterView) (t : Table) (fs : List Frame) (contents : Option (List ℕ)) → old.status ≡ statuses.Writing → IsPart old.limits old.options old.shape old.sent old.place t fs → Appends old.contents contents (frames_bytes fs)
    → Accepts old t (record old { sent = lists_after old.options.updates old.shape.fields old.sent t; place = old.place + part_size old.options old.shape.fields old.sent t; contents = contents })
accepts_of old t fs contents open_before part more = record {
  open_before = open_before;
  frames = fs;
  is_part = part;
  accepted = more;
  new_is = refl;
  position = λ base parts batches s.
      subst (λ status. IsWriterAt (record old { sent = lists_after old.options.updates old.shape.fields old.sent t; place = old.place + part_size old.options old.shape.fields old.sent t; contents = contents; status = status }) base false (parts ++ frames_bytes fs ∷ []) (batches ++ t ∷ [])) (sym open_before)
      (lies_by old t fs part base parts batches s contents more);
}

pub fails_of : (old : WriterView) (t : Table) (fs : List Frame) (contents : Option (List ℕ)) → old.status ≡ statuses.Writing → IsPart old.limits old.options old.shape old.sent old.place t fs → AcceptsBeginning old.contents contents (frames_bytes fs)
    → Fails old t (record old { status = statuses.Broken; contents = contents; failures = old.failures + 1 })
fails_of old t fs contents open_before part some = record {
  open_before = open_before;
  frames = fs;
  is_part = part;
  accepted = some;
  new_is = refl;
  in_all = λ base parts batches s. accepts_in_all base old.contents contents parts (frames_bytes fs) s.accepted some;
}

pub ends_of : (old : WriterView) (b : List ℕ) (contents : Option (List ℕ)) → old.status ≡ statuses.Writing → IsMarker b → marker_fits old.place ≡ true → Appends old.contents contents b
    → Ends old (record old { place = old.place + 8; status = statuses.Finished; contents = contents })
ends_of old b contents open_before m h more = record {
  open_before = open_before;
  marker = b;
  is_marker = m;
  fits_in = h;
  accepted = more;
  new_is = refl;
  position = λ base parts batches s. closed_by old base parts batches b contents s m h more;
}

pub fails_at_end : (old : WriterView) (b : List ℕ) (contents : Option (List ℕ)) → old.status ≡ statuses.Writing → IsMarker b → marker_fits old.place ≡ true → AcceptsBeginning old.contents contents b
    → FailsAtEnd old (record old { status = statuses.Broken; contents = contents; failures = old.failures + 1 })
fails_at_end old b contents open_before m h some = record {
  open_before = open_before;
  marker = b;
  is_marker = m;
  fits_in = h;
  accepted = some;
  new_is = refl;
  in_all = λ base parts batches s. accepts_in_all base old.contents contents parts b s.accepted some;
}

-- WHAT WAS SENT IN ALL

pub stream_sent : (w : WriterView) (closed : Bool) (parts : List (List ℕ)) (batches : List Table) (before now : List ℕ) → IsWriterAt w (Some before) closed parts batches → w.contents ≡ Some now
    → (now ≡ before ++ joined parts) × IsStream w.limits (joined parts) w.shape (map rows_of batches) w.sent
stream_sent w closed parts batches before now s reported =
    let accepted = subst (λ c. Appends (Some before) c (joined parts)) reported s.accepted in
    let last = s.sent_are ∙ (written_is s.written).dictionaries in
    (accepted, subst (λ ds. IsStream w.limits (joined parts) w.shape (map rows_of batches) ds) (sym last) (text_stream s.written))

pub broken_delivered : (old new : WriterView) (t : Table) (parts : List (List ℕ)) (batches : List Table) (before now : List ℕ) → IsWriterAt old (Some before) false parts batches → (f : Fails old t new) → new.contents ≡ Some now
    → SendsBeginning old.limits before now (parts ++ frames_bytes f.frames ∷ []) (batches ++ t ∷ [])
broken_delivered old new t parts batches before now s f reported =
    let in_all = f.in_all (Some before) parts batches s in
    let part = own_part old t f.frames f.is_part (Some before) parts batches s in
    let written = unfinished _ _ _ (adds parts batches s.frames t f.frames (unfinished_text s.written) part) in
    record {
      frames = s.frames ++ f.frames;
      count = in_all.0;
      inside = in_all.1;
      accepted = subst (λ c. Appends (Some before) c (take in_all.0 (joined (parts ++ frames_bytes f.frames ∷ [])))) reported in_all.2;
      delivered = delivered in_all.0 written;
    }

pub start_delivered : (limits : LimitNumbers) (o : Options) (shape : SchemaShape) (failures now_failed : ℕ) (before now : List ℕ) → (f : FailsAtStart limits o shape (Some before) failures (Some now) now_failed)
    → SendsBeginning limits before now (f.part ∷ []) []
start_delivered limits o shape failures now_failed before now f =
    let all : joined (f.part ∷ []) ≡ f.part = append-nil f.part in
    let n = f.accepted.0 in
    record {
      frames = schema_frame shape f.part ∷ [];
      count = n;
      inside = omega (arith, f.accepted.1, ap length all);
      accepted = subst (λ (xs : List ℕ). now ≡ before ++ take n xs) (sym all) f.accepted.2;
      delivered = delivered {o = o} n (unfinished _ _ _ (begins f.part f.known f.admitted f.is_frame));
    }

pub end_delivered : (old new : WriterView) (parts : List (List ℕ)) (batches : List Table) (before now : List ℕ) → IsWriterAt old (Some before) false parts batches → (f : FailsAtEnd old new) → new.contents ≡ Some now
    → SendsBeginning old.limits before now (parts ++ f.marker ∷ []) batches
end_delivered old new parts batches before now s f reported =
    let in_all = f.in_all (Some before) parts batches s in
    let written = finished parts batches s.frames f.marker (unfinished_text s.written) (subst (λ n. marker_fits n ≡ true) s.place_is f.fits_in) f.is_marker in
    record {
      frames = s.frames ++ marker_frame (left_by nothing_yet s.frames) f.marker ∷ [];
      count = in_all.0;
      inside = in_all.1;
      accepted = subst (λ c. Appends (Some before) c (take in_all.0 (joined (parts ++ f.marker ∷ [])))) reported in_all.2;
      delivered = delivered in_all.0 written;
    }
