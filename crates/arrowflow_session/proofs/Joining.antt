-- The main property of one connection, from what was sent and what was received of its first bytes.
use Rattle.std.proofs.Common.{zero, suc, ◌≡◌, ℕ, ℤ, ◌-◌, ◌<◌, ◌≤◌, ◌⊎◌, inl, inr, List, [], ◌∷◌, ◌++◌, length, take, drop, map, refl, sym, ap, ◌∙◌, subst, arith, Option, Some, None, Bool, true, false, is_some, length-drop, if◌then◌else◌}
use Rattle.std.specs.List.{AllByRecursion}
use Rattle.std.proofs.lemmas.Bool.{cases_lt, le-ltb, lt-ltb}
use Rattle.arrow_types.specs.Limits.{LimitNumbers}
use Rattle.arrow_types.specs.Notes.{SchemaShape}
use Rattle.arrow_data.specs.Batch.{Table}
use Rattle.arrow_data.specs.Column.{ValueList}
use Rattle.arrow_stream_reader.specs.declared.kind.Kind.TheVariants.{Truncated}
use Rattle.arrow_stream_reader.specs.declared.reader.Verdict.{Verdict}
use Rattle.arrow_stream_reader.specs.declared.reader.Verdict.TheVariants.{Open, Done, Bad}
use Rattle.arrow_stream_reader.specs.Frame.{First, waits, short_prefix}
use Rattle.arrow_stream_reader.specs.Front.{Snapshot, rests}
use Rattle.arrow_stream_reader.specs.State.{StreamState, nothing_yet}
use Rattle.arrow_stream_reader.specs.Stream.{ended_by}
use Rattle.arrow_stream_reader.specs.Tables.{tables_of}
use Rattle.arrow_stream_reader.proofs.Fronts.{one_front, at_bytes}
use Rattle.arrow_sink.specs.declared.write_fault.WriteFault.{WriteFault}
use Rattle.arrow_stream_laws.specs.Sizes.{Options}
use Rattle.arrow_stream_laws.specs.Rows.{Rows, rows_of}
use Rattle.arrow_stream_laws.specs.Admission.{schema_admission}
use Rattle.arrow_stream_laws.specs.Plan.{Sending, with_list}
use Rattle.arrow_stream_laws.specs.Frames.{Frame, IsStream, frames_bytes, left_by, lying}
use Rattle.arrow_stream_laws.specs.Text.{AreUpdates, IsPart, Text, begins, adds, Written, unfinished, finished, joined, whole_batches}
use Rattle.arrow_stream_laws.proofs.Chains.{left_by-append, lying-step, lying-stop}
use Rattle.arrow_stream_laws.proofs.Deliveries.{delivered, text_stream, written_is}
use Rattle.arrow_stream_laws.proofs.Parts.{part_fits_so}
use Rattle.arrowflow_input.specs.declared.session.Ending.TheVariants.{Clean, Fault}
use Rattle.arrowflow_input.specs.Session.{Receives, ending_by, ending_of}
use Rattle.arrowflow_session.specs.Asked.{Asked, outcome_of, outcome_by}
use Rattle.arrowflow_session.specs.Report.{Reported, Sends, IsReport, ending_after}
use Rattle.arrowflow_session.specs.Running.{SentPlain, IsSent}

-- THE STATE AFTER EACH FRAME: it has the schema

abbrev Keeps : SchemaShape → Frame → Type 0
Keeps shape f = f.leaves.schema ≡ Some shape

both_keep : (shape : SchemaShape) (xs ys : List Frame) → AllByRecursion (Keeps shape) xs → AllByRecursion (Keeps shape) ys → AllByRecursion (Keeps shape) (xs ++ ys)
both_keep shape [] ys h g = g
both_keep shape (x ∷ xs) ys h g = (h.0, both_keep shape xs ys h.1 g)

updates_keep : (l : LimitNumbers) (align : ℕ) (shape : SchemaShape) (ds : List (ℤ × ValueList)) (ws : List Sending) (fs : List Frame) → AreUpdates l align shape ds ws fs → AllByRecursion (Keeps shape) fs
updates_keep l align shape ds [] fs u = subst (AllByRecursion (Keeps shape)) (sym u) tt
updates_keep l align shape ds (w ∷ ws) fs u =
    subst (AllByRecursion (Keeps shape)) (sym u.4) (refl, updates_keep l align shape (with_list shape.fields w ds) ws u.1 u.3)

-- the state after the last frame has the schema, or the state before the frames has it
left_keeps : (shape : SchemaShape) (s : StreamState) (fs : List Frame) → s.schema ≡ Some shape → AllByRecursion (Keeps shape) fs → (left_by s fs).schema ≡ Some shape
left_keeps shape s [] e h = e
left_keeps shape s (f ∷ fs) e h = left_keeps shape f.leaves fs h.0 h.1

lying_keep : (shape : SchemaShape) (n : ℕ) (fs : List Frame) → AllByRecursion (Keeps shape) fs → AllByRecursion (Keeps shape) (lying n fs)
lying_keep shape n [] h = tt
lying_keep shape n (f ∷ fs) h =
    elim (cases_lt n (length f.bytes)) [
      | inl k ↦ subst (AllByRecursion (Keeps shape)) (sym (lying-stop n f fs k)) tt
      | inr k ↦ subst (AllByRecursion (Keeps shape)) (sym (lying-step n f fs k)) (h.0, lying_keep shape (n - length f.bytes) fs h.1)
    ]

-- whether the state after frames has a schema: it has one if there are any frames
abbrev ShowsSchema : Bool → List Frame → Type 0
ShowsSchema has [] = has ≡ false
ShowsSchema has (f ∷ fs) = has ≡ true

shows_schema : (shape : SchemaShape) (fs : List Frame) → AllByRecursion (Keeps shape) fs → ShowsSchema (is_some (left_by nothing_yet fs).schema) fs
shows_schema shape [] h = refl
shows_schema shape (f ∷ fs) h = ap is_some (left_keeps shape f.leaves fs h.0 h.1)

module _ {l : LimitNumbers} {o : Options} {shape : SchemaShape} where
  part_keeps : {ds : List (ℤ × ValueList)} {place : ℕ} {t : Table} {fs : List Frame} → IsPart l o shape ds place t fs → AllByRecursion (Keeps shape) fs
  part_keeps {ds} x =
      subst (AllByRecursion (Keeps shape)) (sym x.frames) (both_keep shape x.updated _ (updates_keep l o.align shape ds _ x.updated x.updates) (refl, tt))

  text_keeps : {parts : List (List ℕ)} {batches : List Table} {frames : List Frame} → Text l o shape parts batches frames → AllByRecursion (Keeps shape) frames
  text_keeps (begins b known a f) = (refl, tt)
  text_keeps (adds parts batches frames t fs text x) = both_keep shape frames fs (text_keeps text) (part_keeps x)

  -- the state after the bytes of a connection has the schema
  text_leaves : {parts : List (List ℕ)} {batches : List Table} {frames : List Frame} → Text l o shape parts batches frames → (left_by nothing_yet frames).schema ≡ Some shape
  text_leaves (begins b known a f) = refl
  text_leaves (adds parts batches frames t fs text x) =
      ap (λ (s : StreamState). s.schema) (left_by-append nothing_yet frames fs) ∙ left_keeps shape (left_by nothing_yet frames) fs (text_leaves text) (part_keeps x)

  written_keeps : {closed : Bool} {parts : List (List ℕ)} {batches : List Table} {frames : List Frame} → Written l o shape closed parts batches frames → AllByRecursion (Keeps shape) frames
  written_keeps (unfinished parts batches frames t) = text_keeps t
  written_keeps (finished parts batches frames b t h m) = both_keep shape frames _ (text_keeps t) (text_leaves t, tt)

-- SCHEMAS OF BATCHES

abbrev HasSchema : SchemaShape → Table → Type 0
HasSchema shape t = t.schema ≡ shape

one_more_has : (shape : SchemaShape) (ts : List Table) (t : Table) → AllByRecursion (HasSchema shape) ts → t.schema ≡ shape → AllByRecursion (HasSchema shape) (ts ++ t ∷ [])
one_more_has shape [] t h e = (e, tt)
one_more_has shape (x ∷ xs) t h e = (h.0, one_more_has shape xs t h.1 e)

module _ {l : LimitNumbers} {o : Options} {shape : SchemaShape} where
  text_schemas : {parts : List (List ℕ)} {batches : List Table} {frames : List Frame} → Text l o shape parts batches frames → AllByRecursion (HasSchema shape) batches
  text_schemas (begins b known a f) = tt
  text_schemas (adds parts batches frames t fs text x) =
      one_more_has shape batches t (text_schemas text) (part_fits_so l o shape _ _ t x.admitted).same_schema

  written_schemas : {closed : Bool} {parts : List (List ℕ)} {batches : List Table} {frames : List Frame} → Written l o shape closed parts batches frames → AllByRecursion (HasSchema shape) batches
  written_schemas (unfinished parts batches frames t) = text_schemas t
  written_schemas (finished parts batches frames b t h m) = text_schemas t

-- batches with the rows of the first of some others have their schemas
same_schemas : (shape : SchemaShape) (n : ℕ) (xs ys : List Table) → map rows_of xs ≡ take n (map rows_of ys) → AllByRecursion (HasSchema shape) ys → AllByRecursion (HasSchema shape) xs
same_schemas shape n [] ys e h = tt
same_schemas shape zero (x ∷ xs) ys e h = absurd (cc)
same_schemas shape (suc n) (x ∷ xs) [] e h = absurd (cc)
same_schemas shape (suc n) (x ∷ xs) (y ∷ ys) e h =
    let first : rows_of x ≡ rows_of y = cc in
    let rest : map rows_of xs ≡ take n (map rows_of ys) = cc in
    (ap (λ (r : Rows). r.schema) first ∙ h.0, same_schemas shape n xs ys rest h.1)

-- THE ENDING

ending_is : (v : Verdict) (has : Bool) (xs : List Frame) (rest b : List ℕ) → (v ≡ Open) ⊎ (v ≡ Done) → (v ≡ Done → (rest ≡ []) × (has ≡ true)) → rest ≡ drop (length (frames_bytes xs)) b → ShowsSchema has xs
    → ending_by (ended_by v has rest (length (frames_bytes xs))) ≡ ending_after xs (length b)
ending_is (Bad k) has xs rest b ends done is h = absurd (elim ends [ inl e ↦ (cc) | inr e ↦ (cc) ])
ending_is Open false [] rest b ends done is h = refl
ending_is Open true [] rest b ends done is h = absurd (cc)
ending_is Done has [] rest b ends done is h = absurd (let q = sym h ∙ (done refl).1 in cc)
ending_is Open false (f ∷ fs) rest b ends done is h = absurd (cc)
ending_is Open true (f ∷ fs) [] b ends done is h =
    let place = length (frames_bytes (f ∷ fs)) in
    let len : length b ≤ place = omega (arith, ap length is, length-drop place b) in
    ap (λ (x : Bool). if x then Fault (record { kind = Truncated; place = place }) else Clean) (sym (le-ltb place (length b) len))
ending_is Open true (f ∷ fs) (x ∷ rest) b ends done is h =
    let place = length (frames_bytes (f ∷ fs)) in
    let len : place < length b = omega (arith, ap length is, length-drop place b) in
    ap (λ (x : Bool). if x then Fault (record { kind = Truncated; place = place }) else Clean) (sym (lt-ltb place (length b) len))
ending_is Done has (f ∷ fs) rest b ends done is h =
    let place = length (frames_bytes (f ∷ fs)) in
    let len : length b ≤ place = omega (arith, ap length (sym is ∙ (done refl).0), length-drop place b) in
    ap (λ (x : Bool). if x then Fault (record { kind = Truncated; place = place }) else Clean) (sym (le-ltb place (length b) len))

-- WHAT IS REPORTED

all_taken : (n : ℕ) (b : List ℕ) → length b ≤ n → take n b ≡ b
all_taken zero [] h = refl
all_taken (suc n) [] h = refl
all_taken zero (x ∷ b) h = absurd (omega (arith, h))
all_taken (suc n) (x ∷ b) h = ap (λ r. x ∷ r) (all_taken n b (omega (arith, h)))

none_taken : {A : Type 0} (n : ℕ) → ◌≡◌ {A = List A} (take n []) []
none_taken zero = refl
none_taken (suc n) = refl

-- what was received of the delivered bytes according to a report
abbrev IsReceived : LimitNumbers → Asked → Reported → Type 0
IsReceived l c r = Receives l (take c.deliver (joined r.parts)) r.handed r.reader_dictionaries r.ending

-- what was sent according to a report
abbrev sent_by : Reported → SentPlain
sent_by r = record { parts = r.parts; refused = r.refused; dictionaries = r.writer_dictionaries; bytes = joined r.parts }

module _ (l : LimitNumbers) (c : Asked) (r : Reported) (s : IsSent l c (sent_by r)) (y : IsReceived l c r) where
  -- the schema is accepted
  module _ (admits : schema_admission l c.options c.shape ≡ None) where
    written : Written l c.options c.shape (outcome_of l c).closed r.parts (outcome_of l c).admitted s.frames
    written = subst (λ a. Sends a l c r.parts s.frames) admits s.sends

    stream : IsStream l (joined r.parts) c.shape (map rows_of (outcome_of l c).admitted) r.writer_dictionaries
    stream =
        subst (λ ds. IsStream l (joined r.parts) c.shape (map rows_of (outcome_of l c).admitted) ds) (sym (written_is written).dictionaries ∙ sym s.last_are) (text_stream written)

    at_whole : length (joined r.parts) ≤ c.deliver → (y.entries ≡ stream.entries) × (y.snapshot ≡ stream.snapshot)
    at_whole h = one_front (at_bytes (all_taken c.deliver (joined r.parts) h) y.front) stream.front

    text_report : IsReport l c r
    text_report =
        let n = c.deliver in
        let d = delivered n written in
        let same = one_front y.front d.front in
        let whole = lying n s.frames in
        let keeps = lying_keep c.shape n s.frames (written_keeps written) in
        let handed : map rows_of r.handed ≡ take (whole_batches r.parts (outcome_of l c).admitted n) (map rows_of (outcome_of l c).admitted) =
        ap (map rows_of) (y.tables ∙ ap tables_of same.0) ∙ d.rows in
        record {
          frames = s.frames;
          refused_are = s.refused_are;
          sends = s.sends;
          is_stream = λ h. stream;
          writer_dictionaries_are = s.dictionaries_are;
          handed_are = handed;
          schemas_are = same_schemas c.shape (whole_batches r.parts (outcome_of l c).admitted n) r.handed (outcome_of l c).admitted handed (written_schemas written);
          reader_dictionaries_are = y.dictionaries_are ∙ ap (λ (e : Snapshot). e.state.dictionaries) same.1;
          ending_is = y.ended ∙ ap ending_of same.1
              ∙ ending_is d.verdict (is_some (left_by nothing_yet whole).schema) whole (drop (length (frames_bytes whole)) (take n (joined r.parts))) (take n (joined r.parts)) d.ends d.done refl (shows_schema c.shape whole keeps);
          all_handed = λ h. ap (map rows_of) (y.tables ∙ ap tables_of (at_whole h).0) ∙ stream.rows;
          same_dictionaries = λ h. y.dictionaries_are ∙ ap (λ (e : Snapshot). e.state.dictionaries) (at_whole h).1 ∙ stream.dictionaries;
        }

  -- the schema is rejected
  module _ (k : WriteFault) (refuses : schema_admission l c.options c.shape ≡ Some k) where
    nothing : (r.parts ≡ []) × (s.frames ≡ [])
    nothing = subst (λ a. Sends a l c r.parts s.frames) refuses s.sends

    none_admitted : (outcome_of l c).admitted ≡ []
    none_admitted = ap (λ a. (outcome_by a l c).admitted) refuses

    no_bytes : take c.deliver (joined r.parts) ≡ []
    no_bytes = ap (λ ps. take c.deliver (joined ps)) nothing.0 ∙ none_taken c.deliver

    at_nothing : (y.entries ≡ []) × (y.snapshot ≡ record { state = nothing_yet; place = 0; rest = []; verdict = Open })
    at_nothing =
        let first : First l nothing_yet 0 [] waits = short_prefix (omega arith) in
        one_front (at_bytes no_bytes y.front) (rests first)

    none_handed : r.handed ≡ []
    none_handed = y.tables ∙ ap tables_of at_nothing.0

    no_dictionaries : r.reader_dictionaries ≡ []
    no_dictionaries = y.dictionaries_are ∙ ap (λ (e : Snapshot). e.state.dictionaries) at_nothing.1

    nothing_report : IsReport l c r
    nothing_report =
        let n = c.deliver in
        record {
          frames = [];
          refused_are = s.refused_are;
          sends = subst (λ a. Sends a l c r.parts []) (sym refuses) (nothing.0, refl);
          is_stream = λ h. absurd (let q = sym h ∙ refuses in cc);
          writer_dictionaries_are = s.dictionaries_are;
          handed_are = ap (map rows_of) none_handed ∙ sym (none_taken (whole_batches r.parts (outcome_of l c).admitted n))
              ∙ ap (λ ts. take (whole_batches r.parts (outcome_of l c).admitted n) (map rows_of ts)) (sym none_admitted);
          schemas_are = subst (AllByRecursion (HasSchema c.shape)) (sym none_handed) tt;
          reader_dictionaries_are = no_dictionaries;
          ending_is = y.ended ∙ ap ending_of at_nothing.1;
          all_handed = λ h. ap (map rows_of) none_handed ∙ ap (map rows_of) (sym none_admitted);
          same_dictionaries = λ h. no_dictionaries ∙ sym (s.dictionaries_are ∙ ap (λ a. (outcome_by a l c).sent) refuses);
        }

  report_by : (a : Option WriteFault) → schema_admission l c.options c.shape ≡ a → IsReport l c r
  report_by None e = text_report e
  report_by (Some k) e = nothing_report k e

  -- what was sent, and what was received of the first bytes of it, make a report
  pub report_of : IsReport l c r
  report_of = report_by (schema_admission l c.options c.shape) refl

-- the same for the bytes of all parts
pub report_for : (l : LimitNumbers) (c : Asked) (r : Reported) (bytes : List ℕ) → IsSent l c (record { parts = r.parts; refused = r.refused; dictionaries = r.writer_dictionaries; bytes = bytes })
    → Receives l (take c.deliver bytes) r.handed r.reader_dictionaries r.ending → IsReport l c r
report_for l c r bytes s y =
    let sent : IsSent l c (sent_by r) = record { frames = s.frames; sends = s.sends; refused_are = s.refused_are; dictionaries_are = s.dictionaries_are; last_are = s.last_are; all = refl } in
    report_of l c r sent (subst (λ b. Receives l (take c.deliver b) r.handed r.reader_dictionaries r.ending) s.all y)
