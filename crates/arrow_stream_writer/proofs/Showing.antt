-- The view of a writer after its calls.
use Rattle.std.specs.Prelude.{if◌then◌else◌}
use Rattle.std.proofs.Common.{◌&&◌, not, inl, inr, ◌≡◌, ◌≤◌, ◌<◌, ◌+◌, ◌^◌, ℕ, ℤ, Bool, true, false, List, [], length, leb, Option, Some, None, Ok, Err, refl, sym, ap, ◌∙◌, subst, arith}
use Rattle.std.specs.Io.KnownBytes.{Appends}
use Rattle.std.proofs.lemmas.Bool.{le-leb, lt-leb}
use Rattle.arrow_types.specs.Schema.{IsNoted}
use Rattle.arrow_types.specs.TypeSet.{leaves_some_out}
use Rattle.arrow_data.specs.Batch.{Table}
use Rattle.arrow_data.specs.Column.{ValueList}
use Rattle.arrow_meta_reader.specs.Means.{schema}
use Rattle.arrow_sink.specs.Sinks.{AcceptsBeginning}
use Rattle.arrow_stream_laws.specs.Admission.{admission, marker_fits, part_size, schema_admission}
use Rattle.arrow_stream_laws.specs.Frames.{Frame, IsFrameOf, IsMarker, frames_bytes}
use Rattle.arrow_stream_laws.specs.Plan.{lists_after}
use Rattle.arrow_stream_laws.specs.Sizes.{Options, schema_size}
use Rattle.arrow_stream_laws.specs.Text.{IsPart}
use Rattle.arrow_stream_laws.specs.Writer.{Accepts, Ends, Fails, FailsAtEnd, Finishes, WriterView, StartFails, Starts, Writes, first_place}
use Rattle.arrow_sink.specs.declared.status.Status.{Status}
use Rattle.arrow_sink.specs.declared.status.Status.TheVariants as statuses
use Rattle.arrow_sink.specs.declared.write_fault.WriteFault.{WriteFault}
use Rattle.arrow_sink.specs.declared.write_fault.WriteFault.TheVariants.{SchemaDiffers, TooLarge, DictionariesDiffer, Sink, Broken, Finished, Memory}
use Rattle.arrow_stream_laws.proofs.Parts.{frame_length, part_fits_so}
use Rattle.arrow_stream_laws.proofs.Writers.{accepts_of, ends_of, fails_at_end, fails_of, starts_of}
use Rattle.arrow_stream_writer.specs.Framing.{PutsMessage}
use Rattle.arrow_stream_writer.specs.Marker.{marker}
use Rattle.arrow_stream_writer.specs.Parts.{IsRefusedWith, options_of}
use Rattle.arrow_stream_writer.specs.Taking.{taking}
use Rattle.arrow_stream_writer.specs.Terms.{Terms}

-- the view of a writer with these terms has them
pub record HasTerms (terms : Terms) (w : WriterView) : Type 0 where
  pub limits : w.limits ≡ terms.limits
  pub options : w.options ≡ options_of terms
  pub shape : w.shape ≡ terms.shape

-- two views with equal fields
same_shows : (a b : WriterView) → a.limits ≡ b.limits → a.options ≡ b.options → a.shape ≡ b.shape → a.sent ≡ b.sent → a.place ≡ b.place → a.status ≡ b.status → a.contents ≡ b.contents → a.failures ≡ b.failures → a ≡ b
same_shows a b limits options shape sent place status contents failures = λ i. record {
  limits = limits i;
  options = options i;
  shape = shape i;
  sent = sent i;
  place = place i;
  status = status i;
  contents = contents i;
  failures = failures i;
}

-- two views with the same terms, and equal in the other fields
pub same_of_terms : (terms : Terms) (a b : WriterView) → HasTerms terms a → HasTerms terms b → a.sent ≡ b.sent → a.place ≡ b.place → a.status ≡ b.status → a.contents ≡ b.contents → a.failures ≡ b.failures → a ≡ b
same_of_terms terms a b ta tb sent place status contents failures =
    same_shows a b (ta.limits ∙ sym tb.limits) (ta.options ∙ sym tb.options) (ta.shape ∙ sym tb.shape) sent place status contents failures

-- a writer that takes no more returns that fault, and is unchanged
pub writes_nothing : (w : WriterView) (t : Table) (status : Status) (fault : WriteFault) → w.status ≡ status → taking status ≡ Err fault → Writes w t (Err fault) w
writes_nothing w t statuses.Writing fault is x = absurd (cc)
writes_nothing w t statuses.Finished fault is x =
    let same : Finished ≡ fault = cc in
    subst (λ k. Writes w t (Err k) w) same (record { before = is; unchanged = refl })
writes_nothing w t statuses.Broken fault is x =
    let same : Broken ≡ fault = cc in
    subst (λ k. Writes w t (Err k) w) same (record { before = is; unchanged = refl })

pub finishes_nothing : (w : WriterView) (status : Status) (fault : WriteFault) → w.status ≡ status → taking status ≡ Err fault → Finishes w (Err fault) w
finishes_nothing w statuses.Writing fault is x = absurd (cc)
finishes_nothing w statuses.Finished fault is x =
    let same : Finished ≡ fault = cc in
    subst (λ k. Finishes w (Err k) w) same (record { before = is; unchanged = refl })
finishes_nothing w statuses.Broken fault is x =
    let same : Broken ≡ fault = cc in
    subst (λ k. Finishes w (Err k) w) same (record { before = is; unchanged = refl })

-- a writer that takes more is in the status `Writing`
pub writing : (status : Status) → taking status ≡ Ok tt → status ≡ statuses.Writing
writing statuses.Writing x = refl
writing statuses.Finished x = absurd (cc)
writing statuses.Broken x = absurd (cc)

module _ (terms : Terms) (t : Table) (old new : WriterView) (was : HasTerms terms old) (is : HasTerms terms new) (open_before : old.status ≡ statuses.Writing) where
  -- the frames built for the terms are the batch messages for the writer's view
  own_part : (frames : List Frame) → IsPart terms.limits (options_of terms) terms.shape old.sent old.place t frames → IsPart old.limits old.options old.shape old.sent old.place t frames
  own_part frames part =
      subst (λ l. IsPart l old.options old.shape old.sent old.place t frames) (sym was.limits)
      (subst (λ o. IsPart terms.limits o old.shape old.sent old.place t frames) (sym was.options)
      (subst (λ shape. IsPart terms.limits (options_of terms) shape old.sent old.place t frames) (sym was.shape) part))

  -- the sink accepted the batch messages
  pub writes_accepted : (frames : List Frame) → IsPart terms.limits (options_of terms) terms.shape old.sent old.place t frames → Appends old.contents new.contents (frames_bytes frames)
      → new.sent ≡ lists_after terms.updates terms.shape.fields old.sent t → new.place ≡ old.place + part_size (options_of terms) terms.shape.fields old.sent t → new.status ≡ statuses.Writing → new.failures ≡ old.failures
      → Writes old t (Ok tt) new
  writes_accepted frames part more sent place status failures =
      let next : WriterView = record old {
        sent = lists_after old.options.updates old.shape.fields old.sent t;
        place = old.place + part_size old.options old.shape.fields old.sent t;
        contents = new.contents;
      } in
      let lists : next.sent ≡ new.sent = ap (λ (o : Options). lists_after o.updates old.shape.fields old.sent t) was.options ∙ ap (λ shape. lists_after terms.updates shape.fields old.sent t) was.shape ∙ sym sent in
      let places : next.place ≡ new.place =
      ap (λ (o : Options). old.place + part_size o old.shape.fields old.sent t) was.options ∙ ap (λ shape. old.place + part_size (options_of terms) shape.fields old.sent t) was.shape ∙ sym place in
      let same : next ≡ new = same_shows next new (was.limits ∙ sym is.limits) (was.options ∙ sym is.options) (was.shape ∙ sym is.shape) lists places (open_before ∙ sym status) refl (sym failures) in
      subst (Accepts old t) same (accepts_of old t frames new.contents open_before (own_part frames part) more)

  -- it failed within the batch messages
  pub writes_failed : (frames : List Frame) → IsPart terms.limits (options_of terms) terms.shape old.sent old.place t frames → AcceptsBeginning old.contents new.contents (frames_bytes frames)
      → new.sent ≡ old.sent → new.place ≡ old.place → new.status ≡ statuses.Broken → new.failures ≡ old.failures + 1 → Writes old t (Err Sink) new
  writes_failed frames part some sent place status failures =
      let next : WriterView = record old { status = statuses.Broken; contents = new.contents; failures = old.failures + 1 } in
      let same : next ≡ new = same_shows next new (was.limits ∙ sym is.limits) (was.options ∙ sym is.options) (was.shape ∙ sym is.shape) (sym sent) (sym place) (sym status) refl (sym failures) in
      subst (Fails old t) same (fails_of old t frames new.contents open_before (own_part frames part) some)

  own_admission : (k : WriteFault) → admission terms.limits (options_of terms) terms.shape old.sent old.place t ≡ Some k → admission old.limits old.options old.shape old.sent old.place t ≡ Some k
  own_admission k h =
      ap (λ l. admission l old.options old.shape old.sent old.place t) was.limits ∙ ap (λ o. admission terms.limits o old.shape old.sent old.place t) was.options
      ∙ ap (λ shape. admission terms.limits (options_of terms) shape old.sent old.place t) was.shape ∙ h

  -- the batch was rejected
  pub writes_refused : (fault : WriteFault) → IsRefusedWith terms old.place t old.sent fault → new ≡ old → Writes old t (Err fault) new
  writes_refused SchemaDiffers x same = record { open_before = open_before; refusal = own_admission SchemaDiffers x; unchanged = same }
  writes_refused TooLarge x same = record { open_before = open_before; refusal = own_admission TooLarge x; unchanged = same }
  writes_refused DictionariesDiffer x same = record { open_before = open_before; refusal = own_admission DictionariesDiffer x; unchanged = same }
  writes_refused Memory x same = record { before = open_before; unchanged = same }
  writes_refused Sink x same = absurd (cc)
  writes_refused Broken x same = absurd (cc)
  writes_refused Finished x same = absurd (cc)

-- batch messages that were built end before the last offset
pub part_near : (terms : Terms) (place : ℕ) (t : Table) (sent : List (ℤ × ValueList)) (frames : List Frame) → IsPart terms.limits (options_of terms) terms.shape sent place t frames
    → place + part_size (options_of terms) terms.shape.fields sent t ≤ 2 ^ 62
part_near terms place t sent frames part = (part_fits_so terms.limits (options_of terms) terms.shape sent place t part.admitted).near

-- THE END MARKER

pub marker_is : IsMarker marker
marker_is = record { eight = refl; continued = refl; number = refl; one = refl }

pub near_marker : (place : ℕ) → place + 8 ≤ 2 ^ 62 → marker_fits place ≡ true
near_marker place h = le-leb (place + 8) (2 ^ 62) h

pub past_marker : (place : ℕ) → 2 ^ 62 < place + 8 → marker_fits place ≡ false
past_marker place h = lt-leb (place + 8) (2 ^ 62) h

module _ (old new : WriterView) (limits : new.limits ≡ old.limits) (options : new.options ≡ old.options) (shape : new.shape ≡ old.shape) (sent : new.sent ≡ old.sent) (open_before : old.status ≡ statuses.Writing) where
  pub finishes : old.place + 8 ≤ 2 ^ 62 → Appends old.contents new.contents marker → new.place ≡ old.place + 8 → new.status ≡ statuses.Finished → new.failures ≡ old.failures → Finishes old (Ok tt) new
  finishes near more place status failures =
      let next : WriterView = record old { place = old.place + 8; status = statuses.Finished; contents = new.contents } in
      let same : next ≡ new = same_shows next new (sym limits) (sym options) (sym shape) (sym sent) (sym place) (sym status) refl (sym failures) in
      subst (Ends old) same (ends_of old marker new.contents open_before marker_is (near_marker old.place near) more)

  pub finish_failed : old.place + 8 ≤ 2 ^ 62 → AcceptsBeginning old.contents new.contents marker → new.place ≡ old.place → new.status ≡ statuses.Broken → new.failures ≡ old.failures + 1 → Finishes old (Err Sink) new
  finish_failed near some place status failures =
      let next : WriterView = record old { status = statuses.Broken; contents = new.contents; failures = old.failures + 1 } in
      let same : next ≡ new = same_shows next new (sym limits) (sym options) (sym shape) (sym sent) (sym place) (sym status) refl (sym failures) in
      subst (FailsAtEnd old) same (fails_at_end old marker new.contents open_before marker_is (near_marker old.place near) some)

-- THE START

admits_by : (a b c : Bool) → a ≡ true → b ≡ true → c ≡ false → (if a && b && not c then None else Some TooLarge) ≡ None
admits_by a b c h g k = rw (h, g, k) refl

refuses_by : (a b c : Bool) → a ≡ false → (if a && b && not c then None else Some TooLarge) ≡ Some TooLarge
refuses_by a b c h = rw h refl

leaves_by : (a b c : Bool) → c ≡ true → (if a && b && not c then None else Some TooLarge) ≡ Some TooLarge
leaves_by true true c h = rw h refl
leaves_by true false c h = refl
leaves_by false b c h = refl

module _ (terms : Terms) where
  admits : schema_size terms.align terms.shape ≤ terms.limits.max_metadata → terms.limits.max_metadata ≤ 2 ^ 30 → leaves_some_out terms.limits.types terms.shape.fields ≡ false → schema_admission terms.limits (options_of terms) terms.shape ≡ None
  admits small ceiling within = admits_by (leb (schema_size terms.align terms.shape) terms.limits.max_metadata) (leb (8 + schema_size terms.align terms.shape) (2 ^ 62)) (leaves_some_out terms.limits.types terms.shape.fields)
      (le-leb (schema_size terms.align terms.shape) terms.limits.max_metadata small) (le-leb (8 + schema_size terms.align terms.shape) (2 ^ 62) (omega arith)) within

  -- the sink accepted the schema's frame
  pub starts : (base : Option (List ℕ)) (failures : ℕ) (part : List ℕ) (new : WriterView) → terms.limits.max_metadata ≤ 2 ^ 30 → IsNoted terms.shape → PutsMessage terms (schema terms.shape) [] [] (Ok tt) part
      → HasTerms terms new → Appends base new.contents part → new.sent ≡ [] → new.place ≡ length part → new.status ≡ statuses.Writing → new.failures ≡ failures
      → Starts terms.limits (options_of terms) terms.shape base failures new
  starts base failures part new ceiling known put is more sent place status same_failures =
      let frame : IsFrameOf terms.limits (schema_size terms.align terms.shape) (schema terms.shape) [] part =
      subst (IsFrameOf terms.limits (schema_size terms.align terms.shape) (schema terms.shape) []) (sym put.appended) put.is_frame in
      let long : length part ≡ first_place (options_of terms) terms.shape = let len = frame_length frame in omega arith in
      let first : WriterView = record {
        limits = terms.limits;
        options = options_of terms;
        shape = terms.shape;
        sent = [];
        place = first_place (options_of terms) terms.shape;
        status = statuses.Writing;
        contents = new.contents;
        failures = failures;
      } in
      let same : first ≡ new = same_shows first new (sym is.limits) (sym is.options) (sym is.shape) (sym sent) (sym long ∙ sym place) (sym status) refl (sym same_failures) in
      subst (Starts terms.limits (options_of terms) terms.shape base failures) same
      (starts_of terms.limits (options_of terms) terms.shape base new.contents failures part known (admits put.fits_in ceiling put.types_are_in) frame more)

  -- it failed within the schema's frame
  pub start_failed : (base contents : Option (List ℕ)) (failures now : ℕ) (part : List ℕ) → terms.limits.max_metadata ≤ 2 ^ 30 → IsNoted terms.shape → PutsMessage terms (schema terms.shape) [] [] (Ok tt) part
      → AcceptsBeginning base contents part → now ≡ failures + 1 → StartFails terms.limits (options_of terms) terms.shape base failures Sink contents now
  start_failed base contents failures now part ceiling known put some failed = record {
    known = known;
    admitted = admits put.fits_in ceiling put.types_are_in;
    part = part;
    is_frame = subst (IsFrameOf terms.limits (schema_size terms.align terms.shape) (schema terms.shape) []) (sym put.appended) put.is_frame;
    accepted = some;
    failed = failed;
  }

  -- the schema was rejected, and the sink was not touched
  pub start_refused : (base : Option (List ℕ)) (failures : ℕ) (fault : WriteFault) (part : List ℕ) → PutsMessage terms (schema terms.shape) [] [] (Err fault) part
      → StartFails terms.limits (options_of terms) terms.shape base failures fault base failures
  start_refused base failures TooLarge part (inr left) = (
    leaves_by (leb (schema_size terms.align terms.shape) terms.limits.max_metadata) (leb (8 + schema_size terms.align terms.shape) (2 ^ 62)) (leaves_some_out terms.limits.types terms.shape.fields) left,
    refl,
    refl,
  )
  start_refused base failures TooLarge part (inl over) = (
    refuses_by (leb (schema_size terms.align terms.shape) terms.limits.max_metadata) (leb (8 + schema_size terms.align terms.shape) (2 ^ 62)) (leaves_some_out terms.limits.types terms.shape.fields) (lt-leb (schema_size terms.align terms.shape) terms.limits.max_metadata over),
    refl,
    refl,
  )
  start_refused base failures Memory part x = (refl, refl)
  start_refused base failures Sink part x = absurd (cc)
  start_refused base failures SchemaDiffers part x = absurd (cc)
  start_refused base failures DictionariesDiffer part x = absurd (cc)
  start_refused base failures Broken part x = absurd (cc)
  start_refused base failures Finished part x = absurd (cc)
