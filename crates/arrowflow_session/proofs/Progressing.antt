-- How the writing of a connection advances, and what was sent in all.
use Rattle.std.proofs.Common.{◌≡◌, ℕ, ℤ, ◌+◌, inl, inr, List, [], ◌∷◌, ◌++◌, length, drop, refl, sym, ap, ◌∙◌, subst, arith, Option, Some, None, false, true, Bool}
use Rattle.std.proofs.lemmas.List.{append-nil}
use Rattle.std.proofs.Math.Seq.{drop-append_seam}
use Rattle.std.proofs.Math.ListN.{drop_of_length-le}
use Rattle.std.specs.Io.KnownBytes.{Appends}
use Rattle.std.specs.Prelude.{IfOk, Result, Ok, Err}
use Rattle.arrow_types.specs.Limits.{LimitNumbers}
use Rattle.arrow_types.specs.Notes.{SchemaShape}
use Rattle.arrow_data.specs.Batch.{Table}
use Rattle.arrow_data.specs.Column.{ValueList}
use Rattle.arrow_sink.specs.declared.status.Status.TheVariants.{Writing}
use Rattle.arrow_sink.specs.declared.write_fault.WriteFault.{WriteFault}
use Rattle.arrow_sink.specs.declared.write_fault.WriteFault.TheVariants.{SchemaDiffers, TooLarge, DictionariesDiffer, Sink, Broken, Finished as Closed, Memory}
use Rattle.arrow_stream_laws.specs.Sizes.{Options}
use Rattle.arrow_stream_laws.specs.Plan.{lists_after}
use Rattle.arrow_stream_laws.specs.Admission.{admission, schema_admission, marker_fits, part_size}
use Rattle.arrow_stream_laws.specs.Frames.{Frame, frames_bytes}
use Rattle.arrow_stream_laws.specs.Text.{Text, begins, adds, Written, unfinished, finished, joined}
use Rattle.arrow_stream_laws.specs.Writer.{WriterView, IsWriterAt, Starts, StartFails, first_place}
use Rattle.arrowflow_session.specs.Asked.{Asked, Progress, Outcome, begun, with_batch, with_batches, ended_after, marker_refusals, outcome_by, outcome_of}
use Rattle.arrowflow_session.specs.Report.{Sends}
use Rattle.arrowflow_session.specs.Running.{StartsNot, Tries, SoFar, IsOver, Finished, SentPlain, IsSent, progress_at}
use Rattle.arrowflow_session.specs.declared.refusal.Refusal.{Refusal}
use Rattle.arrowflow_input.specs.declared.what.RefusedItem.TheVariants.{Start, Batch}

-- the bytes after those that were there before
pub after : (x now more : List ℕ) (c c' : Option (List ℕ)) → Some x ≡ c → Some now ≡ c' → Appends c c' more → drop (length x) now ≡ more
after x now more c c' e f a =
    let whole : now ≡ x ++ more = subst (λ d. Appends (Some x) d more) (sym f) (subst (λ d. Appends d c' more) (sym e) a) in
    ap (drop (length x)) whole ∙ drop-append_seam x more

-- ONE BATCH

-- how far a writer comes with the next batch, once the result for it is known
next_batch : (w : WriterView) (p : Progress) (t : Table) (ts : List Table) (r : Option WriteFault) → admission w.limits w.options w.shape p.sent p.place t ≡ r
    → with_batches w.limits w.options w.shape (with_batch w.options w.shape t r p) ts ≡ with_batches w.limits w.options w.shape p (t ∷ ts)
next_batch w p t ts r e = ap (λ q. with_batches w.limits w.options w.shape (with_batch w.options w.shape t q p) ts) (sym e)

-- the progress after a batch was tried
pub goes_so_far : (w new : WriterView) (all : List Table) (n : ℕ) (t : Table) (parts parts' : List (List ℕ)) (refused refused' : List Refusal) → SoFar w all n parts refused → drop n all ≡ t ∷ drop (n + 1) all
    → Tries w t n parts refused new parts' refused' → SoFar new all (n + 1) parts' refused'
goes_so_far w new all n t parts parts' refused refused' s d (inl x) =
    let ts = drop (n + 1) all in
    let a = x.accepts in
    let bytes = frames_bytes a.frames in
    let v : WriterView = record w { sent = lists_after w.options.updates w.shape.fields w.sent t; place = w.place + part_size w.options w.shape.fields w.sent t; contents = new.contents } in
    let made : SoFar v all (n + 1) (parts ++ bytes ∷ []) refused = record {
      admitted = s.admitted ++ t ∷ [];
      position = subst (λ z. IsWriterAt z (Some []) false (parts ++ bytes ∷ []) (s.admitted ++ t ∷ [])) a.new_is (a.position (Some []) parts s.admitted s.position);
      reliable = s.reliable;
      goes_on = next_batch w (progress_at w n s.admitted refused) t ts None a.is_part.admitted
          ∙ ap (with_batches w.limits w.options w.shape (progress_at w n s.admitted refused)) (sym d) ∙ s.goes_on;
    } in
    subst (λ z. SoFar z all (n + 1) parts' refused') (sym a.new_is)
    (subst (λ r. SoFar v all (n + 1) r refused') (sym x.part) (subst (λ r. SoFar v all (n + 1) (parts ++ bytes ∷ []) r) (sym x.same) made))
goes_so_far w new all n t parts parts' refused refused' s d (inr x) =
    let ts = drop (n + 1) all in
    let one = record { what = Batch n; kind = x.kind } ∷ [] in
    let made : SoFar w all (n + 1) parts (refused ++ one) = record {
      admitted = s.admitted;
      position = s.position;
      reliable = s.reliable;
      goes_on = next_batch w (progress_at w n s.admitted refused) t ts (Some x.kind) x.refusal
          ∙ ap (with_batches w.limits w.options w.shape (progress_at w n s.admitted refused)) (sym d) ∙ s.goes_on;
    } in
    subst (λ z. SoFar z all (n + 1) parts' refused') (sym x.unchanged)
    (subst (λ r. SoFar w all (n + 1) r refused') (sym x.same) (subst (λ r. SoFar w all (n + 1) parts r) (sym x.one_more) made))

-- trying a batch leaves the writer's limits, options and fields unchanged
pub over_same : (w new : WriterView) (n : ℕ) (t : Table) (parts parts' : List (List ℕ)) (refused refused' : List Refusal) → Tries w t n parts refused new parts' refused' → IsOver w new
over_same w new n t parts parts' refused refused' (inl x) =
    record { limits = ap (λ (z : WriterView). z.limits) x.accepts.new_is; options = ap (λ (z : WriterView). z.options) x.accepts.new_is; shape = ap (λ (z : WriterView). z.shape) x.accepts.new_is }
over_same w new n t parts parts' refused refused' (inr x) =
    record { limits = ap (λ (z : WriterView). z.limits) x.unchanged; options = ap (λ (z : WriterView). z.options) x.unchanged; shape = ap (λ (z : WriterView). z.shape) x.unchanged }

pub over_then : (u v w : WriterView) → IsOver u v → IsOver v w → IsOver u w
over_then u v w x y = record { limits = y.limits ∙ x.limits; options = y.options ∙ x.options; shape = y.shape ∙ x.shape }

pub over_self : (w : WriterView) → IsOver w w
over_self w = record { limits = refl; options = refl; shape = refl }

-- a started writer has tried no batch
pub started : (l : LimitNumbers) (o : Options) (shape : SchemaShape) (w : WriterView) (all : List Table) (bytes : List ℕ) → Starts l o shape (Some []) 0 w → Some bytes ≡ w.contents → SoFar w all 0 (bytes ∷ []) []
started l o shape w all bytes s e =
    let part : bytes ≡ s.part =
    subst (λ d. Appends (Some []) d (joined (s.part ∷ []))) (sym e) s.position.accepted ∙ append-nil s.part in
    let v : WriterView = record { limits = l; options = o; shape = shape; sent = []; place = first_place o shape; status = Writing; contents = w.contents; failures = 0 } in
    let made : SoFar v all 0 (bytes ∷ []) [] = record {
      admitted = [];
      position = subst (λ z. IsWriterAt z (Some []) false (bytes ∷ []) []) s.new_is (subst (λ b. IsWriterAt w (Some []) false (b ∷ []) []) (sym part) s.position);
      reliable = refl;
      goes_on = refl;
    } in
    subst (λ z. SoFar z all 0 (bytes ∷ []) []) (sym s.new_is) made

-- ALL BATCHES

text_admits : {l : LimitNumbers} {o : Options} {shape : SchemaShape} {parts : List (List ℕ)} {batches : List Table} {frames : List Frame} → Text l o shape parts batches frames → schema_admission l o shape ≡ None
text_admits (begins b known a f) = a
text_admits (adds parts batches frames t fs text x) = text_admits text

written_admits : {l : LimitNumbers} {o : Options} {shape : SchemaShape} {closed : Bool} {parts : List (List ℕ)} {batches : List Table} {frames : List Frame} → Written l o shape closed parts batches frames → schema_admission l o shape ≡ None
written_admits (unfinished parts batches frames t) = text_admits t
written_admits (finished parts batches frames b t h m) = text_admits t

-- a writer has a connection's limits, options and fields
pub record IsFor (l : LimitNumbers) (c : Asked) (w : WriterView) : Type 0 where
  pub limits : w.limits ≡ l
  pub options : w.options ≡ c.options
  pub shape : w.shape ≡ c.shape

-- the connection's limits, options and fields are all three the writer's
abbrev Same : LimitNumbers → Asked → WriterView → Type 0
Same l c w = ◌≡◌ {A = LimitNumbers × (Options × SchemaShape)} (w.limits, (w.options, w.shape)) (l, (c.options, c.shape))

all_same : (l : LimitNumbers) (c : Asked) (w : WriterView) → IsFor l c w → Same l c w
all_same l c w i = λ j. (i.limits j, (i.options j, i.shape j))

-- the outcome of an end marker that is asked for, by whether it fits
by_room : (p : Progress) (room : Bool) → marker_fits p.place ≡ room → ended_after true p ≡ record { admitted = p.admitted; refused = p.refused ++ marker_refusals true room; sent = p.sent; closed = room }
by_room p room h = ap (λ b. record { admitted = p.admitted; refused = p.refused ++ marker_refusals true b; sent = p.sent; closed = b }) h

-- What a writer with these parts and batches sent is the outcome of the connection, if the outcome has these.
sent_from : (l : LimitNumbers) (c : Asked) (w : WriterView) (admitted : List Table) (closed : Bool) (s : SentPlain) → IsFor l c w → IsWriterAt w (Some []) closed s.parts admitted
    → outcome_of l c ≡ record { admitted = admitted; refused = s.refused; sent = s.dictionaries; closed = closed } → Some s.bytes ≡ w.contents → s.dictionaries ≡ w.sent → IsSent l c s
sent_from l c w admitted closed s i st out t e =
    let written : Written l c.options c.shape closed s.parts admitted st.frames =
    subst (λ x. Written x.0 x.1.0 x.1.1 closed s.parts admitted st.frames) (all_same l c w i) st.written in
    let own : Written l c.options c.shape (outcome_of l c).closed s.parts (outcome_of l c).admitted st.frames =
    subst (λ (x : Outcome). Written l c.options c.shape x.closed s.parts x.admitted st.frames) (sym out) written in
    record {
      frames = st.frames;
      sends = subst (λ a. Sends a l c s.parts st.frames) (sym (written_admits written)) own;
      refused_are = ap (λ (x : Outcome). x.refused) (sym out);
      dictionaries_are = ap (λ (x : Outcome). x.sent) (sym out);
      last_are = e ∙ st.sent_are;
      all = subst (λ d. Appends (Some []) d (joined s.parts)) (sym t) st.accepted;
    }

module _ (l : LimitNumbers) (c : Asked) (w : WriterView) (parts : List (List ℕ)) (refused : List Refusal) (s : SoFar w c.batches (length c.batches) parts refused) (i : IsFor l c w) where
  none_left : drop (length c.batches) c.batches ≡ []
  none_left = drop_of_length-le c.batches {i = length c.batches} (omega arith)

  -- how far the writer came
  abbrev end : Progress
  end = progress_at w (length c.batches) s.admitted refused

  outcome_is : outcome_of l c ≡ ended_after c.finish (progress_at w (length c.batches) s.admitted refused)
  outcome_is =
      let own : end ≡ with_batches w.limits w.options w.shape (begun w.options w.shape) c.batches =
      ap (with_batches w.limits w.options w.shape end) (sym none_left) ∙ s.goes_on in
      let asked : end ≡ with_batches l c.options c.shape (begun c.options c.shape) c.batches =
      own ∙ ap (λ x. with_batches x.0 x.1.0 x.1.1 (begun x.1.0 x.1.1) c.batches) (all_same l c w i) in
      let admits : schema_admission l c.options c.shape ≡ None =
      ap (λ x. schema_admission x.0 x.1.0 x.1.1) (sym (all_same l c w i)) ∙ written_admits s.position.written in
      ap (λ a. outcome_by a l c) admits ∙ ap (ended_after c.finish) (sym asked)

  -- no end marker was asked for
  pub sent_open : (last : List (ℤ × ValueList)) (bytes : List ℕ) → c.finish ≡ false → Some bytes ≡ w.contents → last ≡ w.sent → IsSent l c (record { parts = parts; refused = refused; dictionaries = last; bytes = bytes })
  sent_open last bytes f t e =
      let out = outcome_is ∙ ap (λ b. ended_after b end) f ∙ ap (λ r. record { admitted = s.admitted; refused = r; sent = w.sent; closed = false }) (append-nil refused)
      ∙ ap (λ ds. record { admitted = s.admitted; refused = refused; sent = ds; closed = false }) (sym e) in
      sent_from l c w s.admitted false (record { parts = parts; refused = refused; dictionaries = last; bytes = bytes }) i s.position out t e

  -- an end marker was asked for
  pub sent_ended : (w2 : WriterView) (parts2 : List (List ℕ)) (refused2 : List Refusal) (last : List (ℤ × ValueList)) (bytes : List ℕ) → c.finish ≡ true → Finished w parts refused w2 parts2 refused2 → Some bytes ≡ w2.contents → last ≡ w2.sent
      → IsSent l c (record { parts = parts2; refused = refused2; dictionaries = last; bytes = bytes })
  sent_ended w2 parts2 refused2 last bytes f (inl m) t e =
      let new = m.ends.new_is in
      let i2 : IsFor l c w2 = record { limits = ap (λ (v : WriterView). v.limits) new ∙ i.limits; options = ap (λ (v : WriterView). v.options) new ∙ i.options; shape = ap (λ (v : WriterView). v.shape) new ∙ i.shape } in
      let st : IsWriterAt w2 (Some []) true parts2 s.admitted = subst (λ p. IsWriterAt w2 (Some []) true p s.admitted) (sym m.part) (m.ends.position (Some []) parts s.admitted s.position) in
      let refusals : refused ++ [] ≡ refused2 = append-nil refused ∙ sym m.same in
      let lists : w.sent ≡ last = sym (e ∙ ap (λ (v : WriterView). v.sent) new) in
      let out = outcome_is ∙ ap (λ b. ended_after b end) f ∙ by_room end true m.ends.fits_in ∙ ap (λ r. record { admitted = s.admitted; refused = r; sent = w.sent; closed = true }) refusals
      ∙ ap (λ ds. record { admitted = s.admitted; refused = refused2; sent = ds; closed = true }) lists in
      sent_from l c w2 s.admitted true (record { parts = parts2; refused = refused2; dictionaries = last; bytes = bytes }) i2 st out t e
  sent_ended w2 parts2 refused2 last bytes f (inr m) t e =
      let lists : w.sent ≡ last = sym (e ∙ ap (λ (v : WriterView). v.sent) m.unchanged) in
      let out = outcome_is ∙ ap (λ b. ended_after b end) f ∙ by_room end false m.passes ∙ ap (λ r. record { admitted = s.admitted; refused = r; sent = w.sent; closed = false }) (sym m.one_more)
      ∙ ap (λ ds. record { admitted = s.admitted; refused = refused2; sent = ds; closed = false }) lists in
      let x = sent_from l c w s.admitted false (record { parts = parts; refused = refused2; dictionaries = last; bytes = bytes }) i s.position out (t ∙ ap (λ (v : WriterView). v.contents) m.unchanged) (sym lists) in
      subst (λ p. IsSent l c (record { parts = p; refused = refused2; dictionaries = last; bytes = bytes })) (sym m.same) x

-- nothing was sent
pub sent_nothing : (l : LimitNumbers) (c : Asked) (s : SentPlain) → schema_admission l c.options c.shape ≡ Some TooLarge → s.parts ≡ [] → s.refused ≡ record { what = Start; kind = TooLarge } ∷ [] → s.dictionaries ≡ [] → s.bytes ≡ []
    → IsSent l c s
sent_nothing l c s a p r e b = record {
  frames = [];
  sends = subst (λ x. Sends x l c s.parts []) (sym a) (p, refl);
  refused_are = r ∙ ap (λ x. (outcome_by x l c).refused) (sym a);
  dictionaries_are = e ∙ ap (λ x. (outcome_by x l c).sent) (sym a);
  last_are = e;
  all = b ∙ sym (ap joined p);
}

-- a statement of a successful result implies what follows from it
pub if_ok : {X E : Type 0} (r : Result X E) (P Q : X → Type 0) → IfOk r P → ((x : X) → P x → Q x) → IfOk r Q
if_ok (Ok x) P Q h f = f x h
if_ok (Err e) P Q h f = tt

-- a started writer has the connection's limits, options and fields after all batches
pub for_one : (l : LimitNumbers) (c : Asked) (w v : WriterView) → Starts l c.options c.shape (Some []) 0 w → IsOver w v → IsFor l c v
for_one l c w v s o = record {
  limits = o.limits ∙ ap (λ (z : WriterView). z.limits) s.new_is;
  options = o.options ∙ ap (λ (z : WriterView). z.options) s.new_is;
  shape = o.shape ∙ ap (λ (z : WriterView). z.shape) s.new_is;
}

-- why a start into memory failed, by the state of the sink after it
pub starts_not : (l : LimitNumbers) (o : Options) (shape : SchemaShape) (base contents : Option (List ℕ)) (failures now : ℕ) (k : WriteFault) → StartFails l o shape base failures k contents now → StartsNot l o shape k
starts_not l o shape base contents failures now TooLarge h = h.0
starts_not l o shape base contents failures now Memory h = inl refl
starts_not l o shape base contents failures now Sink h = inr refl
starts_not l o shape base contents failures now SchemaDiffers h = absurd h
starts_not l o shape base contents failures now DictionariesDiffer h = absurd h
starts_not l o shape base contents failures now Broken h = absurd h
starts_not l o shape base contents failures now Closed h = absurd h

-- a writer over a sink without bytes that has not failed
pub starts_kept : (l : LimitNumbers) (o : Options) (shape : SchemaShape) (w : WriterView) (bytes : List ℕ) (failures : ℕ) → bytes ≡ [] → failures ≡ 0 → Starts l o shape (Some bytes) failures w → Starts l o shape (Some []) 0 w
starts_kept l o shape w bytes failures b f s = subst (λ n. Starts l o shape (Some []) n w) f (subst (λ x. Starts l o shape (Some x) failures w) b s)
