-- A copy whose output gave away the first bytes that it held: its calls do the same as if it still held them.
use Rattle.std.proofs.Common.{◌≡◌, ℕ, List, ◌++◌, take, drop, Option, None, Some, Result, Ok, Err, refl, sym, ap, ◌∙◌, subst, append_assoc, take-append-drop, inl, inr}
use Rattle.std.specs.Io.KnownBytes.{Appends, prepend_known}
use Rattle.arrow_types.specs.Limits.{LimitNumbers}
use Rattle.arrow_types.specs.Notes.{SchemaShape}
use Rattle.arrow_data.specs.Batch.{Table}
use Rattle.arrow_sink.specs.Sinks.{AcceptsBeginning}
use Rattle.arrow_sink.specs.declared.write_fault.WriteFault.{WriteFault}
use Rattle.arrow_sink.specs.declared.write_fault.WriteFault.TheVariants as kinds
use Rattle.arrow_stream_laws.specs.Sizes.{Options}
use Rattle.arrow_stream_laws.specs.Writer.{Accepts, Ends, Fails, FailsAtEnd, Finishes, StartFails, Starts, WriterView, Writes}
use Rattle.arrow_stream_laws.proofs.Writers.{accepts_of, ends_of, fails_at_end, fails_of}
use Rattle.arrow_stream_reader.specs.State.{Given, batch_given, dictionary_given, ended, schema_given}
use Rattle.arrowflow_input.specs.declared.tool_fault.ToolFault.{ToolFault}
use Rattle.arrowflow_copy.specs.Copying.{AddsBatch, At, BeginsCopy, Closes, TakesItem, TakesOne, failures_at, held_at, waiting, writing}
use Rattle.arrowflow_copy.specs.Taken.{holding, with_taken, writer_with}

module _ (gone : List ℕ) where
  abbrev Held : Option (List ℕ) → Option (List ℕ)
  Held known = prepend_known gone known

  appends : (a b : Option (List ℕ)) (x : List ℕ) → Appends a b x → Appends (Held a) (Held b) x
  appends None b x p = tt
  appends (Some a) None x p = absurd p
  appends (Some a) (Some b) x p = ap (λ l. gone ++ l) p ∙ sym (append_assoc gone a x)

  begins : (a b : Option (List ℕ)) (x : List ℕ) → AcceptsBeginning a b x → AcceptsBeginning (Held a) (Held b) x
  begins a b x p = (p.0, p.1, appends a b (take p.0 x) p.2)

  abbrev W : WriterView → WriterView
  W w = writer_with gone w

  accepts : (old new : WriterView) (t : Table) → Accepts old t new → Accepts (W old) t (W new)
  accepts old new t a =
      subst (λ v. Accepts (W old) t v) (sym (ap W a.new_is))
      (accepts_of (W old) t a.frames (Held new.contents) a.open_before a.is_part (appends old.contents new.contents _ a.accepted))

  fails : (old new : WriterView) (t : Table) → Fails old t new → Fails (W old) t (W new)
  fails old new t f =
      subst (λ v. Fails (W old) t v) (sym (ap W f.new_is))
      (fails_of (W old) t f.frames (Held new.contents) f.open_before f.is_part (begins old.contents new.contents _ f.accepted))

  ends : (old new : WriterView) → Ends old new → Ends (W old) (W new)
  ends old new e =
      subst (λ v. Ends (W old) v) (sym (ap W e.new_is))
      (ends_of (W old) e.marker (Held new.contents) e.open_before e.is_marker e.fits_in (appends old.contents new.contents e.marker e.accepted))

  fails_in_end : (old new : WriterView) → FailsAtEnd old new → FailsAtEnd (W old) (W new)
  fails_in_end old new f =
      subst (λ v. FailsAtEnd (W old) v) (sym (ap W f.new_is))
      (fails_at_end (W old) f.marker (Held new.contents) f.open_before f.is_marker f.fits_in (begins old.contents new.contents f.marker f.accepted))

  writes : (old new : WriterView) (t : Table) (answer : Result (Unit {0}) WriteFault) → Writes old t answer new → Writes (W old) t answer (W new)
  writes old new t (Ok done) x = accepts old new t x
  writes old new t (Err kinds.SchemaDiffers) x = record { open_before = x.open_before; refusal = x.refusal; unchanged = ap W x.unchanged }
  writes old new t (Err kinds.TooLarge) x = record { open_before = x.open_before; refusal = x.refusal; unchanged = ap W x.unchanged }
  writes old new t (Err kinds.DictionariesDiffer) x = record { open_before = x.open_before; refusal = x.refusal; unchanged = ap W x.unchanged }
  writes old new t (Err kinds.Sink) x = fails old new t x
  writes old new t (Err kinds.Broken) x = record { before = x.before; unchanged = ap W x.unchanged }
  writes old new t (Err kinds.Finished) x = record { before = x.before; unchanged = ap W x.unchanged }
  writes old new t (Err kinds.Memory) x = record { before = x.before; unchanged = ap W x.unchanged }

  finishes : (old new : WriterView) (answer : Result (Unit {0}) WriteFault) → Finishes old answer new → Finishes (W old) answer (W new)
  finishes old new (Ok done) x = ends old new x
  finishes old new (Err kinds.TooLarge) x = record { open_before = x.open_before; passes = x.passes; unchanged = ap W x.unchanged }
  finishes old new (Err kinds.Sink) x = fails_in_end old new x
  finishes old new (Err kinds.Broken) x = record { before = x.before; unchanged = ap W x.unchanged }
  finishes old new (Err kinds.Finished) x = record { before = x.before; unchanged = ap W x.unchanged }
  finishes old new (Err kinds.Memory) x = absurd x
  finishes old new (Err kinds.SchemaDiffers) x = absurd x
  finishes old new (Err kinds.DictionariesDiffer) x = absurd x

  module _ (limits : LimitNumbers) (o : Options) (shape : SchemaShape) (base : Option (List ℕ)) (failures : ℕ) where
    starts : (new : WriterView) → Starts limits o shape base failures new → Starts limits o shape (Held base) failures (W new)
    starts new s = record {
      part = s.part;
      new_is = ap W s.new_is;
      position = record {
        frames = s.position.frames;
        written = s.position.written;
        sent_are = s.position.sent_are;
        place_is = s.position.place_is;
        accepted = appends base new.contents _ s.position.accepted;
        status_is = s.position.status_is;
      };
    }

    start_fails : (kind : WriteFault) (held : Option (List ℕ)) (failed : ℕ) → StartFails limits o shape base failures kind held failed → StartFails limits o shape (Held base) failures kind (Held held) failed
    start_fails kinds.TooLarge held failed x = (x.0, ap Held x.1, x.2)
    start_fails kinds.Memory held failed x = (ap Held x.0, x.1)
    start_fails kinds.Sink held failed x = record {
      known = x.known;
      admitted = x.admitted;
      part = x.part;
      is_frame = x.is_frame;
      accepted = begins base held x.part x.accepted;
      failed = x.failed;
    }
    start_fails kinds.SchemaDiffers held failed x = absurd x
    start_fails kinds.DictionariesDiffer held failed x = absurd x
    start_fails kinds.Broken held failed x = absurd x
    start_fails kinds.Finished held failed x = absurd x

    begins_copy : (answer : Result (Unit {0}) ToolFault) (at' : At) → BeginsCopy limits o shape base failures answer at' → BeginsCopy limits o shape (Held base) failures answer (with_taken gone at')
    begins_copy (Ok done) at' b = (W b.0, ap (with_taken gone) b.1, starts b.0 b.2)
    begins_copy (Err f) at' b = (b.0, Held b.1, b.2, b.3, ap (with_taken gone) b.4, start_fails b.0 b.1 b.2 b.5)

  adds_batch : (w : WriterView) (t : Table) (number : ℕ) (answer : Result (Unit {0}) ToolFault) (at' : At) (number' : ℕ) → AddsBatch w t number answer at' number' → AddsBatch (W w) t number answer (with_taken gone at') number'
  adds_batch w t number (Ok done) at' number' x = (W x.0, ap (with_taken gone) x.1, accepts w x.0 t x.2, x.3)
  adds_batch w t number (Err f) at' number' (inl x) = inl (x.0, ap (with_taken gone) x.1)
  adds_batch w t number (Err f) at' number' (inr x) = inr (x.0, W x.1, x.2, ap (with_taken gone) x.3, writes w x.1 t (Err x.0) x.4)

  takes_one : (w : WriterView) (g : Given) (number : ℕ) (answer : Result (Unit {0}) ToolFault) (at' : At) (number' : ℕ) → TakesOne w g number answer at' number' → TakesOne (W w) g number answer (with_taken gone at') number'
  takes_one w schema_given number answer at' number' x = (x.0, ap (with_taken gone) x.1, x.2)
  takes_one w (dictionary_given id) number answer at' number' x = (x.0, ap (with_taken gone) x.1, x.2)
  takes_one w (batch_given t) number answer at' number' x = adds_batch w t number answer at' number' x
  takes_one w ended number answer at' number' x = (x.0, ap (with_taken gone) x.1, x.2)

  -- a message is handled in the same way
  pub takes_item : (limits : LimitNumbers) (o : Options) (schema : Option SchemaShape) (g : Given) (at : At) (number : ℕ) (answer : Result (Unit {0}) ToolFault) (at' : At) (number' : ℕ) → TakesItem limits o schema g at number answer at' number'
      → TakesItem limits o schema g (with_taken gone at) number answer (with_taken gone at') number'
  takes_item limits o None g (waiting held failed) number answer at' number' x = ((x.0.0, ap (with_taken gone) x.0.1), x.1)
  takes_item limits o (Some shape) g (waiting held failed) number answer at' number' x = ((x.0.0, begins_copy limits o shape held failed answer at' x.0.1), x.1)
  takes_item limits o schema g (writing w) number answer at' number' x = takes_one w g number answer at' number' x

  -- and the copy ends in the same way
  pub closes : (at : At) (answer : Result (Unit {0}) ToolFault) (at' : At) → Closes at answer at' → Closes (with_taken gone at) answer (with_taken gone at')
  closes (waiting held failed) answer at' x = (x.0, ap (with_taken gone) x.1)
  closes (writing w) (Ok done) at' x = (W x.0, ap (with_taken gone) x.1, ends w x.0 x.2)
  closes (writing w) (Err f) at' x = (x.0, W x.1, x.2, ap (with_taken gone) x.3, finishes w x.1 (Err x.0) x.4)

-- the bytes taken do not change the number of failed calls
pub taken_failures : (gone : List ℕ) (at : At) → failures_at (with_taken gone at) ≡ failures_at at
taken_failures gone (waiting held failed) = refl
taken_failures gone (writing w) = refl

-- the bytes taken come before those that are held
pub taken_held : (gone : List ℕ) (at : At) (held : List ℕ) → held_at at ≡ Some held → held_at (with_taken gone at) ≡ Some (gone ++ held)
taken_held gone (waiting h failed) held e = ap (prepend_known gone) e
taken_held gone (writing w) held e = ap (prepend_known gone) e

-- giving away more of the bytes held does not change the state with the bytes taken
pub taken_more : (gone : List ℕ) (n : ℕ) (at : At) (held : List ℕ) → held_at at ≡ Some held → with_taken (gone ++ take n held) (holding (Some (drop n held)) at) ≡ with_taken gone at
taken_more gone n at held e = by at e
  where
    whole : Some ((gone ++ take n held) ++ drop n held) ≡ prepend_known gone (Some held)
    whole = ap Some (append_assoc gone (take n held) (drop n held) ∙ ap (λ l. gone ++ l) (take-append-drop n held))

    by : (a : At) → held_at a ≡ Some held → with_taken (gone ++ take n held) (holding (Some (drop n held)) a) ≡ with_taken gone a
    by (waiting h failed) q = ap (λ x. waiting x failed) (whole ∙ ap (prepend_known gone) (sym q))
    by (writing w) q = ap (λ x. writing (record w { contents = x })) (whole ∙ ap (prepend_known gone) (sym q))
