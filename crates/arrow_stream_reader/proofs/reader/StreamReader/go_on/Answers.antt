use Rattle.std.proofs.Common.{◌≡◌, ◌-◌, [], ◌++◌, ◌∷◌, ◌+◌, length, take, ap, sym, refl, ◌∙◌, subst, arith, inl, inr}
use Rattle.std.proofs.lemmas.List.{take_all}
use Rattle.arrow_stream_reader.specs.declared.reader.Verdict.TheVariants.{Open, Bad}
use Rattle.arrow_stream_reader.specs.declared.kind.Kind.TheVariants.{Memory}
use Rattle.arrow_stream_reader.specs.declared.item.Item.TheVariants.{End}
use Rattle.arrow_stream_reader.specs.Views.{plain, given}
use Rattle.arrow_stream_reader.specs.Decoder.{verdict_of}
use Rattle.arrow_stream_reader.specs.Kind.{kind_of}
use Rattle.arrow_stream_reader.specs.Stream.{IsReaderAt}
use Rattle.arrow_stream_reader.proofs.Firsts.{First-within, marker-within}
use Rattle.arrow_stream_reader.proofs.Decoding.{is_open}
use Rattle.arrow_stream_reader.proofs.Streams.{shown_by, first_moved, waits_at_nothing, short_position, whole_position, marker_position, refusal_position, taken_within, whole_some, marker_some, same_shows, beginning}
use Rattle.arrow_stream_reader.proofs.reader.StreamReader.go_on.Goals as goal

pub returns-in-Ok-Short-clause-reads : goal.returns-in-Ok-Short-clause-reads
returns-in-Ok-Short-clause-reads c = λ t es at.
    let open_now : verdict_of c.self.inside.decoder.phase ≡ Open = ap (λ r. r.at.verdict) c.self.view_is ∙ c.requires.open in
    let at' = subst (λ r. IsReaderAt r t es) (sym c.self.view_is) at in
    let x = rw c.in-Ok-Short.field-0-is at c.in-Ok-Short.ensures.works in
    let piece = c.args.piece.now in
    let w = c.self.inside.decoder in
    record {
      position = subst (λ y. IsReaderAt (shown_by c.step.new.self (verdict_of c.step.new.self.phase)) (t ++ y) es) (sym (take_all (length piece) piece (omega arith)))
          (short_position w (c.self.invariant.waiting open_now) piece (verdict_of w.phase) open_now t es at' c.step.new.self x);
      all = λ _. refl;
      same = is_open c.step.new.self x.at ∙ sym c.requires.open;
      none = λ q. absurd (let e = c.requires.open in cc);
    }

pub returns-in-Ok-Whole-clause-takes : goal.returns-in-Ok-Whole-clause-takes
returns-in-Ok-Whole-clause-takes c =
    let open_now : verdict_of c.self.inside.decoder.phase ≡ Open = ap (λ r. r.at.verdict) c.self.view_is ∙ c.requires.open in
    let x = rw c.in-Ok-Whole.field-0-is at c.in-Ok-Whole.ensures.works in
    let piece = c.args.piece.now in
    let w = c.self.inside.decoder in
    let waiting = c.self.invariant.waiting open_now in
    let taken : x.size - length w.held.items ≡ c.step.new.self.place - w.place - c.len-before.result = omega (arith, x.place, c.len-before.ensures.count) in
    (rw (← taken) (whole_some w waiting piece c.in-Ok-Whole.item c.step.new.self x), rw (← taken) (taken_within w waiting piece x.size (First-within x.first)))

pub returns-in-Ok-Whole-clause-reads : goal.returns-in-Ok-Whole-clause-reads
returns-in-Ok-Whole-clause-reads c = λ t es at.
    let open_now : verdict_of c.self.inside.decoder.phase ≡ Open = ap (λ r. r.at.verdict) c.self.view_is ∙ c.requires.open in
    let at' = subst (λ r. IsReaderAt r t es) (sym c.self.view_is) at in
    let x = rw c.in-Ok-Whole.field-0-is at c.in-Ok-Whole.ensures.works in
    let piece = c.args.piece.now in
    let w = c.self.inside.decoder in
    let waiting = c.self.invariant.waiting open_now in
    let taken : x.size - length w.held.items ≡ c.step.new.self.place - w.place - c.len-before.result = omega (arith, x.place, c.len-before.ensures.count) in
    record {
      some = rw (← taken) (whole_some w waiting piece c.in-Ok-Whole.item c.step.new.self x);
      within = rw (← taken) (taken_within w waiting piece x.size (First-within x.first));
      position = subst (λ n. IsReaderAt (shown_by c.step.new.self (verdict_of c.step.new.self.phase)) (t ++ take n piece) (es ++ record { given = given c.in-Ok-Whole.item; end = length t + n } ∷ [])) taken
          (whole_position w waiting piece (verdict_of w.phase) open_now t es at' c.in-Ok-Whole.item c.step.new.self x);
    }

pub invariant_of-self-in-Ok-Whole : goal.invariant_of-self-in-Ok-Whole
invariant_of-self-in-Ok-Whole c =
    let x = rw c.in-Ok-Whole.field-0-is at c.in-Ok-Whole.ensures.works in
    record {
      at = λ _. x.at;
      waiting = λ _. waits_at_nothing c.step.new.self x.held;
      empty = λ _. x.held;
    }

pub returns-in-Ok-EndMarker-clause-takes : goal.returns-in-Ok-EndMarker-clause-takes
returns-in-Ok-EndMarker-clause-takes c =
    let open_now : verdict_of c.self.inside.decoder.phase ≡ Open = ap (λ r. r.at.verdict) c.self.view_is ∙ c.requires.open in
    let x = rw c.in-Ok-EndMarker.field-0-is at c.in-Ok-EndMarker.ensures.works in
    let piece = c.args.piece.now in
    let w = c.self.inside.decoder in
    let waiting = c.self.invariant.waiting open_now in
    let taken : 8 - length w.held.items ≡ 8 - c.len-before.result = omega (arith, c.len-before.ensures.count) in
    (rw (← taken) (marker_some w waiting piece c.step.new.self x), rw (← taken) (taken_within w waiting piece 8 (marker-within x.first)))

pub returns-in-Ok-EndMarker-clause-reads : goal.returns-in-Ok-EndMarker-clause-reads
returns-in-Ok-EndMarker-clause-reads c = λ t es at.
    let open_now : verdict_of c.self.inside.decoder.phase ≡ Open = ap (λ r. r.at.verdict) c.self.view_is ∙ c.requires.open in
    let at' = subst (λ r. IsReaderAt r t es) (sym c.self.view_is) at in
    let x = rw c.in-Ok-EndMarker.field-0-is at c.in-Ok-EndMarker.ensures.works in
    let piece = c.args.piece.now in
    let w = c.self.inside.decoder in
    let waiting = c.self.invariant.waiting open_now in
    let taken : 8 - length w.held.items ≡ 8 - c.len-before.result = omega (arith, c.len-before.ensures.count) in
    record {
      some = rw (← taken) (marker_some w waiting piece c.step.new.self x);
      within = rw (← taken) (taken_within w waiting piece 8 (marker-within x.first));
      position = subst (λ n. IsReaderAt (shown_by c.end.new.self (verdict_of c.end.new.self.phase)) (t ++ take n piece) (es ++ record { given = given End; end = length t + n } ∷ [])) taken
          (marker_position w waiting piece (verdict_of w.phase) open_now t es at' c.step.new.self c.end.new.self x c.end.ensures.limits c.end.ensures.state c.end.ensures.place c.end.ensures.phase);
    }

pub returns-in-Err-Refused-clause-reads : goal.returns-in-Err-Refused-clause-reads
returns-in-Err-Refused-clause-reads c = λ t es at.
    let open_now : verdict_of c.self.inside.decoder.phase ≡ Open = ap (λ r. r.at.verdict) c.self.view_is ∙ c.requires.open in
    let at' = subst (λ r. IsReaderAt r t es) (sym c.self.view_is) at in
    let x = rw c.in-Err-Refused.field-0-is at c.in-Err-Refused.ensures.works in
    let y = c.fail.ensures in
    let w = c.self.inside.decoder in
    let place : c.fail.new.self.place ≡ w.place = y.place ∙ x.stopped.same.place in
    inr (record {
      refusal = c.in-Err-Refused.refusal;
      kind = c.kind.ensures.same;
      verdict = ap verdict_of y.phase;
      place = sym place;
      position = refusal_position w (c.self.invariant.waiting open_now) c.args.piece.now (verdict_of w.phase) open_now t es at' c.in-Err-Refused.refusal c.fail.new.self x.first (y.limits ∙ x.stopped.same.limits) (y.state ∙ x.stopped.same.state) place y.phase;
      held = y.held;
    })

pub returns-in-Err-Memory-clause-reads : goal.returns-in-Err-Memory-clause-reads
returns-in-Err-Memory-clause-reads c = λ t es at.
    let open_now : verdict_of c.self.inside.decoder.phase ≡ Open = ap (λ r. r.at.verdict) c.self.view_is ∙ c.requires.open in
    let x = rw c.in-Err-Memory.field-0-is at c.in-Err-Memory.ensures.works in
    let y = c.rewind.ensures.rewound in
    let w = c.self.inside.decoder in
    let v = c.rewind.new.self in
    let held : v.held.items ≡ w.held.items = y.held ∙ beginning w.held.items c.args.piece.now c.step.new.self.held.items x.more c.len-before.result c.len-before.ensures.count x.held x.covers in
    let same = same_shows v (verdict_of v.phase) w.limits (plain w.state) w.place w.held.items (verdict_of w.phase) (y.same.limits ∙ x.same.limits) (y.same.state ∙ x.same.state) (y.same.place ∙ x.same.place) held (is_open v y.at ∙ sym open_now) in
    inl (record {
      fault_is = ap (λ p. record { kind = Memory; place = p }) (ap (λ r. r.at.place) c.self.view_is);
      same = same ∙ c.self.view_is;
    })

pub returns-in-Err-Memory-clause-memory : goal.returns-in-Err-Memory-clause-memory
returns-in-Err-Memory-clause-memory c = λ q.
    let open_now : verdict_of c.self.inside.decoder.phase ≡ Open = ap (λ r. r.at.verdict) c.self.view_is ∙ c.requires.open in
    let x = rw c.in-Err-Memory.field-0-is at c.in-Err-Memory.ensures.works in
    let y = c.rewind.ensures.rewound in
    let w = c.self.inside.decoder in
    let v = c.rewind.new.self in
    let held : v.held.items ≡ w.held.items = y.held ∙ beginning w.held.items c.args.piece.now c.step.new.self.held.items x.more c.len-before.result c.len-before.ensures.count x.held x.covers in
    let same = same_shows v (verdict_of v.phase) w.limits (plain w.state) w.place w.held.items (verdict_of w.phase) (y.same.limits ∙ x.same.limits) (y.same.state ∙ x.same.state) (y.same.place ∙ x.same.place) held (is_open v y.at ∙ sym open_now) in
    record {
      fault_is = ap (λ p. record { kind = Memory; place = p }) (ap (λ r. r.at.place) c.self.view_is);
      same = same ∙ c.self.view_is;
    }

pub invariant_of-self-in-Err-Memory : goal.invariant_of-self-in-Err-Memory
invariant_of-self-in-Err-Memory c =
    let open_now : verdict_of c.self.inside.decoder.phase ≡ Open = ap (λ r. r.at.verdict) c.self.view_is ∙ c.requires.open in
    let x = rw c.in-Err-Memory.field-0-is at c.in-Err-Memory.ensures.works in
    let y = c.rewind.ensures.rewound in
    let w = c.self.inside.decoder in
    let v = c.rewind.new.self in
    let held : v.held.items ≡ w.held.items = y.held ∙ beginning w.held.items c.args.piece.now c.step.new.self.held.items x.more c.len-before.result c.len-before.ensures.count x.held x.covers in
    record {
      at = λ _. y.at;
      waiting = λ _. first_moved w v w.held.items v.held.items (y.same.limits ∙ x.same.limits) (y.same.state ∙ x.same.state) (y.same.place ∙ x.same.place) held (c.self.invariant.waiting open_now);
      empty = λ n. absurd (n (is_open v y.at));
    }

pub returns-in-Err-Refused-clause-fails : goal.returns-in-Err-Refused-clause-fails
returns-in-Err-Refused-clause-fails c = λ _.
    let x = rw c.in-Err-Refused.field-0-is at c.in-Err-Refused.ensures.works in
    let y = c.fail.ensures in
    let v = c.fail.new.self in
    let w = c.self.inside.decoder in
    let old = c.args.self.now in
    let k = c.in-Err-Refused.refusal in
    let shown = c.self.view_is in
    let at_place = ap (λ r. r.at.place) shown in
    record {
      refusal = k;
      fault_is = ap (λ kind. record { kind = kind; place = w.place }) c.kind.ensures.same ∙ ap (λ p. record { kind = kind_of k; place = p }) at_place;
      new_is = same_shows v (verdict_of v.phase) old.limits old.at.state old.at.place [] (Bad k) (y.limits ∙ x.stopped.same.limits ∙ ap (λ r. r.limits) shown)
          (y.state ∙ x.stopped.same.state ∙ ap (λ r. r.at.state) shown) (y.place ∙ x.stopped.same.place ∙ at_place) y.held (ap verdict_of y.phase);
    }

pub returns-in-Err-Memory-clause-fails : goal.returns-in-Err-Memory-clause-fails
returns-in-Err-Memory-clause-fails c = λ n. absurd (n refl)
