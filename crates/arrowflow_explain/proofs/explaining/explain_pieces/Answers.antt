use Rattle.std.proofs.Common.{◌≡◌, ◌<◌, [], ◌++◌, take, length, Ok, Err, inl, inr, refl, sym, ap, ◌∙◌, subst, append-nil, arith, rules, is_some}
use Rattle.std.specs.Io.KnownBytes.{Consumes}
use Rattle.std.proofs.KnownBytes.{Consumes-kept, Consumes-nil, Consumes-trans}
use Rattle.arrow_stream_reader.specs.Stream.{ended_by, ended_so}
use Rattle.arrowflow_input.specs.Endings.{IsOpenAt}
use Rattle.arrowflow_input.proofs.Reading.{less_left, piece_some, read_all, read_last}
use Rattle.arrowflow_explain.specs.Explains.{IsMadeOf, KeepsPiece}
use Rattle.arrowflow_explain.proofs.Keeping.{open_at, refused_at, sound_at}
use Rattle.arrowflow_explain.proofs.explaining.explain_pieces.Goals as goal

pub loop-count-init : goal.loop-count-init
loop-count-init g c = ([], Consumes-nil (g.R.Input.remaining c.args.input.now), c.requires.kept, c.requires.limits, refl, c.requires.open)

pub returns-in-Err-clause-explains : goal.returns-in-Err-clause-explains
returns-in-Err-clause-explains g c =
    let inv = c.loop-count.invariant in
    let goes_on = open_at c.args.work.limits inv.0 c.loop-count.work.reader c.loop-count.work.kept.items inv.2 (inv.3 ∙ inv.4) inv.5 in
    (inv.0, Consumes-kept _ _ _ _ inv.1 c.in-Err.ensures.bytes, read_all (IsOpenAt c.args.work.limits) inv.0 goes_on, (refl, goes_on))

pub returns-in-Ok-end-clause-explains : goal.returns-in-Ok-end-clause-explains
returns-in-Ok-end-clause-explains g c =
    let inv = c.loop-count.invariant in
    let r = c.loop-count.work.reader in
    let limits = c.args.work.limits in
    let goes_on = open_at limits inv.0 r c.loop-count.work.kept.items inv.2 (inv.3 ∙ inv.4) inv.5 in
    let buf = c.read_piece.new.room in
    let had = g.R.Input.remaining c.args.input.now in
    let left = g.R.Input.remaining c.read_piece.new.self in
    let room : 0 < length buf = omega arith in
    let none : inv.0 ++ take c.in-Ok.count buf ≡ inv.0 = ap (λ k. inv.0 ++ take k buf) c.if-count-eq0.true ∙ append-nil inv.0 in
    let well : ended_so r.at ≡ Ok tt = search rules in (
      inv.0,
      subst (Consumes had left) none (Consumes-trans _ _ _ _ _ inv.1 c.in-Ok.ensures.bytes.0),
      read_all (IsOpenAt limits) inv.0 goes_on,
      sound_at limits inv.0 left r (inv.3 ∙ inv.4) (record { entries = inv.2.entries; position = inv.2.position; well = (well, inr (c.in-Ok.ensures.bytes.1 c.if-count-eq0.true room)) }),
    )

pub returns-in-Err-end-clause-explains : goal.returns-in-Err-end-clause-explains
returns-in-Err-end-clause-explains g c =
    let inv = c.loop-count.invariant in
    let r = c.loop-count.work.reader in
    let kept = c.loop-count.work.kept.items in
    let limits = c.args.work.limits in
    let goes_on = open_at limits inv.0 r kept inv.2 (inv.3 ∙ inv.4) inv.5 in
    let buf = c.read_piece.new.room in
    let had = g.R.Input.remaining c.args.input.now in
    let left = g.R.Input.remaining c.read_piece.new.self in
    let room : 0 < length buf = omega arith in
    let none : inv.0 ++ take c.in-Ok.count buf ≡ inv.0 = ap (λ k. inv.0 ++ take k buf) c.if-count-eq0.true ∙ append-nil inv.0 in
    let fault = c.in-Err-end.fault in
    let bad : ended_so r.at ≡ Err fault = search rules in
    let refusal = c.refusal.result in
    let made = subst (λ l. IsMadeOf fault l r.at kept refusal) inv.4 c.refusal.ensures in (
      inv.0,
      subst (Consumes had left) none (Consumes-trans _ _ _ _ _ inv.1 c.in-Ok.ensures.bytes.0),
      read_all (IsOpenAt limits) inv.0 goes_on,
      refused_at limits inv.0 left r kept fault refusal (inv.3 ∙ inv.4) inv.2 (inr (bad, c.in-Ok.ensures.bytes.1 c.if-count-eq0.true room)) made,
    )

pub loop-count-smaller : goal.loop-count-smaller
loop-count-smaller g c =
    let inv = c.loop-count.invariant in
    let n = c.in-Ok.count in
    let room = c.read_piece.new.room in
    let goes = c.in-Ok-GoesOn.is ∙ ap Ok (rw c.in-Ok-GoesOn.is at c.in-Ok-GoesOn.field-0-is) in
    let new = c.take-next.new.self in
    let taken = subst (λ a. KeepsPiece (inv.0 ++ take n room) a new.reader new.kept.items) goes (c.take-next.ensures.keeps inv.0 inv.2 inv.5) in
    less_left c.loop-count.work.reader new.reader inv.0 (take n room) inv.2.entries taken.0.entries inv.2.position inv.5 taken.0.position taken.1 (piece_some n room c.if-count-eq0.false c.in-Ok.ensures.bound)

pub loop-count-preserved : goal.loop-count-preserved
loop-count-preserved g c =
    let inv = c.loop-count.invariant in
    let n = c.in-Ok.count in
    let room = c.read_piece.new.room in
    let goes = c.in-Ok-GoesOn.is ∙ ap Ok (rw c.in-Ok-GoesOn.is at c.in-Ok-GoesOn.field-0-is) in
    let new = c.take-next.new.self in
    let taken = subst (λ a. KeepsPiece (inv.0 ++ take n room) a new.reader new.kept.items) goes (c.take-next.ensures.keeps inv.0 inv.2 inv.5) in (
      inv.0 ++ take n room,
      Consumes-trans _ _ _ _ _ inv.1 c.in-Ok.ensures.bytes.0,
      taken.0,
      c.take-next.ensures.limits ∙ inv.3 ∙ sym c.take-next.ensures.same,
      c.take-next.ensures.same ∙ inv.4,
      taken.1,
    )

pub returns-in-Ok-Marker-clause-explains : goal.returns-in-Ok-Marker-clause-explains
returns-in-Ok-Marker-clause-explains g c =
    let inv = c.loop-count.invariant in
    let n = c.in-Ok.count in
    let room = c.read_piece.new.room in
    let limits = c.args.work.limits in
    let goes_on = open_at limits inv.0 c.loop-count.work.reader c.loop-count.work.kept.items inv.2 (inv.3 ∙ inv.4) inv.5 in
    let marked = c.in-Ok-Marker.is ∙ ap Ok (rw c.in-Ok-Marker.is at c.in-Ok-Marker.field-0-is) in
    let new = c.take-next.new.self in
    let left = g.R.Input.remaining c.read_piece.new.self in
    let bytes = inv.0 ++ take n room in
    let taken = subst (λ a. KeepsPiece bytes a new.reader new.kept.items) marked (c.take-next.ensures.keeps inv.0 inv.2 inv.5) in
    let at = new.reader.at in (
      bytes,
      Consumes-trans _ _ _ _ _ inv.1 c.in-Ok.ensures.bytes.0,
      read_last (IsOpenAt limits) inv.0 n room (omega arith) c.in-Ok.ensures.bound goes_on,
      sound_at limits bytes left new.reader (c.take-next.ensures.limits ∙ inv.3 ∙ inv.4)
          (record { entries = taken.0.entries; position = taken.0.position; well = (ap (λ v. ended_by v (is_some at.state.schema) at.rest at.place) taken.1, inl taken.1) }),
    )

pub returns-in-Ok-Stopped-clause-explains : goal.returns-in-Ok-Stopped-clause-explains
returns-in-Ok-Stopped-clause-explains g c =
    let inv = c.loop-count.invariant in
    let n = c.in-Ok.count in
    let room = c.read_piece.new.room in
    let limits = c.args.work.limits in
    let goes_on = open_at limits inv.0 c.loop-count.work.reader c.loop-count.work.kept.items inv.2 (inv.3 ∙ inv.4) inv.5 in
    let stopped = c.in-Ok-Stopped.is ∙ ap Ok (rw c.in-Ok-Stopped.is at c.in-Ok-Stopped.field-0-is) in
    let new = c.take-next.new.self in
    let left = g.R.Input.remaining c.read_piece.new.self in
    let bytes = inv.0 ++ take n room in
    let taken = subst (λ a. KeepsPiece bytes a new.reader new.kept.items) stopped (c.take-next.ensures.keeps inv.0 inv.2 inv.5) in (
      bytes,
      Consumes-trans _ _ _ _ _ inv.1 c.in-Ok.ensures.bytes.0,
      read_last (IsOpenAt limits) inv.0 n room (omega arith) c.in-Ok.ensures.bound goes_on,
      sound_at limits bytes left new.reader (c.take-next.ensures.limits ∙ inv.3 ∙ inv.4) (taken left),
    )

pub returns-in-Err-Stream-clause-explains : goal.returns-in-Err-Stream-clause-explains
returns-in-Err-Stream-clause-explains g c =
    let inv = c.loop-count.invariant in
    let n = c.in-Ok.count in
    let room = c.read_piece.new.room in
    let limits = c.args.work.limits in
    let goes_on = open_at limits inv.0 c.loop-count.work.reader c.loop-count.work.kept.items inv.2 (inv.3 ∙ inv.4) inv.5 in
    let stream = c.in-Err-Stream.is ∙ ap Err (rw c.in-Err-Stream.is at c.in-Err-Stream.field-0-is) in
    let new = c.take-next.new.self in
    let left = g.R.Input.remaining c.read_piece.new.self in
    let bytes = inv.0 ++ take n room in
    let taken = subst (λ a. KeepsPiece bytes a new.reader new.kept.items) stream (c.take-next.ensures.keeps inv.0 inv.2 inv.5) in
    let fault = c.in-Err-Stream.fault in
    let refusal = c.refusal-in-Err-Stream.result in
    let made = subst (λ l. IsMadeOf fault l new.reader.at new.kept.items refusal) (c.take-next.ensures.same ∙ inv.4) c.refusal-in-Err-Stream.ensures in (
      bytes,
      Consumes-trans _ _ _ _ _ inv.1 c.in-Ok.ensures.bytes.0,
      read_last (IsOpenAt limits) inv.0 n room (omega arith) c.in-Ok.ensures.bound goes_on,
      refused_at limits bytes left new.reader new.kept.items fault refusal (c.take-next.ensures.limits ∙ inv.3 ∙ inv.4) taken.0 (inl taken.1) made,
    )

pub returns-in-Err-Memory : goal.returns-in-Err-Memory
returns-in-Err-Memory g c =
    let inv = c.loop-count.invariant in
    let n = c.in-Ok.count in
    let room = c.read_piece.new.room in
    let goes_on = open_at c.args.work.limits inv.0 c.loop-count.work.reader c.loop-count.work.kept.items inv.2 (inv.3 ∙ inv.4) inv.5 in
    record {
      explains = (inv.0 ++ take n room, Consumes-trans _ _ _ _ _ inv.1 c.in-Ok.ensures.bytes.0, read_last (IsOpenAt c.args.work.limits) inv.0 n room (omega arith) c.in-Ok.ensures.bound goes_on, tt);
      blameless = tt;
    }

pub returns-in-Err-Refused-clause-explains : goal.returns-in-Err-Refused-clause-explains
returns-in-Err-Refused-clause-explains g c =
    let inv = c.loop-count.invariant in
    let n = c.in-Ok.count in
    let room = c.read_piece.new.room in
    let goes_on = open_at c.args.work.limits inv.0 c.loop-count.work.reader c.loop-count.work.kept.items inv.2 (inv.3 ∙ inv.4) inv.5 in
    (inv.0 ++ take n room, Consumes-trans _ _ _ _ _ inv.1 c.in-Ok.ensures.bytes.0, read_last (IsOpenAt c.args.work.limits) inv.0 n room (omega arith) c.in-Ok.ensures.bound goes_on, tt)
