use Rattle.std.proofs.Common.{◌≡◌, ◌++◌, [], take, Ok, Err, refl, sym, ap, ◌∙◌, subst, append-nil, arith, rules, length-take-le}
use Rattle.std.specs.Io.KnownBytes.{Consumes}
use Rattle.std.proofs.KnownBytes.{Consumes-kept, Consumes-nil, Consumes-trans}
use Rattle.arrow_stream_reader.specs.Stream.{ended_so}
use Rattle.arrowflow_input.specs.Driver.{AreGiven, CallForMore, Driven, PieceTaken}
use Rattle.arrowflow_input.specs.Session.{IsReaderAfter}
use Rattle.arrowflow_input.proofs.Driving.{call_for_more, driven_by, ended_early, ended_here, given_still, marked_here, not_read, nothing_given, piece_ended}
use Rattle.arrowflow_input.proofs.Reading.{less_left, read_all, read_last}
use Rattle.arrowflow_input.proofs.driver.drive_pieces.Goals as goal

pub loop-count-init : goal.loop-count-init
loop-count-init g c =
    let r = c.args.reader.now in
    ([], Consumes-nil (g.R.Input.remaining c.args.input.now), λ start kept. nothing_given (g.C.Consumer.keeps start c.args.consumer) r c.requires.start kept, ([], c.requires.start), refl, c.requires.open, c.requires.ready)

-- nothing was read
pub returns-in-Err-clause-driven : goal.returns-in-Err-clause-driven
returns-in-Err-clause-driven g c start kept =
    let inv = c.loop-count.invariant in
    let given = inv.2 start kept in
    let keeps = g.C.Consumer.keeps start in
    let r = c.read_piece.new.reader in
    let fails = c.in-Err.ensures.fails in (
      inv.0,
      Consumes-kept _ _ _ _ inv.1 fails.kept,
      read_all (CallForMore keeps c.args.reader.now.limits) inv.0 (call_for_more keeps c.loop-count.consumer c.args.reader.now.limits inv.0 c.loop-count.reader given inv.4 inv.5),
      not_read (keeps c.loop-count.consumer) (g.C.Consumer.answers start c.loop-count.consumer) inv.0 (g.R.Input.remaining c.read_piece.new.input) r c.in-Err.fault fails.why
          (subst (AreGiven (keeps c.loop-count.consumer) inv.0) (sym fails.same) given) (ap (λ r. r.at.verdict) fails.same ∙ inv.5),
    )

-- the reader has taken bytes of a body
pub loop-count-smaller-in-Ok-InReader : goal.loop-count-smaller-in-Ok-InReader
loop-count-smaller-in-Ok-InReader g c =
    let inv = c.loop-count.invariant in
    let reads = rw c.in-Ok-InReader.field-0-is at c.in-Ok-InReader.ensures.reads in
    let x = reads.2 in
    less_left c.loop-count.reader c.read_piece.new.reader inv.0 x.piece inv.3.0 inv.3.0 inv.3.1 inv.5 (x.position inv.0 inv.3.0 inv.3.1) x.stays_open (omega (arith, x.read.size, reads.1))

pub loop-count-preserved-in-Ok-InReader : goal.loop-count-preserved-in-Ok-InReader
loop-count-preserved-in-Ok-InReader g c =
    let inv = c.loop-count.invariant in
    let reads = rw c.in-Ok-InReader.field-0-is at c.in-Ok-InReader.ensures.reads in
    let x = reads.2 in
    let limits = c.in-Ok-InReader.ensures.limits in (
      inv.0 ++ x.piece,
      Consumes-trans _ _ _ _ _ inv.1 x.read.consumed,
      λ start kept. let given = inv.2 start kept in given_still (g.C.Consumer.keeps start c.loop-count.consumer) c.loop-count.reader c.read_piece.new.reader inv.0 x.piece limits given (x.position inv.0 given.entries given.position),
      (inv.3.0, x.position inv.0 inv.3.0 inv.3.1),
      limits ∙ inv.4,
      x.stays_open,
      inv.6,
    )

-- the input has ended
pub end-requires-in-Ok : goal.end-requires-in-Ok
end-requires-in-Ok g c = record { ready = c.loop-count.invariant.6 }

pub returns-in-Ok-clause-driven : goal.returns-in-Ok-clause-driven
returns-in-Ok-clause-driven g c start kept =
    let inv = c.loop-count.invariant in
    let before = inv.2 start kept in
    let keeps = g.C.Consumer.keeps start in
    let r = c.read_piece.new.reader in
    let had = g.R.Input.remaining c.args.input.now in
    let left = g.R.Input.remaining c.read_piece.new.input in
    let reads = rw c.in-Ok-End.field-0-is at c.in-Ok-End.ensures.reads in
    let given = subst (AreGiven (keeps c.loop-count.consumer) inv.0) (sym reads.0) before in
    let well : ended_so r.at ≡ Ok tt = search rules in
    let ended = ended_here (keeps c.loop-count.consumer) (g.C.Consumer.answers start c.loop-count.consumer) inv.0 left r given well (ap (λ r. r.at.verdict) reads.0 ∙ inv.5) reads.2 in (
      inv.0,
      subst (Consumes had left) (append-nil inv.0) (Consumes-trans _ _ _ _ _ inv.1 reads.1),
      read_all (CallForMore keeps c.args.reader.now.limits) inv.0 (call_for_more keeps c.loop-count.consumer c.args.reader.now.limits inv.0 c.loop-count.reader before inv.4 inv.5),
      driven_by (keeps c.end-in-Ok.result.0) (g.C.Consumer.answers start c.end-in-Ok.result.0) inv.0 left r c.end-in-Ok.result.1 (c.end-in-Ok.ensures.ends start inv.0 left given.entries ended given.kept),
    )

pub returns-in-Err-end-clause-driven : goal.returns-in-Err-end-clause-driven
returns-in-Err-end-clause-driven g c start kept =
    let inv = c.loop-count.invariant in
    let before = inv.2 start kept in
    let keeps = g.C.Consumer.keeps start in
    let answers = g.C.Consumer.answers start c.loop-count.consumer in
    let r = c.read_piece.new.reader in
    let had = g.R.Input.remaining c.args.input.now in
    let left = g.R.Input.remaining c.read_piece.new.input in
    let reads = rw c.in-Ok-End.field-0-is at c.in-Ok-End.ensures.reads in
    let given = subst (AreGiven (keeps c.loop-count.consumer) inv.0) (sym reads.0) before in
    let bad : ended_so r.at ≡ Err c.in-Err-end.fault = search rules in (
      inv.0,
      subst (Consumes had left) (append-nil inv.0) (Consumes-trans _ _ _ _ _ inv.1 reads.1),
      read_all (CallForMore keeps c.args.reader.now.limits) inv.0 (call_for_more keeps c.loop-count.consumer c.args.reader.now.limits inv.0 c.loop-count.reader before inv.4 inv.5),
      subst (λ f. Driven (keeps c.loop-count.consumer) answers inv.0 left r (Err f)) (sym c.from.ensures)
          (ended_early (keeps c.loop-count.consumer) answers inv.0 left r given reads.2 c.in-Err-end.fault bad),
    )

-- bytes came into the buffer
pub take_piece-next-requires : goal.take_piece-next-requires
take_piece-next-requires g c = record { ready = c.loop-count.invariant.6 }

pub loop-count-smaller : goal.loop-count-smaller
loop-count-smaller g c =
    let inv = c.loop-count.invariant in
    let n = c.in-Ok-InBuffer.count in
    let room = c.read_piece.new.room in
    let reads = rw c.in-Ok-InBuffer.field-0-is at c.in-Ok-InBuffer.ensures.reads in
    let goes = c.in-Ok-GoesOn.is ∙ ap Ok (rw c.in-Ok-GoesOn.is at c.in-Ok-GoesOn.field-0-is) in
    let before = subst (IsReaderAfter inv.0) (sym reads.0) inv.3 in
    let is_open = ap (λ r. r.at.verdict) reads.0 ∙ inv.5 in
    let position = c.take_piece-next.ensures.position inv.0 before goes in
    less_left c.loop-count.reader c.take_piece-next.new.reader inv.0 (take n room) inv.3.0 position.0 inv.3.1 inv.5 position.1 (c.take_piece-next.ensures.open is_open goes) (omega (arith, length-take-le n room reads.2, reads.1))

pub loop-count-preserved : goal.loop-count-preserved
loop-count-preserved g c =
    let inv = c.loop-count.invariant in
    let reads = rw c.in-Ok-InBuffer.field-0-is at c.in-Ok-InBuffer.ensures.reads in
    let bytes = inv.0 ++ take c.in-Ok-InBuffer.count c.read_piece.new.room in
    let goes = c.in-Ok-GoesOn.is ∙ ap Ok (rw c.in-Ok-GoesOn.is at c.in-Ok-GoesOn.field-0-is) in
    let keeps = g.C.Consumer.keeps in
    let is_open = ap (λ r. r.at.verdict) reads.0 ∙ inv.5 in (
      bytes,
      Consumes-trans _ _ _ _ _ inv.1 reads.3,
      λ start kept. subst (PieceTaken (keeps start c.take_piece-next.result.0) (g.C.Consumer.answers start c.take_piece-next.result.0) bytes c.take_piece-next.new.reader) goes
          (c.take_piece-next.ensures.takes start inv.0 (subst (AreGiven (keeps start c.loop-count.consumer) inv.0) (sym reads.0) (inv.2 start kept))),
      c.take_piece-next.ensures.position inv.0 (subst (IsReaderAfter inv.0) (sym reads.0) inv.3) goes,
      c.take_piece-next.ensures.limits ∙ ap (λ r. r.limits) reads.0 ∙ inv.4,
      c.take_piece-next.ensures.open is_open goes,
      c.take_piece-next.ensures.goes_on goes,
    )

pub returns-in-Ok-Marker-clause-driven : goal.returns-in-Ok-Marker-clause-driven
returns-in-Ok-Marker-clause-driven g c start kept =
    let inv = c.loop-count.invariant in
    let before = inv.2 start kept in
    let keeps = g.C.Consumer.keeps start in
    let new = c.take_piece-next.new.reader in
    let next = c.take_piece-next.result.0 in
    let left = g.R.Input.remaining c.read_piece.new.input in
    let n = c.in-Ok-InBuffer.count in
    let room = c.read_piece.new.room in
    let bytes = inv.0 ++ take n room in
    let reads = rw c.in-Ok-InBuffer.field-0-is at c.in-Ok-InBuffer.ensures.reads in
    let given = subst (AreGiven (keeps c.loop-count.consumer) inv.0) (sym reads.0) before in
    let marked = c.in-Ok-Marker.is ∙ ap Ok (rw c.in-Ok-Marker.is at c.in-Ok-Marker.field-0-is) in
    let taken = subst (PieceTaken (keeps next) (g.C.Consumer.answers start next) bytes new) marked (c.take_piece-next.ensures.takes start inv.0 given) in
    let ended = marked_here (keeps next) (g.C.Consumer.answers start next) bytes left new taken.0 taken.1 in (
      bytes,
      Consumes-trans _ _ _ _ _ inv.1 reads.3,
      read_last (CallForMore keeps c.args.reader.now.limits) inv.0 n room (omega arith) (reads.2, sym (length-take-le n room reads.2)) (call_for_more keeps c.loop-count.consumer c.args.reader.now.limits inv.0 c.loop-count.reader before inv.4 inv.5),
      driven_by (keeps c.end-in-Ok-Marker.result.0) (g.C.Consumer.answers start c.end-in-Ok-Marker.result.0) bytes left new c.end-in-Ok-Marker.result.1 (c.end-in-Ok-Marker.ensures.ends start bytes left taken.0.entries ended taken.0.kept),
    )

pub returns-in-Ok-Stopped-clause-driven : goal.returns-in-Ok-Stopped-clause-driven
returns-in-Ok-Stopped-clause-driven g c start kept =
    let inv = c.loop-count.invariant in
    let before = inv.2 start kept in
    let keeps = g.C.Consumer.keeps start in
    let next = c.take_piece-next.result.0 in
    let left = g.R.Input.remaining c.read_piece.new.input in
    let n = c.in-Ok-InBuffer.count in
    let room = c.read_piece.new.room in
    let bytes = inv.0 ++ take n room in
    let reads = rw c.in-Ok-InBuffer.field-0-is at c.in-Ok-InBuffer.ensures.reads in
    let given = subst (AreGiven (keeps c.loop-count.consumer) inv.0) (sym reads.0) before in
    let stopped = c.in-Ok-Stopped.is ∙ ap Ok (rw c.in-Ok-Stopped.is at c.in-Ok-Stopped.field-0-is) in (
      bytes,
      Consumes-trans _ _ _ _ _ inv.1 reads.3,
      read_last (CallForMore keeps c.args.reader.now.limits) inv.0 n room (omega arith) (reads.2, sym (length-take-le n room reads.2)) (call_for_more keeps c.loop-count.consumer c.args.reader.now.limits inv.0 c.loop-count.reader before inv.4 inv.5),
      subst (PieceTaken (keeps next) (g.C.Consumer.answers start next) bytes c.take_piece-next.new.reader) stopped (c.take_piece-next.ensures.takes start inv.0 given) left,
    )

pub returns-in-Err-progress-clause-driven : goal.returns-in-Err-progress-clause-driven
returns-in-Err-progress-clause-driven g c start kept =
    let inv = c.loop-count.invariant in
    let before = inv.2 start kept in
    let keeps = g.C.Consumer.keeps start in
    let next = c.take_piece-next.result.0 in
    let left = g.R.Input.remaining c.read_piece.new.input in
    let n = c.in-Ok-InBuffer.count in
    let room = c.read_piece.new.room in
    let bytes = inv.0 ++ take n room in
    let reads = rw c.in-Ok-InBuffer.field-0-is at c.in-Ok-InBuffer.ensures.reads in
    let given = subst (AreGiven (keeps c.loop-count.consumer) inv.0) (sym reads.0) before in (
      bytes,
      Consumes-trans _ _ _ _ _ inv.1 reads.3,
      read_last (CallForMore keeps c.args.reader.now.limits) inv.0 n room (omega arith) (reads.2, sym (length-take-le n room reads.2)) (call_for_more keeps c.loop-count.consumer c.args.reader.now.limits inv.0 c.loop-count.reader before inv.4 inv.5),
      piece_ended (keeps next) (g.C.Consumer.answers start next) bytes left c.take_piece-next.new.reader c.in-Err-progress.fault
          (subst (PieceTaken (keeps next) (g.C.Consumer.answers start next) bytes c.take_piece-next.new.reader) c.in-Err-progress.is (c.take_piece-next.ensures.takes start inv.0 given)),
    )
