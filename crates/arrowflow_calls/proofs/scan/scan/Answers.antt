use Rattle.std.proofs.Common.{◌≡◌, [], None, Ok, Err, ap, ◌∙◌, subst}
use Rattle.arrowflow_input.specs.declared.driver.Progress.TheVariants.{GoesOn, Marker, Stopped}
use Rattle.arrowflow_input.specs.declared.tool_fault.ToolFault.TheVariants.{Stream}
use Rattle.arrowflow_input.proofs.Driving.{marked_here}
use Rattle.arrowflow_calls.specs.Survey.{AllCounted, Counts}
use Rattle.arrowflow_calls.proofs.Surveying.{Taken, bad_counted, none_counted, open_counted}
use Rattle.arrowflow_calls.proofs.scan.scan.Goals as goal

pub returns-in-Ok-Marker-clause-counted : goal.returns-in-Ok-Marker-clause-counted
returns-in-Ok-Marker-clause-counted c =
    let piece = c.take_piece-progress in
    let bytes = c.args.bytes.now in
    let r = piece.new.reader in
    let n = piece.result.0 in
    let marked : piece.result.1 ≡ Ok Marker = c.in-Ok-Marker.is ∙ ap Ok (rw c.in-Ok-Marker.is at c.in-Ok-Marker.field-0-is) in
    let taken = subst (Taken n bytes r) marked (piece.ensures.takes tt [] (none_counted c.args.reader.now c.requires.start)) in
    (c.end.ensures.ends tt bytes None taken.0.entries (marked_here (Counts n) (AllCounted n) bytes None r taken.0 taken.1) taken.0.kept).1

pub returns-in-Ok-GoesOn-clause-counted : goal.returns-in-Ok-GoesOn-clause-counted
returns-in-Ok-GoesOn-clause-counted c =
    let piece = c.take_piece-progress in
    let bytes = c.args.bytes.now in
    let goes : piece.result.1 ≡ Ok GoesOn = c.in-Ok-GoesOn.is ∙ ap Ok (rw c.in-Ok-GoesOn.is at c.in-Ok-GoesOn.field-0-is) in
    let taken = subst (Taken piece.result.0 bytes piece.new.reader) goes (piece.ensures.takes tt [] (none_counted c.args.reader.now c.requires.start)) in
    open_counted piece.result.0 bytes piece.new.reader taken (piece.ensures.open c.requires.open goes)

pub returns-in-Ok-Stopped-clause-counted : goal.returns-in-Ok-Stopped-clause-counted
returns-in-Ok-Stopped-clause-counted c =
    let piece = c.take_piece-progress in
    let stopped : piece.result.1 ≡ Ok Stopped = c.in-Ok-Stopped.is ∙ ap Ok (rw c.in-Ok-Stopped.is at c.in-Ok-Stopped.field-0-is) in
    (subst (Taken piece.result.0 c.args.bytes.now piece.new.reader) stopped (piece.ensures.takes tt [] (none_counted c.args.reader.now c.requires.start)) None).1

pub returns-in-Err-Stream-clause-counted : goal.returns-in-Err-Stream-clause-counted
returns-in-Err-Stream-clause-counted c =
    let piece = c.take_piece-progress in
    let bytes = c.args.bytes.now in
    let fault = c.in-Err-Stream.field-0-0 in
    let refused : piece.result.1 ≡ Err (Stream fault) = c.in-Err-Stream.is ∙ ap Err (rw c.in-Err-Stream.is at c.in-Err-Stream.field-0-is) in
    bad_counted piece.result.0 bytes piece.new.reader fault (subst (Taken piece.result.0 bytes piece.new.reader) refused (piece.ensures.takes tt [] (none_counted c.args.reader.now c.requires.start)))
