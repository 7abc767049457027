use Rattle.std.proofs.Common.{◌++◌}
use Rattle.arrowflow_input.proofs.Kept.{out_given, piece_inside, piece_kept}
use Rattle.arrowflow_input.proofs.session.feed.Goals as goal

pub returns-then-needs_memory-clause-inside : goal.returns-then-needs_memory-clause-inside
returns-then-needs_memory-clause-inside c t out =
    let taken = c.take_piece-handed.ensures.takes tt t (out_given c.args.handed.items t c.args.reader.now out) in
    piece_inside c.take_piece-handed.result.0.items (t ++ c.args.piece.now) c.take_piece-handed.new.reader c.take_piece-handed.result.1 taken c.if-needs_memory.ensures

pub returns-clause-feeds : goal.returns-clause-feeds
returns-clause-feeds c t out =
    let taken = c.take_piece-handed.ensures.takes tt t (out_given c.args.handed.items t c.args.reader.now out) in
    piece_kept c.take_piece-handed.result.0.items (t ++ c.args.piece.now) c.take_piece-handed.new.reader c.take_piece-handed.result.1 taken c.if-needs_memory.ensures
