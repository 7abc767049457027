use Rattle.std.proofs.lemmas.Result.{on_err_weaker}
use Rattle.arrow_stream_writer.proofs.Pieces.{of_second}
use Rattle.arrow_stream_writer.proofs.sending.send_pieces.Goals as goal

-- the sink failed in the second piece
pub returns-clause-beginning : goal.returns-clause-beginning
returns-clause-beginning g c =
    on_err_weaker c.send-2.result
    (of_second (g.S.Sink.contents c.args.sink.now) (g.S.Sink.contents c.send.new.sink) (g.S.Sink.contents c.send-2.new.sink) c.args.first.now c.args.second.now c.in_ok-send.ensures.all)
    c.send-2.ensures.beginning
