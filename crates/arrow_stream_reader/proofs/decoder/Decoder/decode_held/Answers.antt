use Rattle.std.proofs.Common.{◌+◌, length, refl, ap, arith}
use Rattle.arrow_stream_reader.proofs.Decoding.{frame_small, is_ready, body_said, not_finished}
use Rattle.arrow_stream_reader.proofs.decoder.Decoder.decode_held.Goals as goal

pub handle_message-requires-clause-ready : goal.handle_message-requires-clause-ready
handle_message-requires-clause-ready c = is_ready c.requires.ceiling c.requires.known

pub returns-in-Ok : goal.returns-in-Ok
returns-in-Ok c = record {
  finishes = record {
    limits = refl;
    place = ap (λ n. c.args.self.now.place + n) c.len.ensures.count;
    held = c.clear.ensures.items;
    at = record {
      shown = omega (arith, ap length c.clear.ensures.items);
      near = omega (arith, c.len.ensures.count, c.requires.whole, (frame_small c.requires.known).2);
      fit = c.in-Ok.ensures.fit;
    };
    body = body_said c.body-body.result c.body-body.ensures.body c.requires.known c.requires.whole c.in-Ok.ensures.applies;
  };
}

pub returns-in-Err : goal.returns-in-Err
returns-in-Err c = record {
  finishes = not_finished c.args.self.now c.handle_message.new.state c.args.size c.args.message c.in-Err.content c.requires.known c.requires.whole c.body-body.result c.in-Err.stop c.body-body.ensures.body c.requires.ceiling c.in-Err.ensures.fit c.in-Err.ensures.applies;
}
