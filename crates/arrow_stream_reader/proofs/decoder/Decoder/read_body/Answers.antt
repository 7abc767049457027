use Rattle.std.proofs.Common.{◌≡◌, ◌+◌, ◌<◌, ◌++◌, length, drop, refl, ap, sym, ◌∙◌, arith}
use Rattle.arrow_stream_reader.specs.Frame.{short_body}
use Rattle.arrow_stream_reader.specs.Views.{message_of}
use Rattle.arrow_stream_reader.proofs.Firsts.{HasMetadata-append, metadata_held}
use Rattle.arrow_stream_reader.proofs.Decoding.{frame_small, finish_works, all_taken, filled}
use Rattle.arrow_stream_reader.proofs.decoder.Decoder.read_body.Goals as goal

pub overflow_add-whole : goal.overflow_add-whole
overflow_add-whole c = let w = frame_small c.requires.known in omega arith

pub returns-then-len-whole : goal.returns-then-len-whole
returns-then-len-whole c =
    let short : length c.fill.new.self.items < 8 + c.args.size + c.args.message.body_len = omega (arith, c.len.ensures.count) in
    let held = all_taken c.in-Ok.ensures.filled short in
    record {
      works = record {
        same = record { limits = refl; state = refl; place = refl };
        held = held;
        at = record { shown = (metadata_held _ _ held c.requires.known, omega arith, c.requires.ceiling); near = omega (arith, (frame_small c.requires.known).2); fit = c.requires.fit };
        first = short_body (HasMetadata-append c.args.piece.now c.requires.known) (rw (← held) short);
      };
    }

pub returns-in_default-make_shared : goal.returns-in_default-make_shared
returns-in_default-make_shared c =
    let more = drop c.in-Ok.field-0 c.args.piece.now in
    let same = c.make_shared.ensures.same in
    let whole : length c.fill.new.self.items ≡ 8 + c.args.size + c.args.message.body_len = filled c.in-Ok.ensures.filled (omega (arith, c.len.ensures.count)) in
    let all : length c.make_shared.new.self.items ≡ 8 + c.args.size + c.args.message.body_len = ap length same ∙ whole in
    record {
      works = record {
        same = record { limits = refl; state = refl; place = refl };
        more = more;
        held = sym c.in-Ok.ensures.filled.rest ∙ ap (λ x. x ++ more) (sym same);
        covers = omega (arith, all, c.requires.within);
        at = record { shown = (metadata_held _ _ (same ∙ c.in-Ok.ensures.filled.took) c.requires.known, omega (arith, all), c.requires.ceiling); near = omega (arith, (frame_small c.requires.known).2); fit = c.requires.fit };
      };
    }

pub decode_held-requires-clause-known : goal.decode_held-requires-clause-known
decode_held-requires-clause-known c = metadata_held _ _ (c.make_shared.ensures.same ∙ c.in-Ok.ensures.filled.took) c.requires.known

pub returns : goal.returns
returns c =
    let more = drop c.in-Ok.field-0 c.args.piece.now in
    let same = c.make_shared.ensures.same in
    let items = c.make_shared.new.self.items in
    let whole : length c.fill.new.self.items ≡ 8 + c.args.size + c.args.message.body_len = filled c.in-Ok.ensures.filled (omega (arith, c.len.ensures.count)) in
    let all : length items ≡ 8 + c.args.size + c.args.message.body_len = ap length same ∙ whole in
    record {
      works = finish_works c.args.self.now c.make_shared.new.self c.args.self.now.phase c.decode_held.new.self (c.args.self.now.held.items ++ c.args.piece.now) more c.args.size (message_of c.args.message) c.decode_held.result
          (ap (λ x. x ++ more) same ∙ c.in-Ok.ensures.filled.rest) (omega (arith, all, c.requires.within)) all c.decode_held.ensures.finishes;
    }
