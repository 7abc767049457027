use Rattle.std.proofs.Common.{◌≡◌, ◌+◌, ◌<◌, length, drop, refl, sym, arith}
use Rattle.std.proofs.lemmas.Result.{err_from_is_err_and}
use Rattle.arrow_stream_reader.specs.Frame.{short_metadata}
use Rattle.arrow_stream_reader.proofs.Firsts.{HasPrefix-append, prefix_held}
use Rattle.arrow_stream_reader.proofs.Decoding.{size_small, metadata_read, metadata_stops, all_taken, filled}
use Rattle.arrow_stream_reader.proofs.decoder.Decoder.read_metadata.Goals as goal

pub returns-then-len-whole : goal.returns-then-len-whole
returns-then-len-whole c =
    let short : length c.fill.new.self.items < 8 + c.args.size = omega (arith, c.len.ensures.count) in
    let held = all_taken c.in_ok-taken.ensures.filled short in
    record {
      works = record {
        same = record { limits = refl; state = refl; place = refl };
        held = held;
        at = record { shown = (prefix_held _ _ held c.requires.known, omega arith); near = omega (arith, (size_small c.requires.known).1); fit = c.requires.fit };
        first = short_metadata (HasPrefix-append c.args.piece.now c.requires.known) (rw (← held) short);
      };
    }

pub read_body-requires-clause-known : goal.read_body-requires-clause-known
read_body-requires-clause-known c =
    let whole : length c.fill.new.self.items ≡ 8 + c.args.size = filled c.in_ok-taken.ensures.filled (omega (arith, c.len.ensures.count)) in
    let known = prefix_held _ _ c.in_ok-taken.ensures.filled.took c.requires.known in
    metadata_read c.as_slice.result.now c.as_slice.ensures.same known whole c.in_ok-message.ensures.says

pub returns-in_err-message : goal.returns-in_err-message
returns-in_err-message c =
    let whole : length c.fill.new.self.items ≡ 8 + c.args.size = filled c.in_ok-taken.ensures.filled (omega (arith, c.len.ensures.count)) in
    let known = prefix_held _ _ c.in_ok-taken.ensures.filled.took c.requires.known in
    let failed = err_from_is_err_and c.from_residual-in_err-message.result c.from_residual-in_err-message.ensures.1 in
    rw (failed.1, failed.2) (record {
      works = metadata_stops c.as_slice.result.now (drop c.in_ok-taken.taken c.args.piece.now) c.in_err-message.field-0.0 c.as_slice.ensures.same known whole c.in_ok-taken.ensures.filled.rest c.in_err-message.ensures.says
          (record {
            same = record { limits = refl; state = refl; place = refl };
            more = drop c.in_ok-taken.taken c.args.piece.now;
            held = sym c.in_ok-taken.ensures.filled.rest;
            covers = omega arith;
            at = record { shown = (known, omega arith); near = omega (arith, (size_small c.requires.known).1); fit = c.requires.fit };
          });
    })
