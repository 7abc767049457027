use Rattle.std.proofs.Common.{◌≡◌, ◌<◌, length, drop, refl, sym, ap, ◌∙◌, arith, Ok}
use Rattle.std.proofs.lemmas.Result.{err_from_is_err_and}
use Rattle.arrow_stream_reader.specs.Frame.{short_prefix, bad_prefix, end_marker}
use Rattle.arrow_stream_reader.proofs.Firsts.{prefix_held}
use Rattle.arrow_stream_reader.proofs.Decoding.{prefix_read, marker_small, all_taken, filled}
use Rattle.arrow_stream_reader.proofs.decoder.Decoder.read_prefix.Goals as goal

pub returns-then-len-lt8 : goal.returns-then-len-lt8
returns-then-len-lt8 c =
    let short : length c.fill.new.self.items < 8 = omega (arith, c.len.ensures.count) in
    let held = all_taken c.in_ok-taken.ensures.filled short in
    record {
      works = record {
        same = record { limits = refl; state = refl; place = refl };
        held = held;
        at = record { shown = omega arith; near = omega arith; fit = c.requires.fit };
        first = short_prefix (rw (← held) short);
      };
    }

pub returns-in-EndMarker : goal.returns-in-EndMarker
returns-in-EndMarker c =
    let whole : length c.fill.new.self.items ≡ 8 = filled c.in_ok-taken.ensures.filled (omega (arith, c.len.ensures.count)) in
    let known = prefix_read c.as_slice.result.now c.is_some-has_schema.result c.as_slice.ensures.same c.is_some-has_schema.ensures whole (ap Ok (sym c.in-EndMarker.is) ∙ c.in_ok-size.ensures.says) in
    record {
      works = record {
        same = record { limits = refl; state = refl; place = refl };
        covers = omega arith;
        near = marker_small known;
        first = end_marker (prefix_held _ (drop c.in_ok-taken.taken c.args.piece.now) (sym c.in_ok-taken.ensures.filled.rest) known);
      };
    }

pub returns-in_err-size : goal.returns-in_err-size
returns-in_err-size c =
    let whole : length c.fill.new.self.items ≡ 8 = filled c.in_ok-taken.ensures.filled (omega (arith, c.len.ensures.count)) in
    let known = prefix_read c.as_slice.result.now c.is_some-has_schema.result c.as_slice.ensures.same c.is_some-has_schema.ensures whole c.in_err-size.ensures.says in
    let failed = err_from_is_err_and c.from_residual-in_err-size.result c.from_residual-in_err-size.ensures.1 in
    rw (failed.1, failed.2) (record {
      works = record {
        stopped = record {
          same = record { limits = refl; state = refl; place = refl };
          more = drop c.in_ok-taken.taken c.args.piece.now;
          held = sym c.in_ok-taken.ensures.filled.rest;
          covers = omega arith;
          at = record { shown = omega arith; near = omega arith; fit = c.requires.fit };
        };
        first = bad_prefix (prefix_held _ (drop c.in_ok-taken.taken c.args.piece.now) (sym c.in_ok-taken.ensures.filled.rest) known);
      };
    })
