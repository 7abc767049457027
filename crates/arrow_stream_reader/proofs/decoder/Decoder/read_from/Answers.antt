use Rattle.std.proofs.Common.{◌+◌, ◌<◌, length, refl, sym, subst, arith}
use Rattle.arrow_stream_reader.specs.Frame.{short_body}
use Rattle.arrow_stream_reader.specs.Views.{plain}
use Rattle.arrow_stream_reader.specs.Decoder.{Shown}
use Rattle.arrow_stream_reader.proofs.Firsts.{HasMetadata-append, metadata_held}
use Rattle.arrow_stream_reader.proofs.BodyReading.{of_read}
use Rattle.arrow_stream_reader.proofs.Decoding.{frame_small}
use Rattle.arrow_stream_reader.proofs.decoder.Decoder.read_from.Goals as goal

pub overflow_add-whole-2 : goal.overflow_add-whole-2
overflow_add-whole-2 g c =
    let old = c.args.self.now in
    let shown = subst (λ f. Shown old.limits (plain old.state) old.place old.held.items f) c.in-Body.is c.requires.at.shown in
    omega (arith, (frame_small shown.0).2)

-- the message still waits for its last bytes
pub returns-clause-read : goal.returns-clause-read
returns-clause-read g c =
    let old = c.args.self.now in
    let held = c.fill_from.new.self.items in
    let whole = 8 + c.in-Body.size + c.in-Body.message.body_len in
    let shown = subst (λ f. Shown old.limits (plain old.state) old.place old.held.items f) c.in-Body.is c.requires.at.shown in
    of_read c.fill_from.result (λ n x.
    let added = x.added in
    let short : length held < whole = omega (arith, x.within) in
    record {
      piece = x.piece;
      read = x.read;
      waited = record {
        same = record { limits = refl; state = refl; place = refl };
        held = added;
        at = record {
          shown = subst (λ f. Shown old.limits (plain old.state) old.place held f) (sym c.in-Body.is) (metadata_held _ _ added shown.0, omega (arith, short), shown.2);
          near = c.requires.at.near;
          fit = c.requires.at.fit;
        };
        first = short_body (HasMetadata-append x.piece shown.0) (rw (← added) short);
      };
    }) c.fill_from.ensures.read
