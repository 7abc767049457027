use Rattle.std.proofs.Common.{◌≡◌, ◌+◌, ◌++◌, ◌≤◌, length, take, refl, sym, ap, ◌∙◌, subst, arith, Ok, take-append-drop}
use Rattle.std.proofs.lemmas.Result.{err_from_is_err_and}
use Rattle.arrow_stream_reader.specs.Frame.{HasMetadata, HasPrefix, message_comes}
use Rattle.arrow_stream_reader.specs.Decoder.{Shown}
use Rattle.arrow_stream_reader.specs.Views.{message_of, plain}
use Rattle.arrow_stream_reader.specs.declared.prefix.Prefix.TheVariants as prefixes
use Rattle.arrow_stream_reader.proofs.Firsts.{HasPrefix-take}
use Rattle.arrow_stream_reader.proofs.Decoding.{size_small, frame_small, is_ready, metadata_there, metadata_stops, filled_by, unmoved, body_there, state_kept, stops_there}
use Rattle.arrow_stream_reader.proofs.decoder.Decoder.read_frame_in_place.Goals as goal

pub returns-in_err-message : goal.returns-in_err-message
returns-in_err-message c =
    let head = c.split_at.result.0.now in
    let rest = c.split_at.result.1.now in
    let all : head ++ rest ≡ c.args.piece.now = rw (c.split_at.ensures.front, c.split_at.ensures.back) (take-append-drop (8 + c.args.size) c.args.piece.now) in
    let begun = subst (λ h. HasPrefix c.args.self.now.limits (plain c.args.self.now.state) c.args.self.now.place h (Ok (prefixes.Metadata c.args.size))) (sym c.split_at.ensures.front) (HasPrefix-take (8 + c.args.size) (omega arith) c.requires.whole c.requires.known) in
    let failed = err_from_is_err_and c.from_residual.result c.from_residual.ensures.1 in
    rw (failed.1, failed.2) (record {
      works = metadata_stops head rest c.in_err-message.field-0.0 refl begun c.split_at.ensures.front_len all c.in_err-message.ensures.says
          (unmoved (record { limits = refl; state = refl; place = refl }) c.requires.none c.requires.none c.requires.open (omega (arith, (size_small c.requires.known).1)) c.requires.fit);
    })

pub returns-in_err-fill : goal.returns-in_err-fill
returns-in_err-fill c =
    let failed = err_from_is_err_and c.from_residual-in_err-fill.result c.from_residual-in_err-fill.ensures.1 in
    rw (failed.1, failed.2) (record {
      works = unmoved (record { limits = refl; state = refl; place = refl }) c.requires.none (c.in_err-fill.ensures.unchanged ∙ c.requires.none) c.requires.open (omega (arith, (size_small c.requires.known).1)) c.requires.fit;
    })

pub read_body-requires-clause-known : goal.read_body-requires-clause-known
read_body-requires-clause-known c =
    let head = c.split_at.result.0.now in
    let rest = c.split_at.result.1.now in
    let all : head ++ rest ≡ c.args.piece.now = rw (c.split_at.ensures.front, c.split_at.ensures.back) (take-append-drop (8 + c.args.size) c.args.piece.now) in
    let known = metadata_there head rest c.split_at.ensures.front (sym all) c.requires.known c.requires.whole c.in_ok-message.ensures.says in
    subst (λ h. HasMetadata c.args.self.now.limits (plain c.args.self.now.state) c.args.self.now.place h c.args.size (Ok (message_of c.in_ok-message.message))) (sym (filled_by c.requires.none c.in_ok-fill.ensures.filled)) known.0

pub handle_message-requires-clause-ready : goal.handle_message-requires-clause-ready
handle_message-requires-clause-ready c =
    let head = c.split_at.result.0.now in
    let rest = c.split_at.result.1.now in
    let all : head ++ rest ≡ c.args.piece.now = rw (c.split_at.ensures.front, c.split_at.ensures.back) (take-append-drop (8 + c.args.size) c.args.piece.now) in
    let known = metadata_there head rest c.split_at.ensures.front (sym all) c.requires.known c.requires.whole c.in_ok-message.ensures.says in
    is_ready c.in_ok-message.ensures.ceiling known.1

pub returns-in-Ok : goal.returns-in-Ok
returns-in-Ok c =
    let head = c.split_at.result.0.now in
    let rest = c.split_at.result.1.now in
    let all : head ++ rest ≡ c.args.piece.now = rw (c.split_at.ensures.front, c.split_at.ensures.back) (take-append-drop (8 + c.args.size) c.args.piece.now) in
    let known = metadata_there head rest c.split_at.ensures.front (sym all) c.requires.known c.requires.whole c.in_ok-message.ensures.says in
    let n = c.in_ok-message.message.body_len in
    let whole : 8 + c.args.size + n ≤ length c.args.piece.now = omega (arith, c.if-body_len-rest.false, c.split_at.ensures.back_len) in
    let body = c.lent-body.ensures.same ∙ ap (λ x. take n x) c.split_at.ensures.back in
    record {
      works = record {
        size = 8 + c.args.size + n;
        limits = refl;
        place = ap (λ x. c.args.self.now.place + (x + n)) c.split_at.ensures.front_len;
        covers = omega (arith, ap length c.requires.none);
        held = c.requires.none;
        at = record {
          shown = subst (λ f. Shown c.args.self.now.limits (plain c.handle_message.new.state) (c.args.self.now.place + (length head + n)) c.args.self.now.held.items f) (sym c.requires.open) (omega (arith, ap length c.requires.none));
          near = omega (arith, (frame_small known.1).2, c.split_at.ensures.front_len);
          fit = c.in-Ok.ensures.fit;
        };
        first = message_comes (body_there c.args.self.now c.args.piece.now c.args.size c.in_ok-message.message known.1 whole c.lent-body.result body c.in-Ok.ensures.applies);
      };
    }

pub returns : goal.returns
returns c =
    let head = c.split_at.result.0.now in
    let rest = c.split_at.result.1.now in
    let all : head ++ rest ≡ c.args.piece.now = rw (c.split_at.ensures.front, c.split_at.ensures.back) (take-append-drop (8 + c.args.size) c.args.piece.now) in
    let known = metadata_there head rest c.split_at.ensures.front (sym all) c.requires.known c.requires.whole c.in_ok-message.ensures.says in
    let n = c.in_ok-message.message.body_len in
    let whole : 8 + c.args.size + n ≤ length c.args.piece.now = omega (arith, c.if-body_len-rest.false, c.split_at.ensures.back_len) in
    let body = c.lent-body.ensures.same ∙ ap (λ x. take n x) c.split_at.ensures.back in
    let state = state_kept c.args.self.now c.args.piece.now c.args.size c.in_ok-message.message known.1 whole (plain c.handle_message.new.state) c.lent-body.result c.in-Err.stop c.in-Err.field-0-1 c.in-Err.ensures.applies in
    record {
      works = stops_there c.args.self.now c.args.piece.now c.args.size c.in_ok-message.message known.1 whole (plain c.handle_message.new.state) c.lent-body.result c.in-Err.stop c.in-Err.field-0-1 body c.in-Err.ensures.applies
          (unmoved (record { limits = refl; state = state; place = refl }) c.requires.none c.requires.none c.requires.open (omega (arith, (size_small c.requires.known).1)) c.in-Err.ensures.fit);
    }
