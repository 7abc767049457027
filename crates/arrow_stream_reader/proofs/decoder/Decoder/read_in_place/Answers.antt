use Rattle.std.proofs.Common.{◌≡◌, ◌++◌, length, refl, sym, arith, ap, ◌∙◌, Ok, take-append-drop}
use Rattle.std.proofs.lemmas.Result.{err_from_is_err_and}
use Rattle.arrow_stream_reader.specs.Frame.{bad_prefix, end_marker}
use Rattle.arrow_stream_reader.proofs.Decoding.{prefix_there, marker_small, unmoved}
use Rattle.arrow_stream_reader.proofs.decoder.Decoder.read_in_place.Goals as goal

pub returns-in_err-size : goal.returns-in_err-size
returns-in_err-size c =
    let all : c.args.piece.now ≡ c.split_at.result.0.now ++ c.split_at.result.1.now = rw (c.split_at.ensures.front, c.split_at.ensures.back) (sym (take-append-drop 8 c.args.piece.now)) in
    let known = prefix_there _ c.split_at.result.1.now c.is_some-has_schema.result all c.is_some-has_schema.ensures c.split_at.ensures.front_len c.in_err-size.ensures.says in
    let failed = err_from_is_err_and c.from_residual.result c.from_residual.ensures.1 in
    rw (failed.1, failed.2) (record {
      works = record {
        stopped = unmoved (record { limits = refl; state = refl; place = refl }) c.requires.none c.requires.none c.requires.open c.requires.near c.requires.fit;
        first = bad_prefix known;
      };
    })

pub returns-in_err-fill-in-Metadata-2 : goal.returns-in_err-fill-in-Metadata-2
returns-in_err-fill-in-Metadata-2 c =
    let failed = err_from_is_err_and c.from_residual-in_err-fill-in-Metadata-2.result c.from_residual-in_err-fill-in-Metadata-2.ensures.1 in
    rw (failed.1, failed.2) (record {
      works = unmoved (record { limits = refl; state = refl; place = refl }) c.requires.none (c.in_err-fill-in-Metadata-2.ensures.unchanged ∙ c.requires.none) c.requires.open c.requires.near c.requires.fit;
    })

pub returns-in-EndMarker : goal.returns-in-EndMarker
returns-in-EndMarker c =
    let all : c.args.piece.now ≡ c.split_at.result.0.now ++ c.split_at.result.1.now = rw (c.split_at.ensures.front, c.split_at.ensures.back) (sym (take-append-drop 8 c.args.piece.now)) in
    let known = prefix_there _ c.split_at.result.1.now c.is_some-has_schema.result all c.is_some-has_schema.ensures c.split_at.ensures.front_len (ap Ok (sym c.in-EndMarker.is) ∙ c.in_ok-size.ensures.says) in
    record {
      works = record {
        same = record { limits = refl; state = refl; place = refl };
        covers = omega (arith, ap length c.requires.none);
        near = marker_small known;
        first = end_marker known;
      };
    }
