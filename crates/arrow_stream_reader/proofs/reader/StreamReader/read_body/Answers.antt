use Rattle.std.proofs.Common.{◌≡◌, [], ◌++◌, ap, sym, ◌∙◌, subst, append-nil}
use Rattle.std.proofs.lemmas.List.{nil_from_length}
use Rattle.arrow_stream_reader.specs.declared.reader.Verdict.TheVariants.{Open}
use Rattle.arrow_stream_reader.specs.Decoder.{verdict_of}
use Rattle.arrow_stream_reader.specs.Stream.{IsReaderAt}
use Rattle.arrow_stream_reader.specs.Views.{plain}
use Rattle.arrow_stream_reader.proofs.BodyReading.{of_read}
use Rattle.arrow_stream_reader.proofs.Decoding.{is_open}
use Rattle.arrow_stream_reader.proofs.Streams.{same_shows, short_position}
use Rattle.arrow_stream_reader.proofs.reader.StreamReader.read_body.Goals as goal

-- as after a piece that completes no message
pub returns-in-Open-clause-reads : goal.returns-in-Open-clause-reads
returns-in-Open-clause-reads g c =
    let w = c.self.inside.decoder in
    let v = c.read_from.new.self in
    let goes_on : c.args.self.now.at.verdict ≡ Open = sym c.verdict.ensures.same ∙ c.in-Open.is in
    let open_now : verdict_of w.phase ≡ Open = ap (λ r. r.at.verdict) c.self.view_is ∙ goes_on in
    of_read c.read_from.result (λ n x. record {
      piece = x.piece;
      read = x.read;
      is_open = goes_on;
      stays_open = is_open v x.waited.at;
      none = λ z.
          let empty : x.piece ≡ [] = nil_from_length x.piece (x.read.size ∙ z) in
          let held : v.held.items ≡ w.held.items = x.waited.held ∙ ap (λ xs. w.held.items ++ xs) empty ∙ append-nil w.held.items in
          same_shows v (verdict_of v.phase) w.limits (plain w.state) w.place w.held.items (verdict_of w.phase) x.waited.same.limits x.waited.same.state x.waited.same.place held (is_open v x.waited.at ∙ sym open_now) ∙ c.self.view_is;
      position = λ t es at. short_position w (c.self.invariant.waiting open_now) x.piece (verdict_of w.phase) open_now t es (subst (λ r. IsReaderAt r t es) (sym c.self.view_is) at) v x.waited;
    }) c.read_from.ensures.read
