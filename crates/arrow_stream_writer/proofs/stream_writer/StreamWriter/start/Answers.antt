use Rattle.std.proofs.Common.{◌≡◌, ◌≤◌, ◌^◌, List, [], Ok, refl, sym, ap, ◌∙◌, subst, length}
use Rattle.std.specs.Io.KnownBytes.{Appends}
use Rattle.arrow_body_writer.specs.Align.{alignment_of}
use Rattle.arrow_dict.specs.Tracking.{Tracked}
use Rattle.arrow_meta_reader.specs.Means.{schema}
use Rattle.arrow_sink.specs.Sinks.{AcceptsBeginning}
use Rattle.arrow_types.specs.Schema.{IsNoted}
use Rattle.arrow_stream_laws.specs.Writer.{WriterView}
use Rattle.arrow_sink.specs.declared.status.Status.TheVariants as statuses
use Rattle.arrow_stream_writer.specs.Framing.{PutsMessage}
use Rattle.arrow_stream_writer.specs.Parts.{options_of}
use Rattle.arrow_stream_writer.specs.Terms.{Terms, terms_of}
use Rattle.arrow_stream_writer.proofs.Showing.{HasTerms, start_failed, starts}
use Rattle.arrow_stream_writer.proofs.stream_writer.StreamWriter.start.Goals as goal

-- the schema's frame was accepted
pub returns-in-Ok-send-clause-starts : goal.returns-in-Ok-send-clause-starts
returns-in-Ok-send-clause-starts g c =
    let terms : Terms = record { limits = c.args.limits; align = alignment_of c.args.options.align; shape = c.args.schema.now; updates = c.args.options.updates } in
    let part = c.put_schema.new.self.part.bytes.items in
    let settings = c.put_schema.new.self.settings in
    let new : WriterView = record {
      limits = settings.limits;
      options = options_of (terms_of settings);
      shape = settings.schema.value;
      sent = c.put_schema.new.self.tracker.sent;
      place = c.len-place.result;
      status = statuses.Writing;
      contents = g.S.Sink.contents c.send.new.sink;
      failures = g.S.Sink.failed c.send.new.sink;
    } in
    let before = c.in-Ok.ensures.settings in
    let kept = ap terms_of c.in_default-put_schema.ensures.settings ∙ before in
    let put = subst (λ (u : Terms). PutsMessage u (schema u.shape) [] [] (Ok tt) part) before c.in_default-put_schema.ensures.put in
    let ceiling = subst (λ (u : Terms). u.limits.max_metadata ≤ 2 ^ 30) before c.in_default-put_schema.ensures.ceiling in
    let known = subst (λ (u : Terms). IsNoted u.shape) before c.in_default-put_schema.ensures.known in
    let has : HasTerms terms new = record { limits = ap (λ (u : Terms). u.limits) kept; options = ap options_of kept; shape = ap (λ (u : Terms). u.shape) kept } in
    let more = subst (λ (xs : List _). Appends (g.S.Sink.contents c.args.sink) (g.S.Sink.contents c.send.new.sink) xs) c.deref.ensures.value c.in-Ok-send.ensures.all in
    let none = ap (λ (t : Tracked). t.sent) (c.in_default-put_schema.ensures.tracker ∙ c.in-Ok.ensures.nothing_sent) in
    let long : c.len-place.result ≡ length part = c.len-place.ensures ∙ sym c.deref.ensures.len ∙ ap length c.deref.ensures.value in
    starts terms (g.S.Sink.contents c.args.sink) (g.S.Sink.failed c.args.sink) part new ceiling known put has more none long refl c.in-Ok-send.ensures.fine

-- the sink failed within it
pub returns-in-Err-send-clause-fails : goal.returns-in-Err-send-clause-fails
returns-in-Err-send-clause-fails g c =
    let terms : Terms = record { limits = c.args.limits; align = alignment_of c.args.options.align; shape = c.args.schema.now; updates = c.args.options.updates } in
    let part = c.put_schema.new.self.part.bytes.items in
    let before = c.in-Ok.ensures.settings in
    let put = subst (λ (u : Terms). PutsMessage u (schema u.shape) [] [] (Ok tt) part) before c.in_default-put_schema.ensures.put in
    let ceiling = subst (λ (u : Terms). u.limits.max_metadata ≤ 2 ^ 30) before c.in_default-put_schema.ensures.ceiling in
    let known = subst (λ (u : Terms). IsNoted u.shape) before c.in_default-put_schema.ensures.known in
    let some = subst (λ (xs : List _). AcceptsBeginning (g.S.Sink.contents c.args.sink) (g.S.Sink.contents c.send.new.sink) xs) c.deref.ensures.value c.in-Err-send.ensures.beginning in
    start_failed terms (g.S.Sink.contents c.args.sink) (g.S.Sink.contents c.send.new.sink) (g.S.Sink.failed c.args.sink) (g.S.Sink.failed c.send.new.sink) part ceiling known put some c.in-Err-send.ensures.failed
