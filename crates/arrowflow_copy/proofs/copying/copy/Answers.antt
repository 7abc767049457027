use Rattle.std.proofs.Common.{◌≡◌, ◌∙◌, refl, sym, ap, subst}
use Rattle.std.specs.Prelude.{OnOk}
use Rattle.arrow_stream_reader.specs.Stream.{ReaderView}
use Rattle.arrow_stream_writer.specs.Shown.{options_view}
use Rattle.arrowflow_input.specs.Reads.{IsReadWhile}
use Rattle.arrowflow_input.specs.Endings.{IsOpenAt}
use Rattle.arrowflow_input.proofs.Driving.{read_while_so}
use Rattle.arrowflow_copy.specs.Copy.{Copies}
use Rattle.arrowflow_copy.specs.Copying.{Began, failures_at}
use Rattle.arrowflow_copy.specs.WriterState.{IsPassedOn, at_of}
use Rattle.arrowflow_copy.proofs.Copied.{call_through, failures_are, held_is}
use Rattle.arrowflow_copy.proofs.copying.copy.Goals as goal

pub returns-clause-written : goal.returns-clause-written
returns-clause-written g c =
    let output = c.args.output in
    let limits = c.args.limits.now in
    let options = options_view c.args.options in
    let began : Began = record { limits = limits; options = options; first = g.S.Sink.contents output; failures = g.S.Sink.failed output } in
    let had = g.R.Input.remaining c.args.input.now in
    let left = g.R.Input.remaining c.drive-copier.new.input in
    let own = c.new-reader.result.limits in
    let limits_are : own ≡ limits = ap (λ (r : ReaderView). r.limits) c.new-reader.ensures.fresh in
    let copied = c.drive-copier.result.0 in
    let answer = c.drive-copier.result.1 in
    let driven = c.drive-copier.ensures.driven began (refl, refl, record { limits_are = limits_are; counted = refl; written = (refl, refl, refl) }) in
    let at = at_of g.S.Sink.contents g.S.Sink.failed copied.target in
    let called = call_through began copied.terms.limits (options_view copied.terms.options) at copied.number (IsPassedOn g.S.Sink.is_passed_on copied.target) driven.0 left c.drive-copier.new.reader answer driven.3 in
    let held = held_is g.S.Sink.contents g.S.Sink.failed copied.target ∙ ap g.S.Sink.contents (sym c.into_sink.ensures) in
    let failed = failures_are g.S.Sink.contents g.S.Sink.failed copied.target ∙ ap g.S.Sink.failed (sym c.into_sink.ensures) in (
      driven.0,
      driven.1,
      subst (λ l. IsReadWhile (IsOpenAt l) driven.0) limits_are (read_while_so (λ t more. record { entries = more.entries; snapshot = more.snapshot; front = more.front; goes_on = more.is_open }) driven.2),
      subst (λ k. Copies limits options driven.0 left began.first began.failures answer (g.S.Sink.contents c.into_sink.result) k) failed
          (subst (λ h. Copies limits options driven.0 left began.first began.failures answer h (failures_at at)) held called.0),
    )

pub returns-clause-passed : goal.returns-clause-passed
returns-clause-passed g c =
    let output = c.args.output in
    let limits = c.args.limits.now in
    let options = options_view c.args.options in
    let began : Began = record { limits = limits; options = options; first = g.S.Sink.contents output; failures = g.S.Sink.failed output } in
    let had = g.R.Input.remaining c.args.input.now in
    let left = g.R.Input.remaining c.drive-copier.new.input in
    let own = c.new-reader.result.limits in
    let limits_are : own ≡ limits = ap (λ (r : ReaderView). r.limits) c.new-reader.ensures.fresh in
    let copied = c.drive-copier.result.0 in
    let answer = c.drive-copier.result.1 in
    let driven = c.drive-copier.ensures.driven began (refl, refl, record { limits_are = limits_are; counted = refl; written = (refl, refl, refl) }) in
    let at = at_of g.S.Sink.contents g.S.Sink.failed copied.target in
    let called = call_through began copied.terms.limits (options_view copied.terms.options) at copied.number (IsPassedOn g.S.Sink.is_passed_on copied.target) driven.0 left c.drive-copier.new.reader answer driven.3 in
    subst (λ s. OnOk answer (g.S.Sink.is_passed_on s)) (sym c.into_sink.ensures) called.1
