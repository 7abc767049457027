use Rattle.std.proofs.Common.{◌≡◌, [], None, ◌∙◌, refl, sym, ap, subst}
use Rattle.std.specs.Prelude.{OnOk}
use Rattle.arrow_stream_reader.specs.Stream.{ReaderView}
use Rattle.arrow_stream_writer.specs.Shown.{options_view}
use Rattle.arrowflow_input.specs.Driver.{CallForMore}
use Rattle.arrowflow_input.specs.Endings.{IsOpenAt}
use Rattle.arrowflow_input.specs.Within.{Within, left_of}
use Rattle.arrowflow_input.proofs.Through.{call_within, passed_within}
use Rattle.arrowflow_copy.specs.Copy.{Copies}
use Rattle.arrowflow_copy.specs.Copying.{Began, IsCopying, failures_at, held_at}
use Rattle.arrowflow_copy.specs.WriterState.{IsPassedOn, at_of}
use Rattle.arrowflow_copy.specs.WithinCopy.{CopiesWithin}
use Rattle.arrowflow_copy.proofs.Copied.{call_through, failures_are, full, held_is}
use Rattle.arrowflow_copy.proofs.bounded_copy.copy_within.Goals as goal

pub returns-clause-written : goal.returns-clause-written
returns-clause-written g c =
    let output = c.args.output in
    let limits = c.args.limits.now in
    let options = options_view c.args.options in
    let began : Began = record { limits = limits; options = options; first = g.S.Sink.contents output; failures = g.S.Sink.failed output } in
    let whole = c.args.input.now.whole in
    let excess = c.drive_within-copier.new.input.excess in
    let had = left_of g.R.Input.remaining c.args.input.now in
    let left = left_of g.R.Input.remaining c.drive_within-copier.new.input in
    let own = c.new-reader.result.limits in
    let limits_are : own ≡ limits = ap (λ (r : ReaderView). r.limits) c.new-reader.ensures.fresh in
    let copied = c.drive_within-copier.result.0 in
    let answer = c.drive_within-copier.result.1 in
    let driven = c.drive_within-copier.ensures.driven began (refl, refl, record { limits_are = limits_are; counted = refl; written = (refl, refl, refl) }) in
    let at = at_of g.S.Sink.contents g.S.Sink.failed copied.target in
    let passed = IsPassedOn g.S.Sink.is_passed_on copied.target in
    let number = copied.number in
    let o = options_view copied.terms.options in
    let held = held_is g.S.Sink.contents g.S.Sink.failed copied.target ∙ ap g.S.Sink.contents (sym c.into_sink.ensures) in
    let failed = failures_are g.S.Sink.contents g.S.Sink.failed copied.target ∙ ap g.S.Sink.failed (sym c.into_sink.ensures) in
    let said = call_within (IsCopying began copied.terms.limits o at number) (full began copied.terms.limits o at number passed [] None c.drive_within-copier.new.reader)
    (CallForMore (λ k. IsCopying began k.terms.limits (options_view k.terms.options) (at_of g.S.Sink.contents g.S.Sink.failed k.target) k.number) own) (IsOpenAt own)
    (λ t more. record { entries = more.entries; snapshot = more.snapshot; front = more.front; goes_on = more.is_open })
    (λ bytes rest end. Copies limits options bytes rest began.first began.failures end (held_at at) (failures_at at)) (λ bytes. ⊥) whole own had left
    (λ bytes r same end d. let called = call_through began copied.terms.limits o at number passed bytes left r end d in (called.0, called.2))
    c.drive_within-copier.new.reader c.drive_within-copier.ensures.limits answer excess driven in
    subst (λ k. CopiesWithin whole limits options had left excess began.first began.failures answer (g.S.Sink.contents c.into_sink.result) k) failed
    (subst (λ h. CopiesWithin whole limits options had left excess began.first began.failures answer h (failures_at at)) held
    (subst (λ l. Within (IsOpenAt l) (λ bytes rest end. Copies limits options bytes rest began.first began.failures end (held_at at) (failures_at at)) (λ bytes. ⊥) whole l had left excess answer) limits_are said))

pub returns-clause-passed : goal.returns-clause-passed
returns-clause-passed g c =
    let output = c.args.output in
    let limits = c.args.limits.now in
    let options = options_view c.args.options in
    let began : Began = record { limits = limits; options = options; first = g.S.Sink.contents output; failures = g.S.Sink.failed output } in
    let whole = c.args.input.now.whole in
    let had = left_of g.R.Input.remaining c.args.input.now in
    let left = left_of g.R.Input.remaining c.drive_within-copier.new.input in
    let own = c.new-reader.result.limits in
    let limits_are : own ≡ limits = ap (λ (r : ReaderView). r.limits) c.new-reader.ensures.fresh in
    let copied = c.drive_within-copier.result.0 in
    let answer = c.drive_within-copier.result.1 in
    let reader = c.drive_within-copier.new.reader in
    let driven = c.drive_within-copier.ensures.driven began (refl, refl, record { limits_are = limits_are; counted = refl; written = (refl, refl, refl) }) in
    let at = at_of g.S.Sink.contents g.S.Sink.failed copied.target in
    let passed = IsPassedOn g.S.Sink.is_passed_on copied.target in
    let o = options_view copied.terms.options in
    let keeps = IsCopying began copied.terms.limits o at copied.number in
    let calls = CallForMore (λ k. IsCopying began k.terms.limits (options_view k.terms.options) (at_of g.S.Sink.contents g.S.Sink.failed k.target) k.number) own in
    let known = passed_within keeps (full began copied.terms.limits o at copied.number passed [] None reader) calls whole own had left reader passed answer
    (λ bytes d. (call_through began copied.terms.limits o at copied.number passed bytes left reader answer d).1) c.drive_within-copier.new.input.excess driven c.drive_within-copier.ensures.excess in
    subst (λ s. OnOk answer (g.S.Sink.is_passed_on s)) (sym c.into_sink.ensures) known
