use Rattle.std.proofs.Common.{◌≡◌, ◌∙◌, [], Err, sym, ap, subst, rules}
use Rattle.std.proofs.lemmas.Result.{err_from_is_err_and}
use Rattle.arrow_stream_reader.specs.Stream.{ReaderView}
use Rattle.std.specs.Prelude.{IfErr}
use Rattle.arrowflow_input.specs.Blame.{BlamesOnly}
use Rattle.arrowflow_input.specs.Driver.{Driven}
use Rattle.arrowflow_input.specs.Kept.{HasKept}
use Rattle.arrowflow_input.specs.Reads.{IsReadWhile}
use Rattle.arrowflow_input.specs.Endings.{IsOpenAt}
use Rattle.arrowflow_input.proofs.Driving.{read_while_so}
use Rattle.arrowflow_input.proofs.Kept.{keeping}
use Rattle.arrowflow_drill.specs.Reading.{Brings, of_input}
use Rattle.arrowflow_drill.specs.DrillOptions.{asks_of}
use Rattle.arrowflow_drill.proofs.Reported.{ended_well, reported_as}
use Rattle.arrowflow_drill.proofs.Streams.{made_so, stream_ended, stream_whole, whole_schema}
use Rattle.arrowflow_drill.proofs.reading.read_one.Goals as goal

pub connection_of-requires : goal.connection_of-requires
connection_of-requires g c none =
    let terms = c.args.terms.now in
    let left = g.R.Input.remaining c.drive-batches.new.input in
    let batches = c.drive-batches.result.0.items in
    let reader = c.drive-batches.new.reader in
    let limits_are : c.new-reader.result.limits ≡ terms.limits = ap (λ (r : ReaderView). r.limits) c.new-reader.ensures.fresh in
    let nothing : c.new-batches.result.items ≡ [] = search rules in
    let well = ended_well c.drive-batches.result.1 c.map_err.result c.map_err.ensures.variant c.in_ok-map_err.was in
    let driven = c.drive-batches.ensures.driven tt nothing in
    let kept = subst (Driven (keeping batches) (HasKept batches) driven.0 left reader) well driven.3 in
    let whole = stream_whole (asks_of terms) c.args.number driven.0 left batches reader (c.drive-batches.ensures.limits ∙ limits_are) kept in
    whole_schema (asks_of terms).limits driven.0 left reader.at.state.schema batches whole none

pub returns : goal.returns
returns g c =
    let terms = c.args.terms.now in
    let asks = asks_of terms in
    let left = g.R.Input.remaining c.drive-batches.new.input in
    let batches = c.drive-batches.result.0.items in
    let reader = c.drive-batches.new.reader in
    let limits_are : c.new-reader.result.limits ≡ terms.limits = ap (λ (r : ReaderView). r.limits) c.new-reader.ensures.fresh in
    let nothing : c.new-batches.result.items ≡ [] = search rules in
    let well = ended_well c.drive-batches.result.1 c.map_err.result c.map_err.ensures.variant c.in_ok-map_err.was in
    let driven = c.drive-batches.ensures.driven tt nothing in
    let kept = subst (Driven (keeping batches) (HasKept batches) driven.0 left reader) well driven.3 in
    let whole = stream_whole asks c.args.number driven.0 left batches reader (c.drive-batches.ensures.limits ∙ limits_are) kept in (
      driven.0,
      driven.1,
      subst (λ l. IsReadWhile (IsOpenAt l) driven.0) limits_are (read_while_so (λ t more. record { entries = more.entries; snapshot = more.snapshot; front = more.front; goes_on = more.is_open }) driven.2),
      made_so terms c.args.number driven.0 left (g.R.Input.has_failed c.drive-batches.new.input) reader.at.state.schema batches whole c.connection_of.result c.connection_of.ensures,
    )

pub returns-in_err-map_err : goal.returns-in_err-map_err
returns-in_err-map_err g c =
    let terms = c.args.terms.now in
    let asks = asks_of terms in
    let left = g.R.Input.remaining c.drive-batches.new.input in
    let failing = g.R.Input.has_failed c.drive-batches.new.input in
    let batches = c.drive-batches.result.0.items in
    let reader = c.drive-batches.new.reader in
    let was = reported_as c.drive-batches.result.1 c.map_err.result c.in_err-map_err.field-0.0 _ c.map_err.ensures.cases c.in_err-map_err.was in
    let fault = was.0 in
    let reported : c.in_err-map_err.field-0.0 ≡ of_input c.args.number fault = search (rules, was.2) in
    let failed = err_from_is_err_and c.from_residual.result c.from_residual.ensures.1 in
    let limits_are : c.new-reader.result.limits ≡ terms.limits = ap (λ (r : ReaderView). r.limits) c.new-reader.ensures.fresh in
    let nothing : c.new-batches.result.items ≡ [] = search rules in
    let driven = c.drive-batches.ensures.driven tt nothing in
    let blames = subst (λ a. IfErr a (BlamesOnly failing)) was.1 c.drive-batches.ensures.blameless in
    let ended = subst (Driven (keeping batches) (HasKept batches) driven.0 left reader) was.1 driven.3 in rw (failed.1, failed.2) (
      driven.0,
      driven.1,
      subst (λ l. IsReadWhile (IsOpenAt l) driven.0) limits_are (read_while_so (λ t more. record { entries = more.entries; snapshot = more.snapshot; front = more.front; goes_on = more.is_open }) driven.2),
      subst (λ f. Brings asks c.args.number driven.0 left failing (Err f)) (sym reported)
          (stream_ended asks c.args.number driven.0 left batches reader (c.drive-batches.ensures.limits ∙ limits_are) failing fault blames ended),
    )
