use Rattle.std.proofs.Common.{◌≡◌, sym, subst, rules}
use Rattle.arrow_types.specs.Limits.{LimitNumbers}
use Rattle.arrow_stream_laws.specs.Sizes.{Options}
use Rattle.arrow_stream_writer.specs.Shown.{options_view}
use Rattle.arrowflow_copy.specs.CopierShown.{copier_view}
use Rattle.arrowflow_calls.specs.Copied.{IsFresh}
use Rattle.arrowflow_calls.specs.Terms.{AreLimits, numbers, options_by}
use Rattle.arrowflow_calls.specs.declared.pieces.Copying.{Copying}
use Rattle.arrowflow_c.proofs.CopierCalls.{opens}
use Rattle.arrowflow_c.proofs.copier.arrowflow_copier_open.Goals as goal

pub returns-in-Ok : goal.returns-in-Ok
returns-in-Ok c =
    let fine : AreLimits c.args.limits = search rules in
    let same : c.in-Some.limits ≡ numbers c.args.limits = search rules in
    opens c.args.limits c.args.options c.in-Ok.copying.value c.of.result.slot.value fine
    (subst (λ (x : Copying). IsFresh (numbers c.args.limits) (options_by c.args.options) (copier_view x.copier)) (sym c.in-Ok.ensures.ok)
    (subst (λ (o : Options). IsFresh (numbers c.args.limits) o (copier_view c.new.result.copier)) c.options.ensures
    (subst (λ (l : LimitNumbers). IsFresh l (options_view c.options.result) (copier_view c.new.result.copier)) same c.new.ensures))) c.of.ensures
