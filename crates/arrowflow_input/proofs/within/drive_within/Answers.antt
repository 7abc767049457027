use Rattle.std.proofs.Common.{◌≡◌, [], None, Some, Err, sym, subst, ◌∙◌}
use Rattle.arrow_stream_reader.specs.State.{nothing_yet}
use Rattle.arrowflow_input.specs.Driver.{CallForMore}
use Rattle.arrowflow_input.specs.Within.{DrivenWithin, left_of}
use Rattle.arrowflow_input.specs.declared.tool_fault.ToolFault.TheVariants.{Input}
use Rattle.arrowflow_input.proofs.Cutting.{goes_on_by, within_all, within_longer, within_out}
use Rattle.arrowflow_input.proofs.Driving.{read_while_so}
use Rattle.arrowflow_input.proofs.within.drive_within.Goals as goal

pub returns-in-Some-clause-driven : goal.returns-in-Some-clause-driven
returns-in-Some-clause-driven g c start kept =
    let whole = c.args.input.now.whole in
    let limits = c.args.reader.now.limits in
    let counting = c.drive-counting.result.0 in
    let reader = c.drive-counting.new.reader in
    let keeps = g.C.Consumer.keeps start in
    let answers = g.C.Consumer.answers start in
    let had = left_of g.R.Input.remaining c.args.input.now in
    let left = left_of g.R.Input.remaining (record c.args.input.now { capped = c.drive-counting.new.input }) in
    let calls = CallForMore keeps limits in
    let given = c.drive-counting.ensures.driven (record { start = start; whole = whole })
    (record { none = c.new-counting.ensures.none; counted = c.new-counting.ensures.counted; kept = subst (λ k. keeps k limits nothing_yet []) (sym c.new-counting.ensures.consumer) kept }) in
    let reads = read_while_so {Q = calls} (λ t more. record { consumer = more.consumer.consumer; entries = more.entries; snapshot = more.snapshot; front = more.front; is_open = more.is_open; kept = more.kept.kept }) given.2 in
    let some : counting.excess ≡ Some c.in-Some.passed = sym c.into_parts-consumer.ensures.excess ∙ c.in-Some.is in
    subst (λ k. DrivenWithin (keeps k) (answers k) calls whole limits had left (Some c.in-Some.passed) (Err (Input 0)) reader) (sym c.into_parts-consumer.ensures.consumer)
    (within_out keeps answers counting.consumer whole counting.excess counting.counts limits had left reader c.drive-counting.ensures.limits calls c.drive-counting.result.1 given.0 given.1 reads given.3 c.in-Some.passed (Err (Input 0)) some)

pub returns-in-Some-longer-clause-driven : goal.returns-in-Some-longer-clause-driven
returns-in-Some-longer-clause-driven g c start kept =
    let whole = c.args.input.now.whole in
    let limits = c.args.reader.now.limits in
    let counting = c.drive-counting.result.0 in
    let reader = c.drive-counting.new.reader in
    let keeps = g.C.Consumer.keeps start in
    let answers = g.C.Consumer.answers start in
    let capped = c.drive-counting.new.input in
    let had = left_of g.R.Input.remaining c.args.input.now in
    let left = left_of g.R.Input.remaining (record c.args.input.now { capped = capped }) in
    let calls = CallForMore keeps limits in
    let given = c.drive-counting.ensures.driven (record { start = start; whole = whole })
    (record { none = c.new-counting.ensures.none; counted = c.new-counting.ensures.counted; kept = subst (λ k. keeps k limits nothing_yet []) (sym c.new-counting.ensures.consumer) kept }) in
    let reads = read_while_so {Q = calls} (λ t more. record { consumer = more.consumer.consumer; entries = more.entries; snapshot = more.snapshot; front = more.front; is_open = more.is_open; kept = more.kept.kept }) given.2 in
    let none : counting.excess ≡ None = sym c.into_parts-consumer.ensures.excess ∙ c.in_default.is in
    let longer = c.longer.ensures c.in-Some-longer.passed c.in-Some-longer.is in
    subst (λ k. DrivenWithin (keeps k) (answers k) calls whole limits had left (Some c.in-Some-longer.passed) (Err (Input 0)) reader) (sym c.into_parts-consumer.ensures.consumer)
    (within_longer keeps answers counting.consumer whole counting.excess counting.counts limits had left reader c.drive-counting.ensures.limits calls c.drive-counting.result.1 given.0 given.1 reads given.3 c.in-Some-longer.passed (Err (Input 0)) none longer.0
    (goes_on_by capped.next (g.R.Input.remaining capped.input) longer.1))

pub returns-in-None-clause-driven : goal.returns-in-None-clause-driven
returns-in-None-clause-driven g c start kept =
    let whole = c.args.input.now.whole in
    let limits = c.args.reader.now.limits in
    let counting = c.drive-counting.result.0 in
    let reader = c.drive-counting.new.reader in
    let keeps = g.C.Consumer.keeps start in
    let answers = g.C.Consumer.answers start in
    let had = left_of g.R.Input.remaining c.args.input.now in
    let left = left_of g.R.Input.remaining (record c.args.input.now { capped = c.drive-counting.new.input }) in
    let calls = CallForMore keeps limits in
    let given = c.drive-counting.ensures.driven (record { start = start; whole = whole })
    (record { none = c.new-counting.ensures.none; counted = c.new-counting.ensures.counted; kept = subst (λ k. keeps k limits nothing_yet []) (sym c.new-counting.ensures.consumer) kept }) in
    let reads = read_while_so {Q = calls} (λ t more. record { consumer = more.consumer.consumer; entries = more.entries; snapshot = more.snapshot; front = more.front; is_open = more.is_open; kept = more.kept.kept }) given.2 in
    let none : counting.excess ≡ None = sym c.into_parts-consumer.ensures.excess ∙ c.in_default.is in
    subst (λ k. DrivenWithin (keeps k) (answers k) calls whole limits had left None c.drive-counting.result.1 reader) (sym c.into_parts-consumer.ensures.consumer)
    (within_all keeps answers counting.consumer whole counting.excess counting.counts limits had left reader c.drive-counting.ensures.limits calls c.drive-counting.result.1 given.0 given.1 reads given.3 none)
