use Rattle.std.proofs.Common.{subst, take}
use Rattle.arrowflow_input.specs.Session.{Receives}
use Rattle.arrowflow_session.specs.Asked.{asked_of}
use Rattle.arrowflow_session.specs.Report.{Reported, items_of}
use Rattle.arrowflow_session.proofs.Joining.{report_for}
use Rattle.arrowflow_session.proofs.session.run_one.Goals as goal

pub returns-clause-report : goal.returns-clause-report
returns-clause-report c =
    let k = c.args.connection.now in
    let s = c.in_ok-parts.field-0 in
    let x = c.in_ok-received.received in
    let reported : Reported = record { parts = items_of s.parts.items; refused = s.refused.items; writer_dictionaries = s.dictionaries.items; handed = x.handed.items; reader_dictionaries = x.reader_dictionaries.items; ending = x.ending } in
    let received = subst (λ l. Receives l (take k.deliver c.deref.result.now) reported.handed reported.reader_dictionaries reported.ending) c.requires c.in_ok-received.ensures.received in
    let all = subst (λ b. Receives c.args.limits (take k.deliver b) reported.handed reported.reader_dictionaries reported.ending) c.deref.ensures.value received in
    report_for c.args.limits (asked_of k) reported s.bytes.items c.in_ok-parts.ensures all
