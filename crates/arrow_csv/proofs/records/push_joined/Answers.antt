use Rattle.std.proofs.lemmas.Result.{on_ok_weaker}
use Rattle.arrow_csv.specs.Layouts.{null_by}
use Rattle.arrow_csv.proofs.Written.{joined_more}
use Rattle.arrow_csv.proofs.records.push_joined.Goals as goal

-- the first field, and the others after commas
pub returns : goal.returns
returns c =
    let columns = c.args.columns.texts.now in
    on_ok_weaker c.push_fields.result (λ e. joined_more (null_by c.args.columns.null) columns c.in-Some.first.now c.in-Some.others.now c.args.i c.args.out.now.items _ _ c.in-Some.ensures.cases.0 c.in_ok-push.ensures e) c.push_fields.ensures
