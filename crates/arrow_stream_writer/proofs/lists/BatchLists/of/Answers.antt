use Rattle.std.proofs.Common.{Ok, Err, subst}
use Rattle.std.proofs.lemmas.Result.{err_from_is_err_and}
use Rattle.std.specs.List.{AllByRecursion}
use Rattle.arrow_data.specs.Column.{IsColumn}
use Rattle.arrow_stream_writer.specs.Lists.{Gathers, dictionary_in}
use Rattle.arrow_stream_writer.proofs.Found.{all_found, not_found}
use Rattle.arrow_stream_writer.proofs.lists.BatchLists.of.Goals as goal

-- all columns were visited
pub returns : goal.returns
returns c =
    let find = dictionary_in c.new-lists.result in
    let after = dictionary_in c.add_columns.new.self in
    all_found c.args.batch.now find after c.schema.ensures.known (subst (AllByRecursion IsColumn) c.columns.ensures.same c.in_ok-add_columns.ensures.known) c.new-lists.ensures
    (subst (λ cs. Gathers cs find (Ok tt) after) c.columns.ensures.same c.in_ok-add_columns.ensures.gathers)

-- one column gave a fault
pub returns-in_err-add_columns : goal.returns-in_err-add_columns
returns-in_err-add_columns c =
    let find = dictionary_in c.new-lists.result in
    let after = dictionary_in c.add_columns.new.self in
    let failed = err_from_is_err_and c.from_residual.result c.from_residual.ensures.1 in
    rw (failed.1, failed.2) (not_found c.args.batch.now c.in_err-add_columns.field-0.0 find after c.schema.ensures.known c.new-lists.ensures
    (subst (λ cs. Gathers cs find (Err c.in_err-add_columns.field-0.0) after) c.columns.ensures.same c.in_err-add_columns.ensures.gathers))
