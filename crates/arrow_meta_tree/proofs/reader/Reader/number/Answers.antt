use Rattle.std.proofs.Common.{ap, ◌∙◌, option_map}
use Rattle.std.proofs.lemmas.Result.{err_from_is_err_and}
use Rattle.arrow_meta_tree.specs.Lies.{leaf_layer}
use Rattle.arrow_meta_tree.specs.Trees.{number}
use Rattle.arrow_meta_tree.proofs.Layers.{layer_there, none_fits}
use Rattle.arrow_meta_tree.specs.Reads.{ends_unreadable}
use Rattle.arrow_meta_tree.proofs.reader.Reader.number.Goals as goal

pub returns-in_err-scalar-clause-read : goal.returns-in_err-scalar-clause-read
returns-in_err-scalar-clause-read c =
    λ form most e. let there = c.in_err-scalar.ensures.answer in
    let failed = err_from_is_err_and c.from_residual.result c.from_residual.ensures.1 in
    rw (failed.1, failed.2) (none_fits _ _ _ _ (layer_there c.args.table.now.bytes form _ there.0 there.1 ∙ e there.0 ∙ ap (option_map (λ n. leaf_layer (number n))) there.2))

pub returns-in_err-scalar-clause-ends : goal.returns-in_err-scalar-clause-ends
returns-in_err-scalar-clause-ends c =
    let there = c.in_err-scalar.ensures.answer in
    let failed = err_from_is_err_and c.from_residual.result c.from_residual.ensures.1 in
    rw (failed.1, failed.2) (λ form most e. ends_unreadable (layer_there c.args.table.now.bytes form _ there.0 there.1 ∙ e there.0 ∙ ap (option_map (λ n. leaf_layer (number n))) there.2))
