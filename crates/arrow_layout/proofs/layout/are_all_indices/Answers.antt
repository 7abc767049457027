use Rattle.arrow_layout.proofs.Indices.{indices_at_most}
use Rattle.arrow_layout.proofs.layout.are_all_indices.Goals as goal

-- no number is above the last index exactly when each slot has an index
pub returns : goal.returns
returns c =
    let same = indices_at_most c.args.indices.values.now c.args.len c.args.indices.width c.args.count c.last_index-last.result c.args.indices.signed c.hold_bytes.ensures c.requires.inside c.last_index-last.ensures in
    (λ t. same.0 (c.are_at_most.ensures.0 t), λ are. c.are_at_most.ensures.1 (same.1 are))
