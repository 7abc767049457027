use Rattle.std.proofs.Common.{◌≡◌, Some, sym, ◌∙◌}
use Rattle.arrow_meta_tree.proofs.OneTree.{one_table}
use Rattle.arrow_meta_reader.proofs.laws.one_meaning.Goals as goal

pub returns-clause-tree : goal.returns-clause-tree
returns-clause-tree c = one_table

pub returns-clause-message : goal.returns-clause-message
returns-clause-message c = λ max x m n h k. let both : Some m ≡ Some n = sym h.same ∙ k.same in cc
