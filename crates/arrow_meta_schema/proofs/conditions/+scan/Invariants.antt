use Rattle.std.proofs.Common.{◌≡◌, drop}
use Rattle.arrow_meta_schema.specs.Conditions.{any_in, finds}
use Rattle.arrow_meta_tree.specs.Views.{plain_all}
use Rattle.arrow_meta_schema.proofs.conditions.+scan.Given as goal

abbrev pub invariant-any_in-loop-tree : goal.invariant-any_in-loop-tree
invariant-any_in-loop-tree l = any_in (finds l.test) (plain_all (drop l.tree-index l.trees)) ≡ any_in (finds l.test) (plain_all l.trees)
