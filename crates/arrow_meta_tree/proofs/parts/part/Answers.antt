use Rattle.arrow_meta_tree.proofs.NthField.{found_part}
use Rattle.arrow_meta_tree.proofs.parts.part.Goals as goal

pub returns : goal.returns
returns c = record {
  found = found_part c.args.parts.now c.args.index c.get.result c.get.ensures.lookup.1 c.get.ensures.lookup.3;
}
