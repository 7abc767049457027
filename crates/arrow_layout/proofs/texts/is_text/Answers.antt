use Rattle.std.proofs.Common.{◌<◌, rules}
use Rattle.arrow_layout.proofs.Cuts.{part_decides}
use Rattle.arrow_layout.proofs.texts.is_text.Goals as goal

pub returns : goal.returns
returns c =
    let some : c.args.start < c.args.end = search rules in
    part_decides c.args.text.now c.args.start c.args.end c.is_cut.result c.utf8.text some c.requires.inside c.is_cut.ensures
