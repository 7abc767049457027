use Rattle.std.proofs.Common.{◌∙◌, ◌<◌, ◌≤◌, length, rules}
use Rattle.arrow_meta_tree.proofs.NthField.{taken, not_taken}
use Rattle.arrow_meta_tree.proofs.parts.take.Goals as goal

pub returns-then-index-len-clause-taken : goal.returns-then-index-len-clause-taken
returns-then-index-len-clause-taken c =
    let h : c.args.index < length c.args.parts.now.items = search (rules, c.if-index-len.true) in
    (taken c.args.parts.now.items c.remove.new.self.items c.args.index c.remove.result h c.remove.ensures.value c.remove.ensures.items).0

pub returns-then-index-len-clause-before : goal.returns-then-index-len-clause-before
returns-then-index-len-clause-before c =
    let h : c.args.index < length c.args.parts.now.items = search (rules, c.if-index-len.true) in
    (taken c.args.parts.now.items c.remove.new.self.items c.args.index c.remove.result h c.remove.ensures.value c.remove.ensures.items).1

pub returns-else-index-len-clause-taken : goal.returns-else-index-len-clause-taken
returns-else-index-len-clause-taken c =
    let h : length c.args.parts.now.items ≤ c.args.index = search (rules, c.if-index-len.false) in
    c.absent.ensures.absent ∙ not_taken c.args.parts.now.items c.args.index h
