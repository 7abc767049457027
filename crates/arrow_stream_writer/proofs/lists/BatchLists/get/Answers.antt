use Rattle.std.proofs.Common.{ap, ◌∙◌, w64}
use Rattle.std.specs.BTreeMap.{get}
use Rattle.std.specs.Ordering.{int_cmp}
use Rattle.std.specs.Prelude.{option_map}
use Rattle.std.proofs.lemmas.Int.{to_z-of_z}
use Rattle.arrow_stream_writer.proofs.lists.BatchLists.get.Goals as goal

pub returns-in-Some : goal.returns-in-Some
returns-in-Some c =
    let passed = to_z-of_z w64 c.args.id c.ranges.id in
    ap (option_map (λ d. d.now)) (c.in-Some.ensures.value ∙ ap (get int_cmp c.args.self.now.lists) passed)

pub returns-in-None : goal.returns-in-None
returns-in-None c =
    let passed = to_z-of_z w64 c.args.id c.ranges.id in
    ap (option_map (λ d. d.now)) (c.in-None.ensures.value ∙ ap (get int_cmp c.args.self.now.lists) passed)
