use Rattle.std.proofs.Common.{w64}
use Rattle.std.proofs.lemmas.Int.{to_z-of_z}
use Rattle.arrow_dict.proofs.Kept.{answered}
use Rattle.arrow_dict.proofs.value_fields.ValueFields.get.Goals as goal

pub returns : goal.returns
returns c =
    rw (← c.self.view_is) (answered c.self.inside.fields.entries c.args.id _ c.get.result c.self.invariant (to_z-of_z w64 c.args.id c.ranges.id) c.get.ensures.value)
