use Rattle.std.proofs.Common.{refl}
use Rattle.arrow_body_writer.proofs.Wholes.{fields_whole}
use Rattle.arrow_body_writer.proofs.whole.whole_fields.Goals as goal

-- no struct is null, and no child has more slots
pub returns-then-are_as_long : goal.returns-then-are_as_long
returns-then-are_as_long c =
    fields_whole c.args.array.now c.in_ok-children.children.now c.len.result c.in_ok-children.ensures (c.if-is_full.ensures.0 refl) c.len.ensures.count (c.if-are_as_long.ensures.0 refl)
