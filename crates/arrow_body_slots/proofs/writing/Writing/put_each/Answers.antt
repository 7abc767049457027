use Rattle.std.proofs.Common.{◌<◌, ◌++◌, ◌∷◌, [], length, sym, ap, ◌∙◌, subst, arith, append_assoc}
use Rattle.arrow_data.specs.Column.{values_from}
use Rattle.arrow_layout.specs.PlainValue.{value_at}
use Rattle.arrow_body_slots.specs.Part.{HasRoom, IsWritten}
use Rattle.arrow_body_slots.proofs.Ranges.{from_next, of_slot}
use Rattle.arrow_body_slots.proofs.writing.Writing.put_each.Goals as goal

-- each number has room
pub put-requires-clause-room : goal.put-requires-clause-room
put-requires-clause-room c =
    of_slot (HasRoom c.args.part) c.args.slice.array.now.raw c.args.slice.start c.args.slice.stop c.loop-i.i c.requires.slots.inside c.loop-i.invariant.0 c.loop-i-test.true c.requires.room

-- one more slot
pub loop-i-preserved : goal.loop-i-preserved
loop-i-preserved c =
    let raw = c.args.slice.array.now.raw in
    let start = c.args.slice.start in
    let i = c.loop-i.i in
    let here : i < length raw = omega (arith, c.loop-i-test.true, c.requires.slots.inside) in (
      omega (arith, c.loop-i.invariant.0),
      omega (arith, c.loop-i-test.true),
      λ before vs was. subst (λ values. IsWritten c.args.part before values c.put.new.self)
          (append_assoc vs (values_from raw start i) (value_at raw i ∷ []) ∙ ap (λ values. vs ++ values) (sym (from_next raw start i c.loop-i.invariant.0 here)))
          (c.in_ok-put.ensures before (vs ++ values_from raw start i) (c.loop-i.invariant.2 before vs was)),
    )
