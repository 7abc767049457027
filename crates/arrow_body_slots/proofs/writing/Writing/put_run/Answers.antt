use Rattle.std.proofs.Common.{◌<◌, ◌++◌, ◌∷◌, [], length, ap, ◌∙◌, subst, arith, append_assoc}
use Rattle.std.specs.List.{AllByRecursion}
use Rattle.arrow_data.specs.Column.{values_from}
use Rattle.arrow_layout.specs.PlainValue.{null_value}
use Rattle.arrow_body_slots.proofs.Ranges.{all_first, from_both, null_next}
use Rattle.arrow_body_slots.specs.Part.{HasRoom, IsWritten}
use Rattle.arrow_body_slots.proofs.writing.Writing.put_run.Goals as goal

-- each number has room
pub put_full-requires-clause-room : goal.put_full-requires-clause-room
put_full-requires-clause-room c =
    let raw = c.args.slice.array.now.raw in
    let first = c.first_null-end.ensures in
    all_first (HasRoom c.args.part) (values_from raw c.args.slice.start c.first_null-end.result) (values_from raw c.first_null-end.result c.args.slice.stop)
    (subst (AllByRecursion (HasRoom c.args.part)) (from_both raw c.args.slice.start c.first_null-end.result c.args.slice.stop first.low first.high) c.requires.room)

-- the slots before a null, and the null
pub returns-in_ok-put_null-clause-written : goal.returns-in_ok-put_null-clause-written
returns-in_ok-put_null-clause-written c = λ before vs was.
    let raw = c.args.slice.array.now.raw in
    let start = c.args.slice.start in
    let end = c.first_null-end.result in
    let first = c.first_null-end.ensures in
    let here : end < length raw = omega (arith, c.if-end-stop.true, c.requires.slots.inside) in
    subst (λ values. IsWritten c.args.part before values c.put_null.new.self)
    (append_assoc vs (values_from raw start end) (null_value ∷ []) ∙ ap (λ values. vs ++ values) (null_next raw start end first.low here (first.null c.if-end-stop.true)))
    (c.in_ok-put_null.ensures before (vs ++ values_from raw start end) (c.in_ok-put_full.ensures before vs was))
