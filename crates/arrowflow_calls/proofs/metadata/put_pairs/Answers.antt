use Rattle.std.proofs.Common.{rules, ◌≡◌, ◌<◌, ◌+◌, [], ◌∷◌, ◌++◌, length, take, get_or, flat_map, sym, ap, ◌∙◌, arith, subst}
use Rattle.std.proofs.lemmas.Grind.{take_at_read}
use Rattle.arrow_types.specs.Notes.{pairs_view}
use Rattle.arrowflow_calls.specs.Fields.{counted, pair_bytes}
use Rattle.arrowflow_calls.specs.Pens.{Puts}
use Rattle.arrowflow_calls.proofs.Pairing.{pairs_next}
use Rattle.arrowflow_calls.proofs.Writing.{IsReported, puts_more, same_length}
use Rattle.arrowflow_calls.proofs.metadata.put_pairs.Goals as goal

-- one more pair was put
pub loop-pair-preserved : goal.loop-pair-preserved
loop-pair-preserved c =
    let old = c.args.room.now in
    let pairs = c.args.pairs.now in
    let l = c.loop-pair in
    let before = flat_map pair_bytes (pairs_view (take l.pair-index pairs)) in
    let key = c.put_counted-pen in
    let value = c.put_counted-pen-in-loop-pair in
    let fits : IsReported (length old) = omega (arith, key.ensures.fits, same_length old l.room before c.args.pen l.pen l.invariant) in
    let pair = c.pair-item.result in
    let within : l.pair-index < length pairs = search rules in
    let is : pair ≡ get_or pairs l.pair-index pair = search rules in
    let next : take (l.pair-index + 1) pairs ≡ take l.pair-index pairs ++ pair ∷ [] =
    (take_at_read pairs l.pair-index pair within).1 ∙ ap (λ p. take l.pair-index pairs ++ p ∷ []) (sym is) in
    let two = puts_more old l.room key.new.room c.args.pen l.pen key.result before (counted c.deref.result.now) fits l.invariant key.ensures.puts in
    let three =
    puts_more old key.new.room value.new.room c.args.pen key.result value.result (before ++ counted c.deref.result.now) (counted c.deref-in-loop-pair.result.now) fits two value.ensures.puts in
    subst (λ text. Puts old c.args.pen text value.result value.new.room)
    (pairs_next pairs l.pair-index pair c.deref.result.now c.deref-in-loop-pair.result.now next c.deref.ensures.value c.deref-in-loop-pair.ensures.value) three
