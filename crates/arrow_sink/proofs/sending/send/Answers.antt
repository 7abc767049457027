use Rattle.std.proofs.Common.{◌-◌, ap, arith, rules, subst, sym, take, drop, length}
use Rattle.std.proofs.Math.Seq.{take-add}
use Rattle.std.proofs.KnownBytes.{Appends-trans}
use Rattle.std.proofs.lemmas.List.{take_all, length-drop}
use Rattle.std.specs.Io.KnownBytes.{Appends}
use Rattle.arrow_sink.proofs.sending.send.Goals as goal

-- one more piece is sent
pub loop-sent-preserved : goal.loop-sent-preserved
loop-sent-preserved g c =
    let l = c.loop-sent in
    let bytes = c.args.bytes.now in
    let rest = drop l.sent bytes in
    let before = g.S.Sink.contents l.sink in
    let after = g.S.Sink.contents c.put.new.self in
    let whole = take_all (length bytes - l.sent) rest (omega (arith, length-drop l.sent bytes)) in
    let put = subst (λ xs. Appends before after (take c.in_ok-taken.taken xs)) whole c.in_ok-taken.ensures.bytes in (
      search rules,
      search rules,
      subst (λ xs. Appends (g.S.Sink.contents c.args.sink.now) after xs) (sym (take-add l.sent c.in_ok-taken.taken bytes))
          (Appends-trans (g.S.Sink.contents c.args.sink.now) before after _ _ l.invariant.2 put),
      (λ none. absurd (omega (arith, c.loop-sent-test.true, ap length none))),
    )
