use Rattle.std.proofs.Common.{◌≡◌, ◌≤◌, ◌++◌, ap, sym, ◌∙◌, subst, arith, append_assoc, append-nil}
use Rattle.std.specs.List.{AllByRecursion}
use Rattle.arrow_data.specs.Column.{values_from}
use Rattle.arrow_body_slots.proofs.Ranges.{all_last, from_both, none_from}
use Rattle.arrow_body_slots.specs.Part.{HasRoom, IsWritten, Puts}
use Rattle.std.proofs.lemmas.Result.{on_ok_weaker}
use Rattle.arrow_body_slots.proofs.Marking.{bits_written}
use Rattle.arrow_body_slots.proofs.Numbering.{numbers_written}
use Rattle.arrow_body_slots.proofs.writing.Writing.put_slots.Goals as goal
use Rattle.arrow_body_slots.proofs.writing.Writing.put_slots.Goals.{in-Validity+in_default, in-Numbers+in_default-numbers_of, in-StringOffsets+in_default-spanned, in-Truths}

-- the bits of the bitmap are added
pub returns-in-Some : goal.returns-in-Some
returns-in-Some c =
    on_ok_weaker c.push_range.result
    (λ step. bits_written c.args.part c.args.self.now (record c.args.self.now { out = c.push_range.new.out; pending = c.push_range.new.self }) c.args.slice.array.now.raw c.in-Some.bytes.now c.args.slice.start c.args.slice.stop
    c.in-Validity.is c.in-Some.ensures c.requires.slots.order c.requires.slots.inside step)
    c.push_range.ensures

-- the numbers are added, cleared under nulls
pub returns-in-Some-numbers_of : goal.returns-in-Some-numbers_of
returns-in-Some-numbers_of c =
    let raw = c.args.slice.array.now.raw in
    on_ok_weaker c.put.result
    (λ added. numbers_written c.args.part c.in-Numbers.form c.args.self.now (record c.args.self.now { out = c.put.new.out }) c.in-Some-numbers_of.numbers raw c.args.slice.start c.args.slice.stop
    c.in-Numbers.is (c.in-Some-numbers_of.ensures.width ∙ c.width.ensures.same) (added raw c.in-Some-numbers_of.ensures.held c.requires.slots.inside))
    c.put.ensures

-- the buffer is still the same, and no slots are added so far
pub loop-i-init : goal.loop-i-init
loop-i-init c =
    let same : c.match-part.part ≡ c.args.part = elim c.match-part.branch [
      | in-Validity+in_default w ↦ w.part-is
      | in-Numbers+in_default-numbers_of w ↦ w.part-is ∙ sym w.in-Numbers.is
      | in-StringOffsets+in_default-spanned w ↦ w.part-is
      | in-Truths w ↦ w.part-is
    ] in (
      omega arith,
      c.requires.slots.order,
      same,
      λ before vs was. subst (λ values. IsWritten c.args.part before values c.args.self.now)
          (sym (append-nil vs) ∙ ap (λ values. vs ++ values) (sym (none_from c.args.slice.array.now.raw c.args.slice.start))) was,
    )

-- each number has room
pub put_run-requires-clause-room : goal.put_run-requires-clause-room
put_run-requires-clause-room c =
    let raw = c.args.slice.array.now.raw in
    let i = c.loop-i.i in
    subst (λ p. AllByRecursion (HasRoom p) (values_from raw i c.args.slice.stop)) (sym c.loop-i.invariant.2)
    (all_last (HasRoom c.args.part) (values_from raw c.args.slice.start i) (values_from raw i c.args.slice.stop)
    (subst (AllByRecursion (HasRoom c.args.part)) (from_both raw c.args.slice.start i c.args.slice.stop c.loop-i.invariant.0 c.loop-i.invariant.1) c.requires.room))

-- the slots up to the next null are added
pub loop-i-preserved : goal.loop-i-preserved
loop-i-preserved c =
    let raw = c.args.slice.array.now.raw in
    let start = c.args.slice.start in
    let i = c.loop-i.i in
    let next = c.in_ok-i.i in
    let low : i ≤ next = omega (arith, c.in_ok-i.ensures.next.0) in
    let more = subst (λ p. Puts p (values_from raw i next) c.loop-i.self c.put_run.new.self) c.loop-i.invariant.2 c.in_ok-i.ensures.written in (
      omega (arith, c.loop-i.invariant.0, low),
      c.in_ok-i.ensures.next.1,
      c.loop-i.invariant.2,
      λ before vs was. subst (λ values. IsWritten c.args.part before values c.put_run.new.self)
          (append_assoc vs (values_from raw start i) (values_from raw i next) ∙ ap (λ values. vs ++ values) (sym (from_both raw start i next c.loop-i.invariant.0 low)))
          (more before (vs ++ values_from raw start i) (c.loop-i.invariant.3 before vs was)),
    )

-- all slots
pub returns : goal.returns
returns c =
    let all : c.loop-i.i ≡ c.args.slice.stop = omega (arith, c.loop-i-test.false, c.loop-i.invariant.1) in
    subst (λ k. Puts c.args.part (values_from c.args.slice.array.now.raw c.args.slice.start k) c.args.self.now c.loop-i.self) all c.loop-i.invariant.3
