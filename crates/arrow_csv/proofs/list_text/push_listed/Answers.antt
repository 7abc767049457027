use Rattle.std.proofs.Common.{◌≡◌, ◌-◌, ◌++◌, codes, sym, ap, ◌∙◌, subst, arith, append-nil}
use Rattle.arrow_data.specs.Column.{Column}
use Rattle.arrow_layout.specs.PlainValue.{value_at}
use Rattle.arrow_csv.specs.Made.{separator}
use Rattle.arrow_csv.specs.Texts.{Appends, IsItemText}
use Rattle.arrow_csv.proofs.Joining.{items_more, separator_first, separator_later}
use Rattle.arrow_csv.proofs.list_text.push_listed.Goals as goal
use Rattle.arrow_csv.proofs.list_text.push_listed.Goals.{then-k-start+in_ok-push-2, else-k-start}

-- one more item is written
pub loop-k-preserved : goal.loop-k-preserved
loop-k-preserved c =
    let l = c.loop-k.invariant in
    let k = c.loop-k.k in
    let start = c.args.start in
    let items = c.args.items.now in
    let before : c.if-k-start.out.items ≡ c.loop-k.out.items ++ separator (k - start) = elim c.if-k-start.branch [
      | then-k-start+in_ok-push-2 w ↦ ap (λ v. v.items) w.out-is ∙ w.in_ok-push-2.ensures.items ∙ ap (λ s. c.loop-k.out.items ++ s) (sym (separator_later (k - start) (omega (arith, w.if-k-start.true))))
      | else-k-start w ↦ ap (λ v. v.items) w.out-is ∙ sym (append-nil c.loop-k.out.items) ∙ ap (λ s. c.loop-k.out.items ++ s) (sym (separator_first (k - start) (omega (arith, w.if-k-start.false))))
    ] in
    let text = subst (λ (x : Column). Appends (IsItemText x.data_type (value_at x.resolved k)) c.if-k-start.out.items c.push_value.new.out.items) c.array.ensures c.in_ok-push_value.ensures in (
      omega (arith, l.0),
      omega (arith, c.loop-k-test.true),
      items_more items.data_type items.resolved start k (c.args.out.now.items ++ codes "[") c.loop-k.out.items c.if-k-start.out.items _ l.0 (omega (arith, c.loop-k-test.true, c.requires.inside, c.requires.long)) l.2 before text,
    )
