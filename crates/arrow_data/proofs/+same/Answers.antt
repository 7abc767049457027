use Rattle.std.proofs.Common.{rules, ◌≡◌, ◌≤◌, ◌-◌, length, ap, sym, ◌∙◌, arith, get_or, refl}
use Rattle.std.proofs.lemmas.Bool.{false≢true}
use Rattle.arrow_layout.specs.PlainValue.{null_value}
use Rattle.arrow_data.specs.Column.{row_of}
use Rattle.arrow_data.proofs.Sameness.{child_smaller, parts_smaller, items_agree, parts_agree, items_same, rows_same, longer, read_row, length-values_from}
use borrow.Author.Count.{below_more}
use Rattle.arrow_data.proofs.+same.Goals as goal

pub array::Array::same_slot-same_items-requires : goal.array::Array::same_slot-same_items-requires
array::Array::same_slot-same_items-requires t c =
    let a = c.in-Items-Items.ensures in
    let b = c.in-Items-Items.ensures' in
    let m = child_smaller c.args.self.now c.in-Items-Items.items.now a.typed in
    (omega (arith, c.decreases, m), (a.ordered, (a.inside, (b.ordered, b.inside))))

pub array::Array::same_slot-returns-in-Items-Items : goal.array::Array::same_slot-returns-in-Items-Items
array::Array::same_slot-returns-in-Items-Items t c =
    items_agree c.args.self.now c.args.other.now c.args.i c.args.j _ _ _ _ _ _ c.same_items.result c.in-Items-Items.ensures c.in-Items-Items.ensures' c.same_items.ensures

pub array::Array::same_slot-same_parts-requires : goal.array::Array::same_slot-same_parts-requires
array::Array::same_slot-same_parts-requires t c =
    let a = c.in-Parts-Parts.ensures in
    let b = c.in-Parts-Parts.ensures' in
    let m = parts_smaller c.args.self.now c.in-Parts-Parts.children.now a.typed in
    (omega (arith, c.decreases, m), (longer _ c.args.i c.in-Parts-Parts.children.now c.requires.here a.longer, longer _ c.args.j c.in-Parts-Parts.others.now c.requires.there b.longer))

pub array::Array::same_slot-returns-in-Parts-Parts : goal.array::Array::same_slot-returns-in-Parts-Parts
array::Array::same_slot-returns-in-Parts-Parts t c =
    parts_agree c.args.self.now c.args.other.now c.args.i c.args.j _ _ c.same_parts.result c.in-Parts-Parts.ensures c.in-Parts-Parts.ensures' c.same_parts.ensures

pub same::same_items-returns-then-count-others : goal.same::same_items-returns-then-count-others
same::same_items-returns-then-count-others t c = (
  λ h. absurd (false≢true h),
  λ e. absurd (c.if-count-others.true (sym (length-values_from c.args.items.array.now.raw c.args.items.start c.args.items.end c.requires.inside) ∙ ap length e ∙ length-values_from c.args.others.array.now.raw c.args.others.start c.args.others.end c.requires.other_inside)),
)

pub same::same_items-returns : goal.same::same_items-returns
same::same_items-returns t c =
    let done : c.args.items.end - c.args.items.start ≤ c.loop-k.k = omega arith in
    (λ _. items_same c.args.items.array.now c.args.others.array.now c.args.items.start c.args.items.end c.args.others.start c.args.others.end c.requires.inside c.requires.other_inside (search rules) (λ k h. c.loop-k.invariant k (omega arith)), λ _. refl)

pub same::same_parts-returns-then-not-same_slot : goal.same::same_parts-returns-then-not-same_slot
same::same_parts-returns-then-not-same_slot t c =
    let both : length c.args.children.now ≡ length c.args.others.now = search rules in
    let k = c.loop-k.k in
    let a = read_row c.args.children.now c.args.i k c.index-children-k.result c.loop-k-test.true c.index-children-k.is in
    let b = read_row c.args.others.now c.args.j k c.index-others-k.result (omega arith) c.index-others-k.is in
    (λ h. absurd (false≢true h), λ e. sym c.if-not-same_slot.true ∙ c.same_slot.ensures.1 (sym a ∙ ap (λ vs. get_or vs k null_value) e ∙ b))

pub same::same_parts-loop-k-preserved : goal.same::same_parts-loop-k-preserved
same::same_parts-loop-k-preserved t c =
    let both : length c.args.children.now ≡ length c.args.others.now = search rules in
    let k = c.loop-k.k in
    let a = read_row c.args.children.now c.args.i k c.index-children-k.result c.loop-k-test.true c.index-children-k.is in
    let b = read_row c.args.others.now c.args.j k c.index-others-k.result (omega arith) c.index-others-k.is in
    below_more (λ k. get_or (row_of c.args.children.now c.args.i) k null_value ≡ get_or (row_of c.args.others.now c.args.j) k null_value) k c.loop-k.invariant (a ∙ c.same_slot.ensures.0 c.if-not-same_slot.false ∙ sym b)

pub same::same_parts-returns : goal.same::same_parts-returns
same::same_parts-returns t c =
    (λ _. rows_same c.args.children.now c.args.others.now c.args.i c.args.j (search rules) (λ k h. c.loop-k.invariant k (omega arith)), λ _. refl)
