use Rattle.std.proofs.Common.{◌+◌, sym, subst, arith}
use Rattle.arrow_csv.proofs.Joining.{as_many}
use Rattle.arrow_csv.proofs.Nested.{FieldsMade, made_done, made_more}
use Rattle.arrow_csv.proofs.struct_text.field_texts.Goals as goal

-- each column has its field
pub bounds-fields-k : goal.bounds-fields-k
bounds-fields-k c = omega (arith, as_many c.args.fields.now c.args.children.now c.requires, c.loop-k-test.true)

-- one more field was made
pub loop-k-preserved : goal.loop-k-preserved
loop-k-preserved c =
    let fields = c.args.fields.now in
    let children = c.args.children.now in
    let k = c.loop-k.k in
    subst (FieldsMade fields children (k + 1)) (sym c.in_ok-push.ensures.items)
    (made_more fields children k c.loop-k.texts.items c.index-fields-k.result c.index-children-k.result c.in_ok-new.field-0 c.requires c.loop-k-test.true c.index-fields-k.is c.index-children-k.is c.loop-k.invariant c.in_ok-new.ensures.head c.in_ok-new.ensures.values)

-- all were
pub returns-clause-heads : goal.returns-clause-heads
returns-clause-heads c = (made_done c.args.fields.now c.args.children.now c.loop-k.k c.loop-k.texts.items c.requires (omega (arith, c.loop-k-test.false)) c.loop-k.invariant).0
