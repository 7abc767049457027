use Rattle.std.proofs.Common.{rules, ◌∙◌, sym, subst}
use Rattle.arrow_types.specs.View.{type_view}
use Rattle.arrow_layout.specs.ByteRanges.{AreBytes}
use Rattle.arrow_data.specs.Node.{column_by}
use Rattle.arrow_data.proofs.parts.of_ranges.Goals as goal

-- the copies have the type and the bytes that were lent
pub invariant_of-result : goal.invariant_of-result
invariant_of-result c =
    let same = c.as_slice.ensures ∙ sym c.in_ok-clone-2.ensures.cases in
    (c.requires.few, search rules, subst AreBytes same c.hold_bytes.ensures, search rules)

-- so the array is the column of the buffers that were lent
pub returns : goal.returns
returns c = λ i. column_by (type_view (c.in_ok-clone.ensures.cases i)) c.args.encoding c.args.node.len (c.in_ok-clone-2.ensures.cases i) c.args.ranges
