use Rattle.std.proofs.Common.{◌≡◌, length, arith}
use Rattle.arrow_csv.specs.Layouts.{null_by}
use Rattle.arrow_csv.proofs.Written.{bare_row_blank, bare_row_some, on_appended}
use Rattle.arrow_csv.proofs.records.push_bare.Goals as goal

-- no byte was appended
pub returns-then-len-place : goal.returns-then-len-place
returns-then-len-place c =
    let old = c.args.out.now.items in
    let out = c.push_joined.new.out.items in
    let same : length out ≡ length old = omega (arith, c.len.ensures, c.len-place.ensures, c.if-len-place.true) in
    on_appended c.extend_from_slice.result out _ _ c.extend_from_slice.ensures.items (bare_row_blank (null_by c.args.columns.null) c.args.columns.texts.now c.args.i old out _ c.in_ok-push_joined.ensures same)

-- some were
pub returns : goal.returns
returns c =
    let old = c.args.out.now.items in
    let out = c.push_joined.new.out.items in
    let other = λ (q : length out ≡ length old). c.if-len-place.false (omega (arith, c.len.ensures, c.len-place.ensures, q)) in
    bare_row_some (null_by c.args.columns.null) c.args.columns.texts.now c.args.i old out _ c.in_ok-push_joined.ensures other c.in_ok-push.ensures.items
