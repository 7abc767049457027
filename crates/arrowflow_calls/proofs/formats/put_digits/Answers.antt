use Rattle.std.proofs.Common.{codes, ◌≡◌, ◌++◌, arith, rules, ap, ◌∙◌, subst, to_z, of_z, w8}
use Rattle.std.specs.Fmt.{decimal, signed_decimal}
use Rattle.arrowflow_calls.specs.Pens.{Puts}
use Rattle.arrowflow_calls.proofs.Writing.{puts_more}
use Rattle.arrowflow_calls.proofs.formats.put_digits.Goals as goal

-- the precision, then the comma and the scale
pub returns : goal.returns
returns c =
    let same : to_z w8 (of_z w8 c.args.scale) ≡ c.args.scale = search rules in
    let old = c.args.room.now in
    let one = c.put.new.room in
    let two = c.put-2.new.room in
    let new = c.put-3.new.room in
    let first : Puts old c.args.pen (decimal c.args.precision) c.put.result one =
    subst (λ text. Puts old c.args.pen text c.put.result one) (c.as_bytes.ensures.value ∙ c.format.ensures.text) c.put.ensures.puts in
    let last : Puts two c.put-2.result (signed_decimal c.args.scale) c.put-3.result new =
    subst (λ text. Puts two c.put-2.result text c.put-3.result new) (c.as_bytes-2.ensures.value ∙ c.format-2.ensures.text ∙ ap signed_decimal same) c.put-3.ensures.puts in
    let both : Puts old c.args.pen (decimal c.args.precision ++ codes ",") c.put-2.result two =
    puts_more old one two c.args.pen c.put.result c.put-2.result (decimal c.args.precision) (codes ",") (omega (arith, c.put.ensures.fits)) first c.put-2.ensures.puts in
    puts_more old two new c.args.pen c.put-2.result c.put-3.result (decimal c.args.precision ++ codes ",") (signed_decimal c.args.scale) (omega (arith, c.put.ensures.fits)) both last
