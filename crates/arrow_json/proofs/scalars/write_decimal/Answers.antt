use Rattle.std.proofs.Common.{to_z, of_z}
use Rattle.std.specs.Int.{w8, w128}
use Rattle.std.specs.Str.{IsUtf8}
use Rattle.json.specs.Print.{IsNumber}
use Rattle.arrow_csv.specs.Decimals.{decimal_text}
use Rattle.arrow_json.proofs.Asciis.{decimal_utf8, in_room}
use Rattle.arrow_json.proofs.DecimalNumbers.{decimal_is_number}
use Rattle.arrow_json.proofs.scalars.write_decimal.Goals as goal

-- the text in the scratch buffer is that of the decimal, which is a JSON number
pub number-requires-clause-number : goal.number-requires-clause-number
number-requires-clause-number c =
    let scale = to_z w8 (of_z w8 c.args.scale) in
    let unscaled = to_z w128 (of_z w128 c.args.unscaled) in
    in_room IsNumber _ _ (decimal_text scale unscaled) c.clear.ensures.items c.in_ok-push_decimal.ensures (decimal_is_number scale unscaled)

-- and UTF-8
pub number-requires-clause-text : goal.number-requires-clause-text
number-requires-clause-text c =
    let scale = to_z w8 (of_z w8 c.args.scale) in
    let unscaled = to_z w128 (of_z w128 c.args.unscaled) in
    in_room IsUtf8 _ _ (decimal_text scale unscaled) c.clear.ensures.items c.in_ok-push_decimal.ensures (decimal_utf8 scale unscaled)
