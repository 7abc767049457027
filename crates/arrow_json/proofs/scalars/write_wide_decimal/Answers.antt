use Rattle.std.specs.Str.{IsUtf8}
use Rattle.json.specs.Print.{IsNumber}
use Rattle.arrow_layout.specs.Decimals.{unscaled_of}
use Rattle.arrow_csv.specs.Decimals.{decimal_text}
use Rattle.arrow_json.proofs.Asciis.{decimal_utf8, in_room}
use Rattle.arrow_json.proofs.DecimalNumbers.{decimal_is_number}
use Rattle.arrow_json.proofs.scalars.write_wide_decimal.Goals as goal

-- the text in the scratch buffer is that of the decimal, which is a JSON number
pub number-requires-clause-number : goal.number-requires-clause-number
number-requires-clause-number c =
    let unscaled = unscaled_of c.args.decimal in
    in_room IsNumber _ _ (decimal_text c.args.decimal.scale unscaled) c.clear.ensures.items c.in_ok-push_wide_decimal.ensures (decimal_is_number c.args.decimal.scale unscaled)

-- and UTF-8
pub number-requires-clause-text : goal.number-requires-clause-text
number-requires-clause-text c =
    let unscaled = unscaled_of c.args.decimal in
    in_room IsUtf8 _ _ (decimal_text c.args.decimal.scale unscaled) c.clear.ensures.items c.in_ok-push_wide_decimal.ensures (decimal_utf8 c.args.decimal.scale unscaled)
