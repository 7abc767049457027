use Rattle.std.proofs.Common.{◌++◌, ap, sym, subst, ◌∙◌}
use Rattle.std.specs.Str.{IsUtf8}
use Rattle.hex.specs.Hex.{encode_lower}
use Rattle.arrow_json.proofs.Asciis.{hex_utf8}
use Rattle.arrow_json.proofs.scalars.write_hex.Goals as goal

-- the text in the scratch buffer consists of hexadecimal digits
pub string-requires : goal.string-requires
string-requires c =
    subst IsUtf8 (sym (c.in_ok-push_bytes.ensures.text ∙ ap (λ t. t ++ encode_lower c.args.bytes.now) c.clear.ensures.items)) (hex_utf8 c.args.bytes.now)
