use Rattle.std.proofs.Common.{◌≡◌, ◌++◌, OnOk, ap, ◌∙◌, rules}
use Rattle.std.proofs.lemmas.Result.{on_ok_weaker}
use Rattle.arrow_csv.proofs.Numerals.{float_plain}
use Rattle.arrow_csv.proofs.floats.push_short.Goals as goal

-- the bytes appended are the text, which needs no quotes
pub returns : goal.returns
returns g c =
    let text = c.format.result.now in
    let is = c.format.ensures in
    let plain = float_plain (g.F.RawFloat.value c.args.number) text is.plain is.word in
    let appended : OnOk c.extend_from_slice.result (c.extend_from_slice.new.self.items ≡ c.args.out.now.items ++ c.as_bytes.result.now) = search (rules, c.extend_from_slice.ensures.items) in
    on_ok_weaker c.extend_from_slice.result (λ items. (text, (is.parses, plain), items ∙ ap (λ t. c.args.out.now.items ++ t) c.as_bytes.ensures.value)) appended
