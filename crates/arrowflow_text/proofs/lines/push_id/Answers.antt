use Rattle.std.proofs.Common.{◌≡◌, ◌++◌, ap, ◌∙◌, append_assoc, rules}
use Rattle.std.specs.Fmt.{signed_decimal}
use Rattle.std.specs.Prelude.{codes}
use Rattle.arrowflow_text.proofs.lines.push_id.Goals as goal

pub returns : goal.returns
returns c =
    let id = signed_decimal c.args.id in
    let digits : c.as_bytes.result.now ≡ id = search rules in
    c.in_ok-extend_from_slice-2.ensures.items
    ∙ ap (λ d. c.extend_from_slice.new.self.items ++ d) digits
    ∙ ap (λ t. t ++ id) c.in_ok-extend_from_slice.ensures.items
    ∙ append_assoc c.args.text.now.items (codes ": dictionary ") id
