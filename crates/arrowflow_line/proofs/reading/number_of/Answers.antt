use Rattle.std.proofs.Common.{◌≡◌, rules, arith, ◌∙◌}
use Rattle.std.specs.Str.Parse.{ParsesUnsigned, ExplainsUnsignedError, HasUnsignedDigitsIfOk, digits_value, without_leading_plus}
use Rattle.clap.specs.Words.{found_of}
use Rattle.clap.proofs.WalkLemmas.{one_text-rows}
use Rattle.arrowflow_line.proofs.Asked.{read_so}
use Rattle.arrowflow_line.proofs.reading.number_of.Goals as goal

pub returns-in-Some : goal.returns-in-Some
returns-in-Some c = record {
  low = search (rules, c.max.ensures, c.min.ensures, c.requires);
  high = search (rules, c.max.ensures, c.min.ensures, c.requires);
  said = λ t is within.
      let text = one_text-rows (found_of c.args.matches.now) c.args.argument.now ∙ is in
      let read = c.get_one.ensures.value t text in
      let got = read_so _ (λ bs r. ParsesUnsigned 64 10 bs r × ExplainsUnsignedError 10 bs r × HasUnsignedDigitsIfOk bs r) c.args.least c.args.most t c.get_one.result read (λ u x g. g.0) within in
      let same : c.in-Some.number ≡ digits_value 10 (without_leading_plus t) = cc in
      search (rules, same, within.2, within.3, c.max.ensures, c.min.ensures);
}

pub returns-in-None : goal.returns-in-None
returns-in-None c = record {
  low = c.requires;
  high = omega arith;
  said = λ t is within.
      let text = one_text-rows (found_of c.args.matches.now) c.args.argument.now ∙ is in
      let read = c.get_one.ensures.value t text in
      let got = read_so _ (λ bs r. ParsesUnsigned 64 10 bs r × ExplainsUnsignedError 10 bs r × HasUnsignedDigitsIfOk bs r) c.args.least c.args.most t c.get_one.result read (λ u x g. g.0) within in
      absurd (cc);
}
