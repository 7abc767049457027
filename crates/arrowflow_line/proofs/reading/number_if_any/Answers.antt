use Rattle.std.proofs.Common.{◌≡◌, Option, None, Some, List, ℕ, refl, ◌∙◌}
use Rattle.std.specs.Str.Parse.{ParsesUnsigned, ExplainsUnsignedError, HasUnsignedDigitsIfOk}
use Rattle.clap.specs.Words.{found_of, rows_of}
use Rattle.clap.proofs.WalkLemmas.{one_text-rows}
use Rattle.arrowflow_line.specs.CommandLine.{IsNumberIfAny, number_text}
use Rattle.arrowflow_line.proofs.Asked.{read_so}
use Rattle.arrowflow_line.proofs.reading.number_if_any.Goals as goal

pub returns : goal.returns
returns c = by (number_text c.args.argument.now (rows_of (found_of c.args.matches.now))) refl
  where
    by : (text : Option (List ℕ)) → number_text c.args.argument.now (rows_of (found_of c.args.matches.now)) ≡ text → IsNumberIfAny text c.get_one.result
    by None is = c.get_one.ensures.none (one_text-rows (found_of c.args.matches.now) c.args.argument.now ∙ is)
    by (Some t) is = λ within.
        read_so _ (λ bs r. ParsesUnsigned 64 10 bs r × ExplainsUnsignedError 10 bs r × HasUnsignedDigitsIfOk bs r) 0 18446744073709551615 t c.get_one.result
        (c.get_one.ensures.value t (one_text-rows (found_of c.args.matches.now) c.args.argument.now ∙ is)) (λ u x g. g.0) within
