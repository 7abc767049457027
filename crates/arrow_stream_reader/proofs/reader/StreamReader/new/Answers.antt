use Rattle.std.proofs.Common.{refl, ap, length, arith}
use Rattle.arrow_stream_reader.specs.declared.reader.Verdict.TheVariants.{Open}
use Rattle.arrow_stream_reader.specs.Frame.{short_prefix}
use Rattle.arrow_stream_reader.specs.Views.{plain}
use Rattle.arrow_stream_reader.proofs.Streams.{anew_position}
use Rattle.arrow_stream_reader.proofs.reader.StreamReader.new.Goals as goal

pub invariant_of-result : goal.invariant_of-result
invariant_of-result c =
    let none = ap length c.new-2.ensures.none in
    record {
      at = λ _. record { shown = omega arith; near = omega arith; fit = c.new.ensures.fit };
      waiting = λ _. short_prefix (omega arith);
      empty = λ _. c.new-2.ensures.none;
    }

pub returns-clause-start : goal.returns-clause-start
returns-clause-start c = anew_position c.args.limits (plain c.new.result) 0 c.new-2.result.items Open c.new.ensures.nothing refl c.new-2.ensures.none refl
