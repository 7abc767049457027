use Rattle.std.proofs.Common.{arith, rules}
use Rattle.std.specs.Prelude.{◌≤ℤ◌, ◌<ℤ◌}
use Rattle.std.proofs.lemmas.Bool.{false≢true}
use Rattle.std.proofs.lemmas.Int.{ints}
use Rattle.std.specs.Int.RustNames.{FitsSigned}
use mir.Syntax.{w64}
use Rattle.arrow_data.proofs.Ids.{rises_more, never_rises}
use Rattle.arrow_data.proofs.dictionary_map.is_rising.Goals as goal

pub returns-then-entries-k : goal.returns-then-entries-k
returns-then-entries-k c =
    let a = c.index-entries-k.result in
    let b = c.index-entries-k-in-loop-k.result in
    let fits_a : FitsSigned w64 a.0 = search rules in
    let fits_b : FitsSigned w64 b.0 = search rules in
    let falls : a.0 <ℤ b.0 = grind (arith, ints) in
    let never = never_rises c.args.entries.now c.loop-k.k a b (omega arith) (omega arith) c.index-entries-k.is c.index-entries-k-in-loop-k.is falls in
    (λ t. absurd (false≢true t), λ up. absurd (never up))

pub loop-k-preserved : goal.loop-k-preserved
loop-k-preserved c =
    let a = c.index-entries-k.result in
    let b = c.index-entries-k-in-loop-k.result in
    let fits_a : FitsSigned w64 a.0 = search rules in
    let fits_b : FitsSigned w64 b.0 = search rules in
    let rises : b.0 ≤ℤ a.0 = grind (arith, ints) in
    rises_more c.args.entries.now c.loop-k.k a b (omega arith) (omega arith) c.index-entries-k.is c.index-entries-k-in-loop-k.is rises c.loop-k.invariant
