use Rattle.arrow_data.proofs.Batches.{batches}
use Rattle.std.proofs.Common.{arith}
use Rattle.arrow_data.proofs.batch.Batch.new.Goals as goal

pub returns-then-len-fields : goal.returns-then-len-fields
returns-then-len-fields c = grind (arith, batches)

pub are_of-requires : goal.are_of-requires
are_of-requires c = grind (arith, batches)

pub returns-then-not-are_of : goal.returns-then-not-are_of
returns-then-not-are_of c = grind (arith, batches)

pub returns-then-not-have_rows : goal.returns-then-not-have_rows
returns-then-not-have_rows c = grind (arith, batches)

pub invariant_of-result : goal.invariant_of-result
invariant_of-result c = grind (arith, batches)

pub returns : goal.returns
returns c = grind (arith, batches)
