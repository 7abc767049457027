use Rattle.std.proofs.Common.{eqb, arith, w8}
use Rattle.std.proofs.lemmas.Simd.{bitmask_splat}
use Rattle.arrow_csv.proofs.chunks.marks_of_sixteen.Goals as goal

pub returns : goal.returns
returns c = bitmask_splat w8 eqb c.args.chunk 16 34 c.fits-chunk.0 (omega arith)
