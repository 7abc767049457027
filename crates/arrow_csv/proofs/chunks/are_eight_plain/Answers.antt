use Rattle.std.proofs.Common.{arith}
use Rattle.arrow_csv.proofs.Chunked.{plain_by_lanes}
use Rattle.arrow_csv.proofs.chunks.are_eight_plain.Goals as goal

pub returns : goal.returns
returns c = plain_by_lanes 8 c.args.field.now c.args.place c.requires (omega arith)
