use Rattle.arrow_body_reader.proofs.Columns.{columns_long, columns_typed}
use Rattle.arrow_body_reader.proofs.Inside.{nodes_inside}
use Rattle.arrow_body_reader.proofs.Readings.{columns_resolve}
use Rattle.arrow_body_reader.proofs.laws.one_reading.Goals as goal

pub returns : goal.returns
returns c = λ body ds fields nodes buffers sound. record {
  columns = columns_typed body ds fields nodes buffers;
  long = columns_long body ds fields nodes buffers;
  inside = λ small. nodes_inside body ds fields nodes buffers small sound;
  resolves = columns_resolve body ds fields nodes buffers sound.indexed;
}
