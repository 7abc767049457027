use Rattle.arrow_json.proofs.ReadBack.{row_reads_back}
use Rattle.arrow_json.proofs.laws.row_reads_back.Goals as goal

pub returns : goal.returns
returns c = record { reads = row_reads_back }
