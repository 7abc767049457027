use Rattle.arrowflow_json.proofs.ReadBack.{message_reads_back}
use Rattle.arrowflow_json.proofs.laws.message_reads_back.Goals as goal

pub returns : goal.returns
returns c = record { reads = message_reads_back }
