use Rattle.arrowflow_json.proofs.ReadBack.{end_reads_back, fault_reads_back}
use Rattle.arrowflow_json.proofs.laws.ends_read_back.Goals as goal

pub returns : goal.returns
returns c = record { end = end_reads_back; fault = fault_reads_back }
