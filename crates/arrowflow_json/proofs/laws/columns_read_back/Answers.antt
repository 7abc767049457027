use Rattle.arrowflow_json.proofs.ReadBack.{columns_read_back}
use Rattle.arrowflow_json.proofs.laws.columns_read_back.Goals as goal

pub returns : goal.returns
returns c = record { reads = columns_read_back }
