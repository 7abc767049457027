use Rattle.arrow_json.proofs.OneLine.{row_is_one_line}
use Rattle.arrow_json.proofs.laws.row_is_one_line.Goals as goal

pub returns : goal.returns
returns c = record { one = row_is_one_line }
