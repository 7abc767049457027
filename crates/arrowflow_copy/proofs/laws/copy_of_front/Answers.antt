use Rattle.arrowflow_copy.proofs.OfFront.{batch_of_front, part_of_front, schema_of_front}
use Rattle.arrowflow_copy.proofs.laws.copy_of_front.Goals as goal

pub returns : goal.returns
returns c = record { part = part_of_front; schema = schema_of_front; batch = batch_of_front }
