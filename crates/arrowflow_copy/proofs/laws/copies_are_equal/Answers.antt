use Rattle.arrowflow_copy.proofs.Equal.{copies_are_equal, copy_is_sent}
use Rattle.arrowflow_copy.proofs.laws.copies_are_equal.Goals as goal

pub returns : goal.returns
returns c = record { sent = copy_is_sent; equal = copies_are_equal }
