use Rattle.arrow_data.proofs.OnlyChild.{one_field_of}
use Rattle.arrow_data.proofs.laws.one_field.Goals as goal

pub returns : goal.returns
returns c = record { single = one_field_of }
