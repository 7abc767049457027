use Rattle.std.proofs.Common.{ap, nat_eq, sym}
use Rattle.arrow_types.proofs.Fields.{width-fields_view}
use Rattle.arrow_types.proofs.flaws.are_two.Goals as goal

-- the view has as many sibling fields as the list
pub returns : goal.returns
returns c = ap (λ n. nat_eq n 2) (sym (width-fields_view c.args.fields.now))
