use Rattle.std.proofs.Common.{sym}
use Rattle.arrow_types.proofs.Fields.{width-fields_view}
use Rattle.arrowflow_text.proofs.lines.count.Goals as goal

pub returns : goal.returns
returns c = sym (width-fields_view c.args.fields.now)
