use Rattle.std.proofs.Common.{sym}
use Rattle.arrow_types.proofs.Fields.{width-fields_view}
use Rattle.arrowflow_json.proofs.message_texts.count.Goals as goal

-- the view has as many sibling fields as the list
pub returns : goal.returns
returns c = sym (width-fields_view c.args.fields.now)
