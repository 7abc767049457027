use Rattle.std.proofs.Common.{◌∙◌, refl}
use Rattle.arrowflow_input.proofs.Kept.{inside_message, kept_more}
use Rattle.arrowflow_input.proofs.batches.VecBatchConsumer.item.Goals as goal

pub returns-in-Ok-clause-takes : goal.returns-in-Ok-clause-takes
returns-in-Ok-clause-takes c start old t es piece n comes are = c.in-Ok.ensures ∙ kept_more c.args.self.items es c.args.item t n are

pub returns-in-Err-clause-takes : goal.returns-in-Err-clause-takes
returns-in-Err-clause-takes c start old t es piece n comes are left = (refl, inside_message c.args._place c.args.item old c.args._reader.now t es piece n comes)
