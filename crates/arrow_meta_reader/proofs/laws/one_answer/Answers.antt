use Rattle.arrow_meta_reader.proofs.OneAnswer.{one_message, one_fault, never_both}
use Rattle.arrow_meta_reader.proofs.OneEnd.{one_work}
use Rattle.arrow_meta_reader.proofs.laws.one_answer.Goals as goal

pub returns-clause-message : goal.returns-clause-message
returns-clause-message c = one_message

pub returns-clause-fault : goal.returns-clause-fault
returns-clause-fault c = one_fault

pub returns-clause-apart : goal.returns-clause-apart
returns-clause-apart c = never_both

pub returns-clause-work : goal.returns-clause-work
returns-clause-work c = one_work
