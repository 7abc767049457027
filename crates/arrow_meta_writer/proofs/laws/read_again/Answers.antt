use Rattle.arrow_meta_writer.proofs.WrittenMeans.{read_again, read_alone}
use Rattle.arrow_meta_writer.proofs.laws.read_again.Goals as goal

pub returns-clause-again : goal.returns-clause-again
returns-clause-again c = read_again

pub returns-clause-alone : goal.returns-clause-alone
returns-clause-alone c = read_alone
