use Rattle.arrow_meta_writer.proofs.Bounds.{text_short}
use Rattle.arrow_meta_writer.proofs.Placed.{placed}
use Rattle.arrow_meta_writer.proofs.WrittenMeans.{written_lies, written_aligned, written_means}
use Rattle.arrow_meta_writer.proofs.WrittenMeans.{written_placed, written_length}
use Rattle.arrow_meta_writer.proofs.laws.written.Goals as goal

pub returns-clause-lies : goal.returns-clause-lies
returns-clause-lies c = written_lies

pub returns-clause-aligned : goal.returns-clause-aligned
returns-clause-aligned c = written_aligned

pub returns-clause-means : goal.returns-clause-means
returns-clause-means c = written_means

pub returns-clause-laid : goal.returns-clause-laid
returns-clause-laid c = written_placed

pub returns-clause-size : goal.returns-clause-size
returns-clause-size c = written_length

pub returns-clause-placed : goal.returns-clause-placed
returns-clause-placed c = placed

pub returns-clause-text : goal.returns-clause-text
returns-clause-text c = text_short
