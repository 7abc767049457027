use Rattle.arrow_stream_laws.proofs.Aligning.{text_aligned}
use Rattle.arrow_stream_laws.proofs.laws.frames_are_aligned.Goals as goal

pub returns : goal.returns
returns c = record { aligned = λ limits o fields parts batches frames some text. text_aligned some text }
