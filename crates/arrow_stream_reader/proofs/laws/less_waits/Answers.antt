use Rattle.arrow_stream_reader.proofs.Firsts.{First-short}
use Rattle.arrow_stream_reader.proofs.laws.less_waits.Goals as goal

pub returns : goal.returns
returns c = record { waits = λ limits s s' place n k g b x h. First-short k h x }
