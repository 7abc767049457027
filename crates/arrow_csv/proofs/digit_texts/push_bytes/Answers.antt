use Rattle.arrow_csv.proofs.Digits.{bytes_plain}
use Rattle.arrow_csv.proofs.digit_texts.push_bytes.Goals as goal

pub returns-in_default-clause-plain : goal.returns-in_default-clause-plain
returns-in_default-clause-plain c = bytes_plain c.args.bytes.now

pub returns-in_err-resize-clause-plain : goal.returns-in_err-resize-clause-plain
returns-in_err-resize-clause-plain c = bytes_plain c.args.bytes.now

pub returns-clause-plain : goal.returns-clause-plain
returns-clause-plain c = bytes_plain c.args.bytes.now
