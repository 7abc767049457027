use Rattle.std.proofs.Common.{sym}
use Rattle.arrow_csv.proofs.Chunked.{plain_whole}
use Rattle.arrow_csv.proofs.chunks.calls_for_quotes.Goals as goal

pub returns-then-has_plain_chunks : goal.returns-then-has_plain_chunks
returns-then-has_plain_chunks c = sym (plain_whole c.args.field.now c.if-has_plain_chunks.ensures)
