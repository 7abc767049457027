use Rattle.std.proofs.Common.{subst}
use Rattle.std.proofs.lemmas.Result.{on_ok_weaker}
use Rattle.arrow_body_slots.proofs.Running.{pieces_written}
use Rattle.arrow_body_slots.proofs.Spanning.{offsets_written}
use Rattle.arrow_body_slots.specs.Runs.{IsPiece, IsThere}
use Rattle.arrow_body_slots.proofs.writing.Writing.put_piece.Goals as goal

-- offsets are there
pub put_spans-requires : goal.put_spans-requires
put_spans-requires c = subst IsThere c.in-Offsets.is c.requires

-- bytes
pub returns-in-Bytes : goal.returns-in-Bytes
returns-in-Bytes c =
    on_ok_weaker c.put_bytes.result
    (λ more values are. pieces_written c.args.part c.args.self.now (record c.args.self.now { out = c.put_bytes.new.out }) c.in-Bytes.bytes.now values (subst (IsPiece c.args.part values) c.in-Bytes.is are) more)
    c.put_bytes.ensures

-- and offsets
pub returns-in-Offsets : goal.returns-in-Offsets
returns-in-Offsets c =
    on_ok_weaker c.put_spans.result
    (λ added values are. offsets_written c.args.part c.args.self.now c.put_spans.new.self c.in-Offsets.spans values (subst (IsPiece c.args.part values) c.in-Offsets.is are) added)
    c.put_spans.ensures
