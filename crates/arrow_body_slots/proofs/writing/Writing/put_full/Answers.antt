use Rattle.std.proofs.lemmas.Result.{on_ok_weaker}
use Rattle.arrow_data.specs.Column.{values_from}
use Rattle.arrow_body_slots.proofs.Spanning.{there_in}
use Rattle.arrow_body_slots.proofs.writing.Writing.put_full.Goals as goal

-- offsets are there
pub put_piece-requires : goal.put_piece-requires
put_piece-requires c = there_in c.args.part (values_from c.args.slice.array.now.raw c.args.slice.start c.args.slice.stop) c.in-Some.piece c.in-Some.ensures

-- they are copied
pub returns-in-Some : goal.returns-in-Some
returns-in-Some c =
    on_ok_weaker c.put_piece.result (λ added. added (values_from c.args.slice.array.now.raw c.args.slice.start c.args.slice.stop) c.in-Some.ensures) c.put_piece.ensures
