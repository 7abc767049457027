use Rattle.std.proofs.Common.{◌≡◌, ◌-◌, ◌++◌, drop, rules}
use Rattle.arrowflow_explain.proofs.Keeping.{piece_kept}
use Rattle.arrowflow_explain.proofs.explaining.Work.take.Goals as goal

pub returns-in-Ok-forget-clause-keeps : goal.returns-in-Ok-forget-clause-keeps
returns-in-Ok-forget-clause-keeps c bytes k is_open =
    let old = c.args.self.now.reader in
    let new = c.take_piece-next.new.reader in
    let left : c.forget.new.kept.items ≡ drop (new.at.place - old.at.place) (c.args.self.now.kept.items ++ c.args.piece.now) = search rules in
    piece_kept old new bytes c.args.piece.now c.args.self.now.kept.items c.forget.new.kept.items k is_open c.take_piece-next.ensures.limits left c.take_piece-next.result.1 (c.take_piece-next.ensures.open is_open)
    (c.take_piece-next.ensures.takes tt bytes (record { entries = k.entries; position = k.position; kept = tt }))
