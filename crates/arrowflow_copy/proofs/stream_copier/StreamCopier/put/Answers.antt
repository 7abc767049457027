use Rattle.std.proofs.Common.{◌++◌, ap, ◌∙◌, sym, subst, Ok}
use Rattle.arrow_stream_reader.specs.Stream.{ReaderView}
use Rattle.arrowflow_input.specs.Driver.{PieceTaken}
use Rattle.arrowflow_copy.specs.CopierShown.{copier_view, parts_view}
use Rattle.arrowflow_copy.specs.Pieces.{IsAfterPiece}
use Rattle.arrowflow_copy.proofs.Parts.{Keeps, Says, ended_marked, ended_piece, ended_with, goes_on_parts, lent, not_ended}
use Rattle.arrowflow_copy.proofs.Pieces.{begun}
use Rattle.arrowflow_copy.proofs.stream_copier.StreamCopier.put.Goals as goal

pub returns-in-Ok-GoesOn : goal.returns-in-Ok-GoesOn
returns-in-Ok-GoesOn c = record {
  stays = λ answer ended. absurd (not_ended c.args.self.now.ended c.is_some.result c.is_some.ensures c.if-is_some.false answer ended);
  goes = λ limits o t taken none g.
      let next = c.take_piece-copier.result.0 in
      let r = c.take_piece-copier.new.reader in
      let u = t ++ c.args.piece.now in
      let s = begun limits o taken in
      let was = lent limits o c.args.self.now t taken c.lend-copier.result c.lend-copier.new.self.reader c.lend-copier.ensures.copier c.lend-copier.ensures.reader g in
      let goes = c.in-Ok-GoesOn.is ∙ ap Ok (rw c.in-Ok-GoesOn.is at c.in-Ok-GoesOn.field-0-is) in
      let given = subst (PieceTaken (Keeps s next) (Says s next) u r) goes (c.take_piece-copier.ensures.takes s t was) in
      let is_open = c.take_piece-copier.ensures.open (ap (λ (x : ReaderView). x.at.verdict) c.lend-copier.ensures.reader ∙ g.is_open) goes in
      let ended = c.lend-copier.new.self.ended in
      subst (IsAfterPiece limits o (parts_view next r ended) u taken) (sym (c.lend-copier.ensures.ended ∙ none)) (goes_on_parts limits o next r ended u taken given is_open);
}

pub returns-in-Ok-Marker : goal.returns-in-Ok-Marker
returns-in-Ok-Marker c = record {
  stays = λ answer ended. absurd (not_ended c.args.self.now.ended c.is_some.result c.is_some.ensures c.if-is_some.false answer ended);
  goes = λ limits o t taken none g.
      let next = c.take_piece-copier.result.0 in
      let r = c.take_piece-copier.new.reader in
      let u = t ++ c.args.piece.now in
      let s = begun limits o taken in
      let was = lent limits o c.args.self.now t taken c.lend-copier.result c.lend-copier.new.self.reader c.lend-copier.ensures.copier c.lend-copier.ensures.reader g in
      let marked = c.in-Ok-Marker.is ∙ ap Ok (rw c.in-Ok-Marker.is at c.in-Ok-Marker.field-0-is) in
      let given = subst (PieceTaken (Keeps s next) (Says s next) u r) marked (c.take_piece-copier.ensures.takes s t was) in
      let new = c.close.new.self in
      subst (IsAfterPiece limits o (copier_view new) u taken) (sym c.close.ensures.ended)
      (ended_marked limits o new u taken c.end-copier.result.0 r c.close.ensures.copier c.close.ensures.reader next c.end-copier.result.1 c.end-copier.ensures.ends given);
}

pub returns-in-Ok-Stopped : goal.returns-in-Ok-Stopped
returns-in-Ok-Stopped c = record {
  stays = λ answer ended. absurd (not_ended c.args.self.now.ended c.is_some.result c.is_some.ensures c.if-is_some.false answer ended);
  goes = λ limits o t taken none g.
      let next = c.take_piece-copier.result.0 in
      let r = c.take_piece-copier.new.reader in
      let u = t ++ c.args.piece.now in
      let s = begun limits o taken in
      let was = lent limits o c.args.self.now t taken c.lend-copier.result c.lend-copier.new.self.reader c.lend-copier.ensures.copier c.lend-copier.ensures.reader g in
      let stopped = c.in-Ok-Stopped.is ∙ ap Ok (rw c.in-Ok-Stopped.is at c.in-Ok-Stopped.field-0-is) in
      let given = subst (PieceTaken (Keeps s next) (Says s next) u r) stopped (c.take_piece-copier.ensures.takes s t was) in
      let new = c.close-in-Ok-Stopped.new.self in
      subst (IsAfterPiece limits o (copier_view new) u taken) (sym c.close-in-Ok-Stopped.ensures.ended)
      (λ left. ended_with limits o new u taken next r c.close-in-Ok-Stopped.ensures.copier c.close-in-Ok-Stopped.ensures.reader (Ok tt) left (given left));
}

pub returns-in-Err : goal.returns-in-Err
returns-in-Err c = record {
  stays = λ answer ended. absurd (not_ended c.args.self.now.ended c.is_some.result c.is_some.ensures c.if-is_some.false answer ended);
  goes = λ limits o t taken none g.
      let next = c.take_piece-copier.result.0 in
      let r = c.take_piece-copier.new.reader in
      let u = t ++ c.args.piece.now in
      let s = begun limits o taken in
      let was = lent limits o c.args.self.now t taken c.lend-copier.result c.lend-copier.new.self.reader c.lend-copier.ensures.copier c.lend-copier.ensures.reader g in
      let given = subst (PieceTaken (Keeps s next) (Says s next) u r) c.in-Err.is (c.take_piece-copier.ensures.takes s t was) in
      let new = c.close-in-Err.new.self in
      subst (IsAfterPiece limits o (copier_view new) u taken) (sym c.close-in-Err.ensures.ended)
      (ended_piece limits o new u taken next r c.close-in-Err.ensures.copier c.close-in-Err.ensures.reader c.in-Err.fault given);
}
