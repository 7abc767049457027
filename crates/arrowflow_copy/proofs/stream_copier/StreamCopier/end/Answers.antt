use Rattle.std.proofs.Common.{ap, ◌∙◌, sym, subst, [], Some, Err}
use Rattle.arrow_stream_reader.specs.Stream.{ReaderView}
use Rattle.arrowflow_input.specs.declared.tool_fault.ToolFault.{ToolFault}
use Rattle.arrowflow_copy.specs.CopierShown.{copier_view}
use Rattle.arrowflow_copy.specs.Pieces.{Answer, HasEndedAt, IsAtEnd}
use Rattle.arrowflow_copy.specs.declared.part_copier.PartCopier.{PartCopier}
use Rattle.arrowflow_copy.proofs.Parts.{ended_input, ended_too_early, lent, not_ended}
use Rattle.arrowflow_copy.proofs.stream_copier.StreamCopier.end.Goals as goal
use Rattle.arrowflow_copy.proofs.stream_copier.StreamCopier.end.Goals.{in-Ok, in-Err}

pub returns : goal.returns
returns c = record {
  stays = λ answer ended. absurd (not_ended c.args.self.now.ended c.is_some.result c.is_some.ensures c.if-is_some.false answer ended);
  goes = λ limits o t taken none g.
      let new = c.close.new.self in
      let r = c.lend-copier.new.self.reader in
      let was = lent limits o c.args.self.now t taken c.lend-copier.result r c.lend-copier.ensures.copier c.lend-copier.ensures.reader g in
      let is_open = ap (λ (x : ReaderView). x.at.verdict) c.lend-copier.ensures.reader ∙ g.is_open in
      subst (IsAtEnd limits o (copier_view new) t taken) (sym c.close.ensures.ended) (elim c.match-end.branch [
        | in-Ok w ↦
            subst (λ (x : PartCopier × Answer). HasEndedAt limits o (copier_view new) t taken (Some []) x.1) (sym w.copier-is)
            (ended_input limits o new t taken w.end-in-Ok.result.0 r (c.close.ensures.copier ∙ ap (λ (x : PartCopier × Answer). x.0) w.copier-is) c.close.ensures.reader c.lend-copier.result w.end-in-Ok.result.1
            w.end-in-Ok.ensures.ends was (sym c.end.ensures.ended ∙ w.in-Ok.is) is_open)
        | in-Err w ↦
            subst (λ (x : PartCopier × Answer). HasEndedAt limits o (copier_view new) t taken (Some []) x.1) (sym w.copier-is)
            (subst (λ (f : ToolFault). HasEndedAt limits o (copier_view new) t taken (Some []) (Err f)) (sym w.from.ensures)
            (ended_too_early limits o new t taken c.lend-copier.result r (c.close.ensures.copier ∙ ap (λ (x : PartCopier × Answer). x.0) w.copier-is) c.close.ensures.reader was w.in-Err.fault (sym c.end.ensures.ended ∙ w.in-Err.is)))
      ]);
}
