use Rattle.std.proofs.Common.{ap, ◌∙◌, sym, Some}
use Rattle.std.specs.Prelude.{option_map}
use Rattle.arrowflow_c.specs.declared.copier_handle.CopierC.{CopierC}
use Rattle.arrowflow_c.proofs.CopierCalls.{puts}
use Rattle.arrowflow_c.proofs.copier.arrowflow_copier_put.Goals as goal

pub returns-in-Some : goal.returns-in-Some
returns-in-Some c =
    let was = ap (λ (h : CopierC). h.slot.value) (sym c.replace.ensures.value) ∙ sym c.into_box.ensures ∙ ap (option_map (λ b. b.value)) c.in-Some.is ∙ ap Some (sym c.deref_mut.ensures.value) in
    puts c.args.copier.now.slot.value c.of.result.slot.value c.deref_mut.result.now c.put-stated.new.self was c.of.ensures c.args.piece.now c.put-stated.result c.put-stated.ensures.puts c.put-stated.ensures.stated
