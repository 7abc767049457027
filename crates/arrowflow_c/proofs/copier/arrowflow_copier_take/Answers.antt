use Rattle.std.proofs.Common.{ap, ◌∙◌, sym, Some}
use Rattle.std.specs.Prelude.{option_map}
use Rattle.arrowflow_c.specs.declared.copier_handle.CopierC.{CopierC}
use Rattle.arrowflow_c.proofs.CopierCalls.{takes}
use Rattle.arrowflow_c.proofs.copier.arrowflow_copier_take.Goals as goal

pub returns-in-Some : goal.returns-in-Some
returns-in-Some c =
    let was = ap (λ (h : CopierC). h.slot.value) (sym c.replace.ensures.value) ∙ sym c.into_box.ensures ∙ ap (option_map (λ b. b.value)) c.in-Some.is ∙ ap Some (sym c.deref_mut.ensures.value) in
    takes c.args.copier.now.slot.value c.of.result.slot.value c.deref_mut.result.now c.take-count.new.self was c.of.ensures c.args.room.now c.take-count.result c.take-count.new.room c.take-count.ensures
