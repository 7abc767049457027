use Rattle.std.proofs.Common.{ap, ◌∙◌, sym, Some}
use Rattle.std.specs.Prelude.{option_map}
use Rattle.arrowflow_c.specs.declared.copier_handle.CopierC.{CopierC}
use Rattle.arrowflow_c.proofs.CopierCalls.{ends}
use Rattle.arrowflow_c.proofs.copier.arrowflow_copier_end.Goals as goal

pub returns-in-Some : goal.returns-in-Some
returns-in-Some c =
    let was = ap (λ (h : CopierC). h.slot.value) (sym c.replace.ensures.value) ∙ sym c.into_box.ensures ∙ ap (option_map (λ b. b.value)) c.in-Some.is ∙ ap Some (sym c.deref_mut.ensures.value) in
    ends c.args.copier.now.slot.value c.of.result.slot.value c.deref_mut.result.now c.end-stated.new.self was c.of.ensures c.end-stated.result c.end-stated.ensures.puts c.end-stated.ensures.stated
