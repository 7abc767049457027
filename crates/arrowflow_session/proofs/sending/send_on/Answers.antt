use Rattle.std.proofs.Common.{ℕ, List, ◌≡◌, [], ◌∷◌, ◌++◌, length, sym, ap, ◌∙◌, subst, Some}
use Rattle.std.specs.Prelude.{Vec}
use Rattle.std.specs.declared.alloc.Global.{Global}
use Rattle.arrowflow_session.specs.Asked.{asked_of}
use Rattle.arrow_stream_writer.specs.Shown.{options_view}
use Rattle.arrowflow_session.specs.Report.{items_of}
use Rattle.arrowflow_session.specs.Running.{SoFar, IsSent, sent_plain, shown_kept}
use Rattle.arrowflow_session.specs.declared.refusal.Refusal.{Refusal}
use Rattle.arrowflow_session.specs.declared.sending.Sent.{Sent}
use Rattle.arrowflow_session.proofs.Progressing.{started, sent_open, sent_ended, for_one, if_ok}
use Rattle.arrowflow_session.proofs.sending.send_on.Goals as goal
use Rattle.arrowflow_session.proofs.sending.send_on.Goals.{then-connection+in_ok-finish, else-connection}

pub write_all-requires : goal.write_all-requires
write_all-requires c =
    let k = c.args.connection.now in
    let w = shown_kept c.args.writer in
    let ts = c.deref.result.now in
    let first = c.in_ok-part_from.field-0 in
    let begun = started c.args.limits (options_view k.options) k.schema w ts first.items c.requires (ap Some c.in_ok-part_from.ensures ∙ c.bytes_of.ensures) in
    let parts : items_of c.push.new.self.items ≡ first.items ∷ [] = ap items_of c.in_ok-push.ensures.items ∙ ap (λ r. items_of (r ++ first ∷ [])) c.new-parts.ensures.items in
    record { start = subst (λ r. SoFar w ts 0 r c.new-refused.result.items) (sym parts) (subst (λ r. SoFar w ts 0 (first.items ∷ []) r) (sym c.new-refused.ensures.items) begun) }

pub returns : goal.returns
returns c =
    let k = c.args.connection.now in
    let a = asked_of k in
    let w = shown_kept c.args.writer in
    let v = shown_kept c.write_all.new.writer in
    let parts = c.write_all.new.parts.items in
    let refused = c.write_all.new.refused.items in
    let end = subst (λ b. SoFar v b (length b) (items_of parts) refused) c.deref.ensures.value c.in_ok-write_all.ensures.end in
    let over = for_one c.args.limits a w v c.requires c.in_ok-write_all.ensures.same in
    let now = c.if-connection in
    let P : Sent → Type 0 = λ s. (s.parts ≡ now.parts) × (s.refused ≡ now.refused) × (s.dictionaries.items ≡ (shown_kept now.writer).sent) × (Some s.bytes.items ≡ (shown_kept now.writer).contents) in
    let Q : Sent → Type 0 = λ s. IsSent c.args.limits a (sent_plain s) in
    if_ok c.sent_of.result P Q c.sent_of.ensures (λ s h.
    let reported : List (Vec ℕ Global) → List Refusal → Type 0 = λ ps rs. IsSent c.args.limits a (record { parts = items_of ps; refused = rs; dictionaries = s.dictionaries.items; bytes = s.bytes.items }) in
    elim now.branch [
      | then-connection+in_ok-finish b ↦
          let u = shown_kept b.finish.new.writer in
          let x = sent_ended c.args.limits a v (items_of parts) refused end over u (items_of b.finish.new.parts.items) b.finish.new.refused.items s.dictionaries.items s.bytes.items b.if-connection.true b.in_ok-finish.ensures
          (h.3 ∙ ap (λ y. (shown_kept y).contents) b.writer-is) (h.2 ∙ ap (λ y. (shown_kept y).sent) b.writer-is) in
          subst (λ r. reported s.parts.items r) (sym (ap (λ r. r.items) (h.1 ∙ b.refused-is))) (subst (λ r. reported r b.finish.new.refused.items) (sym (ap (λ r. r.items) (h.0 ∙ b.parts-is))) x)
      | else-connection b ↦
          let x = sent_open c.args.limits a v (items_of parts) refused end over s.dictionaries.items s.bytes.items b.if-connection.false
          (h.3 ∙ ap (λ y. (shown_kept y).contents) b.writer-is) (h.2 ∙ ap (λ y. (shown_kept y).sent) b.writer-is) in
          subst (λ r. reported s.parts.items r) (sym (ap (λ r. r.items) (h.1 ∙ b.refused-is))) (subst (λ r. reported r refused) (sym (ap (λ r. r.items) (h.0 ∙ b.parts-is))) x)
    ])
