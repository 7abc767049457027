use Rattle.std.proofs.Common.{◌≡◌, rules, arith, ap, sym, ◌∙◌, subst, w64, to_z, of_z}
use Rattle.std.proofs.lemmas.Int.{to_z-of_z}
use Rattle.std.specs.Vec.{vec_len}
use Rattle.arrow_dict.specs.Dictionaries.{IsRising, placed}
use Rattle.arrow_dict.specs.Tracking.{Tracked, merged}
use Rattle.arrow_dict.proofs.Merging.{merged_placed, on_ok}
use Rattle.arrow_dict.proofs.tracker.Tracker.stage.Goals as goal

-- both lists rise, and there is enough capacity
pub invariant_of-self-2 : goal.invariant_of-self-2
invariant_of-self-2 c =
    let old = c.self.inside in
    let len : c.len.result ≡ vec_len old.staged = search rules in
    record {
      sent = subst IsRising (sym c.reserve.ensures.items) c.self.invariant.sent;
      staged = c.place.ensures.rising;
      room = omega (arith, len, c.in_ok-reserve.ensures.ok, c.place.ensures.length);
    }

-- one more dictionary is placed
pub returns-clause-ok : goal.returns-clause-ok
returns-clause-ok c =
    let old = c.self.inside in
    let id' = to_z w64 (of_z w64 c.args.id) in
    on_ok c.place.result
    (λ e. ap (λ es. merged es c.reserve.new.self.items) e
    ∙ ap (λ ds. merged (placed id' c.in_ok-copy.copy old.staged.items) ds) c.reserve.ensures.items
    ∙ merged_placed id' c.in_ok-copy.copy old.staged.items old.sent.items
    ∙ ap (λ id. placed id c.in_ok-copy.copy (merged old.staged.items old.sent.items)) (to_z-of_z w64 c.args.id c.ranges.id)
    ∙ ap (λ d. placed c.args.id d (merged old.staged.items old.sent.items)) c.in_ok-copy.ensures
    ∙ ap (λ (t : Tracked). placed c.args.id c.args.dictionary.now t.next) c.self.view_is)
    c.place.ensures.ok
