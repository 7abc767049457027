use Rattle.std.proofs.Common.{◌≡◌, ◌<◌, ◌+◌, ◌∷◌, ◌++◌, [], rules, arith, ap, sym, ◌∙◌, w64, to_z, of_z}
use Rattle.std.specs.Vec.{vec_len, vec_capacity}
use Rattle.arrow_dict.specs.Dictionaries.{placed}
use Rattle.arrow_dict.specs.Tracking.{merged}
use Rattle.arrow_dict.proofs.Merging.{by_ok, merged_last}
use Rattle.arrow_dict.proofs.tracker.Tracker.commit.Goals as goal

pub loop-id-preserved : goal.loop-id-preserved
loop-id-preserved c =
    let sent = c.loop-id.self-inside.sent in
    let staged = c.loop-id.self-inside.staged in
    let rest = c.pop.new.self in
    let id = c.in-Some.id in
    let d = c.in-Some.dictionary in
    let len : vec_len rest + 1 ≡ vec_len staged = search rules in
    let room : vec_len sent < vec_capacity sent = omega (arith, len, c.loop-id.invariant.2) in
    let is = by_ok c.place.result (c.place.ensures.room room) c.place.ensures.ok in
    let popped : staged.items ≡ rest.items ++ (id, d) ∷ [] = search rules in
    let passed : to_z w64 (of_z w64 id) ≡ id = search rules in (
      ap (λ es. merged rest.items es) (is ∙ ap (λ x. placed x d sent.items) passed) ∙ sym (merged_last rest.items sent.items (id, d)) ∙ ap (λ es. merged es sent.items) (sym popped) ∙ c.loop-id.invariant.0,
      c.place.ensures.rising,
      omega (arith, len, c.loop-id.invariant.2, c.place.ensures.length, c.place.ensures.capacity),
    )
