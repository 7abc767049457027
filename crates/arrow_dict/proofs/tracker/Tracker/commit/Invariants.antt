use Rattle.std.proofs.Common.{◌≡◌, ◌≤◌, ◌+◌}
use Rattle.std.specs.Vec.{vec_len, vec_capacity}
use Rattle.arrow_dict.specs.Dictionaries.{IsRising}
use Rattle.arrow_dict.specs.Tracking.{merged}
use Rattle.arrow_dict.proofs.tracker.Tracker.commit.Given as goal

-- the placed and the still staged dictionaries together are the ones that were to be sent
abbrev pub invariant-loop-id : goal.invariant-loop-id
invariant-loop-id l =
    (merged l.self-inside.staged.items l.self-inside.sent.items ≡ merged l.initial.self-inside.staged.items l.initial.self-inside.sent.items)
    × IsRising l.self-inside.sent.items
    × (vec_len l.self-inside.sent + vec_len l.self-inside.staged ≤ vec_capacity l.self-inside.sent)

-- each iteration takes one out
abbrev pub decreases-loop-id : goal.decreases-loop-id
decreases-loop-id l = vec_len l.self-inside.staged
