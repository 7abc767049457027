use Rattle.std.proofs.Common.{◌≡◌, ◌≤◌, ◌-◌, [], length, take}
use Rattle.std.specs.Io.KnownBytes.{Appends}
use Rattle.arrow_sink.proofs.sending.send.Given as goal

-- a beginning of the bytes was sent, no call failed, and without bytes no call was made
abbrev pub invariant-loop-sent : goal.invariant-loop-sent
invariant-loop-sent g l =
    (l.sent ≤ length l.bytes)
    × (g.S.Sink.failed l.sink ≡ g.S.Sink.failed l.initial.sink)
    × Appends (g.S.Sink.contents l.initial.sink) (g.S.Sink.contents l.sink) (take l.sent l.bytes)
    × (l.bytes ≡ [] → l.sink ≡ l.initial.sink)

-- the bytes that are left
abbrev pub decreases-loop-sent : goal.decreases-loop-sent
decreases-loop-sent g l = length l.bytes - l.sent
